-- The capture that a number and a count generate: little-endian, with microseconds, and `count` records of an IPv4
-- packet in an Ethernet frame of 34 bytes, whose type of service and addresses vary with the number.
use Rattle.std.specs.Prelude.{ℕ, ◌+◌, ◌*◌, ◌/◌, ◌%◌, List, [], ◌∷◌, ◌++◌}
use Rattle.std.specs.Int.{w16, w32, to_le_bytes, to_be_bytes}
use Rattle.std.specs.List.{flat_map}
use Rattle.lq_model.specs.Numbers.{first_numbers}

-- the file header: microseconds, version 2.4, a snapshot length of 262,144, Ethernet
abbrev pub generated_header : List ℕ
generated_header =
    to_le_bytes w32 0xa1b2_c3d4 ++ to_le_bytes w16 2 ++ to_le_bytes w16 4 ++ to_le_bytes w32 0 ++ to_le_bytes w32 0
    ++ to_le_bytes w32 262144 ++ to_le_bytes w32 1

-- what varies from packet to packet
abbrev pub spread : ℕ → ℕ → ℕ
spread number i = (number + 40503 * i) % 65536

-- an Ethernet header of 14 bytes, and an IPv4 header of 20 (RFC 791)
abbrev pub generated_frame : ℕ → ℕ → List ℕ
generated_frame number i =
    (2 ∷ 0 ∷ 0 ∷ 0 ∷ 0 ∷ 2 ∷ [])  -- destination: 02:00:00:00:00:02
    ++ (2 ∷ 0 ∷ 0 ∷ 0 ∷ 0 ∷ 1 ∷ [])  -- source: 02:00:00:00:00:01
    ++ (8 ∷ 0 ∷ [])  -- EtherType: IPv4
    ++ (0x45 ∷ [])  -- version 4, a header of five words
    ++ (2 * (spread number i % 16) ∷ [])  -- type of service
    ++ (0 ∷ 20 ∷ [])  -- total length
    ++ to_be_bytes w16 (i % 65536)  -- identification
    ++ (0 ∷ 0 ∷ [])  -- flags and fragment offset
    ++ (64 ∷ 253 ∷ [])  -- time to live, and protocol 253 (experiments)
    ++ (0 ∷ 0 ∷ [])  -- checksum: none is made
    ++ (10 ∷ 0 ∷ 0 ∷ (spread number i / 16) % 256 ∷ [])  -- source: 10.0.0.s
    ++ (10 ∷ 0 ∷ 1 ∷ i % 256 ∷ [])  -- destination: 10.0.1.d

-- a packet each millisecond; the captured length and the length on the wire are those of the frame
abbrev pub generated_record : ℕ → ℕ → List ℕ
generated_record number i =
    to_le_bytes w32 (i / 1000) ++ to_le_bytes w32 ((i % 1000) * 1000) ++ to_le_bytes w32 34 ++ to_le_bytes w32 34
    ++ generated_frame number i

unfoldable pub generated_capture : ℕ → ℕ → List ℕ
generated_capture number count = generated_header ++ flat_map (generated_record number) (first_numbers count)
