-- The hash of a frame's flow, as receive-side scaling has it (Microsoft's NDIS, "RSS Hashing Functions"): Toeplitz's hash over the addresses
-- and the ports, which many network cards choose a queue by.
use Rattle.std.specs.Prelude.{ℕ, zero, suc, ◌+◌, ◌-◌, ◌*◌, ◌/◌, ◌%◌, ◌^◌, Bool, ◌&&◌, ◌||◌, nat_le, ◌==◌, if◌then◌else◌, bit_xor, List, [], ◌++◌, length, slice_index, slice_range, Option, Some}
use Rattle.std.specs.Int.{w16, from_be_bytes}
use Rattle.std.specs.Option.{option_map, option_map_or}
use Rattle.lq_model.specs.Class.{ipv4_start, ipv6_start}

-- TOEPLITZ'S HASH

-- the key of the published vectors: 40 bytes
abbrev pub hash_key : ℕ
hash_key = 0x6d5a56da255b0ec24167253d43a38fb0d0ca2bcbae7b30b477cb2da38030f20c6a42b73bbeac01fa

-- the 32 bits of the key that begin at bit i; bit 0 is its first
abbrev pub key_window : ℕ → ℕ
key_window i = hash_key / 2 ^ (288 - i) % 2 ^ 32

-- whether bit i of the bytes is 1; bit 0 is the highest of the first byte
abbrev pub has_bit : List ℕ → ℕ → Bool
has_bit bytes i = slice_index bytes (i / 8) / 2 ^ (7 - i % 8) % 2 == 1

-- of the first so many bits, the windows at those that are 1, added without carry
abbrev pub windows_of : List ℕ → ℕ → ℕ
windows_of bytes zero = 0
windows_of bytes (suc i) = bit_xor (windows_of bytes i) (if has_bit bytes i then key_window i else 0)

unfoldable pub toeplitz : List ℕ → ℕ
toeplitz bytes = windows_of bytes (8 * length bytes)

-- WHAT IS HASHED
--
-- The source address, the destination address, and where they are known the source port and the destination port, as they stand in the frame.

-- TCP is protocol 6, UDP 17
abbrev pub has_ports : ℕ → Bool
has_ports protocol = (protocol == 6) || (protocol == 17)

-- the two ports at a place, where they are there and wanted
abbrev pub ports_at : List ℕ → ℕ → Bool → List ℕ
ports_at frame place wanted = if wanted && nat_le (place + 4) (length frame) then slice_range frame place (place + 4) else []

-- IPv4: a fragment's ports aren't known; a fragment has an offset, or the bit for more fragments
abbrev pub is_whole : List ℕ → ℕ → Bool
is_whole frame start = from_be_bytes w16 (slice_range frame (start + 6) (start + 8)) % 0x4000 == 0

-- the bytes of the header with its options; at least 20 in one that has ports behind it
abbrev pub header_length : List ℕ → ℕ → ℕ
header_length frame start = slice_index frame start % 16 * 4

abbrev pub ipv4_flow : List ℕ → ℕ → List ℕ
ipv4_flow frame start =
    slice_range frame (start + 12) (start + 20)
    ++ ports_at frame (start + header_length frame start) (has_ports (slice_index frame (start + 9)) && is_whole frame start && nat_le 20 (header_length frame start))

-- IPv6: ports are known where TCP or UDP follows the fixed header, with no extension header before it
abbrev pub ipv6_flow : List ℕ → ℕ → List ℕ
ipv6_flow frame start = slice_range frame (start + 8) (start + 40) ++ ports_at frame (start + 40) (has_ports (slice_index frame (start + 6)))

-- FLOWS

-- what is hashed of a frame; None of one that is neither IPv4 nor IPv6
abbrev pub flow_bytes : ℕ → List ℕ → Option (List ℕ)
flow_bytes link frame = option_map_or (λ start. Some (ipv4_flow frame start)) (ipv4_start link frame) (option_map (ipv6_flow frame) (ipv6_start link frame))

-- the hash of a frame's flow, below 2^32
unfoldable pub flow_of : ℕ → List ℕ → Option ℕ
flow_of link frame = option_map toeplitz (flow_bytes link frame)
