-- A capture in either format.
use Rattle.std.specs.Prelude.{ℕ, nat_eq, if◌then◌else◌, Bool, List, [], ◌∷◌, Result}
use Rattle.std.specs.Result.{result_map_both}
use Rattle.std.specs.List.{starts_with}
use Rattle.lq_model.specs.Capture.{Capture, Packets, Refusal, capture_of, capture_text, packets_of as packets_of_capture, record_of}
use Rattle.lq_pcapng.specs.Pcapng.{packet_block, packets_of as packets_of_pcapng, pcapng_of, pcapng_text}
use Rattle.lq_pcapng.specs.declared.file.CaptureFile.{CaptureFile}
use Rattle.lq_pcapng.specs.declared.file.CaptureFile.TheVariants.{Classic, Pcapng}

-- The format is chosen by the first four bytes: the type of a section header block, which is the same in both byte
-- orders, means pcapng, and any others the classic format.
abbrev pub is_pcapng : List ℕ → Bool
is_pcapng bytes = starts_with nat_eq bytes (0x0a ∷ 0x0d ∷ 0x0d ∷ 0x0a ∷ [])

abbrev pub as_classic : Result Capture Refusal → Result CaptureFile Refusal
as_classic read = result_map_both Classic (λ r. r) read

-- the capture that the bytes are, in either format, or the first test that they fail; `timed` says whether times are read
abbrev pub capture_file_of : Bool → List ℕ → Result CaptureFile Refusal
capture_file_of timed bytes = if is_pcapng bytes then result_map_both Pcapng (λ r. r) (pcapng_of timed bytes) else as_classic (capture_of bytes)

abbrev pub packets_of_file : CaptureFile → Packets
packets_of_file (Classic c) = packets_of_capture c
packets_of_file (Pcapng c) = packets_of_pcapng c

-- the capture in the same format with these packets, in the order of the list
abbrev pub text_of : CaptureFile → List ℕ → List ℕ
text_of (Classic c) packets = capture_text c packets
text_of (Pcapng c) packets = pcapng_text c packets

-- what stands in it of packet i
abbrev pub piece_of : CaptureFile → ℕ → List ℕ
piece_of (Classic c) i = record_of c i
piece_of (Pcapng c) i = packet_block c i
