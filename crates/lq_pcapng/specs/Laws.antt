-- What the definition of a capture comes to, and what follows from it.
use Rattle.std.specs.Prelude.{◌≡◌, ◌≢◌, ◌↔◌, ℕ, ◌+◌, ◌-◌, ◌%◌, ◌<◌, ◌≤◌, ◌⊎◌, Bool, true, false, ◌||◌, nat_eq, List, [], ◌∷◌, ◌++◌, length, map, All, Ok, Err}
use Rattle.std.specs.List.{IsDistinct, concat}
use Rattle.lq_model.specs.Capture.{Refusal}
use Rattle.lq_pcapng.specs.Pcapng.{NgCapture, block_in, captured_length, data_place, frame_in, has_whole_options, interface_number, interfaces_in, is_big_endian, is_interface, is_little_endian, is_packet, is_section, link_in, major_version, number_in, order_of, packet_block, packets_in, padded, pcapng_of, pcapng_text, refuses_at, total_length, without_length}
use Rattle.lq_model.specs.declared.capture.CaptureReason.{CaptureReason}
use Rattle.lq_model.specs.declared.capture.CaptureReason.TheVariants.{Version, LongRecord, TooMany, CutBlock, BlockLength, ByteOrder, NoInterface, BlockBody, SecondSection}
use Rattle.lq_pcapng.specs.Reading.{Fits}

-- the bytes are one block: both its lengths tell how many they are
pub record IsBlock (little_endian : Bool) (block : List ℕ) : Type 0 where
  pub long : 12 ≤ length block
  pub aligned : length block % 4 ≡ 0
  pub told : total_length little_endian block ≡ length block
  pub told_again : number_in little_endian block (length block - 4) ≡ length block

-- the bytes are a section header block, in the byte order that they show
pub record IsSection (little_endian : Bool) (section : List ℕ) : Type 0 where
  pub shown : (is_little_endian section || is_big_endian section) ≡ true
  pub order : little_endian ≡ is_little_endian section
  pub is_block : IsBlock little_endian section
  pub long : 28 ≤ length section
  pub version : major_version little_endian section ≡ 1

-- each of some blocks fits behind these and those of them that come before it
abbrev pub AllFit : Bool → Bool → List (List ℕ) → List (List ℕ) → Type 0
AllFit timed little_endian before [] = Unit {0}
AllFit timed little_endian before (block ∷ blocks) =
    IsBlock little_endian block × Fits timed little_endian (interfaces_in little_endian before) (length (packets_in little_endian before)) block
    × AllFit timed little_endian (before ++ block ∷ []) blocks

-- The bytes are a section header block and other blocks, each of which fits behind those before it. The capture has the
-- interface description blocks and the packet blocks among them.
pub record IsPcapng (timed : Bool) (bytes : List ℕ) (c : NgCapture) : Type 0 where
  pub blocks : List (List ℕ)
  pub whole : bytes ≡ c.section ++ concat blocks
  pub section : IsSection (order_of c) c.section
  pub fit : AllFit timed (order_of c) [] blocks
  pub interfaces : c.interfaces ≡ interfaces_in (order_of c) blocks
  pub packets : c.packets ≡ packets_in (order_of c) blocks

-- bytes are a capture exactly where they are such blocks, whether times are read (`timed`) or not
abbrev pub AcceptsPcapngExactly : Type 0
AcceptsPcapngExactly = (timed : Bool) (bytes : List ℕ) (c : NgCapture) → (pcapng_of timed bytes ≡ Ok c) ↔ IsPcapng timed bytes c

-- WHEN BYTES ARE REFUSED

-- both lengths of the block that the rest of a file begins with are right
pub record HasLengths (little_endian : Bool) (rest : List ℕ) : Type 0 where
  pub long : 12 ≤ total_length little_endian rest
  pub aligned : total_length little_endian rest % 4 ≡ 0
  pub within : total_length little_endian rest ≤ length rest
  pub again : number_in little_endian rest (total_length little_endian rest - 4) ≡ total_length little_endian rest

-- or f tells which of them isn't, where the block stands at this place
pub data HasLengthFault (little_endian : Bool) (place : ℕ) (rest : List ℕ) (f : Refusal) : Type 0 where
  no_length : ((total_length little_endian rest < 12) ⊎ (total_length little_endian rest % 4 ≢ 0)) → f ≡ refuses_at place BlockLength → HasLengthFault little_endian place rest f
  cut_block :
      12 ≤ total_length little_endian rest → total_length little_endian rest % 4 ≡ 0 → length rest < total_length little_endian rest → f ≡ refuses_at place CutBlock
      → HasLengthFault little_endian place rest f
  other_length :
      12 ≤ total_length little_endian rest → total_length little_endian rest % 4 ≡ 0 → total_length little_endian rest ≤ length rest
      → number_in little_endian rest (total_length little_endian rest - 4) ≢ total_length little_endian rest → f ≡ refuses_at (place + (total_length little_endian rest - 4)) BlockLength
      → HasLengthFault little_endian place rest f

-- what keeps the bytes from beginning with a section header block
pub data HasSectionFault (bytes : List ℕ) (f : Refusal) : Type 0 where
  cut_section : length bytes < 12 → f ≡ refuses_at 0 CutBlock → HasSectionFault bytes f
  no_order : 12 ≤ length bytes → (is_little_endian bytes || is_big_endian bytes) ≡ false → f ≡ refuses_at 8 ByteOrder → HasSectionFault bytes f
  section_lengths : 12 ≤ length bytes → (is_little_endian bytes || is_big_endian bytes) ≡ true → HasLengthFault (is_little_endian bytes) 0 bytes f → HasSectionFault bytes f
  short_section :
      12 ≤ length bytes → (is_little_endian bytes || is_big_endian bytes) ≡ true → HasLengths (is_little_endian bytes) bytes → total_length (is_little_endian bytes) bytes < 28 → f ≡ refuses_at 0 BlockBody
      → HasSectionFault bytes f
  other_version :
      12 ≤ length bytes → (is_little_endian bytes || is_big_endian bytes) ≡ true → HasLengths (is_little_endian bytes) bytes → 28 ≤ total_length (is_little_endian bytes) bytes
      → major_version (is_little_endian bytes) bytes ≢ 1 → f ≡ refuses_at 12 Version → HasSectionFault bytes f

-- what keeps a packet block from being whole behind these interfaces
pub data HasPacketFault (little_endian : Bool) (interfaces : List (List ℕ)) (block : List ℕ) (reason : CaptureReason) : Type 0 where
  short_packet : length block < data_place little_endian block + 4 → reason ≡ BlockBody → HasPacketFault little_endian interfaces block reason
  no_interface :
      data_place little_endian block + 4 ≤ length block → length interfaces ≤ interface_number little_endian block → reason ≡ NoInterface → HasPacketFault little_endian interfaces block reason
  long_record :
      data_place little_endian block + 4 ≤ length block → interface_number little_endian block < length interfaces → 262144 < captured_length little_endian interfaces block → reason ≡ LongRecord
      → HasPacketFault little_endian interfaces block reason
  short_data :
      data_place little_endian block + 4 ≤ length block → interface_number little_endian block < length interfaces → captured_length little_endian interfaces block ≤ 262144
      → length block < data_place little_endian block + 4 + padded (captured_length little_endian interfaces block) → reason ≡ BlockBody → HasPacketFault little_endian interfaces block reason

-- what keeps a block from fitting behind these interfaces and so many packets
pub data HasBodyFault (timed little_endian : Bool) (interfaces : List (List ℕ)) (packets : ℕ) (block : List ℕ) (reason : CaptureReason) : Type 0 where
  second_section : is_section little_endian block ≡ true → reason ≡ SecondSection → HasBodyFault timed little_endian interfaces packets block reason
  short_interface : is_interface little_endian block ≡ true → length block < 20 → reason ≡ BlockBody → HasBodyFault timed little_endian interfaces packets block reason
  wrong_options :
      is_interface little_endian block ≡ true → 20 ≤ length block → timed ≡ true → has_whole_options little_endian block ≡ false → reason ≡ BlockBody
      → HasBodyFault timed little_endian interfaces packets block reason
  too_many : is_packet little_endian block ≡ true → 1000000 ≤ packets → reason ≡ TooMany → HasBodyFault timed little_endian interfaces packets block reason
  of_packet : is_packet little_endian block ≡ true → packets < 1000000 → HasPacketFault little_endian interfaces block reason → HasBodyFault timed little_endian interfaces packets block reason

-- what keeps the rest of a file from beginning with a block that fits behind these, where it stands at this place
pub data HasBlockFault (timed little_endian : Bool) (place : ℕ) (before : List (List ℕ)) (rest : List ℕ) (f : Refusal) : Type 0 where
  cut_rest : length rest < 12 → f ≡ refuses_at place CutBlock → HasBlockFault timed little_endian place before rest f
  block_lengths : 12 ≤ length rest → HasLengthFault little_endian place rest f → HasBlockFault timed little_endian place before rest f
  of_body :
      (reason : CaptureReason) → 12 ≤ length rest → HasLengths little_endian rest
      → HasBodyFault timed little_endian (interfaces_in little_endian before) (length (packets_in little_endian before)) (block_in little_endian rest) reason → f ≡ refuses_at place reason
      → HasBlockFault timed little_endian place before rest f

-- the bytes are a section header block and blocks that fit behind it, and go on
pub record GoesOn (timed : Bool) (bytes section : List ℕ) (before : List (List ℕ)) (rest : List ℕ) : Type 0 where
  pub whole : bytes ≡ section ++ (concat before ++ rest)
  pub is_section_block : IsSection (is_little_endian section) section
  pub fit : AllFit timed (is_little_endian section) [] before
  pub more : 0 < length rest

-- the bytes have this fault, and none before it
pub data HasPcapngFault (timed : Bool) (bytes : List ℕ) (f : Refusal) : Type 0 where
  of_section : HasSectionFault bytes f → HasPcapngFault timed bytes f
  of_block :
      (section : List ℕ) (before : List (List ℕ)) (rest : List ℕ) → GoesOn timed bytes section before rest
      → HasBlockFault timed (is_little_endian section) (length section + length (concat before)) before rest f → HasPcapngFault timed bytes f

-- bytes are refused exactly for the first fault that they have
abbrev pub RefusesPcapngExactly : Type 0
RefusesPcapngExactly = (timed : Bool) (bytes : List ℕ) (f : Refusal) → (pcapng_of timed bytes ≡ Err f) ↔ HasPcapngFault timed bytes f

-- WHAT IS WRITTEN

-- the captured bytes of a capture's packets, and the link types of their interfaces
abbrev pub frames_in : NgCapture → List (List ℕ)
frames_in c = map (frame_in c) c.packets

abbrev pub links_in : NgCapture → List ℕ
links_in c = map (link_in c) c.packets

-- the capture with the same interfaces and these packets
abbrev pub with_packets : NgCapture → List ℕ → NgCapture
with_packets c packets = record { section = without_length c.section; interfaces = c.interfaces; packets = map (packet_block c) packets }

-- The capture written for a list of packets without repeats is a capture again, with the interfaces as they were and just
-- the packet blocks of the list, which hold the same packets.
abbrev pub AcceptsPcapngAgain : Type 0
AcceptsPcapngAgain =
    (timed : Bool) (bytes : List ℕ) (c : NgCapture) (packets : List ℕ) → pcapng_of timed bytes ≡ Ok c → All (λ i. i < length c.packets) packets → IsDistinct nat_eq packets
    → (pcapng_of timed (pcapng_text c packets) ≡ Ok (with_packets c packets))
    × (frames_in (with_packets c packets) ≡ map (λ i. frame_in c (packet_block c i)) packets)
    × (links_in (with_packets c packets) ≡ map (λ i. link_in c (packet_block c i)) packets)
