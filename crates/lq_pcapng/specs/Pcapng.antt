-- Captures in the pcapng format (draft-ietf-opsawg-pcapng), of one section. A capture is blocks to the end of the file:
-- a section header block, and then interface description blocks, packet blocks and blocks of other types, which are
-- passed over. All numbers of a section have one byte order, which its header shows. Where times are read (`timed`), two
-- options of interface description blocks are read, too, and no others ever.
use Rattle.std.specs.Prelude.{ℕ, zero, suc, ◌+◌, ◌-◌, ◌*◌, ◌/◌, ◌%◌, ◌^◌, Bool, true, false, ◌&&◌, ◌||◌, min, not, nat_lt, nat_le, ◌==◌, if◌then◌else◌, List, [], ◌∷◌, ◌++◌, length, take, drop, filter, replicate, slice_range, slice_index, slice_index_or, Option, Some, None, Result, Ok, Err}
use Rattle.std.specs.Option.{option_map, option_map_or, option_or}
use Rattle.std.specs.Result.{result_map_both}
use Rattle.std.specs.Int.{w16, w32, w64, from_le_bytes, from_be_bytes}
use Rattle.std.specs.List.{concat, flat_map}
use Rattle.lq_model.specs.Capture.{Packets, Refusal}
use Rattle.lq_model.specs.declared.capture.CaptureReason.{CaptureReason}
use Rattle.lq_model.specs.declared.capture.CaptureReason.TheVariants.{Version, LongRecord, TooMany, CutBlock, BlockLength, ByteOrder, NoInterface, BlockBody, SecondSection}

-- NUMBERS
--
-- The byte order is the one in which bytes 8 to 11 of the section header block are 0x1a2b3c4d.

abbrev pub is_little_endian : List ℕ → Bool
is_little_endian section = from_le_bytes w32 (slice_range section 8 12) == 0x1a2b_3c4d

abbrev pub is_big_endian : List ℕ → Bool
is_big_endian section = from_be_bytes w32 (slice_range section 8 12) == 0x1a2b_3c4d

-- the number of four bytes at a place of a block, and of two
unfoldable pub number_in : Bool → List ℕ → ℕ → ℕ
number_in little_endian block place = (if little_endian then from_le_bytes w32 else from_be_bytes w32) (slice_range block place (place + 4))

unfoldable pub short_number_in : Bool → List ℕ → ℕ → ℕ
short_number_in little_endian block place =
    (if little_endian then from_le_bytes w16 else from_be_bytes w16) (slice_range block place (place + 2))

-- A BLOCK
--
--   place       bytes  field
--       0           4  type
--       4           4  total length, a multiple of 4
--       8              body
--   total - 4       4  total length again

abbrev pub block_type : Bool → List ℕ → ℕ
block_type little_endian block = number_in little_endian block 0

abbrev pub total_length : Bool → List ℕ → ℕ
total_length little_endian rest = number_in little_endian rest 4

-- the block that the rest of a file begins with
abbrev pub block_in : Bool → List ℕ → List ℕ
block_in little_endian rest = take (total_length little_endian rest) rest

abbrev pub is_section : Bool → List ℕ → Bool
is_section little_endian block = block_type little_endian block == 0x0a0d_0d0a

abbrev pub is_interface : Bool → List ℕ → Bool
is_interface little_endian block = block_type little_endian block == 1

abbrev pub is_enhanced : Bool → List ℕ → Bool
is_enhanced little_endian block = block_type little_endian block == 6

abbrev pub is_packet : Bool → List ℕ → Bool
is_packet little_endian block = is_enhanced little_endian block || (block_type little_endian block == 3)

abbrev pub interfaces_in : Bool → List (List ℕ) → List (List ℕ)
interfaces_in little_endian blocks = filter (is_interface little_endian) blocks

abbrev pub packets_in : Bool → List (List ℕ) → List (List ℕ)
packets_in little_endian blocks = filter (is_packet little_endian) blocks

-- THE SECTION HEADER BLOCK
--
--   place  bytes  field of its body
--       8      4  byte-order magic: 0x1a2b3c4d
--      12      2  major version, 1
--      14      2  minor version, not tested
--      16      8  length of the section, not interpreted
--      24         options, not read

abbrev pub major_version : Bool → List ℕ → ℕ
major_version little_endian section = short_number_in little_endian section 12

-- AN INTERFACE DESCRIPTION BLOCK
--
--       8      2  link type
--      10      2  reserved
--      12      4  snapshot length; 0 is none
--      16         options, read only where times are

abbrev pub link_type : Bool → List ℕ → ℕ
link_type little_endian interface = short_number_in little_endian interface 8

abbrev pub snapshot_length : Bool → List ℕ → ℕ
snapshot_length little_endian interface = number_in little_endian interface 12

-- A PACKET BLOCK
--
--   enhanced                          simple, which is of interface 0
--       8      4  interface               8      4  length on the wire
--      12      4  time, upper half       12         the captured bytes of the packet, filled up to a multiple of 4
--      16      4  time, lower half
--      20      4  captured length
--      24      4  length on the wire
--      28         the captured bytes, filled up to a multiple of 4, and options, which are not read

abbrev pub data_place : Bool → List ℕ → ℕ
data_place little_endian block = if is_enhanced little_endian block then 28 else 12

abbrev pub interface_number : Bool → List ℕ → ℕ
interface_number little_endian block = if is_enhanced little_endian block then number_in little_endian block 8 else 0

abbrev pub interface_at : List (List ℕ) → ℕ → List ℕ
interface_at interfaces i = slice_index_or interfaces i []

-- as many of n bytes as a snapshot length lets through, where it is any
abbrev pub cut_to : ℕ → ℕ → ℕ
cut_to limit n = if limit == 0 then n else min limit n

abbrev pub captured_length : Bool → List (List ℕ) → List ℕ → ℕ
captured_length little_endian interfaces block =
    if is_enhanced little_endian block then number_in little_endian block 20
    else cut_to (snapshot_length little_endian (interface_at interfaces 0)) (number_in little_endian block 8)

-- how many bytes n bytes take when they are filled up to a multiple of 4
abbrev pub padded : ℕ → ℕ
padded n = ((n + 3) / 4) * 4

-- THE OPTIONS OF AN INTERFACE
--
--   place  bytes  field
--       0      2  code; one of code 0 ends the options, as the end of the block's body does
--       2      2  length of the value
--       4         the value, filled up to a multiple of 4

abbrev pub options_of : List ℕ → List ℕ
options_of interface = slice_range interface 16 (length interface - 4)

-- of the option that some bytes begin with
abbrev pub option_code : Bool → List ℕ → ℕ
option_code little_endian options = short_number_in little_endian options 0

abbrev pub option_length : Bool → List ℕ → ℕ
option_length little_endian options = short_number_in little_endian options 2

abbrev pub option_end : Bool → List ℕ → ℕ
option_end little_endian options = 4 + padded (option_length little_endian options)

-- whether the options end here, by their bytes or by code 0
abbrev pub options_end : Bool → List ℕ → Bool
options_end little_endian options = (length options == 0) || (nat_le 4 (length options) && (option_code little_endian options == 0))

-- whether the option has its code, its length and its value
abbrev pub is_whole_option : Bool → List ℕ → Bool
is_whole_option little_endian options = nat_le 4 (length options) && nat_le (option_end little_endian options) (length options)

-- if_tsresol, code 9, has one byte, and if_tsoffset, code 14, has eight; others have any number
abbrev pub has_its_length : ℕ → ℕ → Bool
has_its_length code len = if code == 9 then len == 1 else if code == 14 then len == 8 else true

-- Whether all options are whole, and those two as long as they are to be. `more` is at least the number of bytes, so it is
-- never used up: an option has 4 bytes or more.
unfoldable pub are_whole_options : Bool → ℕ → List ℕ → Bool
are_whole_options little_endian zero options = true
are_whole_options little_endian (suc more) options =
    if options_end little_endian options then true
    else if not (is_whole_option little_endian options) then false
    else if not (has_its_length (option_code little_endian options) (option_length little_endian options)) then false
    else are_whole_options little_endian more (drop (option_end little_endian options) options)

abbrev pub has_whole_options : Bool → List ℕ → Bool
has_whole_options little_endian interface = are_whole_options little_endian (length (options_of interface)) (options_of interface)

-- the value of the first option with this code and this length; None if none comes before the end, or before one that is cut
unfoldable pub option_among : Bool → ℕ → ℕ → ℕ → List ℕ → Option (List ℕ)
option_among little_endian code len zero options = None
option_among little_endian code len (suc more) options =
    if options_end little_endian options || not (is_whole_option little_endian options) then None
    else if (option_code little_endian options == code) && (option_length little_endian options == len) then Some (slice_range options 4 (4 + len))
    else option_among little_endian code len more (drop (option_end little_endian options) options)

abbrev pub option_of : Bool → ℕ → ℕ → List ℕ → Option (List ℕ)
option_of little_endian code len interface = option_among little_endian code len (length (options_of interface)) (options_of interface)

-- WHAT KEEPS A BLOCK FROM BEING WHOLE
--
-- Each by the first test that fails.

abbrev pub refuses_at : ℕ → CaptureReason → Refusal
refuses_at place reason = record { reason = reason; place = place }

-- of the two lengths of the block that the rest of the file begins with, at a place of the file
unfoldable pub length_fault : Bool → ℕ → List ℕ → Option Refusal
length_fault little_endian place rest =
    let total = total_length little_endian rest in
    if nat_lt total 12 || not (total % 4 == 0) then Some (refuses_at place BlockLength)
    else if nat_lt (length rest) total then Some (refuses_at place CutBlock)
    else if not (number_in little_endian rest (total - 4) == total) then Some (refuses_at (place + (total - 4)) BlockLength)
    else None

-- of the section header block, with which the file begins
unfoldable pub header_fault : Bool → List ℕ → Option Refusal
header_fault little_endian bytes =
    if nat_lt (total_length little_endian bytes) 28 then Some (refuses_at 0 BlockBody)
    else if not (major_version little_endian bytes == 1) then Some (refuses_at 12 Version) else None

unfoldable pub section_fault : List ℕ → Option Refusal
section_fault bytes =
    if nat_lt (length bytes) 12 then Some (refuses_at 0 CutBlock)
    else if not (is_little_endian bytes || is_big_endian bytes) then Some (refuses_at 8 ByteOrder)
    else option_or (length_fault (is_little_endian bytes) 0 bytes) (header_fault (is_little_endian bytes) bytes)

-- of a packet block behind these interface description blocks
unfoldable pub packet_fault : Bool → List (List ℕ) → List ℕ → Option CaptureReason
packet_fault little_endian interfaces block =
    if nat_lt (length block) (data_place little_endian block + 4) then Some BlockBody
    else if nat_le (length interfaces) (interface_number little_endian block) then Some NoInterface
    else if nat_lt 262144 (captured_length little_endian interfaces block) then Some LongRecord
    else if nat_lt (length block) (data_place little_endian block + 4 + padded (captured_length little_endian interfaces block)) then Some BlockBody
    else None

-- of an interface description block: its fields, and where times are read its options
unfoldable pub interface_fault : Bool → Bool → List ℕ → Option CaptureReason
interface_fault timed little_endian block =
    if nat_lt (length block) 20 then Some BlockBody
    else if timed && not (has_whole_options little_endian block) then Some BlockBody else None

-- of a block behind these interface description blocks and so many packet blocks, by its type
unfoldable pub body_fault : Bool → Bool → List (List ℕ) → ℕ → List ℕ → Option CaptureReason
body_fault timed little_endian interfaces packets block =
    if is_section little_endian block then Some SecondSection
    else if is_interface little_endian block then interface_fault timed little_endian block
    else if is_packet little_endian block then (if nat_le 1000000 packets then Some TooMany else packet_fault little_endian interfaces block)
    else None

-- of the block that the rest of the file begins with
unfoldable pub block_fault : Bool → Bool → ℕ → List (List ℕ) → ℕ → List ℕ → Option Refusal
block_fault timed little_endian place interfaces packets rest =
    if nat_lt (length rest) 12 then Some (refuses_at place CutBlock)
    else option_or (length_fault little_endian place rest)
    (option_map (refuses_at place) (body_fault timed little_endian interfaces packets (block_in little_endian rest)))

-- WHICH BYTES ARE A CAPTURE

-- The blocks of the rest of the file behind these blocks, or what keeps one of them from being whole. `more` is at least
-- the number of bytes left, so it is never used up: a block has 12 bytes or more.
unfoldable pub blocks_from : Bool → Bool → ℕ → ℕ → List (List ℕ) → List ℕ → Result (List (List ℕ)) Refusal
blocks_from timed little_endian zero place before rest = Ok before
blocks_from timed little_endian (suc more) place before rest =
    if length rest == 0 then Ok before
    else
    let total = total_length little_endian rest in
    option_map_or Err (block_fault timed little_endian place (interfaces_in little_endian before) (length (packets_in little_endian before)) rest)
    (blocks_from timed little_endian more (place + total) (before ++ block_in little_endian rest ∷ []) (drop total rest))

-- a capture: its section header block, and its interface description blocks and its packet blocks in the order of the file
pub record NgCapture : Type 0 where
  pub section : List ℕ
  pub interfaces : List (List ℕ)
  pub packets : List (List ℕ)

abbrev pub capture_of_blocks : Bool → List ℕ → List (List ℕ) → NgCapture
capture_of_blocks little_endian section blocks =
    record { section = section; interfaces = interfaces_in little_endian blocks; packets = packets_in little_endian blocks }

abbrev pub blocks_behind : Bool → Bool → List ℕ → Result (List (List ℕ)) Refusal
blocks_behind timed little_endian bytes =
    let total = total_length little_endian bytes in blocks_from timed little_endian (length bytes) total [] (drop total bytes)

-- The capture that the bytes are, or the first test that they fail; where times are read (`timed`), options of interfaces are
-- tested, too. Whether the first four bytes are the type of a section header block is not asked here: by these bytes the format
-- was chosen.
unfoldable pub pcapng_of : Bool → List ℕ → Result NgCapture Refusal
pcapng_of timed bytes =
    let little_endian = is_little_endian bytes in
    option_map_or Err (section_fault bytes)
    (result_map_both (capture_of_blocks little_endian (block_in little_endian bytes)) (λ r. r) (blocks_behind timed little_endian bytes))

-- WHAT A CAPTURE HAS

abbrev pub order_of : NgCapture → Bool
order_of c = is_little_endian c.section

abbrev pub packet_block : NgCapture → ℕ → List ℕ
packet_block c i = slice_index_or c.packets i []

-- the captured bytes of a packet block, and the link type of its interface
abbrev pub frame_in : NgCapture → List ℕ → List ℕ
frame_in c block =
    let place = data_place (order_of c) block in slice_range block place (place + captured_length (order_of c) c.interfaces block)

abbrev pub link_in : NgCapture → List ℕ → ℕ
link_in c block = link_type (order_of c) (interface_at c.interfaces (interface_number (order_of c) block))

-- the length on the wire that a packet block says
abbrev pub block_wire_length : Bool → List ℕ → ℕ
block_wire_length little_endian block = number_in little_endian block (if is_enhanced little_endian block then 24 else 8)

-- WHEN A PACKET CAME, in nanoseconds since the start of 1970

-- how many units of time a second has, by the byte of if_tsresol: a power of ten, or with the byte's highest bit one of two
abbrev pub units_by : ℕ → ℕ
units_by byte = if nat_lt byte 128 then 10 ^ byte else 2 ^ (byte - 128)

-- how many a second has for an interface; 1,000,000 without if_tsresol
abbrev pub units_in_second : Bool → List ℕ → ℕ
units_in_second little_endian interface = option_map_or (λ value. units_by (slice_index value 0)) (option_of little_endian 9 1 interface) 1000000

-- the number of eight bytes
abbrev pub long_number : Bool → List ℕ → ℕ
long_number little_endian value = (if little_endian then from_le_bytes w64 else from_be_bytes w64) value

-- the seconds of if_tsoffset, a number from 2^63 on for one below 0; 0 of an interface without it
abbrev pub offset_of : Bool → List ℕ → ℕ
offset_of little_endian interface = option_map_or (long_number little_endian) (option_of little_endian 14 8 interface) 0

-- a time with so many seconds added; one before 1970 counts as the start of 1970
abbrev pub offset_by : ℕ → ℕ → ℕ
offset_by seconds time = if nat_lt seconds (2 ^ 63) then time + seconds * 1000000000 else time - (2 ^ 64 - seconds) * 1000000000

-- how many units of its interface an enhanced packet block's time is
abbrev pub time_units : Bool → List ℕ → ℕ
time_units little_endian block = number_in little_endian block 12 * 2 ^ 32 + number_in little_endian block 16

-- the time of an enhanced packet block by its interface, rounded down
abbrev pub time_by : Bool → List ℕ → List ℕ → ℕ
time_by little_endian interface block =
    offset_by (offset_of little_endian interface) (time_units little_endian block * 1000000000 / units_in_second little_endian interface)

-- the time of a packet block; a simple one has that of the packet before it
abbrev pub time_behind : NgCapture → ℕ → List ℕ → ℕ
time_behind c before block =
    if is_enhanced (order_of c) block then time_by (order_of c) (interface_at c.interfaces (interface_number (order_of c) block)) block
    else before

-- the time of packet i; 0 before the first
abbrev pub time_in : NgCapture → ℕ → ℕ
time_in c zero = time_behind c 0 (packet_block c 0)
time_in c (suc i) = time_behind c (time_in c i) (packet_block c (suc i))

-- THE PACKETS

abbrev pub packets_of : NgCapture → Packets
packets_of c = record {
  count = length c.packets;
  link = λ i. link_in c (packet_block c i);
  frame = λ i. frame_in c (packet_block c i);
  time = time_in c;
  length = λ i. block_wire_length (order_of c) (packet_block c i);
}

-- WHAT IS WRITTEN

-- the section header block that says nothing of its section's length
abbrev pub without_length : List ℕ → List ℕ
without_length section = take 16 section ++ replicate 8 255 ++ drop 24 section

-- The capture with the same interfaces and these packets, in the order of the list: all interface description blocks
-- come first.
abbrev pub pcapng_text : NgCapture → List ℕ → List ℕ
pcapng_text c packets = without_length c.section ++ concat c.interfaces ++ flat_map (packet_block c) packets
