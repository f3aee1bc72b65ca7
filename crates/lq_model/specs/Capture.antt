-- Captures: files in the classic libpcap format 2.4 (pcap-savefile). A capture is a file header of 24 bytes and then
-- packet records to the end of the file. All numbers of a file have one byte order, which the magic number shows.
use Rattle.std.specs.Prelude.{ℕ, zero, suc, ◌+◌, ◌-◌, ◌*◌, Bool, ◌&&◌, ◌||◌, not, nat_lt, nat_le, ◌==◌, if◌then◌else◌, List, ◌++◌, length, take, drop, map, filter, slice_get, slice_range, Option, Some, None, Result, Ok, Err}
use Rattle.std.specs.Int.{w16, w32, from_le_bytes, from_be_bytes}
use Rattle.std.specs.List.{flat_map}
use Rattle.std.specs.Option.{option_map_or}
use Rattle.std.specs.Result.{result_map_both}
use Rattle.lq_model.specs.Numbers.{first_numbers}
use Rattle.lq_model.specs.declared.capture.CaptureReason.{CaptureReason}
use Rattle.lq_model.specs.declared.capture.CaptureReason.TheVariants.{ShortHeader, Magic, Version, CutRecordHeader, LongRecord, CutData, TooMany}

-- THE FILE HEADER
--
--   place  bytes  field
--       0      4  magic number: 0xa1b2c3d4 (times in microseconds) or 0xa1b23c4d (in nanoseconds)
--       4      2  major version, 2
--       6      2  minor version, not tested
--       8      4  time zone, not tested
--      12      4  accuracy of the times, not tested
--      16      4  snapshot length, not tested
--      20      4  link type: 1 is Ethernet, 101 is raw IP; any number is accepted

abbrev pub is_magic : ℕ → Bool
is_magic n = (n == 0xa1b2_c3d4) || (n == 0xa1b2_3c4d)

-- the byte order is the one in which the first four bytes are a magic number
abbrev pub is_little_endian : List ℕ → Bool
is_little_endian bytes = is_magic (from_le_bytes w32 (slice_range bytes 0 4))

abbrev pub is_big_endian : List ℕ → Bool
is_big_endian bytes = is_magic (from_be_bytes w32 (slice_range bytes 0 4))

-- the number of four bytes at a place, and of two
unfoldable pub number_at : List ℕ → ℕ → ℕ
number_at bytes place =
    if is_little_endian bytes then from_le_bytes w32 (slice_range bytes place (place + 4)) else from_be_bytes w32 (slice_range bytes place (place + 4))

unfoldable pub short_number_at : List ℕ → ℕ → ℕ
short_number_at bytes place =
    if is_little_endian bytes then from_le_bytes w16 (slice_range bytes place (place + 2)) else from_be_bytes w16 (slice_range bytes place (place + 2))

abbrev pub major_version : List ℕ → ℕ
major_version bytes = short_number_at bytes 4

-- A PACKET RECORD
--
--   place  bytes  field
--       0      4  seconds since the start of 1970
--       4      4  microseconds or nanoseconds after that
--       8      4  captured length, at most 262,144
--      12      4  length on the wire
--      16         the captured bytes of the packet

-- the captured length of the record that begins at a place
abbrev pub captured_length : List ℕ → ℕ → ℕ
captured_length bytes place = number_at bytes (place + 8)

-- its length on the wire
abbrev pub wire_length : List ℕ → ℕ → ℕ
wire_length bytes place = number_at bytes (place + 12)

-- where that record ends
abbrev pub end_of : List ℕ → ℕ → ℕ
end_of bytes place = place + 16 + captured_length bytes place

-- where record i begins: the first behind the file header, each other where the one before it ends
abbrev pub place_of : List ℕ → ℕ → ℕ
place_of bytes zero = 24
place_of bytes (suc i) = end_of bytes (place_of bytes i)

-- what keeps the record at a place from being whole, by the first test that it fails
abbrev pub record_fault : List ℕ → ℕ → Option CaptureReason
record_fault bytes place =
    if nat_lt (length bytes) (place + 16) then Some CutRecordHeader
    else if nat_lt 262144 (captured_length bytes place) then Some LongRecord
    else if nat_lt (length bytes) (end_of bytes place) then Some CutData else None

-- WHICH BYTES ARE A CAPTURE

-- why bytes are no capture, and the place that shows it
pub record Refusal : Type 0 where
  pub reason : CaptureReason
  pub place : ℕ

abbrev pub refused : {T : Type 0} → CaptureReason → ℕ → Result T Refusal
refused reason place = Err (record { reason = reason; place = place })

-- How many whole records there are up to the end of the file, if the first i are whole and at most `more` may follow
-- them; or else the first record that is not whole, or is one too many.
unfoldable pub count_from : List ℕ → ℕ → ℕ → Result ℕ Refusal
count_from bytes zero i = if nat_le (length bytes) (place_of bytes i) then Ok i else refused TooMany (place_of bytes i)
count_from bytes (suc more) i =
    if nat_le (length bytes) (place_of bytes i) then Ok i
    else option_map_or (λ reason. refused reason (place_of bytes i)) (record_fault bytes (place_of bytes i)) (count_from bytes more (suc i))

-- a capture: the bytes of its file, and how many records they have
pub record Capture : Type 0 where
  pub bytes : List ℕ
  pub count : ℕ

-- the capture that the bytes are, or the first test that they fail; a capture has at most 1,000,000 records
abbrev pub capture_of : List ℕ → Result Capture Refusal
capture_of bytes =
    if nat_lt (length bytes) 24 then refused ShortHeader (length bytes)
    else if not (is_little_endian bytes || is_big_endian bytes) then refused Magic 0
    else if not (major_version bytes == 2) then refused Version 4
    else result_map_both (λ count. record { bytes = bytes; count = count }) (λ r. r) (count_from bytes 1000000 0)

-- WHAT A CAPTURE HAS

abbrev pub header_of : Capture → List ℕ
header_of c = take 24 c.bytes

abbrev pub link_of : Capture → ℕ
link_of c = number_at c.bytes 20

-- record i, with its header
abbrev pub record_of : Capture → ℕ → List ℕ
record_of c i = slice_range c.bytes (place_of c.bytes i) (place_of c.bytes (suc i))

abbrev pub records_of : Capture → List (List ℕ)
records_of c = map (record_of c) (first_numbers c.count)

-- the packet that record i holds
abbrev pub frame_of : Capture → ℕ → List ℕ
frame_of c i = drop 16 (record_of c i)

-- the time of record i, in nanoseconds since the start of 1970: its second number counts microseconds, or nanoseconds where the magic number says so
abbrev pub counts_nanoseconds : List ℕ → Bool
counts_nanoseconds bytes = number_at bytes 0 == 0xa1b2_3c4d

abbrev pub time_of : Capture → ℕ → ℕ
time_of c i =
    let place = place_of c.bytes i in
    number_at c.bytes place * 1000000000 + number_at c.bytes (place + 4) * (if counts_nanoseconds c.bytes then 1 else 1000)

-- the capture with the same header and these records, in the order of the list
abbrev pub capture_text : Capture → List ℕ → List ℕ
capture_text c packets = header_of c ++ flat_map (record_of c) packets

-- THE PACKETS OF A CAPTURE, in whatever format: how many there are, and of each by its number its link type, its captured
-- bytes, its time in nanoseconds and its length on the wire, which may be more than was captured
pub record Packets : Type 0 where
  pub count : ℕ
  pub link : ℕ → ℕ
  pub frame : ℕ → List ℕ
  pub time : ℕ → ℕ
  pub length : ℕ → ℕ

abbrev pub packets_of : Capture → Packets
packets_of c = record { count = c.count; link = λ i. link_of c; frame = frame_of c; time = time_of c; length = λ i. wire_length c.bytes (place_of c.bytes i) }

-- the first packet whose time is before that of the packet before it, if there is one
abbrev pub goes_back : Packets → ℕ → Bool
goes_back packets n = nat_lt 0 n && nat_lt (packets.time n) (packets.time (n - 1))

abbrev pub first_back : Packets → Option ℕ
first_back packets = slice_get (filter (goes_back packets) (first_numbers packets.count)) 0
