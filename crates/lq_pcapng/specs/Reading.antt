-- What reading a capture answers, and what it finds on the way.
use Rattle.std.specs.Prelude.{◌≡◌, ℕ, ◌+◌, ◌≤◌, ◌<◌, Bool, true, false, if◌then◌else◌, List, [], ◌∷◌, ◌++◌, length, map, drop, slice_get, slice_index, Option, None, Some, Result, Ok, Err}
use Rattle.lq_model.specs.Capture.{Refusal}
use Rattle.lq_pcapng.specs.Pcapng.{block_fault, block_in, captured_length, data_place, has_whole_options, interface_number, is_interface, is_little_endian, is_packet, is_section, is_whole_option, length_fault, offset_of, option_code, option_length, options_end, padded, section_fault, total_length, units_by, units_in_second}
use Rattle.lq_model.specs.declared.capture.CaptureReason.{CaptureReason}
use Rattle.lq_pcap.specs.declared.refusal.CaptureRefusal.{CaptureRefusal}
use Rattle.lq_pcap.specs.declared.refusal.CaptureRefusal.TheVariants.{Refused, NoMemory}
use Rattle.lq_pcapng.specs.declared.interfaces.Clock.{Clock}
use Rattle.lq_pcapng.specs.declared.options.NextOption.{NextOption}
use Rattle.lq_pcapng.specs.declared.options.NextOption.TheVariants.{End, Cut, Whole}

-- WHAT A TEST ANSWERS

-- the refusal is this fault
abbrev pub IsFault : Option Refusal → CaptureRefusal → Type 0
IsFault fault (Refused reason place) = fault ≡ Some (record { reason = reason; place = place })
IsFault fault NoMemory = ⊥

-- there is no fault, or it is the refusal
abbrev pub IsChecked : {T : Type 0} → Option Refusal → Result T CaptureRefusal → Type 0
IsChecked fault (Ok value) = fault ≡ None
IsChecked fault (Err refusal) = IsFault fault refusal

-- the same of reasons alone
abbrev pub IsTested : {T : Type 0} → Option CaptureReason → Result T CaptureReason → Type 0
IsTested fault (Ok value) = fault ≡ None
IsTested fault (Err reason) = fault ≡ Some reason

-- how long the section header block is, if it has no fault
abbrev pub IsSectionLength : List ℕ → Result ℕ CaptureRefusal → Type 0
IsSectionLength bytes (Ok len) =
    (section_fault bytes ≡ None) × (len ≡ total_length (is_little_endian bytes) bytes) × (28 ≤ len) × (len ≤ length bytes)
IsSectionLength bytes (Err refusal) = IsFault (section_fault bytes) refusal

-- how long the block is with which the rest of a file begins, if its lengths have no fault
abbrev pub IsBlockLength : Bool → ℕ → List ℕ → Result ℕ CaptureRefusal → Type 0
IsBlockLength little_endian place rest (Ok len) =
    (length_fault little_endian place rest ≡ None) × (len ≡ total_length little_endian rest) × (12 ≤ len) × (len ≤ length rest)
IsBlockLength little_endian place rest (Err refusal) = IsFault (length_fault little_endian place rest) refusal

-- how long it is, if it has no fault behind these interfaces and so many packets
abbrev pub IsWholeLength : Bool → Bool → ℕ → List (List ℕ) → ℕ → List ℕ → Result ℕ CaptureRefusal → Type 0
IsWholeLength timed little_endian place interfaces packets rest (Ok len) =
    (block_fault timed little_endian place interfaces packets rest ≡ None) × (len ≡ total_length little_endian rest) × (12 ≤ len) × (len ≤ length rest)
IsWholeLength timed little_endian place interfaces packets rest (Err refusal) = IsFault (block_fault timed little_endian place interfaces packets rest) refusal

-- what some options begin with: their end, an option that isn't whole, or one that is
abbrev pub IsNextOption : Bool → List ℕ → NextOption → Type 0
IsNextOption little_endian options End = options_end little_endian options ≡ true
IsNextOption little_endian options Cut = (options_end little_endian options ≡ false) × (is_whole_option little_endian options ≡ false)
IsNextOption little_endian options (Whole code len) =
    (options_end little_endian options ≡ false) × (is_whole_option little_endian options ≡ true)
    × (code ≡ option_code little_endian options) × (len ≡ option_length little_endian options)

-- BLOCKS OF A FILE

-- the block at a place, and the blocks at places
abbrev pub block_at : Bool → List ℕ → ℕ → List ℕ
block_at little_endian bytes place = block_in little_endian (drop place bytes)

abbrev pub blocks_at : Bool → List ℕ → List ℕ → List (List ℕ)
blocks_at little_endian bytes places = map (block_at little_endian bytes) places

-- these places, and behind them this one where it is that of such a block
abbrev pub noted_if : Bool → ℕ → List ℕ → List ℕ
noted_if is_such place places = places ++ (if is_such then place ∷ [] else [])

-- the block at this place has at least 12 bytes, which the file has
pub record IsWholeAt (little_endian : Bool) (bytes : List ℕ) (place : ℕ) : Type 0 where
  pub long : 12 ≤ total_length little_endian (drop place bytes)
  pub within : total_length little_endian (drop place bytes) ≤ length (drop place bytes)

-- an interface description block has its link type and its snapshot length
pub record IsInterface (little_endian : Bool) (block : List ℕ) : Type 0 where
  pub kind : is_interface little_endian block ≡ true
  pub long : 20 ≤ length block

-- a packet block has its fields, an interface among these, a captured length of at most 262,144, and its data
pub record IsPacket (little_endian : Bool) (interfaces : List (List ℕ)) (block : List ℕ) : Type 0 where
  pub kind : is_packet little_endian block ≡ true
  pub long : data_place little_endian block + 4 ≤ length block
  pub described : interface_number little_endian block < length interfaces
  pub short : captured_length little_endian interfaces block ≤ 262144
  pub whole : data_place little_endian block + 4 + padded (captured_length little_endian interfaces block) ≤ length block

-- a block fits behind interfaces and so many packets by its type: it is no second section header block, and an interface
-- description block or a packet block with all that it needs, or else of another type; where times are read, an interface's
-- options are whole
pub record Fits (timed little_endian : Bool) (interfaces : List (List ℕ)) (packets : ℕ) (block : List ℕ) : Type 0 where
  pub no_section : is_section little_endian block ≡ false
  pub as_interface : is_interface little_endian block ≡ true → IsInterface little_endian block
  pub as_timed : timed ≡ true → is_interface little_endian block ≡ true → has_whole_options little_endian block ≡ true
  pub few : is_packet little_endian block ≡ true → packets < 1000000
  pub as_packet : is_packet little_endian block ≡ true → IsPacket little_endian interfaces block

-- blocks of interfaces stand at these places
pub record AreInterfaces (little_endian : Bool) (bytes places : List ℕ) : Type 0 where
  pub whole : (i : ℕ) → i < length places → IsWholeAt little_endian bytes (slice_index places i)
  pub each : (i : ℕ) → i < length places → IsInterface little_endian (block_at little_endian bytes (slice_index places i))

-- an interface counts time so
pub record IsClock (little_endian : Bool) (interface : List ℕ) (clock : Clock) : Type 0 where
  pub resolution : units_by clock.resolution ≡ units_in_second little_endian interface
  pub offset : clock.offset ≡ offset_of little_endian interface

-- the first of the interfaces at these places count time so
abbrev pub AreClocks : Bool → List ℕ → List ℕ → List Clock → Type 0
AreClocks little_endian bytes places clocks =
    (i : ℕ) (clock : Clock) → slice_get clocks i ≡ Some clock → IsClock little_endian (block_at little_endian bytes (slice_index places i)) clock

-- blocks of packets stand at these places
pub record ArePackets (little_endian : Bool) (bytes : List ℕ) (interfaces : List (List ℕ)) (places : List ℕ) : Type 0 where
  pub few : length places ≤ 1000000
  pub whole : (i : ℕ) → i < length places → IsWholeAt little_endian bytes (slice_index places i)
  pub each : (i : ℕ) → i < length places → IsPacket little_endian interfaces (block_at little_endian bytes (slice_index places i))
