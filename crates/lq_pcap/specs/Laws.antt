-- What the definition of a capture comes to, and what follows from it.
use Rattle.std.specs.Prelude.{◌≡◌, ◌≢◌, ◌↔◌, ℕ, ◌+◌, ◌<◌, ◌≤◌, true, false, ◌||◌, nat_eq, List, length, map, All, Ok, IsOkAnd}
use Rattle.std.specs.List.{IsDistinct}
use Rattle.lq_model.specs.Generated.{generated_capture, generated_header, generated_record}
use Rattle.lq_model.specs.Numbers.{first_numbers}
use Rattle.lq_model.specs.Capture.{Capture, capture_of, capture_text, captured_length, end_of, header_of, is_big_endian, is_little_endian, major_version, place_of, record_of, records_of, refused}
use Rattle.lq_model.specs.declared.capture.CaptureReason.{CaptureReason}
use Rattle.lq_model.specs.declared.capture.CaptureReason.TheVariants.{ShortHeader, Magic, Version, CutRecordHeader, LongRecord, CutData, TooMany}

-- the record at this place has a header, a captured length of at most 262,144, and its data
pub record IsWholeRecord (bytes : List ℕ) (place : ℕ) : Type 0 where
  pub has_header : place + 16 ≤ length bytes
  pub is_short : captured_length bytes place ≤ 262144
  pub has_data : end_of bytes place ≤ length bytes

pub record HasMagic (bytes : List ℕ) : Type 0 where
  pub long : 24 ≤ length bytes
  pub magic : (is_little_endian bytes || is_big_endian bytes) ≡ true

pub record HasFileHeader (bytes : List ℕ) : Type 0 where
  pub magic : HasMagic bytes
  pub version : major_version bytes ≡ 2

-- the bytes are a file header and whole records, as many as this capture has and at most 1,000,000, up to the end
pub record IsCapture (bytes : List ℕ) (capture : Capture) : Type 0 where
  pub same_bytes : capture.bytes ≡ bytes
  pub header : HasFileHeader bytes
  pub few : capture.count ≤ 1000000
  pub whole : (i : ℕ) → i < capture.count → IsWholeRecord bytes (place_of bytes i)
  pub ends : place_of bytes capture.count ≡ length bytes

-- the bytes go on at this place behind the first i records, which are whole
pub record GoesOnAt (bytes : List ℕ) (i place : ℕ) : Type 0 where
  pub header : HasFileHeader bytes
  pub whole : (j : ℕ) → j < i → IsWholeRecord bytes (place_of bytes j)
  pub begins : place ≡ place_of bytes i
  pub more : place < length bytes

-- the bytes have this fault at this place, and none before it
abbrev pub HasFault : List ℕ → CaptureReason → ℕ → Type 0
HasFault bytes ShortHeader place = (length bytes < 24) × (place ≡ length bytes)
HasFault bytes Magic place = (24 ≤ length bytes) × ((is_little_endian bytes || is_big_endian bytes) ≡ false) × (place ≡ 0)
HasFault bytes Version place = HasMagic bytes × (major_version bytes ≢ 2) × (place ≡ 4)
HasFault bytes TooMany place = (i : ℕ) × (i ≡ 1000000) × GoesOnAt bytes i place
HasFault bytes CutRecordHeader place = (i : ℕ) × (i < 1000000) × GoesOnAt bytes i place × (length bytes < place + 16)
HasFault bytes LongRecord place =
    (i : ℕ) × (i < 1000000) × GoesOnAt bytes i place × (place + 16 ≤ length bytes) × (262144 < captured_length bytes place)
HasFault bytes CutData place =
    (i : ℕ) × (i < 1000000) × GoesOnAt bytes i place × (place + 16 ≤ length bytes) × (captured_length bytes place ≤ 262144) × (length bytes < end_of bytes place)
-- the other reasons are not of this format
HasFault bytes _ place = ⊥

-- the bytes are a capture exactly where they are a file header and whole records
abbrev pub AcceptsExactly : Type 0
AcceptsExactly = (bytes : List ℕ) (capture : Capture) → (capture_of bytes ≡ Ok capture) ↔ IsCapture bytes capture

-- and they are refused exactly for the first fault that they have
abbrev pub RefusesExactly : Type 0
RefusesExactly = (bytes : List ℕ) (reason : CaptureReason) (place : ℕ) → (capture_of bytes ≡ refused reason place) ↔ HasFault bytes reason place

-- the capture written for a list of records without repeats is a capture again, of just those records
abbrev pub AcceptsAgain : Type 0
AcceptsAgain =
    (bytes : List ℕ) (capture : Capture) (packets : List ℕ) → capture_of bytes ≡ Ok capture → All (λ i. i < capture.count) packets → IsDistinct nat_eq packets
    → IsOkAnd (capture_of (capture_text capture packets)) (λ again. (header_of again ≡ header_of capture) × (records_of again ≡ map (record_of capture) packets))

-- what is generated is a capture, of just the records that are generated
abbrev pub GeneratesCaptures : Type 0
GeneratesCaptures =
    (number count : ℕ) → count ≤ 1000000
    → IsOkAnd (capture_of (generated_capture number count)) (λ capture. (capture.count ≡ count) × (header_of capture ≡ generated_header) × (records_of capture ≡ map (generated_record number) (first_numbers count)))
