-- What reading a capture answers, and what it finds on the way.
use Rattle.std.specs.Prelude.{◌≡◌, ℕ, ◌≤◌, ◌<◌, List, length, None, Some, Result, Ok, Err, slice_index}
use Rattle.lq_model.specs.Capture.{Refusal, end_of, place_of, record_fault}
use Rattle.lq_model.specs.declared.capture.CaptureReason.{CaptureReason}
use Rattle.lq_pcap.specs.declared.refusal.CaptureRefusal.{CaptureRefusal}
use Rattle.lq_pcap.specs.declared.refusal.CaptureRefusal.TheVariants.{Refused, NoMemory}

-- a refusal is that of the definition, or want of memory
abbrev pub IsCaptureRefusal : {T : Type 0} → Result T Refusal → CaptureRefusal → Type 0
IsCaptureRefusal answer NoMemory = Unit {0}
IsCaptureRefusal answer (Refused reason place) = answer ≡ Err (record { reason = reason; place = place })

-- a result, seen by `view`, is the answer of the definition, or want of memory
abbrev pub Gives : {R T : Type 0} → (R → T) → Result R CaptureRefusal → Result T Refusal → Type 0
Gives view (Ok value) answer = answer ≡ Ok (view value)
Gives view (Err refusal) answer = IsCaptureRefusal answer refusal

-- where the record at a place ends, or what keeps it from being whole
abbrev pub IsEnd : List ℕ → ℕ → Result ℕ CaptureReason → Type 0
IsEnd bytes place (Ok end) = (record_fault bytes place ≡ None) × (end ≡ end_of bytes place) × (end ≤ length bytes) × (place < end)
IsEnd bytes place (Err reason) = record_fault bytes place ≡ Some reason

-- where the records of a capture begin, and where the last one ends
pub record ArePlaces (bytes places : List ℕ) : Type 0 where
  pub some : 0 < length places
  pub few : length places ≤ 1000001
  pub each : (i : ℕ) → i < length places → slice_index places i ≡ place_of bytes i
  pub within : (i : ℕ) → i < length places → slice_index places i ≤ length bytes
