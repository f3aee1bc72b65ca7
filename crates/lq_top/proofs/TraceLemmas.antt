-- What the command `trace` leaves, from what its calls leave.
use Rattle.std.proofs.Common.{◌≡◌, ℕ, List, [], Option, Some, None, Result, Ok, Err, IfSome, refl, sym, subst, inr}
use Rattle.std.specs.Option.{option_map}
use Rattle.lq_model.specs.Device.{DeviceState}
use Rattle.lq_host.specs.Host.{Contents, HostState, wrote}
use Rattle.lq_files.specs.Accepted.{limited_trace_of}
use Rattle.lq_files.specs.Command.{OfTrace}
use Rattle.lq_files.specs.Written.{OutputHasPrefix}
use Rattle.lq_files.specs.declared.refusal.Refusal.{Refusal}
use Rattle.lq_files.specs.declared.answer.Status.{Status}
use Rattle.lq_files.specs.declared.answer.Status.TheVariants as status
use Rattle.lq_files.specs.declared.answer.Stop.{Stop}
use Rattle.lq_top.specs.Decision.{Traces, Verdict, if_accepted, verdict_of_command}
use Rattle.lq_top.specs.Outcome.{CompletesOrStops}

-- what was done as the schedule was read was decided so
pub does_trace :
    (told : Option Contents) (file : List ℕ) (have : ℕ) (seen : Result (List ℕ) Refusal) (P : Verdict → Type 0) → IfSome told (λ c. option_map limited_trace_of (c.files file) ≡ Some seen)
    → P (if_accepted (Some seen) Traces) → IfSome told (λ c. P (verdict_of_command (Some (OfTrace file)) have c.files c.files))
does_trace None file have seen P is does = _
does_trace (Some c) file have seen P is does = subst (λ (r : Option (Result (List ℕ) Refusal)). P (if_accepted r Traces)) (sym is) does

-- and by some bytes
pub does_trace_on :
    (file : List ℕ) (have : ℕ) (seen : Result (List ℕ) Refusal) (bytes : List ℕ) (P : Verdict → Type 0) → limited_trace_of bytes ≡ seen → P (if_accepted (Some seen) Traces)
    → P (verdict_of_command (Some (OfTrace file)) have (λ _. Some bytes) (λ _. Some []))
does_trace_on file have seen bytes P is does = subst (λ (r : Result (List ℕ) Refusal). P (if_accepted (Some r) Traces)) (sym is) does

-- the text was written
pub trace_done : (text lent : List ℕ) (old new : HostState) (before after : List DeviceState) (r : Result Status Stop) → lent ≡ text → r ≡ Ok status.Done → new ≡ wrote old 0 lent
    → CompletesOrStops (if_accepted (Some (Ok text)) Traces) old new before after [] r
trace_done text lent old new before after r same is wrote_is =
    subst (λ (q : Result Status Stop). CompletesOrStops (Traces text) old new before after [] q) (sym is) (refl, refl, subst (λ (bytes : List ℕ). new ≡ wrote old 0 bytes) same wrote_is)

-- or a part of it
pub trace_stopped : (text lent : List ℕ) (old new : HostState) (before after : List DeviceState) (r : Result Status Stop) (stop : Stop) → lent ≡ text → r ≡ Err stop → OutputHasPrefix lent old new
    → CompletesOrStops (if_accepted (Some (Ok text)) Traces) old new before after [] r
trace_stopped text lent old new before after r stop same is part =
    subst (λ (q : Result Status Stop). CompletesOrStops (Traces text) old new before after [] q) (sym is) (inr (subst (λ (bytes : List ℕ). OutputHasPrefix bytes old new) same part))
