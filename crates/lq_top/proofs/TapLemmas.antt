-- What a tap leaves, from what its calls leave.
use Rattle.std.proofs.Common.{◌≡◌, ◌<◌, [], ℕ, false, List, All, length, get_or, slice_get, Option, Some, None, Result, Ok, Err, IfOk, OnOk, OnErr, IfSome, refl, sym, subst, inr}
use Rattle.std.specs.Option.{option_map}
use Rattle.std.proofs.lemmas.List.Elements.{All-from_get_or}
use Rattle.std.proofs.lemmas.Option.{slice_get-get_or, slice_get_within}
use Rattle.lq_host.specs.Host.{HostState, Contents}
use Rattle.lq_model.specs.Device.{DeviceState}
use Rattle.lq_pcapng.specs.declared.file.CaptureFile.{CaptureFile}
use Rattle.lq_fates.specs.Tap.{IsTapRun}
use Rattle.lq_fates.specs.declared.tap_fate.TapFate.{TapFate}
use Rattle.lq_fates.specs.declared.tap_fate.TapFate.TheVariants.{Read}
use Rattle.lq_files.specs.Command.{OfTap, TapWords}
use Rattle.lq_top.specs.Decision.{Verdict, Taps, if_accepted, verdict_of_command}
use Rattle.lq_files.specs.Accepted.{limited_capture_of}
use Rattle.lq_top.specs.Outcome.{CompletesOrStops}
use Rattle.lq_top.specs.Tapped.{AreTapFatesIn, HasCutTap, HasTapped}
use Rattle.lq_files.specs.TapFiles.{tap_texts_of}
use Rattle.lq_files.specs.Written.{IsCut}
use Rattle.lq_files.specs.declared.refusal.Refusal.{Refusal}
use Rattle.lq_files.specs.declared.answer.Status.{Status}
use Rattle.lq_files.specs.declared.answer.Status.TheVariants as status
use Rattle.lq_files.specs.declared.answer.Stop.{Stop}

-- the packets that were read are packets of the capture
pub read_below : (count senders len : ℕ) (fates : List TapFate) (read : List ℕ) → IsTapRun count senders len fates read → All (λ n. n < count) read
read_below count senders len fates read run = All-from_get_or (λ n. n < count) read 0 (λ place lt. (
    let there : slice_get read place ≡ Some (get_or read place 0) = slice_get-get_or read place 0 lt in
    let within : get_or read place 0 < length fates = slice_get_within fates (get_or read place 0) (Read place) ((run.places (get_or read place 0) place).1 there) in
    subst (λ k. get_or read place 0 < k) run.one_each within
    ))

-- WRITING

-- WHAT IS DONE

module _ (words : TapWords) (capture : CaptureFile) (fates given : List TapFate) (read given_read : List ℕ) (old new : HostState) where
  pub has_cut :
      given ≡ fates → given_read ≡ read → AreTapFatesIn words capture fates read → IsCut (tap_texts_of words.out capture given given_read) old new
      → HasCutTap words capture old new
  has_cut same same_read are cut =
      inr (
        fates,
        read,
        are,
        subst (λ (r : List ℕ). IsCut (tap_texts_of words.out capture fates r) old new) same_read
            (subst (λ (fs : List TapFate). IsCut (tap_texts_of words.out capture fs given_read) old new) same cut),
      )

pub tap_does :
    (words : TapWords) (capture : CaptureFile) (old new : HostState) (before after : List DeviceState) (r : Result Status Stop) → IfOk r (λ answer. answer ≡ status.Done)
    → OnOk r (HasTapped words capture old new) → OnErr r (HasCutTap words capture old new) → CompletesOrStops (Taps words capture) old new before after [] r
tap_does words capture old new before after (Ok answer) is done stopped = (is, refl, done)
tap_does words capture old new before after (Err stop) is done stopped = stopped

-- DECISIONS

-- what was done as the capture was read was decided so
pub does_tap :
    (told : Option Contents) (words : TapWords) (have : ℕ) (seen : Result CaptureFile Refusal) (P : Verdict → Type 0) → IfSome told (λ c. option_map (limited_capture_of false) (c.files words.capture) ≡ Some seen)
    → P (if_accepted (Some seen) (Taps words)) → IfSome told (λ c. P (verdict_of_command (Some (OfTap words)) have c.files c.files))
does_tap None words have seen P is does = _
does_tap (Some c) words have seen P is does = subst (λ (r : Option (Result CaptureFile Refusal)). P (if_accepted r (Taps words))) (sym is) does

-- and by some bytes
pub does_tap_on :
    (words : TapWords) (have : ℕ) (seen : Result CaptureFile Refusal) (bytes : List ℕ) (P : Verdict → Type 0) → limited_capture_of false bytes ≡ seen → P (if_accepted (Some seen) (Taps words))
    → P (verdict_of_command (Some (OfTap words)) have (λ _. Some bytes) (λ _. Some []))
does_tap_on words have seen bytes P is does = subst (λ (r : Result CaptureFile Refusal). P (if_accepted (Some r) (Taps words))) (sym is) does
