-- What the words of `gen` decide where there is a device.
use Rattle.std.proofs.Common.{◌≡◌, ◌<◌, ◌≤◌, ℕ, List, Some, Result, Ok, Err, IsOkAnd, map, nat_lt, refl, ap, ◌∙◌, inl, inr, subst, arith}
use Rattle.std.proofs.lemmas.Bool.{cases_Bool, ltb-true}
use Rattle.lq_host.specs.Host.{Files}
use Rattle.lq_model.specs.Capture.{Capture, Refusal as CaptureRefusal, capture_of, header_of, records_of}
use Rattle.lq_model.specs.Generated.{generated_capture, generated_header, generated_record}
use Rattle.lq_model.specs.Numbers.{first_numbers}
use Rattle.lq_pcap.proofs.GeneratedCaptures.{generated_accepted}
use Rattle.lq_pcapng.specs.File.{as_classic}
use Rattle.lq_pcapng.specs.declared.file.CaptureFile.TheVariants.{Classic}
use Rattle.lq_plan.specs.Generated.{generated_plan}
use Rattle.lq_files.specs.Command.{GenWords, AreOperandsWithin, OfGen, command_of_words}
use Rattle.lq_top.specs.Decision.{Generates, if_accepted, verdict_of, verdict_of_command}
use Rattle.lq_files.specs.Accepted.{with_refusal}
use Rattle.lq_files.specs.RunFiles.{run_of}
use Rattle.lq_files.proofs.CommandLemmas.{within_limits}

accepted_at_all : (P : Capture → Type 0) (r : Result Capture CaptureRefusal) → IsOkAnd r P → IsOkAnd r (λ _. Unit {0})
accepted_at_all P (Ok c) ok = _
accepted_at_all P (Err e) ok = absurd ok

pub is_accepted : (number count : ℕ) → count ≤ 1000000 → IsOkAnd (capture_of (generated_capture number count)) (λ _. Unit {0})
is_accepted number count few =
    accepted_at_all (λ c. (c.count ≡ count) × (header_of c ≡ generated_header) × (records_of c ≡ map (generated_record number) (first_numbers count)))
    (capture_of (generated_capture number count)) (generated_accepted number count few)

placed : (gen : GenWords) (files : Files) (have : ℕ) → 0 < have
    → verdict_of_command (Some (OfGen gen)) have files files
    ≡ if_accepted (Some (with_refusal (as_classic (capture_of (generated_capture gen.number gen.count)))))
    (λ c. Generates (generated_capture gen.number gen.count) (run_of gen.out generated_plan c))
placed gen files have some = elim (cases_Bool (nat_lt have 1)) [
  | inl none ↦ absurd (omega (ltb-true have 1 none, some, arith))
  | inr there ↦ rw there refl
]

pub generated_verdict :
    (words : List (List ℕ)) (gen : GenWords) (files : Files) (have : ℕ) → command_of_words words ≡ Some (OfGen gen) → 0 < have
    → (capture : Capture) × (capture_of (generated_capture gen.number gen.count) ≡ Ok capture)
    × (verdict_of words files have ≡ Generates (generated_capture gen.number gen.count) (run_of gen.out generated_plan (Classic capture)))
generated_verdict words gen files have command some = go (capture_of text) refl (is_accepted gen.number gen.count few)
  where
    text : List ℕ
    text = generated_capture gen.number gen.count

    few : gen.count ≤ 1000000
    few = subst AreOperandsWithin command (within_limits words)

    go : (r : Result Capture CaptureRefusal) → capture_of text ≡ r → IsOkAnd r (λ _. Unit {0})
        → (capture : Capture) × (capture_of text ≡ Ok capture) × (verdict_of words files have ≡ Generates text (run_of gen.out generated_plan (Classic capture)))
    go (Ok c) is ok = (
      c,
      is,
      ap (λ k. verdict_of_command k have files files) command ∙ placed gen files have some
          ∙ ap (λ (r : Result Capture CaptureRefusal). if_accepted (Some (with_refusal (as_classic r))) (λ c. Generates text (run_of gen.out generated_plan c))) is,
    )
    go (Err e) is ok = absurd ok
