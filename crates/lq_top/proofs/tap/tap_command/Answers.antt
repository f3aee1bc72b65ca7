use Rattle.std.proofs.Common.{◌∷◌, [], List, Some, Result, refl, subst, sym}
use Rattle.lq_host.specs.Host.{GivenFile, HostState}
use Rattle.lq_pcapng.specs.declared.file.CaptureFile.{CaptureFile}
use Rattle.lq_files.specs.Command.{OfTap, tap_words}
use Rattle.lq_top.specs.Decision.{Refuses, Taps, if_accepted, verdict_of_command}
use Rattle.lq_top.specs.Outcome.{CompletesOrStops}
use Rattle.lq_top.specs.Reads.{after_reads}
use Rattle.lq_files.specs.declared.refusal.Refusal.{Refusal}
use Rattle.lq_top.proofs.ReadLemmas.{all_read, does_after, given_after, one_stopped, stopped-at, stopped_reading}
use Rattle.lq_top.proofs.RunLemmas.{any_told, refuse_does}
use Rattle.lq_top.proofs.TapLemmas.{does_tap, does_tap_on, tap_does}
use Rattle.lq_top.proofs.tap.tap_command.Goals as goal

pub returns-in_err-capture-clause-does : goal.returns-in_err-capture-clause-does
returns-in_err-capture-clause-does g c = λ have before after. (
    let old : HostState = g.H.Host.state c.args.host.now in
    let new : HostState = g.H.Host.state c.read_capture_file.new.host in
    any_told old.told (λ k.
    stopped_reading _ (verdict_of_command (Some (OfTap (tap_words c.args.words.now))) have k.files k.files) old new c.args.words.now.capture.now old.given before after [] c.from_residual.result
    c.from_residual.ensures.1 (stopped-at c.args.words.now.capture.now old old new old.given refl c.in_err-capture.ensures.stopped))
    )

pub returns-in_err-capture-clause-some : goal.returns-in_err-capture-clause-some
returns-in_err-capture-clause-some g c = λ have before after. (
    let old : HostState = g.H.Host.state c.args.host.now in
    let new : HostState = g.H.Host.state c.read_capture_file.new.host in
    one_stopped _ (λ first second. verdict_of_command (Some (OfTap (tap_words c.args.words.now))) have (λ _. Some first) (λ _. Some second)) c.args.words.now.capture.now old new before after []
    c.from_residual.result c.from_residual.ensures.1 (stopped-at c.args.words.now.capture.now old old new old.given refl c.in_err-capture.ensures.stopped)
    )

pub returns-in-Ok-clause-does : goal.returns-in-Ok-clause-does
returns-in-Ok-clause-does g c = λ have before after. (
    let old : HostState = g.H.Host.state c.args.host.now in
    let mid : HostState = g.H.Host.state c.read_capture_file.new.host in
    let new : HostState = g.H.Host.state c.tap_capture.new.host in
    let words = tap_words c.args.words.now in
    let seen = c.in_ok-capture.ensures.some in
    let r = c.tap_capture.result in
    let does : CompletesOrStops (Taps words c.in-Ok.capture) mid new before after [] r =
    tap_does words c.in-Ok.capture mid new before after r c.tap_capture.ensures.answer c.tap_capture.ensures.ok c.tap_capture.ensures.err in
    does_tap old.told words have c.in_ok-capture.field-0 (λ v. CompletesOrStops v (after_reads old new) new before after [] r) c.in_ok-capture.ensures.capture
    (subst (λ (q : Result CaptureFile Refusal). CompletesOrStops (if_accepted (Some q) (Taps words)) (after_reads old new) new before after [] r) (sym c.in-Ok.is)
    (does_after (Taps words c.in-Ok.capture) old mid new (record { name = words.capture; bytes = seen.0 } ∷ old.given) before after [] r seen.2 does))
    )

pub returns-in-Ok-clause-some : goal.returns-in-Ok-clause-some
returns-in-Ok-clause-some g c = λ have before after. (
    let old : HostState = g.H.Host.state c.args.host.now in
    let mid : HostState = g.H.Host.state c.read_capture_file.new.host in
    let new : HostState = g.H.Host.state c.tap_capture.new.host in
    let words = tap_words c.args.words.now in
    let seen = c.in_ok-capture.ensures.some in
    let file : GivenFile = record { name = words.capture; bytes = seen.0 } in
    let r = c.tap_capture.result in
    let does : CompletesOrStops (Taps words c.in-Ok.capture) mid new before after [] r =
    tap_does words c.in-Ok.capture mid new before after r c.tap_capture.ensures.answer c.tap_capture.ensures.ok c.tap_capture.ensures.err in (
      seen.0,
      [],
      all_read (file ∷ []) old new r (given_after (Taps words c.in-Ok.capture) old mid new (file ∷ old.given) before after [] r seen.2 does),
      does_tap_on words have c.in_ok-capture.field-0 seen.0 (λ v. CompletesOrStops v (after_reads old new) new before after [] r) seen.1
          (subst (λ (q : Result CaptureFile Refusal). CompletesOrStops (if_accepted (Some q) (Taps words)) (after_reads old new) new before after [] r) (sym c.in-Ok.is)
          (does_after (Taps words c.in-Ok.capture) old mid new (file ∷ old.given) before after [] r seen.2 does)),
    )
    )

pub returns-in-Err-clause-does : goal.returns-in-Err-clause-does
returns-in-Err-clause-does g c = λ have before after. (
    let old : HostState = g.H.Host.state c.args.host.now in
    let mid : HostState = g.H.Host.state c.read_capture_file.new.host in
    let new : HostState = g.H.Host.state c.refuse.new.host in
    let words = tap_words c.args.words.now in
    let seen = c.in_ok-capture.ensures.some in
    let r = c.refuse.result in
    let does : CompletesOrStops (Refuses c.in-Err.refusal) mid new before after [] r =
    refuse_does c.in-Err.refusal mid new before after [] r c.refuse.ensures.answer c.refuse.ensures.ok c.refuse.ensures.err in
    does_tap old.told words have c.in_ok-capture.field-0 (λ v. CompletesOrStops v (after_reads old new) new before after [] r) c.in_ok-capture.ensures.capture
    (subst (λ (q : Result CaptureFile Refusal). CompletesOrStops (if_accepted (Some q) (Taps words)) (after_reads old new) new before after [] r) (sym c.in-Err.is)
    (does_after (Refuses c.in-Err.refusal) old mid new (record { name = words.capture; bytes = seen.0 } ∷ old.given) before after [] r seen.2 does))
    )

pub returns-in-Err-clause-some : goal.returns-in-Err-clause-some
returns-in-Err-clause-some g c = λ have before after. (
    let old : HostState = g.H.Host.state c.args.host.now in
    let mid : HostState = g.H.Host.state c.read_capture_file.new.host in
    let new : HostState = g.H.Host.state c.refuse.new.host in
    let words = tap_words c.args.words.now in
    let seen = c.in_ok-capture.ensures.some in
    let file : GivenFile = record { name = words.capture; bytes = seen.0 } in
    let r = c.refuse.result in
    let does : CompletesOrStops (Refuses c.in-Err.refusal) mid new before after [] r =
    refuse_does c.in-Err.refusal mid new before after [] r c.refuse.ensures.answer c.refuse.ensures.ok c.refuse.ensures.err in (
      seen.0,
      [],
      all_read (file ∷ []) old new r (given_after (Refuses c.in-Err.refusal) old mid new (file ∷ old.given) before after [] r seen.2 does),
      does_tap_on words have c.in_ok-capture.field-0 seen.0 (λ v. CompletesOrStops v (after_reads old new) new before after [] r) seen.1
          (subst (λ (q : Result CaptureFile Refusal). CompletesOrStops (if_accepted (Some q) (Taps words)) (after_reads old new) new before after [] r) (sym c.in-Err.is)
          (does_after (Refuses c.in-Err.refusal) old mid new (file ∷ old.given) before after [] r seen.2 does)),
    )
    )
