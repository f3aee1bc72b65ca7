use Rattle.std.proofs.Common.{◌∷◌, [], ℕ, List, Ok, Some, Result, refl, subst, sym}
use Rattle.std.specs.Result.{result_map_both}
use Rattle.std.proofs.lemmas.Result.{err_from_is_err_and}
use Rattle.lq_host.specs.Host.{GivenFile, HostState}
use Rattle.lq_files.specs.Command.{OfTrace}
use Rattle.lq_files.specs.declared.refusal.Refusal.{Refusal}
use Rattle.lq_files.specs.declared.answer.Status.TheVariants as status
use Rattle.lq_top.specs.Decision.{Refuses, Traces, if_accepted, verdict_of_command}
use Rattle.lq_top.specs.Outcome.{CompletesOrStops}
use Rattle.lq_top.specs.Reads.{after_reads}
use Rattle.lq_top.proofs.ReadLemmas.{all_read, does_after, given_after, one_stopped, stopped-at, stopped_reading}
use Rattle.lq_top.proofs.RunLemmas.{any_told, refuse_does}
use Rattle.lq_top.proofs.TraceLemmas.{does_trace, does_trace_on, trace_done, trace_stopped}
use Rattle.lq_top.proofs.trace.trace_command.Goals as goal

pub returns-in_err-text-clause-does : goal.returns-in_err-text-clause-does
returns-in_err-text-clause-does g c = λ have before after. (
    let old : HostState = g.H.Host.state c.args.host.now in
    let mid : HostState = g.H.Host.state c.read_schedule_file.new.host in
    any_told old.told (λ k.
    stopped_reading _ (verdict_of_command (Some (OfTrace c.args.file.now)) have k.files k.files) old mid c.args.file.now old.given before after [] c.from_residual.result c.from_residual.ensures.1
    (stopped-at c.args.file.now old old mid old.given refl c.in_err-text.ensures.stopped))
    )

pub returns-in_err-text-clause-some : goal.returns-in_err-text-clause-some
returns-in_err-text-clause-some g c = λ have before after. (
    let old : HostState = g.H.Host.state c.args.host.now in
    let mid : HostState = g.H.Host.state c.read_schedule_file.new.host in
    one_stopped _ (λ first second. verdict_of_command (Some (OfTrace c.args.file.now)) have (λ _. Some first) (λ _. Some second)) c.args.file.now old mid before after [] c.from_residual.result
    c.from_residual.ensures.1 (stopped-at c.args.file.now old old mid old.given refl c.in_err-text.ensures.stopped)
    )

pub returns-in_ok-write_output-in-Ok-clause-does : goal.returns-in_ok-write_output-in-Ok-clause-does
returns-in_ok-write_output-in-Ok-clause-does g c = λ have before after. (
    let old : HostState = g.H.Host.state c.args.host.now in
    let mid : HostState = g.H.Host.state c.read_schedule_file.new.host in
    let new : HostState = g.H.Host.state c.write_output.new.host in
    let r = Ok status.Done in
    let seen = c.in_ok-text.ensures.some in
    let read : Result (List ℕ) Refusal = result_map_both (λ text. text.items) (λ refusal. refusal) c.in_ok-text.field-0 in
    let file : GivenFile = record { name = c.args.file.now; bytes = seen.0 } in
    let does : CompletesOrStops (Traces c.in-Ok.text.items) mid new before after [] r =
    trace_done c.in-Ok.text.items c.deref.result.now mid new before after r c.deref.ensures.value refl c.in_ok-write_output-in-Ok.ensures.ok in
    does_trace old.told c.args.file.now have read (λ v. CompletesOrStops v (after_reads old new) new before after [] r) c.in_ok-text.ensures.text
    (subst (λ (q : Result _ Refusal). CompletesOrStops (if_accepted (Some (result_map_both (λ text. text.items) (λ refusal. refusal) q)) Traces) (after_reads old new) new before after [] r) (sym c.in-Ok.is)
    (does_after (Traces c.in-Ok.text.items) old mid new (file ∷ old.given) before after [] r seen.2 does))
    )

pub returns-in_ok-write_output-in-Ok-clause-some : goal.returns-in_ok-write_output-in-Ok-clause-some
returns-in_ok-write_output-in-Ok-clause-some g c = λ have before after. (
    let old : HostState = g.H.Host.state c.args.host.now in
    let mid : HostState = g.H.Host.state c.read_schedule_file.new.host in
    let new : HostState = g.H.Host.state c.write_output.new.host in
    let r = Ok status.Done in
    let seen = c.in_ok-text.ensures.some in
    let read : Result (List ℕ) Refusal = result_map_both (λ text. text.items) (λ refusal. refusal) c.in_ok-text.field-0 in
    let file : GivenFile = record { name = c.args.file.now; bytes = seen.0 } in
    let does : CompletesOrStops (Traces c.in-Ok.text.items) mid new before after [] r =
    trace_done c.in-Ok.text.items c.deref.result.now mid new before after r c.deref.ensures.value refl c.in_ok-write_output-in-Ok.ensures.ok in (
      seen.0,
      [],
      all_read (file ∷ []) old new r (given_after (Traces c.in-Ok.text.items) old mid new (file ∷ old.given) before after [] r seen.2 does),
      does_trace_on c.args.file.now have read seen.0 (λ v. CompletesOrStops v (after_reads old new) new before after [] r) seen.1
          (subst (λ (q : Result _ Refusal). CompletesOrStops (if_accepted (Some (result_map_both (λ text. text.items) (λ refusal. refusal) q)) Traces) (after_reads old new) new before after [] r) (sym c.in-Ok.is)
          (does_after (Traces c.in-Ok.text.items) old mid new (file ∷ old.given) before after [] r seen.2 does)),
    )
    )

pub returns-in_err-write_output-in-Ok-clause-does : goal.returns-in_err-write_output-in-Ok-clause-does
returns-in_err-write_output-in-Ok-clause-does g c = λ have before after. (
    let old : HostState = g.H.Host.state c.args.host.now in
    let mid : HostState = g.H.Host.state c.read_schedule_file.new.host in
    let new : HostState = g.H.Host.state c.write_output.new.host in
    let r = c.from_residual-in_err-write_output-in-Ok.result in
    let seen = c.in_ok-text.ensures.some in
    let read : Result (List ℕ) Refusal = result_map_both (λ text. text.items) (λ refusal. refusal) c.in_ok-text.field-0 in
    let file : GivenFile = record { name = c.args.file.now; bytes = seen.0 } in
    let does : CompletesOrStops (Traces c.in-Ok.text.items) mid new before after [] r =
    let exit = err_from_is_err_and r c.from_residual-in_err-write_output-in-Ok.ensures.1 in
    trace_stopped c.in-Ok.text.items c.deref.result.now mid new before after r exit.0 c.deref.ensures.value exit.1 c.in_err-write_output-in-Ok.ensures.err in
    does_trace old.told c.args.file.now have read (λ v. CompletesOrStops v (after_reads old new) new before after [] r) c.in_ok-text.ensures.text
    (subst (λ (q : Result _ Refusal). CompletesOrStops (if_accepted (Some (result_map_both (λ text. text.items) (λ refusal. refusal) q)) Traces) (after_reads old new) new before after [] r) (sym c.in-Ok.is)
    (does_after (Traces c.in-Ok.text.items) old mid new (file ∷ old.given) before after [] r seen.2 does))
    )

pub returns-in_err-write_output-in-Ok-clause-some : goal.returns-in_err-write_output-in-Ok-clause-some
returns-in_err-write_output-in-Ok-clause-some g c = λ have before after. (
    let old : HostState = g.H.Host.state c.args.host.now in
    let mid : HostState = g.H.Host.state c.read_schedule_file.new.host in
    let new : HostState = g.H.Host.state c.write_output.new.host in
    let r = c.from_residual-in_err-write_output-in-Ok.result in
    let seen = c.in_ok-text.ensures.some in
    let read : Result (List ℕ) Refusal = result_map_both (λ text. text.items) (λ refusal. refusal) c.in_ok-text.field-0 in
    let file : GivenFile = record { name = c.args.file.now; bytes = seen.0 } in
    let does : CompletesOrStops (Traces c.in-Ok.text.items) mid new before after [] r =
    let exit = err_from_is_err_and r c.from_residual-in_err-write_output-in-Ok.ensures.1 in
    trace_stopped c.in-Ok.text.items c.deref.result.now mid new before after r exit.0 c.deref.ensures.value exit.1 c.in_err-write_output-in-Ok.ensures.err in (
      seen.0,
      [],
      all_read (file ∷ []) old new r (given_after (Traces c.in-Ok.text.items) old mid new (file ∷ old.given) before after [] r seen.2 does),
      does_trace_on c.args.file.now have read seen.0 (λ v. CompletesOrStops v (after_reads old new) new before after [] r) seen.1
          (subst (λ (q : Result _ Refusal). CompletesOrStops (if_accepted (Some (result_map_both (λ text. text.items) (λ refusal. refusal) q)) Traces) (after_reads old new) new before after [] r) (sym c.in-Ok.is)
          (does_after (Traces c.in-Ok.text.items) old mid new (file ∷ old.given) before after [] r seen.2 does)),
    )
    )

pub returns-in-Err-clause-does : goal.returns-in-Err-clause-does
returns-in-Err-clause-does g c = λ have before after. (
    let old : HostState = g.H.Host.state c.args.host.now in
    let mid : HostState = g.H.Host.state c.read_schedule_file.new.host in
    let new : HostState = g.H.Host.state c.refuse.new.host in
    let r = c.refuse.result in
    let seen = c.in_ok-text.ensures.some in
    let read : Result (List ℕ) Refusal = result_map_both (λ text. text.items) (λ refusal. refusal) c.in_ok-text.field-0 in
    let file : GivenFile = record { name = c.args.file.now; bytes = seen.0 } in
    let does : CompletesOrStops (Refuses c.in-Err.refusal) mid new before after [] r =
    refuse_does c.in-Err.refusal mid new before after [] r c.refuse.ensures.answer c.refuse.ensures.ok c.refuse.ensures.err in
    does_trace old.told c.args.file.now have read (λ v. CompletesOrStops v (after_reads old new) new before after [] r) c.in_ok-text.ensures.text
    (subst (λ (q : Result _ Refusal). CompletesOrStops (if_accepted (Some (result_map_both (λ text. text.items) (λ refusal. refusal) q)) Traces) (after_reads old new) new before after [] r) (sym c.in-Err.is)
    (does_after (Refuses c.in-Err.refusal) old mid new (file ∷ old.given) before after [] r seen.2 does))
    )

pub returns-in-Err-clause-some : goal.returns-in-Err-clause-some
returns-in-Err-clause-some g c = λ have before after. (
    let old : HostState = g.H.Host.state c.args.host.now in
    let mid : HostState = g.H.Host.state c.read_schedule_file.new.host in
    let new : HostState = g.H.Host.state c.refuse.new.host in
    let r = c.refuse.result in
    let seen = c.in_ok-text.ensures.some in
    let read : Result (List ℕ) Refusal = result_map_both (λ text. text.items) (λ refusal. refusal) c.in_ok-text.field-0 in
    let file : GivenFile = record { name = c.args.file.now; bytes = seen.0 } in
    let does : CompletesOrStops (Refuses c.in-Err.refusal) mid new before after [] r =
    refuse_does c.in-Err.refusal mid new before after [] r c.refuse.ensures.answer c.refuse.ensures.ok c.refuse.ensures.err in (
      seen.0,
      [],
      all_read (file ∷ []) old new r (given_after (Refuses c.in-Err.refusal) old mid new (file ∷ old.given) before after [] r seen.2 does),
      does_trace_on c.args.file.now have read seen.0 (λ v. CompletesOrStops v (after_reads old new) new before after [] r) seen.1
          (subst (λ (q : Result _ Refusal). CompletesOrStops (if_accepted (Some (result_map_both (λ text. text.items) (λ refusal. refusal) q)) Traces) (after_reads old new) new before after [] r) (sym c.in-Err.is)
          (does_after (Refuses c.in-Err.refusal) old mid new (file ∷ old.given) before after [] r seen.2 does)),
    )
    )
