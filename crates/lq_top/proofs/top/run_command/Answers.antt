use Rattle.std.proofs.Common.{◌≡◌, ◌∷◌, ◌++◌, List, [], ◌∙◌, IfSome, Some, Ok, Err, ap, drop, map, refl, subst, sym, vec_len}
use Rattle.std.specs.Option.{option_map}
use Rattle.lq_host.specs.Host.{GivenFile, HostState}
use Rattle.lq_files.specs.Input.{file_read}
use Rattle.lq_table.specs.Ended.{ended_state}
use Rattle.lq_files.specs.Command.{OfRun, run_words}
use Rattle.lq_top.specs.Decision.{Refuses, Runs, units_changed_by, verdict_of_command}
use Rattle.lq_files.specs.Accepted.{capture_for, plan_for}
use Rattle.lq_files.specs.RunFiles.{run_of}
use Rattle.lq_top.specs.Outcome.{CompletesOrStops}
use Rattle.lq_top.specs.Reads.{after_reads, files_read}
use Rattle.lq_files.specs.Stop.{StopsFor}
use Rattle.lq_top.proofs.RunLemmas.{any_answer, any_told, beyond_units, done_answers, does_run, does_run_on, leaves_none, no_answer, refuse_does, refuses_capture, refuses_capture_on, refuses_plan, refuses_plan_on, run_does}
use Rattle.lq_top.proofs.ReadLemmas.{all_read, does_after, given_after, left_handles, run_reads, run_reads_plan, run_stopped_at_capture, run_stopped_at_plan, stopped-at, stopped_reading}
use Rattle.lq_top.proofs.top.run_command.Goals as goal

pub returns-in-Ok-2-clause-does : goal.returns-in-Ok-2-clause-does
returns-in-Ok-2-clause-does g c =
    let old : HostState = g.H.Host.state c.args.host.now in
    let new : HostState = g.H.Host.state c.run_capture.new.host in
    let run = run_of c.args.words.now.out.now c.in-Ok.plan c.in-Ok-2.capture in
    let have = vec_len c.args.bench.now in
    let before = map g.D.TxDevice.state c.args.bench.now.items in
    let after = map g.D.TxDevice.state c.run_capture.new.bench.items in
    let ended = map ended_state c.run_capture.new.ended.items in
    let r = c.run_capture.result in
    let read = c.in_ok-plan.ensures.some in
    let seen = c.in_ok-capture.ensures.some in
    let plan_file : GivenFile = record { name = c.args.words.now.plan.now; bytes = read.0 } in
    let capture_file : GivenFile = record { name = c.args.words.now.capture.now; bytes = seen.0 } in
    let mid : HostState = g.H.Host.state c.read_capture_for.new.host in
    let files = capture_file ∷ plan_file ∷ old.given in
    let is : mid ≡ record old { given = files } = seen.2 ∙ ap (λ (s : HostState). file_read s c.args.words.now.capture.now seen.0) read.2 in
    let does : CompletesOrStops (Runs run) mid new before after ended r = run_does run mid new before after ended r c.run_capture.ensures.answer c.run_capture.ensures.ok c.run_capture.ensures.err in
    does_run old.told (run_words c.args.words.now) have c.in-Ok.plan c.in-Ok-2.capture c.in_ok-plan.field-0 c.in_ok-capture.field-0
    (λ v. CompletesOrStops v (after_reads old new) new before after ended r) c.in-Ok.is c.in-Ok-2.is
    (subst (λ n. IfSome old.told (λ d. option_map (plan_for n) (d.files c.args.words.now.plan.now) ≡ Some c.in_ok-plan.field-0)) c.len.ensures c.in_ok-plan.ensures.plan)
    (subst (λ (s : HostState). IfSome s.told (λ d. option_map (capture_for c.in-Ok.plan) (d.files c.args.words.now.capture.now) ≡ Some c.in_ok-capture.field-0)) read.2 c.in_ok-capture.ensures.capture)
    (does_after (Runs run) old mid new files before after ended r is does)

pub returns-in-Ok-2-clause-beyond : goal.returns-in-Ok-2-clause-beyond
returns-in-Ok-2-clause-beyond g c =
    beyond_units c.len.result c.in-Ok.plan c.in_ok-plan.field-0 c.args.bench.now.items c.run_capture.new.bench.items c.in-Ok.is c.in_ok-plan.ensures.runnable c.run_capture.ensures.others

pub returns-in-Ok-2-clause-some : goal.returns-in-Ok-2-clause-some
returns-in-Ok-2-clause-some g c =
    let old : HostState = g.H.Host.state c.args.host.now in
    let new : HostState = g.H.Host.state c.run_capture.new.host in
    let run = run_of c.args.words.now.out.now c.in-Ok.plan c.in-Ok-2.capture in
    let have = vec_len c.args.bench.now in
    let before = map g.D.TxDevice.state c.args.bench.now.items in
    let after = map g.D.TxDevice.state c.run_capture.new.bench.items in
    let ended = map ended_state c.run_capture.new.ended.items in
    let r = c.run_capture.result in
    let read = c.in_ok-plan.ensures.some in
    let seen = c.in_ok-capture.ensures.some in
    let plan_file : GivenFile = record { name = c.args.words.now.plan.now; bytes = read.0 } in
    let capture_file : GivenFile = record { name = c.args.words.now.capture.now; bytes = seen.0 } in
    let mid : HostState = g.H.Host.state c.read_capture_for.new.host in
    let files = capture_file ∷ plan_file ∷ old.given in
    let is : mid ≡ record old { given = files } = seen.2 ∙ ap (λ (s : HostState). file_read s c.args.words.now.capture.now seen.0) read.2 in
    let does : CompletesOrStops (Runs run) mid new before after ended r = run_does run mid new before after ended r c.run_capture.ensures.answer c.run_capture.ensures.ok c.run_capture.ensures.err in
    let plan_is : plan_for have read.0 ≡ Ok c.in-Ok.plan = subst (λ n. plan_for n read.0 ≡ c.in_ok-plan.field-0) c.len.ensures read.1 ∙ c.in-Ok.is in
    let capture_is : capture_for c.in-Ok.plan seen.0 ≡ Ok c.in-Ok-2.capture =
    seen.1 ∙ c.in-Ok-2.is in (
      read.0,
      seen.0,
      all_read (files_read (Some (OfRun (run_words c.args.words.now))) have read.0 seen.0) old new r
          (given_after (Runs run) old mid new files before after ended r is does
          ∙ ap (λ (all : List GivenFile). all ++ old.given) (sym (run_reads (run_words c.args.words.now) have c.in-Ok.plan read.0 seen.0 plan_is))),
      does_run_on (run_words c.args.words.now) have c.in-Ok.plan c.in-Ok-2.capture read.0 seen.0 (λ v. CompletesOrStops v (after_reads old new) new before after ended r) plan_is capture_is
          (does_after (Runs run) old mid new files before after ended r is does),
    )

pub returns-clause-some : goal.returns-clause-some
returns-clause-some g c =
    let old : HostState = g.H.Host.state c.args.host.now in
    let new : HostState = g.H.Host.state c.refuse-in-Err-2.new.host in
    let have = vec_len c.args.bench.now in
    let devices = map g.D.TxDevice.state c.args.bench.now.items in
    let ended = map ended_state c.args.ended.now.items in
    let r = c.refuse-in-Err-2.result in
    let read = c.in_ok-plan.ensures.some in
    let seen = c.in_ok-capture.ensures.some in
    let plan_file : GivenFile = record { name = c.args.words.now.plan.now; bytes = read.0 } in
    let capture_file : GivenFile = record { name = c.args.words.now.capture.now; bytes = seen.0 } in
    let mid : HostState = g.H.Host.state c.read_capture_for.new.host in
    let files = capture_file ∷ plan_file ∷ old.given in
    let is : mid ≡ record old { given = files } = seen.2 ∙ ap (λ (s : HostState). file_read s c.args.words.now.capture.now seen.0) read.2 in
    let does : CompletesOrStops (Refuses c.in-Err-2.refusal) mid new devices devices ended r =
    refuse_does c.in-Err-2.refusal mid new devices devices ended r c.refuse-in-Err-2.ensures.answer c.refuse-in-Err-2.ensures.ok c.refuse-in-Err-2.ensures.err in
    let plan_is : plan_for have read.0 ≡ Ok c.in-Ok.plan = subst (λ n. plan_for n read.0 ≡ c.in_ok-plan.field-0) c.len.ensures read.1 ∙ c.in-Ok.is in
    let capture_is : capture_for c.in-Ok.plan seen.0 ≡ Err c.in-Err-2.refusal =
    seen.1 ∙ c.in-Err-2.is in (
      read.0,
      seen.0,
      all_read (files_read (Some (OfRun (run_words c.args.words.now))) have read.0 seen.0) old new r
          (given_after (Refuses c.in-Err-2.refusal) old mid new files devices devices ended r is does
          ∙ ap (λ (all : List GivenFile). all ++ old.given) (sym (run_reads (run_words c.args.words.now) have c.in-Ok.plan read.0 seen.0 plan_is))),
      refuses_capture_on (run_words c.args.words.now) have c.in-Ok.plan c.in-Err-2.refusal read.0 seen.0 (λ v. CompletesOrStops v (after_reads old new) new devices devices ended r) plan_is capture_is
          (does_after (Refuses c.in-Err-2.refusal) old mid new files devices devices ended r is does),
    )

pub returns-in-Err-clause-some : goal.returns-in-Err-clause-some
returns-in-Err-clause-some g c =
    let old : HostState = g.H.Host.state c.args.host.now in
    let new : HostState = g.H.Host.state c.refuse.new.host in
    let mid : HostState = g.H.Host.state c.read_plan_file.new.host in
    let have = vec_len c.args.bench.now in
    let devices = map g.D.TxDevice.state c.args.bench.now.items in
    let ended = map ended_state c.args.ended.now.items in
    let r = c.refuse.result in
    let read = c.in_ok-plan.ensures.some in
    let plan_file : GivenFile = record { name = c.args.words.now.plan.now; bytes = read.0 } in
    let files = plan_file ∷ old.given in
    let does : CompletesOrStops (Refuses c.in-Err.refusal) mid new devices devices ended r = refuse_does c.in-Err.refusal mid new devices devices ended r c.refuse.ensures.answer c.refuse.ensures.ok c.refuse.ensures.err in
    let plan_is : plan_for have read.0 ≡ Err c.in-Err.refusal = subst (λ n. plan_for n read.0 ≡ c.in_ok-plan.field-0) c.len.ensures read.1 ∙ c.in-Err.is in (
      read.0,
      [],
      all_read (files_read (Some (OfRun (run_words c.args.words.now))) have read.0 []) old new r
          (given_after (Refuses c.in-Err.refusal) old mid new files devices devices ended r read.2 does
          ∙ ap (λ (all : List GivenFile). all ++ old.given) (sym (run_reads_plan (run_words c.args.words.now) have c.in-Err.refusal read.0 [] plan_is))),
      refuses_plan_on (run_words c.args.words.now) have c.in-Err.refusal read.0 [] (λ v. CompletesOrStops v (after_reads old new) new devices devices ended r) plan_is
          (does_after (Refuses c.in-Err.refusal) old mid new files devices devices ended r read.2 does),
    )

pub returns-in_err-plan-clause-len : goal.returns-in_err-plan-clause-len
returns-in_err-plan-clause-len g c = refl

pub returns-in_err-plan-clause-boxes : goal.returns-in_err-plan-clause-boxes
returns-in_err-plan-clause-boxes g c = refl

pub returns-in_err-plan-clause-beyond : goal.returns-in_err-plan-clause-beyond
returns-in_err-plan-clause-beyond g c = refl

pub returns-in_err-plan-clause-others : goal.returns-in_err-plan-clause-others
returns-in_err-plan-clause-others g c = any_told (g.H.Host.state c.args.host.now).told (λ _. refl)

pub returns-in_err-plan-clause-refused : goal.returns-in_err-plan-clause-refused
returns-in_err-plan-clause-refused g c = any_answer c.from_residual.result (λ _. λ _. refl)

pub returns-in_err-plan-clause-none_ended : goal.returns-in_err-plan-clause-none_ended
returns-in_err-plan-clause-none_ended g c = leaves_none c.from_residual.result c.args.ended.now.items c.requires.none_yet

pub returns-in_err-plan-clause-answer : goal.returns-in_err-plan-clause-answer
returns-in_err-plan-clause-answer g c = no_answer _ _ c.from_residual.result c.from_residual.ensures.1

pub returns-in_err-plan-clause-handles : goal.returns-in_err-plan-clause-handles
returns-in_err-plan-clause-handles g c = left_handles c.args.words.now.plan.now _ _ c.in_err-plan.ensures.stopped

pub returns-in_err-plan-clause-does : goal.returns-in_err-plan-clause-does
returns-in_err-plan-clause-does g c =
    let old : HostState = g.H.Host.state c.args.host.now in
    let new : HostState = g.H.Host.state c.read_plan_file.new.host in
    let devices = map g.D.TxDevice.state c.args.bench.now.items in
    let ended = map ended_state c.args.ended.now.items in
    let left = stopped-at c.args.words.now.plan.now old old new old.given refl c.in_err-plan.ensures.stopped in
    any_told old.told (λ k.
    stopped_reading _ (verdict_of_command (Some (OfRun (run_words c.args.words.now))) (vec_len c.args.bench.now) k.files k.files) old new c.args.words.now.plan.now old.given devices devices ended
    c.from_residual.result c.from_residual.ensures.1 left)

pub returns-in_err-plan-clause-some : goal.returns-in_err-plan-clause-some
returns-in_err-plan-clause-some g c =
    let old : HostState = g.H.Host.state c.args.host.now in
    let new : HostState = g.H.Host.state c.read_plan_file.new.host in
    let devices = map g.D.TxDevice.state c.args.bench.now.items in
    let ended = map ended_state c.args.ended.now.items in
    let left = stopped-at c.args.words.now.plan.now old old new old.given refl c.in_err-plan.ensures.stopped in
    run_stopped_at_plan _ (run_words c.args.words.now) (vec_len c.args.bench.now) old new devices devices ended c.from_residual.result c.from_residual.ensures.1 left

pub returns-in-Err-clause-len : goal.returns-in-Err-clause-len
returns-in-Err-clause-len g c = refl

pub returns-in-Err-clause-boxes : goal.returns-in-Err-clause-boxes
returns-in-Err-clause-boxes g c = refl

pub returns-in-Err-clause-beyond : goal.returns-in-Err-clause-beyond
returns-in-Err-clause-beyond g c = refl

pub returns-in-Err-clause-others : goal.returns-in-Err-clause-others
returns-in-Err-clause-others g c = any_told (g.H.Host.state c.args.host.now).told (λ _. refl)

pub returns-in-Err-clause-refused : goal.returns-in-Err-clause-refused
returns-in-Err-clause-refused g c = any_answer c.refuse.result (λ _. λ _. refl)

pub returns-in-Err-clause-none_ended : goal.returns-in-Err-clause-none_ended
returns-in-Err-clause-none_ended g c = leaves_none c.refuse.result c.args.ended.now.items c.requires.none_yet

pub returns-in-Err-clause-handles : goal.returns-in-Err-clause-handles
returns-in-Err-clause-handles g c = c.refuse.ensures.handles ∙ ap (λ (s : HostState). s.handles) c.in_ok-plan.ensures.some.2

pub returns-in-Err-clause-cause : goal.returns-in-Err-clause-cause
returns-in-Err-clause-cause g c = subst (λ n. StopsFor n (g.H.Host.fault_count c.refuse.new.host) c.refuse.result) c.in_ok-plan.ensures.cause.calm c.refuse.ensures.cause

pub returns-in_err-capture-clause-len : goal.returns-in_err-capture-clause-len
returns-in_err-capture-clause-len g c = refl

pub returns-in_err-capture-clause-boxes : goal.returns-in_err-capture-clause-boxes
returns-in_err-capture-clause-boxes g c = refl

pub returns-in_err-capture-clause-beyond : goal.returns-in_err-capture-clause-beyond
returns-in_err-capture-clause-beyond g c = refl

pub returns-in_err-capture-clause-others : goal.returns-in_err-capture-clause-others
returns-in_err-capture-clause-others g c = any_told (g.H.Host.state c.args.host.now).told (λ _. refl)

pub returns-in_err-capture-clause-refused : goal.returns-in_err-capture-clause-refused
returns-in_err-capture-clause-refused g c = any_answer c.from_residual-in_err-capture.result (λ _. λ _. refl)

pub returns-in_err-capture-clause-none_ended : goal.returns-in_err-capture-clause-none_ended
returns-in_err-capture-clause-none_ended g c = leaves_none c.from_residual-in_err-capture.result c.args.ended.now.items c.requires.none_yet

pub returns-in_err-capture-clause-answer : goal.returns-in_err-capture-clause-answer
returns-in_err-capture-clause-answer g c = no_answer _ _ c.from_residual-in_err-capture.result c.from_residual-in_err-capture.ensures.1

pub returns-in_err-capture-clause-handles : goal.returns-in_err-capture-clause-handles
returns-in_err-capture-clause-handles g c =
    left_handles c.args.words.now.capture.now _ _ c.in_err-capture.ensures.stopped ∙ ap (λ (s : HostState). s.handles) c.in_ok-plan.ensures.some.2

pub returns-in_err-capture-clause-does : goal.returns-in_err-capture-clause-does
returns-in_err-capture-clause-does g c =
    let old : HostState = g.H.Host.state c.args.host.now in
    let new : HostState = g.H.Host.state c.read_capture_for.new.host in
    let devices = map g.D.TxDevice.state c.args.bench.now.items in
    let ended = map ended_state c.args.ended.now.items in
    let read = c.in_ok-plan.ensures.some in
    let plan_file : GivenFile = record { name = c.args.words.now.plan.now; bytes = read.0 } in
    let left = stopped-at c.args.words.now.capture.now old (g.H.Host.state c.read_plan_file.new.host) new (plan_file ∷ old.given) read.2 c.in_err-capture.ensures.stopped in
    any_told old.told (λ k.
    stopped_reading _ (verdict_of_command (Some (OfRun (run_words c.args.words.now))) (vec_len c.args.bench.now) k.files k.files) old new c.args.words.now.capture.now (plan_file ∷ old.given) devices devices ended
    c.from_residual-in_err-capture.result c.from_residual-in_err-capture.ensures.1 left)

pub returns-in_err-capture-clause-some : goal.returns-in_err-capture-clause-some
returns-in_err-capture-clause-some g c =
    let old : HostState = g.H.Host.state c.args.host.now in
    let new : HostState = g.H.Host.state c.read_capture_for.new.host in
    let devices = map g.D.TxDevice.state c.args.bench.now.items in
    let ended = map ended_state c.args.ended.now.items in
    let read = c.in_ok-plan.ensures.some in
    let plan_file : GivenFile = record { name = c.args.words.now.plan.now; bytes = read.0 } in
    let left = stopped-at c.args.words.now.capture.now old (g.H.Host.state c.read_plan_file.new.host) new (plan_file ∷ old.given) read.2 c.in_err-capture.ensures.stopped in
    let plan_is : plan_for (vec_len c.args.bench.now) read.0 ≡ Ok c.in-Ok.plan = subst (λ n. plan_for n read.0 ≡ c.in_ok-plan.field-0) c.len.ensures read.1 ∙ c.in-Ok.is in
    run_stopped_at_capture _ (run_words c.args.words.now) (vec_len c.args.bench.now) c.in-Ok.plan read.0 plan_is old new devices devices ended c.from_residual-in_err-capture.result
    c.from_residual-in_err-capture.ensures.1 left

pub returns-in-Ok-2-clause-len : goal.returns-in-Ok-2-clause-len
returns-in-Ok-2-clause-len g c = c.run_capture.ensures.len

pub returns-in-Ok-2-clause-boxes : goal.returns-in-Ok-2-clause-boxes
returns-in-Ok-2-clause-boxes g c = c.run_capture.ensures.boxes

pub returns-in-Ok-2-clause-none_ended : goal.returns-in-Ok-2-clause-none_ended
returns-in-Ok-2-clause-none_ended g c = c.run_capture.ensures.none_ended

pub returns-in-Ok-2-clause-handles : goal.returns-in-Ok-2-clause-handles
returns-in-Ok-2-clause-handles g c = c.run_capture.ensures.handles ∙ ap (λ (s : HostState). s.handles) c.in_ok-capture.ensures.some.2 ∙ ap (λ (s : HostState). s.handles) c.in_ok-plan.ensures.some.2

pub returns-in-Ok-2-clause-cause : goal.returns-in-Ok-2-clause-cause
returns-in-Ok-2-clause-cause g c = subst (λ n. StopsFor n (g.H.Host.fault_count c.run_capture.new.host) c.run_capture.result) (c.in_ok-capture.ensures.cause.calm ∙ c.in_ok-plan.ensures.cause.calm) c.run_capture.ensures.cause

pub returns-clause-len : goal.returns-clause-len
returns-clause-len g c = refl

pub returns-clause-boxes : goal.returns-clause-boxes
returns-clause-boxes g c = refl

pub returns-clause-beyond : goal.returns-clause-beyond
returns-clause-beyond g c = refl

pub returns-clause-others : goal.returns-clause-others
returns-clause-others g c = any_told (g.H.Host.state c.args.host.now).told (λ _. refl)

pub returns-clause-refused : goal.returns-clause-refused
returns-clause-refused g c = any_answer c.refuse-in-Err-2.result (λ _. λ _. refl)

pub returns-clause-none_ended : goal.returns-clause-none_ended
returns-clause-none_ended g c = leaves_none c.refuse-in-Err-2.result c.args.ended.now.items c.requires.none_yet

pub returns-clause-handles : goal.returns-clause-handles
returns-clause-handles g c = c.refuse-in-Err-2.ensures.handles ∙ ap (λ (s : HostState). s.handles) c.in_ok-capture.ensures.some.2 ∙ ap (λ (s : HostState). s.handles) c.in_ok-plan.ensures.some.2

pub returns-clause-cause : goal.returns-clause-cause
returns-clause-cause g c = subst (λ n. StopsFor n (g.H.Host.fault_count c.refuse-in-Err-2.new.host) c.refuse-in-Err-2.result) (c.in_ok-capture.ensures.cause.calm ∙ c.in_ok-plan.ensures.cause.calm) c.refuse-in-Err-2.ensures.cause

pub returns-in-Ok-2-clause-answer : goal.returns-in-Ok-2-clause-answer
returns-in-Ok-2-clause-answer g c = done_answers c.run_capture.result c.run_capture.ensures.answer

pub read_plan_file-requires : goal.read_plan_file-requires
read_plan_file-requires g c = c.requires.may.0

pub read_capture_for-requires : goal.read_capture_for-requires
read_capture_for-requires g c = c.requires.may.1

pub returns-in-Err-clause-does : goal.returns-in-Err-clause-does
returns-in-Err-clause-does g c =
    let old : HostState = g.H.Host.state c.args.host.now in
    let new : HostState = g.H.Host.state c.refuse.new.host in
    let mid : HostState = g.H.Host.state c.read_plan_file.new.host in
    let have = vec_len c.args.bench.now in
    let devices = map g.D.TxDevice.state c.args.bench.now.items in
    let ended = map ended_state c.args.ended.now.items in
    let r = c.refuse.result in
    let read = c.in_ok-plan.ensures.some in
    let plan_file : GivenFile = record { name = c.args.words.now.plan.now; bytes = read.0 } in
    let files = plan_file ∷ old.given in
    let does : CompletesOrStops (Refuses c.in-Err.refusal) mid new devices devices ended r = refuse_does c.in-Err.refusal mid new devices devices ended r c.refuse.ensures.answer c.refuse.ensures.ok c.refuse.ensures.err in
    refuses_plan old.told (run_words c.args.words.now) have c.in-Err.refusal c.in_ok-plan.field-0 (λ v. CompletesOrStops v (after_reads old new) new devices devices ended r) c.in-Err.is
    (subst (λ n. IfSome old.told (λ d. option_map (plan_for n) (d.files c.args.words.now.plan.now) ≡ Some c.in_ok-plan.field-0)) c.len.ensures c.in_ok-plan.ensures.plan)
    (does_after (Refuses c.in-Err.refusal) old mid new files devices devices ended r read.2 does)

pub returns-clause-does : goal.returns-clause-does
returns-clause-does g c =
    let old : HostState = g.H.Host.state c.args.host.now in
    let new : HostState = g.H.Host.state c.refuse-in-Err-2.new.host in
    let have = vec_len c.args.bench.now in
    let devices = map g.D.TxDevice.state c.args.bench.now.items in
    let ended = map ended_state c.args.ended.now.items in
    let r = c.refuse-in-Err-2.result in
    let read = c.in_ok-plan.ensures.some in
    let seen = c.in_ok-capture.ensures.some in
    let plan_file : GivenFile = record { name = c.args.words.now.plan.now; bytes = read.0 } in
    let capture_file : GivenFile = record { name = c.args.words.now.capture.now; bytes = seen.0 } in
    let mid : HostState = g.H.Host.state c.read_capture_for.new.host in
    let files = capture_file ∷ plan_file ∷ old.given in
    let is : mid ≡ record old { given = files } = seen.2 ∙ ap (λ (s : HostState). file_read s c.args.words.now.capture.now seen.0) read.2 in
    let does : CompletesOrStops (Refuses c.in-Err-2.refusal) mid new devices devices ended r =
    refuse_does c.in-Err-2.refusal mid new devices devices ended r c.refuse-in-Err-2.ensures.answer c.refuse-in-Err-2.ensures.ok c.refuse-in-Err-2.ensures.err in
    refuses_capture old.told (run_words c.args.words.now) have c.in-Ok.plan c.in-Err-2.refusal c.in_ok-plan.field-0 c.in_ok-capture.field-0
    (λ v. CompletesOrStops v (after_reads old new) new devices devices ended r) c.in-Ok.is c.in-Err-2.is
    (subst (λ n. IfSome old.told (λ d. option_map (plan_for n) (d.files c.args.words.now.plan.now) ≡ Some c.in_ok-plan.field-0)) c.len.ensures c.in_ok-plan.ensures.plan)
    (subst (λ (s : HostState). IfSome s.told (λ d. option_map (capture_for c.in-Ok.plan) (d.files c.args.words.now.capture.now) ≡ Some c.in_ok-capture.field-0)) read.2 c.in_ok-capture.ensures.capture)
    (does_after (Refuses c.in-Err-2.refusal) old mid new files devices devices ended r is does)

pub returns-in-Ok-2-clause-others : goal.returns-in-Ok-2-clause-others
returns-in-Ok-2-clause-others g c =
    let old : HostState = g.H.Host.state c.args.host.now in
    does_run old.told (run_words c.args.words.now) (vec_len c.args.bench.now) c.in-Ok.plan c.in-Ok-2.capture c.in_ok-plan.field-0 c.in_ok-capture.field-0
    (λ v. drop (units_changed_by v) c.run_capture.new.bench.items ≡ drop (units_changed_by v) c.args.bench.now.items) c.in-Ok.is c.in-Ok-2.is
    (subst (λ n. IfSome old.told (λ d. option_map (plan_for n) (d.files c.args.words.now.plan.now) ≡ Some c.in_ok-plan.field-0)) c.len.ensures c.in_ok-plan.ensures.plan)
    (subst (λ (s : HostState). IfSome s.told (λ d. option_map (capture_for c.in-Ok.plan) (d.files c.args.words.now.capture.now) ≡ Some c.in_ok-capture.field-0)) c.in_ok-plan.ensures.some.2 c.in_ok-capture.ensures.capture)
    c.run_capture.ensures.others
