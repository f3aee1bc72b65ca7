use Rattle.std.proofs.Common.{◌≡◌, Some, None, Ok, Err, subst, Result, ap, sym, ◌∙◌, vec_len, map, refl}
use Rattle.lq_model.specs.Capture.{capture_of}
use Rattle.lq_model.specs.Generated.{generated_capture}
use Rattle.lq_model.specs.Plan.{Plan}
use Rattle.lq_pcapng.specs.File.{as_classic}
use Rattle.lq_plan.specs.Generated.{generated_plan}
use Rattle.lq_files.specs.Command.{OfGen, gen_words}
use Rattle.lq_files.specs.Accepted.{placed_on, with_refusal}
use Rattle.lq_files.specs.RunFiles.{run_of}
use Rattle.lq_files.specs.declared.refusal.Refusal.{Refusal}
use Rattle.lq_table.specs.Ended.{ended_state}
use Rattle.lq_top.specs.Decision.{Generates, Verdict, if_accepted, verdict_of_command}
use Rattle.lq_top.specs.Outcome.{CompletesOrStops}
use Rattle.lq_top.proofs.RunLemmas.{refuse_does, stopped_before}
use Rattle.lq_top.proofs.GenerateLemmas.{others_of_gen}
use Rattle.lq_top.proofs.generate.gen_command.Goals as goal

pub returns-in-Ok-clause-others : goal.returns-in-Ok-clause-others
returns-in-Ok-clause-others g c =
    let have = vec_len c.args.bench.now in
    let plan = c.in-Ok.plan in
    let placed : ◌≡◌ {A = Result Plan Refusal} (Ok plan) (placed_on have generated_plan) =
    sym c.in-Ok.is ∙ c.place_on.ensures.placed ∙ ap (λ n. placed_on n c.in_ok-generated_plan.field-0) c.len.ensures ∙ ap (placed_on have) c.in_ok-generated_plan.ensures in
    others_of_gen (gen_words c.args.words.now) have plan c.args.bench.now.items c.generate.new.bench.items c.requires.few placed c.generate.ensures.others

pub returns-in_err-generated_plan-clause-does : goal.returns-in_err-generated_plan-clause-does
returns-in_err-generated_plan-clause-does g c =
    let old = g.H.Host.state c.args.host.now in
    let devices = map g.D.TxDevice.state c.args.bench.now.items in
    stopped_before _ (verdict_of_command (Some (OfGen (gen_words c.args.words.now))) (vec_len c.args.bench.now) (λ _. None) (λ _. None)) old old devices devices
    (map ended_state c.args.ended.now.items) c.from_residual.result c.from_residual.ensures.1 refl

pub returns-in-Ok-clause-cause : goal.returns-in-Ok-clause-cause
returns-in-Ok-clause-cause g c = c.generate.ensures.cause

pub returns-in-Err-clause-cause : goal.returns-in-Err-clause-cause
returns-in-Err-clause-cause g c = c.refuse.ensures.cause

pub returns-in-Ok-clause-does : goal.returns-in-Ok-clause-does
returns-in-Ok-clause-does g c =
    let have = vec_len c.args.bench.now in
    let words = gen_words c.args.words.now in
    let text = generated_capture words.number words.count in
    let old = g.H.Host.state c.args.host.now in
    let new = g.H.Host.state c.generate.new.host in
    let before = map g.D.TxDevice.state c.args.bench.now.items in
    let after = map g.D.TxDevice.state c.generate.new.bench.items in
    let ended = map ended_state c.generate.new.ended.items in
    let next : Plan → Verdict = λ p. if_accepted (Some (with_refusal (as_classic (capture_of text)))) (λ c. Generates text (run_of words.out p c)) in
    let placed : ◌≡◌ {A = Result Plan Refusal} (Ok c.in-Ok.plan) (placed_on have generated_plan) =
    sym c.in-Ok.is ∙ c.place_on.ensures.placed ∙ ap (λ n. placed_on n c.in_ok-generated_plan.field-0) c.len.ensures ∙ ap (placed_on have) c.in_ok-generated_plan.ensures in
    subst (λ (p : Result Plan Refusal). CompletesOrStops (if_accepted (Some p) next) old new before after ended c.generate.result) placed c.generate.ensures.does

pub returns-in-Err-clause-does : goal.returns-in-Err-clause-does
returns-in-Err-clause-does g c =
    let have = vec_len c.args.bench.now in
    let words = gen_words c.args.words.now in
    let text = generated_capture words.number words.count in
    let old = g.H.Host.state c.args.host.now in
    let new = g.H.Host.state c.refuse.new.host in
    let devices = map g.D.TxDevice.state c.args.bench.now.items in
    let ended = map ended_state c.args.ended.now.items in
    let next : Plan → Verdict = λ p. if_accepted (Some (with_refusal (as_classic (capture_of text)))) (λ c. Generates text (run_of words.out p c)) in
    let placed : ◌≡◌ {A = Result Plan Refusal} (Err c.in-Err.refusal) (placed_on have generated_plan) =
    sym c.in-Err.is ∙ c.place_on.ensures.placed ∙ ap (λ n. placed_on n c.in_ok-generated_plan.field-0) c.len.ensures ∙ ap (placed_on have) c.in_ok-generated_plan.ensures in
    subst (λ (p : Result Plan Refusal). CompletesOrStops (if_accepted (Some p) next) old new devices devices ended c.refuse.result) placed
    (refuse_does c.in-Err.refusal old new devices devices ended c.refuse.result c.refuse.ensures.answer c.refuse.ensures.ok c.refuse.ensures.err)
