use Rattle.std.proofs.Common.{List, Some, ℕ, ap, sym, ◌∙◌, map, subst, IsOkAnd}
use Rattle.std.proofs.lemmas.Result.{err_from_is_err_and}
use Rattle.lq_host.specs.Host.{HostState, filed}
use Rattle.lq_model.specs.Capture.{capture_of}
use Rattle.lq_model.specs.Generated.{generated_capture}
use Rattle.lq_pcapng.specs.File.{as_classic}
use Rattle.lq_table.specs.Ended.{ended_state}
use Rattle.lq_top.specs.Decision.{Generates, if_accepted}
use Rattle.lq_files.specs.Accepted.{with_refusal}
use Rattle.lq_files.specs.RunFiles.{run_of}
use Rattle.lq_files.specs.Written.{FileIsCut}
use Rattle.lq_top.proofs.GenerateLemmas.{cut_after_file, cut_in_file, generated_does, stops_any}
use Rattle.lq_top.proofs.GeneratedVerdict.{is_accepted}
use Rattle.lq_top.proofs.generate.generate.Goals as goal

pub returns-in_err-write_file-clause-does : goal.returns-in_err-write_file-clause-does
returns-in_err-write_file-clause-does g c =
    let words = c.args.job.now.words in
    let out = words.out.now in
    let text = generated_capture words.number words.count in
    let plan = c.args.job.now.plan.now in
    let old : HostState = g.H.Host.state c.args.host.now in
    let new : HostState = g.H.Host.state c.write_file.new.host in
    let devices = map g.D.TxDevice.state c.args.bench.now.items in
    let exit = err_from_is_err_and c.from_residual-in_err-write_file.result c.from_residual-in_err-write_file.ensures.1 in
    stops_any (if_accepted (Some (with_refusal (as_classic (capture_of text)))) (λ c. Generates text (run_of out plan c))) old new devices devices (map ended_state c.args.ended.now.items) c.from_residual-in_err-write_file.result exit.0 exit.1
    (cut_in_file out text plan (capture_of text) old new devices devices (is_accepted words.number words.count c.requires.few)
    (subst (λ (t : List ℕ). FileIsCut out t old new) (c.deref.ensures.value ∙ c.in_ok-text.ensures) c.in_err-write_file.ensures.err))

pub generated_in-requires : goal.generated_in-requires
generated_in-requires g c =
    let words = c.args.job.now.words in
    record { accepted = subst (λ (t : List ℕ). IsOkAnd (capture_of t) (λ _. Unit {0})) (sym c.in_ok-text.ensures) (is_accepted words.number words.count c.requires.few) }

pub returns-in_err-generated_in-clause-does : goal.returns-in_err-generated_in-clause-does
returns-in_err-generated_in-clause-does g c =
    let words = c.args.job.now.words in
    let out = words.out.now in
    let text = generated_capture words.number words.count in
    let plan = c.args.job.now.plan.now in
    let old : HostState = g.H.Host.state c.args.host.now in
    let new : HostState = g.H.Host.state c.write_file.new.host in
    let devices = map g.D.TxDevice.state c.args.bench.now.items in
    let exit = err_from_is_err_and c.from_residual-in_err-generated_in.result c.from_residual-in_err-generated_in.ensures.1 in
    stops_any (if_accepted (Some (with_refusal (as_classic (capture_of text)))) (λ c. Generates text (run_of out plan c))) old new devices devices (map ended_state c.args.ended.now.items) c.from_residual-in_err-generated_in.result exit.0 exit.1
    (cut_after_file out text plan (capture_of text) old new devices devices (is_accepted words.number words.count c.requires.few)
    (c.in_ok-write_file.ensures.ok ∙ ap (λ (t : List ℕ). filed old out t) (c.deref.ensures.value ∙ c.in_ok-text.ensures)))

pub returns-clause-does : goal.returns-clause-does
returns-clause-does g c =
    let words = c.args.job.now.words in
    let out = words.out.now in
    let text = generated_capture words.number words.count in
    let old : HostState = g.H.Host.state c.args.host.now in
    let mid : HostState = g.H.Host.state c.write_file.new.host in
    let before = map g.D.TxDevice.state c.args.bench.now.items in
    let after = map g.D.TxDevice.state c.run_and_count.new.bench.items in
    generated_does out text c.args.job.now.plan.now c.in_ok-generated_in.field-0 (capture_of text) old mid (g.H.Host.state c.run_and_count.new.host) before after (map ended_state c.run_and_count.new.ended.items) c.run_and_count.result
    (ap capture_of (sym c.in_ok-text.ensures) ∙ c.in_ok-generated_in.ensures)
    (c.in_ok-write_file.ensures.ok ∙ ap (λ (t : List ℕ). filed old out t) (c.deref.ensures.value ∙ c.in_ok-text.ensures))
    c.run_and_count.ensures.answer c.run_and_count.ensures.ok c.run_and_count.ensures.err
