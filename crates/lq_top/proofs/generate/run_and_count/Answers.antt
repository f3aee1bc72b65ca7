use Rattle.std.proofs.Common.{◌≡◌, List, ◌∙◌, ap, ap₂, arith, length, map, subst, sym}
use Rattle.lq_senders.specs.Fates.{AreEnded, AreFatesOf}
use Rattle.lq_senders.specs.Told.{TellEach, fates_told}
use Rattle.lq_table.specs.Ended.{ended_state}
use Rattle.lq_model.specs.declared.fate.Info.{Info}
use Rattle.lq_files.specs.RunFiles.{run_of}
use Rattle.lq_model.specs.Openings.{openings}
use Rattle.lq_pcapng.specs.File.{packets_of_file}
use Rattle.lq_top.proofs.GenerateLemmas.{counts_cut, counts_done}
use Rattle.lq_top.proofs.generate.run_and_count.Goals as goal

pub count_told-requires-clause-told : goal.count_told-requires-clause-told
count_told-requires-clause-told g c κs within =
    subst (λ (infos : List Info). TellEach infos (map ended_state c.as_slice.result.now)) (sym c.deref.ensures.value)
    (subst (λ ended. TellEach c.in_ok-infos.infos.items (map ended_state ended)) (sym c.as_slice.ensures.value) c.in_ok-infos.ensures.told)

pub count_told-requires-clause-same : goal.count_told-requires-clause-same
count_told-requires-clause-same g c κs within =
    ap length (ap₂ (λ infos ended. fates_told infos (map ended_state ended)) c.deref.ensures.value c.as_slice.ensures.value)
    ∙ c.in_ok-infos.ensures.fates.settled.one_each ∙ ap length (sym c.deref.ensures.value)

pub returns-in-Ok-clause-ok : goal.returns-in-Ok-clause-ok
returns-in-Ok-clause-ok g c =
    let before = map g.D.TxDevice.state c.args.bench.now.items in
    let after = map g.D.TxDevice.state c.send_capture.new.bench.items in
    let ended = map ended_state c.send_capture.new.ended.items in
    let fates = fates_told c.in_ok-infos.infos.items ended in
    let plan = c.args.run.now.plan.now in let same = sym c.deref.ensures.value in
    counts_done (run_of c.args.run.now.out.now plan c.args.run.now.capture.now) c.deref.result.now fates (fates_told c.deref.result.now (map ended_state c.as_slice.result.now)) (g.H.Host.state c.args.host.now)
    (g.H.Host.state c.count_told.new.host) before after (c.deref.ensures.value ∙ c.in_ok-infos.ensures.infos)
    (ap₂ (λ infos ended. fates_told infos (map ended_state ended)) c.deref.ensures.value c.as_slice.ensures.value)
    (subst (λ (infos : List Info). AreFatesOf plan infos (openings plan (packets_of_file c.args.run.now.capture.now)) fates before after) same c.in_ok-infos.ensures.fates)
    ended (subst (λ (infos : List Info). AreEnded plan infos fates ended) same c.in_ok-infos.ensures.ended) c.in-Ok.ensures.ok

pub returns-clause-err : goal.returns-clause-err
returns-clause-err g c =
    let before = map g.D.TxDevice.state c.args.bench.now.items in
    let after = map g.D.TxDevice.state c.send_capture.new.bench.items in
    let fates = fates_told c.in_ok-infos.infos.items (map ended_state c.send_capture.new.ended.items) in
    let plan = c.args.run.now.plan.now in
    counts_cut (run_of c.args.run.now.out.now plan c.args.run.now.capture.now) c.deref.result.now fates (fates_told c.deref.result.now (map ended_state c.as_slice.result.now)) (g.H.Host.state c.args.host.now)
    (g.H.Host.state c.count_told.new.host) before after (c.deref.ensures.value ∙ c.in_ok-infos.ensures.infos)
    (ap₂ (λ infos ended. fates_told infos (map ended_state ended)) c.deref.ensures.value c.as_slice.ensures.value)
    (subst (λ (infos : List Info). AreFatesOf plan infos (openings plan (packets_of_file c.args.run.now.capture.now)) fates before after) (sym c.deref.ensures.value) c.in_ok-infos.ensures.fates)
    c.in-Err.ensures.err
