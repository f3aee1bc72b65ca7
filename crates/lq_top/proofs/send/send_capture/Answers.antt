use Rattle.std.proofs.Common.{◌∙◌, List, map, subst, sym}
use Rattle.lq_model.specs.Openings.{openings}
use Rattle.lq_model.specs.declared.fate.Info.{Info}
use Rattle.lq_pcapng.specs.File.{packets_of_file}
use Rattle.lq_senders.specs.Fates.{AreEnded, AreFatesOf}
use Rattle.lq_senders.specs.Told.{TellEach, fates_told}
use Rattle.lq_senders.specs.Woken.{OpensAre}
use Rattle.lq_table.specs.Ended.{ended_state}
use Rattle.lq_top.proofs.OpeningLemmas.{know-openings, opens-are}
use Rattle.lq_top.proofs.send.send_capture.Given as given
use Rattle.lq_top.proofs.send.send_capture.Goals as goal
use Rattle.lq_top.proofs.send.send_capture.Goals.{After-send_all}

pub send_all-requires-clause-known : goal.send_all-requires-clause-known
send_all-requires-clause-known g c κs within =
    know-openings c.args.run.now.plan.now (packets_of_file c.args.run.now.capture.now) c.deref-2.result.now c.in_ok-openings.openings
    (c.deref-2.ensures.value ∙ c.in_ok-infos.ensures.infos) c.in_ok-openings.ensures

-- how often queues are opened is found as the plan says it
found : (g : given.Over) (c : After-send_all g)
    → OpensAre c.in_ok-openings.openings c.deref-2.result.now (openings c.args.run.now.plan.now (packets_of_file c.args.run.now.capture.now))
found g c =
    opens-are c.args.run.now.plan.now (packets_of_file c.args.run.now.capture.now) c.deref-2.result.now c.in_ok-openings.openings
    (c.deref-2.ensures.value ∙ c.in_ok-infos.ensures.infos) c.in_ok-openings.ensures

pub returns-clause-fates : goal.returns-clause-fates
returns-clause-fates g c =
    let plan = c.args.run.now.plan.now in let opens = openings plan (packets_of_file c.args.run.now.capture.now) in
    subst (λ (infos : List Info). AreFatesOf plan infos opens (fates_told infos (map ended_state c.send_all.new.ended.items))
    (map g.D.TxDevice.state c.args.bench.now.items) (map g.D.TxDevice.state c.send_all.new.bench.items)) c.deref-2.ensures.value
    (c.in_ok-send_all.ensures.fates opens (found g (goal.at.returns-clause-fates g c).After-send_all))

pub returns-clause-ended : goal.returns-clause-ended
returns-clause-ended g c =
    subst (λ (infos : List Info). AreEnded c.args.run.now.plan.now infos (fates_told infos (map ended_state c.send_all.new.ended.items)) (map ended_state c.send_all.new.ended.items))
    c.deref-2.ensures.value c.in_ok-send_all.ensures.ended

pub returns-clause-told : goal.returns-clause-told
returns-clause-told g c = subst (λ (infos : List Info). TellEach infos (map ended_state c.send_all.new.ended.items)) c.deref-2.ensures.value c.in_ok-send_all.ensures.told
