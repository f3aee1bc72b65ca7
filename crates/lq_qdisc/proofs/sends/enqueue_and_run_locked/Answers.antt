use Rattle.std.proofs.Common.{rules, true}
use Rattle.lq_table.specs.Sees.{view, setup}
use Rattle.lq_qdisc.proofs.RunLemmas.{fates_then}
use Rattle.lq_qdisc.specs.StepLists.{PfifoFastEnqueue, RunToEnd}
use Rattle.lq_qdisc.proofs.ListLemmas.{then_makes}
use Rattle.lq_qdisc.proofs.PutLemmas.{put_comes}
use Rattle.lq_qdisc.proofs.SendLemmas.{put_fates}
use Rattle.lq_model.specs.Plan.{band_in}
use Rattle.lq_qdisc.proofs.sends.enqueue_and_run_locked.Goals as goal

pub enqueue-sending-requires-clause-may : goal.enqueue-sending-requires-clause-may
enqueue-sending-requires-clause-may g c _ _ = let m = c.requires.may in (true, record { at = m.at; brings = m.brings; packet = m.packet; holds = search rules })

pub run_to_end-requires-clause-seat : goal.run_to_end-requires-clause-seat
run_to_end-requires-clause-seat g c _ _ =
    let came_ = put_comes (setup c.args.shared.now) c.args.n c.enqueue-sending.result c.args.cpu.now c.enqueue-sending.new.cpu (_, true, c.requires.may.at, (c.requires.may.brings.2, c.requires.may.holds.serving.2)) c.enqueue-sending.ensures.makes in
    search rules

pub run_to_end-requires-clause-at : goal.run_to_end-requires-clause-at
run_to_end-requires-clause-at g c _ _ =
    let came_ = put_comes (setup c.args.shared.now) c.args.n c.enqueue-sending.result c.args.cpu.now c.enqueue-sending.new.cpu (_, true, c.requires.may.at, (c.requires.may.brings.2, c.requires.may.holds.serving.2)) c.enqueue-sending.ensures.makes in
    search rules

pub run_to_end-requires-clause-serves : goal.run_to_end-requires-clause-serves
run_to_end-requires-clause-serves g c _ _ =
    let came_ = put_comes (setup c.args.shared.now) c.args.n c.enqueue-sending.result c.args.cpu.now c.enqueue-sending.new.cpu (_, true, c.requires.may.at, (c.requires.may.brings.2, c.requires.may.holds.serving.2)) c.enqueue-sending.ensures.makes in
    search rules

pub run_to_end-requires-clause-begun : goal.run_to_end-requires-clause-begun
run_to_end-requires-clause-begun g c _ _ =
    let came_ = put_comes (setup c.args.shared.now) c.args.n c.enqueue-sending.result c.args.cpu.now c.enqueue-sending.new.cpu (_, true, c.requires.may.at, (c.requires.may.brings.2, c.requires.may.holds.serving.2)) c.enqueue-sending.ensures.makes in
    search rules

pub returns : goal.returns
returns g c =
    let put = view c.enqueue-sending.new.cpu in
    let came_ = put_comes (setup c.args.shared.now) c.args.n c.enqueue-sending.result c.args.cpu.now c.enqueue-sending.new.cpu (_, true, c.requires.may.at, (c.requires.may.brings.2, c.requires.may.holds.serving.2)) c.enqueue-sending.ensures.makes in record {
      kept = search rules;
      fates = fates_then (view c.args.cpu.now) put (view c.run_to_end.new.cpu) (put_fates c.args.n (band_in c.args.shared.now.infos.now c.args.n) c.enqueue-sending.result (view c.args.cpu.now) put came_) c.run_to_end.ensures.fates;
      at = search rules;
      free = search rules;
      came = search rules;
      makes =
          let k = setup c.args.shared.now in let e = c.enqueue-sending in
          then_makes {one = λ s. PfifoFastEnqueue k c.args.n e.result} {two = RunToEnd k} c.args.cpu.now e.new.cpu c.run_to_end.new.cpu e.ensures.makes c.run_to_end.ensures.makes;
    }
