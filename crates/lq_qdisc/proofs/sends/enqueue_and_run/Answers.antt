use Rattle.std.proofs.Common.{rules, false, refl}
use Rattle.lq_model.specs.declared.machine.Attempt.TheVariants.{Queued}
use Rattle.lq_table.specs.Sees.{packet_at, view, setup}
use Rattle.lq_qdisc.proofs.RunLemmas.{fates_then}
use Rattle.lq_qdisc.specs.StepLists.{PfifoFastEnqueue, QdiscRun}
use Rattle.lq_qdisc.proofs.ListLemmas.{then_makes}
use Rattle.lq_qdisc.proofs.PutLemmas.{put_comes}
use Rattle.lq_qdisc.proofs.SendLemmas.{put_fates}
use Rattle.lq_model.specs.Plan.{band_in}
use Rattle.lq_qdisc.proofs.sends.enqueue_and_run.Goals as goal

pub enqueue-sending-requires-clause-may : goal.enqueue-sending-requires-clause-may
enqueue-sending-requires-clause-may g c _ _ = let m = c.requires.may in (false, record { at = m.at; brings = m.brings; packet = m.packet; holds = let f = c.requires.may.holds in (f.1, f.2) })

pub qdisc_run-requires-clause-seat : goal.qdisc_run-requires-clause-seat
qdisc_run-requires-clause-seat g c _ _ =
    let came_ = put_comes (setup c.args.shared.now) c.args.n c.enqueue-sending.result c.args.cpu.now c.enqueue-sending.new.cpu (_, false, c.requires.may.at, (c.requires.may.brings.2, (let f = c.requires.may.holds in f.1))) c.enqueue-sending.ensures.makes in
    search rules

pub qdisc_run-requires-clause-at : goal.qdisc_run-requires-clause-at
qdisc_run-requires-clause-at g c _ _ = (Queued (packet_at c.args.shared.now c.args.n), c.enqueue-sending.ensures.at false c.requires.may.at, refl)

pub qdisc_run-requires-clause-free : goal.qdisc_run-requires-clause-free
qdisc_run-requires-clause-free g c _ _ =
    let came_ = put_comes (setup c.args.shared.now) c.args.n c.enqueue-sending.result c.args.cpu.now c.enqueue-sending.new.cpu (_, false, c.requires.may.at, (c.requires.may.brings.2, (let f = c.requires.may.holds in f.1))) c.enqueue-sending.ensures.makes in
    search rules

pub returns : goal.returns
returns g c =
    let put = view c.enqueue-sending.new.cpu in
    let came_ = put_comes (setup c.args.shared.now) c.args.n c.enqueue-sending.result c.args.cpu.now c.enqueue-sending.new.cpu (_, false, c.requires.may.at, (c.requires.may.brings.2, (let f = c.requires.may.holds in f.1))) c.enqueue-sending.ensures.makes in record {
      kept = search rules;
      fates = fates_then (view c.args.cpu.now) put (view c.qdisc_run.new.cpu) (put_fates c.args.n (band_in c.args.shared.now.infos.now c.args.n) c.enqueue-sending.result (view c.args.cpu.now) put came_) c.qdisc_run.ensures.fates;
      at = search rules;
      free = search rules;
      came = search rules;
      makes =
          let k = setup c.args.shared.now in let e = c.enqueue-sending in
          then_makes {one = λ s. PfifoFastEnqueue k c.args.n e.result} {two = QdiscRun k} c.args.cpu.now e.new.cpu c.qdisc_run.new.cpu e.ensures.makes c.qdisc_run.ensures.makes;
    }
