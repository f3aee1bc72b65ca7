use Rattle.std.proofs.Common.{rules, true}
use Rattle.lq_model.specs.Plan.{queue_in}
use Rattle.lq_table.specs.Sees.{view, setup}
use Rattle.lq_qdisc.specs.Direct.{Directs}
use Rattle.lq_qdisc.specs.StepLists.{RunAfterBypass}
use Rattle.lq_qdisc.proofs.ListLemmas.{comes_to, then_makes}
use Rattle.lq_qdisc.proofs.RunLemmas.{directs_fates, fates_then}
use Rattle.lq_qdisc.proofs.sends.xmit_bypass.Goals as goal

pub direct_xmit-through-requires-clause-may : goal.direct_xmit-through-requires-clause-may
direct_xmit-through-requires-clause-may g c _ _ = (true, c.requires.may)

pub returns : goal.returns
returns g c =
    let infos = c.args.shared.now.infos.now in let handed = view c.direct_xmit-through.new.cpu in record {
      kept = search rules;
      fates = fates_then (view c.args.cpu.now) handed (view c.run_after_bypass.new.cpu) (directs_fates c.direct_xmit-through.result c.args.n (queue_in infos c.args.n) (view c.args.cpu.now) handed c.direct_xmit-through.ensures.came) c.run_after_bypass.ensures.fates;
      at = search rules;
      free = search rules;
      came = search rules;
      makes =
          let k = setup c.args.shared.now in let t = c.direct_xmit-through.result in let d = c.direct_xmit-through in
          let m = then_makes {two = λ s. RunAfterBypass k s t} c.args.cpu.now d.new.cpu c.run_after_bypass.new.cpu (comes_to (Directs t c.args.n (queue_in infos c.args.n)) c.args.cpu.now d.new.cpu d.ensures.makes d.ensures.came) c.run_after_bypass.ensures.makes in
          (m.0, (t, m.1), m.2);
    }
