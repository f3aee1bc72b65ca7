use Rattle.std.proofs.Common.{rules, ◌≡◌, ℕ, [], length, refl, sym, ap, ◌∙◌, subst, arith}
use Rattle.lq_table.specs.Views.{View}
use Rattle.lq_table.specs.Sees.{view, setup}
use Rattle.lq_ring.proofs.Seats.{seat_on}
use Rattle.lq_ring.specs.StepLists.{MakesStepsFrom}
use Rattle.lq_ring.proofs.StepsThen.{makes_none}
use Rattle.lq_control.specs.EndSteps.{SendLeftBelow}
use Rattle.lq_control.specs.Finish.{AreAllDone, AreTurnsFrom, IsSent}
use Rattle.lq_control.proofs.StepLemmas.{coming}
use Rattle.lq_control.proofs.EndStepLemmas.{sends_more}
use Rattle.lq_control.proofs.FinishLemmas.{all_done, sent_same, sent_then}
use Rattle.lq_control.proofs.finishes.send_all_left.Goals as goal

pub loop-n-init : goal.loop-n-init
loop-n-init g c = let k = setup c.args.shared.now in let v = view c.args.cpu.now in record {
  seat = c.requires.seat;
  at = c.requires.may.at.0;
  ready = c.requires.may.at.1;
  low = c.requires.may.raised;
  kept = record { seat = (refl, refl); share = refl; control = refl; told = refl };
  turns = c.requires.may.turns;
  sent = sent_same k v v refl;
  done = λ _. refl;
  sends = ([], refl, makes_none c.args.cpu.now);
}

pub loop-n-preserved : goal.loop-n-preserved
loop-n-preserved g c =
    let i = c.loop-n.invariant in let s = c.send_left.ensures in let k = setup c.args.shared.now in record {
      seat = seat_on c.args.shared.now c.loop-n.cpu c.send_left.new.cpu i.seat s.kept.seat s.kept.share;
      kept = record {
        seat = (s.kept.seat.0 ∙ i.kept.seat.0, s.kept.seat.1 ∙ i.kept.seat.1);
        share = s.kept.share ∙ i.kept.share;
        control = s.kept.control ∙ i.kept.control;
        told = s.kept.told ∙ i.kept.told;
      };
      at = s.at.0;
      ready = s.at.1;
      low = s.raised;
      turns = s.turns;
      sent = sent_then k (view c.args.cpu.now) (view c.loop-n.cpu) (view c.send_left.new.cpu) i.sent s.sent;
      sends = sends_more k c.loop-n.n i.sends s.makes;
      done = λ all. s.done (subst (λ (x : View). AreAllDone k x.turns) (sym (i.done all)) all) ∙ i.done all;
    }

pub returns : goal.returns
returns g c = record {
  kept = search rules;
  at = search rules;
  raised = search rules;
  makes =
      let i = c.loop-n.invariant in let k = setup c.args.shared.now in let all : c.loop-n.n ≡ length k.infos = (let test = c.loop-n-test.false in let top = c.loop-n.auto.n-end in let here : c.loop-n.n ≡ length c.infos-n-end.result.now = omega arith in here) ∙ ap length c.infos-n-end.ensures in
      coming (λ v w. IsSent k v w × AreAllDone k w.turns × (AreAllDone k v.turns → w ≡ v)) (SendLeftBelow k (length k.infos))
      (subst (λ (n : ℕ). MakesStepsFrom (SendLeftBelow k n) c.args.cpu.now c.loop-n.cpu) all i.sends)
      (i.sent, all_done k (view c.loop-n.cpu).turns (subst (λ (n : ℕ). AreTurnsFrom k n (view c.loop-n.cpu).turns) all i.turns), i.done);
}
