use Rattle.std.proofs.Common.{rules, refl, ap}
use Rattle.lq_table.specs.Sees.{view}
use Rattle.lq_table.specs.Views.{View}
use Rattle.lq_ring.proofs.Seats.{seat_on}
use Rattle.lq_control.proofs.StepLemmas.{look_again, no_look}
use Rattle.lq_control.proofs.FinishSteps.{look_none}
use Rattle.lq_control.proofs.Looks.{looked_then}
use Rattle.lq_control.proofs.finishes.wait_until_left.Goals as goal

pub loop-init : goal.loop-init
loop-init g c = let v = view c.args.cpu.now in record {
  can = (search rules);
  ends = (search rules);
  seat = c.requires.seat;
  still = ((refl, refl), refl, refl, refl);
  look = look_none v v refl;
  makes = no_look;
}

pub returns-then-is_left-clause-makes : goal.returns-then-is_left-clause-makes
returns-then-is_left-clause-makes g c = look_again c.loop.invariant.makes c.if-is_left.ensures.makes

pub returns-then-is_left-clause-same : goal.returns-then-is_left-clause-same
returns-then-is_left-clause-same g c = let i = c.loop.invariant in looked_then c.args.cpu.now c.loop.cpu c.is_left.new.cpu (i.still, i.look) c.is_left.ensures.same

pub loop-preserved : goal.loop-preserved
loop-preserved g c =
    let i = c.loop.invariant in let a = c.args.cpu.now in let b = c.loop.cpu in let w = c.is_left.new.cpu in let s = c.is_left.ensures.same in let looked = looked_then a b w (i.still, i.look) s in record {
      can = (search rules);
      ends = (search rules);
      seat = seat_on c.args.shared.now b w i.seat s.0.0 (ap (λ (x : View). x.share) s.1.1);
      still = looked.0;
      look = looked.1;
      makes = look_again i.makes c.if-is_left.ensures.makes;
    }
