use Rattle.std.proofs.Common.{rules, ◌≡◌, ◌+◌, ◌-◌, refl, ap, ◌∙◌, arith}
use Rattle.lq_table.specs.Views.{View, Setup}
use Rattle.lq_table.specs.Controls.{shut_after, open_xoff_view}
use Rattle.lq_table.specs.Sees.{view, solo}
use Rattle.lq_control.proofs.StepLemmas.{opened_more}
use Rattle.lq_ring.proofs.StepsThen.{makes_none}
use Rattle.lq_ring.proofs.Seats.{seat_on}
use Rattle.lq_control.specs.Control.{all_opened}
use Rattle.lq_control.proofs.swaps.open_queues.Goals as goal

pub loop-queue-init : goal.loop-queue-init
loop-queue-init g c = let v = view c.args.cpu.now in record {
  seat = c.requires.seat;
  same = ((refl, refl), refl, refl, refl);
  opened = (v.whole, (λ j. record v { holder = record v.holder { shut = c.requires.shut j } }), refl);
  step = refl;
  from = omega arith;
  makes = makes_none c.args.cpu.now;
}

pub loop-queue-preserved : goal.loop-queue-preserved
loop-queue-preserved g c =
    let v = view c.args.cpu.now in let i = c.loop-queue.invariant in let n = c.loop-queue.queue in let queues = c.args.shared.now.queues in let s = c.open_xoff.ensures.makes.seat in
    let y : View = open_xoff_view n (all_opened (shut_after (n - 1) queues) i.opened.0 v) in let at : v.share.about.queues ≡ queues = ap (λ (k : Setup). k.queues) c.requires.seat.2 in
    let is = c.open_xoff.ensures.makes.knows ∙ ap (open_xoff_view n) i.opened.1 in record {
      seat = seat_on c.args.shared.now c.args.cpu.now c.open_xoff.new.cpu c.requires.seat (s.0 ∙ i.same.0.0, s.1 ∙ i.same.0.1) (ap (λ (x : View). x.share) is);
      same = (search rules);
      opened = (y.whole, is ∙ (λ j. all_opened (shut_after ((let q : n ≡ n + 1 - 1 = omega arith in q) j) (at j)) y.whole v), i.opened.2);
      step = ap solo c.open_xoff.ensures.makes.knows ∙ i.step;
      from = (let from = i.from in omega arith);
      makes = opened_more n i.from i.makes c.open_xoff.ensures.makes;
    }
