use Rattle.std.proofs.Common.{rules, true, false, [], refl, ◌∙◌}
use Rattle.lq_table.specs.Sees.{view, setup, solo}
use Rattle.lq_ring.proofs.Seats.{seat_on}
use Rattle.lq_control.specs.Steps.{NotClear}
use Rattle.lq_ring.proofs.StepsThen.{makes_none}
use Rattle.lq_control.proofs.StepLemmas.{clear_more}
use Rattle.lq_control.proofs.Alone.{down_kept, marks_clear}
use Rattle.lq_control.proofs.Served.{served_none, served_then, sole_served}
use Rattle.lq_control.proofs.drains.wait_until_clear.Goals as goal

pub loop-init : goal.loop-init
loop-init g c = record {
  can = (search rules);
  ends = (search rules);
  seat = c.requires.seat;
  same = (refl, refl);
  at = c.requires.at.0;
  ready = c.requires.at.2;
  served = served_none (view c.args.cpu.now) (view c.args.cpu.now) refl;
  off = λ _ _. refl;
  waits = ([], NotClear, makes_none c.args.cpu.now);
}

pub loop-preserved : goal.loop-preserved
loop-preserved g c =
    let i = c.loop.invariant in let step = c.serve_or_look.ensures in record {
      can = (search rules);
      ends = (search rules);
      seat = seat_on c.args.shared.now c.loop.cpu c.serve_or_look.new.cpu i.seat step.same step.served.kept.share;
      same = (step.same.0 ∙ i.same.0, step.same.1 ∙ i.same.1);
      at = step.at.0;
      ready = step.at.1;
      served = served_then (view c.args.cpu.now) (view c.loop.cpu) (view c.serve_or_look.new.cpu) i.served step.served;
      off = λ sole down. let before = i.off sole down in
          step.off (sole_served (view c.args.cpu.now) (view c.loop.cpu) i.served sole) (down_kept (setup c.args.shared.now) (view c.args.cpu.now) (view c.loop.cpu) c.requires.seat.2 i.seat.2 before down) ∙ before;
      waits = clear_more (setup c.args.shared.now) false c.serve_or_look.result c.if-serve_or_look.false i.waits step.makes;
    }

pub returns-then-serve_or_look : goal.returns-then-serve_or_look
returns-then-serve_or_look g c = record {
  same = search rules;
  served = served_then (view c.args.cpu.now) (view c.loop.cpu) (view c.serve_or_look.new.cpu) c.loop.invariant.served c.serve_or_look.ensures.served;
  at = search rules;
  makes = clear_more (setup c.args.shared.now) true c.serve_or_look.result c.if-serve_or_look.true c.loop.invariant.waits c.serve_or_look.ensures.makes;
  alone = λ sole down.
      let i = c.loop.invariant in let step = c.serve_or_look.ensures in let before = i.off sole down in
      let sole_now = sole_served (view c.args.cpu.now) (view c.loop.cpu) i.served sole in
      let same = step.off sole_now (down_kept (setup c.args.shared.now) (view c.args.cpu.now) (view c.loop.cpu) c.requires.seat.2 i.seat.2 before down) ∙ before in
      let clear = step.clear c.if-serve_or_look.true in
      marks_clear (solo (view c.serve_or_look.new.cpu)) (solo (view c.args.cpu.now)) same clear.0 (clear.1 (sole_served (view c.loop.cpu) (view c.serve_or_look.new.cpu) step.served sole_now));
}
