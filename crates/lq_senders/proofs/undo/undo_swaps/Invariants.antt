use Rattle.std.proofs.Common.{◌≡◌, ◌≤◌, length, map}
use Rattle.lq_senders.specs.Units.{undone}
use Rattle.lq_senders.proofs.undo.undo_swaps.Given as goal

abbrev pub invariant-loop-e : goal.invariant-loop-e
invariant-loop-e g l =
    let states = map g.D.TxDevice.state in record {
      within : l.e ≤ length l.plan.events;
      homes : length l.homes.items ≡ length l.fn.homes.items;
      spares : length l.spares.items ≡ length l.fn.spares.items;
      left : undone l.plan l.e (states l.homes.items, states l.spares.items) ≡ undone l.plan (length l.plan.events) (states l.fn.homes.items, states l.fn.spares.items);
    }

abbrev pub decreases-loop-e : goal.decreases-loop-e
decreases-loop-e g l = l.e
