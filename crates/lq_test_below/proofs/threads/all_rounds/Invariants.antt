use Rattle.std.proofs.Common.{length}
use Rattle.lq_model.specs.declared.machine.Phase.TheVariants.{Active}
use Rattle.lq_test_below.specs.Seats.{IsFirst, units_from_first}
use Rattle.lq_test_below.proofs.threads.all_rounds.Given as goal

abbrev pub invariant-loop-event : goal.invariant-loop-event
invariant-loop-event g l = IsFirst Active (units_from_first (length l.control.back.items)) l.shared l.control.cpu
