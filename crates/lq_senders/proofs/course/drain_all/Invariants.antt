use Rattle.lq_seat.specs.Calls.{Drains}
use Rattle.lq_senders.specs.Senders.{FirstDid}
use Rattle.lq_senders.proofs.course.drain_all.Given as goal

abbrev pub invariant-loop-j : goal.invariant-loop-j
invariant-loop-j g l = FirstDid Drains l.j l.fn.seats.items l.seats.items
