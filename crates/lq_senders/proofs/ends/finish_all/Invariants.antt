use Rattle.lq_seat.specs.Ends.{Finishes}
use Rattle.lq_senders.specs.Senders.{FirstDid}
use Rattle.lq_senders.proofs.ends.finish_all.Given as goal

abbrev pub invariant-loop-j : goal.invariant-loop-j
invariant-loop-j g l = FirstDid Finishes l.j l.fn.seats.items l.seats.items
