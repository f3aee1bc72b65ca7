use Rattle.lq_senders.specs.Senders.{DoesEventAt, FirstDid}
use Rattle.lq_senders.proofs.swaps.do_next_event.Given as goal

abbrev pub invariant-loop-j : goal.invariant-loop-j
invariant-loop-j g l = FirstDid (DoesEventAt l.e l.event) l.j l.fn.seats.items l.seats.items
