use Rattle.lq_senders.specs.Senders.{FirstDid, IsWoken}
use Rattle.lq_senders.proofs.Rounds.{FirstOpened}
use Rattle.lq_senders.proofs.course.wake_all.Given as goal

abbrev pub invariant-loop-j : goal.invariant-loop-j
invariant-loop-j g l = record {
  did : FirstDid IsWoken l.j l.fn.seats.items l.seats.items;
  was : FirstOpened l.opened l.j l.fn.seats.items l.seats.items;
}
