use Rattle.std.proofs.Common.{nat_le}
use Rattle.lq_wire.proofs.Changes.{HaveDone}
use Rattle.lq_wire.proofs.wired.Wired.change_after.Given as goal

abbrev pub invariant-loop-e : goal.invariant-loop-e
invariant-loop-e g l = HaveDone l.plan (g.F.Frames.packets l.frames) (nat_le l.count) l.now l.e l.fn.self l.self
