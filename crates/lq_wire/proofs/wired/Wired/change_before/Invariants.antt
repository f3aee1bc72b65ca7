use Rattle.std.proofs.Common.{◌==◌}
use Rattle.lq_wire.proofs.Changes.{HaveDone}
use Rattle.lq_wire.proofs.wired.Wired.change_before.Given as goal

abbrev pub invariant-loop-e : goal.invariant-loop-e
invariant-loop-e g l = HaveDone l.plan (g.F.Frames.packets l.frames) (λ before. before == l.n) l.now l.e l.fn.self l.self
