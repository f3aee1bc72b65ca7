use Rattle.std.proofs.Common.{sym, ◌∙◌}
use Rattle.lq_wire.proofs.Left.{left-stops}
use Rattle.lq_wire.proofs.wire.Wire.reclaim.Goals as goal

pub returns-then-not-has_left-clause-ring : goal.returns-then-not-has_left-clause-ring
returns-then-not-has_left-clause-ring c = sym (c.loop-turn.invariant.left ∙ left-stops c.args.now c.loop-turn.self.ring.items (sym c.has_left.ensures ∙ c.if-not-has_left.true))
