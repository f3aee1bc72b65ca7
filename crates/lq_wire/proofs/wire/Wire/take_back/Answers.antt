use Rattle.lq_wire.proofs.Left.{ended-drop}
use Rattle.lq_wire.proofs.wire.Wire.take_back.Goals as goal

pub invariant_of-self-clause-ended : goal.invariant_of-self-clause-ended
invariant_of-self-clause-ended c = ended-drop c.args.self.now.free c.pop_front.result c.args.self.now.ring.items c.pop_front.new.self.items c.pop_front.ensures.items c.args.self.now.ended
