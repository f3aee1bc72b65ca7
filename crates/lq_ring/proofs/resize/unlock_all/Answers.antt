use Rattle.lq_ring.proofs.StepsThen.{makes_then}
use Rattle.lq_ring.proofs.resize.unlock_all.Goals as goal

pub returns : goal.returns
returns g c = (c.load_size.result, makes_then c.load_size.ensures.makes (makes_then c.give_producer.ensures.makes (makes_then c.give_producer-2.ensures.makes c.give_producer-3.ensures.makes)))
