use Rattle.std.proofs.Common.{arith}
use Rattle.std.proofs.lemmas.Nat.{mod_below}
use Rattle.lq_plan.proofs.packets.unranked.Goals as goal

pub overflow_add-station : goal.overflow_add-station
overflow_add-station g c = let below = mod_below c.numbers_of-numbers.result.source c.mq.result c.mq.ensures.some in omega (arith, below, c.first.ensures.few, c.mq.ensures.mq)

pub returns-clause-few_stations : goal.returns-clause-few_stations
returns-clause-few_stations g c = let below = mod_below c.numbers_of-numbers.result.source c.mq.result c.mq.ensures.some in omega (arith, below, c.first.ensures.few, c.mq.ensures.mq)
