use Rattle.std.proofs.Common.{◌≡◌, ◌+◌, ◌-◌, arith, ◌∙◌}
use Rattle.lq_tap.specs.Sees.{steps}
use Rattle.lq_tap.specs.Made.{◌⊳◌, did_load_slot, did_give_producer}
use Rattle.lq_tap.proofs.puts.put.Goals as goal

pub returns-then-found-ne0-clause-steps : goal.returns-then-found-ne0-clause-steps
returns-then-found-ne0-clause-steps g c =
    let i = c.lock_producer-index.result in let locked = c.lock_producer-index.new.seat in let found = c.producer_slot-found.result in let some_ = c.if-found-ne0.true in
    let back : found ≡ found - 1 + 1 = omega arith in (
      i,
      steps locked,
      c.lock_producer-index.ensures.steps,
      c.give_producer.ensures.steps_are ∙ (λ j. (c.producer_slot-found.ensures.full some_).0.steps_are j ⊳ did_give_producer i) ∙ (λ j. steps locked ⊳ did_load_slot i (back j) ⊳ did_give_producer i),
    )
