use Rattle.std.proofs.Common.{rules, ◌≡◌, ℕ, suc, ◌∙◌}
use Rattle.lq_tap.specs.Sees.{steps}
use Rattle.lq_tap.specs.Made.{◌⊳◌, did_take_consumer}
use Rattle.lq_tap.specs.Steps.{consumer_tries}
use Rattle.lq_tap.proofs.shared.Tap.lock_consumer.Goals as goal

pub loop-preserved : goal.loop-preserved
loop-preserved g c =
    let before = c.loop.invariant.tries in
    let tries : (n : ℕ) × (steps c.take_consumer.new.seat ≡ consumer_tries n (steps c.args.seat.now)) = (suc before.0, c.take_consumer.ensures.steps ∙ (λ j. before.1 j ⊳ did_take_consumer (c.if-take_consumer.false j))) in search rules
