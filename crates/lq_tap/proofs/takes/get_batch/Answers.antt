use Rattle.std.proofs.Common.{◌≡◌, ℕ, List, [], ◌∷◌, length, take, sym, ap, ◌∙◌, subst}
use Rattle.lq_band_laws.specs.Ring.{Ends}
use Rattle.lq_tap.specs.Made.{Made, ◌⊳◌, did_give_consumer}
use Rattle.lq_tap.specs.Told.{rest_at}
use Rattle.lq_tap.specs.Steps.{TakesAll}
use Rattle.lq_tap.specs.Rule.{consumer_of}
use Rattle.lq_tap.specs.Sees.{view, steps, slot}
use Rattle.lq_tap.specs.declared.view.Consumer.{Consumer}
use Rattle.lq_tap.proofs.BatchSteps.{slot_first, rest_of}
use Rattle.lq_tap.proofs.takes.get_batch.Goals as goal

pub returns-clause-steps : goal.returns-clause-steps
returns-clause-steps g c =
    let len = c.args.tap.now.len in let e : Ends = (view c.args.seat.now).reader.ends in let first : Consumer = c.exchange_ends-first.result in let locked = c.lock_consumer.ensures.locked in let taken = c.take_all-taken.ensures in
    let in_slot : slot c.lock_consumer.new.seat ≡ (0, consumer_of e) ∷ [] = locked.1 ∙ ap (λ (xs : List (ℕ × Consumer)). (0, consumer_of e) ∷ xs) c.requires.seat.4 in
    let ends_are : rest_at first ≡ e = rest_of len e first locked.2 (slot_first (consumer_of e) first (sym in_slot ∙ c.exchange_ends-first.ensures.ends.0)) in (
      steps c.lock_consumer.new.seat,
      steps c.take_all-taken.new.seat,
      c.lock_consumer.ensures.steps,
      subst (λ (z : Ends × List Made). TakesAll len z.0 (take c.take_all-taken.result.0 c.take_all-taken.new.out) (length c.args.out.now) z.1 (steps c.take_all-taken.new.seat)) (λ j. (ends_are j, c.exchange_ends-first.ensures.same.2 j)) taken.steps,
      c.give_consumer.ensures.steps ∙ ap (λ (xs : List Made). xs ⊳ did_give_consumer) c.exchange_ends.ensures.same.2,
    )
