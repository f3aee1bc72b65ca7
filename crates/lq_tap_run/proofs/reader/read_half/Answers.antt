use Rattle.std.proofs.Common.{◌≡◌, ◌≤◌, ◌-◌, ◌/◌, ◌∙◌, ◌++◌, List, ℕ, length, take, drop, length-take, subst, arith}
use Rattle.lq_tap.specs.Sees.{steps, view}
use Rattle.lq_tap.specs.Steps.{GivesBack}
use Rattle.lq_tap.specs.Told.{having_given_back}
use Rattle.lq_tap_run.proofs.Reading.{few_on, in_two, rest_of, taken_on}
use Rattle.lq_tap_run.proofs.reader.read_half.Goals as goal

pub give_back-lost-requires-clause-batch : goal.give_back-lost-requires-clause-batch
give_back-lost-requires-clause-batch g c =
    let batch : List ℕ = c.args.batch.now in
    let half = length batch - length batch / 2 in
    (take half batch, c.requires.taken.1 ∙ in_two batch half (omega arith))

pub returns-clause-read : goal.returns-clause-read
returns-clause-read g c =
    let batch : List ℕ = c.args.batch.now in
    let half = length batch - length batch / 2 in
    let mine : List ℕ = take half batch in
    let given : List ℕ = take (length batch - half) (drop half batch) in
    let parts : batch ≡ mine ++ given = in_two batch half (omega arith) in
    let less : length given ≤ length mine = omega (arith, length-take half batch, length-take (length batch - half) (drop half batch)) in
    let old = view c.args.seat.now in
    let new = view c.give_back-lost.new.seat in
    let read : List ℕ = c.args.read.now.items in
    let now : List ℕ = c.read_these.new.read.items in
    let lost = c.give_back-lost.result in
    record {
      reader = c.give_back-lost.ensures.seat;
      taken = taken_on old new read batch mine given now lost c.requires.taken.0 parts c.give_back-lost.ensures.view c.read_these.ensures.read;
      few = few_on old new read batch mine given now lost c.requires.taken.0 parts c.give_back-lost.ensures.view c.read_these.ensures.read c.requires.few less;
    }

pub returns-clause-gives : goal.returns-clause-gives
returns-clause-gives g c =
    let batch : List ℕ = c.args.batch.now in
    let old = c.args.seat.now in
    let new = c.give_back-lost.new.seat in
    let len = c.args.tap.now.len in
    let lost = c.give_back-lost.result in
    let same = rest_of batch (length batch - length batch / 2) in (
      lost,
      subst (λ (xs : List ℕ). view new ≡ having_given_back xs lost (view old)) same c.give_back-lost.ensures.view,
      subst (λ (xs : List ℕ). GivesBack len (view old).reader.ends (drop lost xs) lost (steps old) (steps new)) same c.give_back-lost.ensures.steps,
    )
