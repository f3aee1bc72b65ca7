use Rattle.std.proofs.Common.{◌<◌, ◌∙◌, ℕ, List, length, get_or, refl, subst, arith}
use Rattle.std.proofs.lemmas.List.{length-set, take_all}
use Rattle.lq_tap_run.specs.Marks.{AreMarked}
use Rattle.lq_tap_run.proofs.Marking.{mark_none, mark_read_on}
use Rattle.lq_tap_run.proofs.fates.mark_read.Goals as goal

pub loop-place-init : goal.loop-place-init
loop-place-init c = record { long = refl; marked = λ count fulls are. mark_none count fulls c.args.fates.now.items are }

pub loop-place-preserved : goal.loop-place-preserved
loop-place-preserved c =
    let read : List ℕ = c.args.read.now in
    let i = c.loop-place.place in
    let long = c.loop-place.invariant.long in
    let below : get_or read i 0 < length c.args.fates.now.items = c.requires.known i 0 c.loop-place-test.true in
    record {
      long = length-set c.loop-place.fates.items _ _ ∙ long;
      marked = λ count fulls are. mark_read_on count fulls read i c.loop-place.fates.items c.loop-place-test.true (omega arith) c.requires.once (c.loop-place.invariant.marked count fulls are);
    }

pub returns : goal.returns
returns c = λ count fulls are. subst (λ (xs : List ℕ). AreMarked count fulls xs c.loop-place.fates.items) (take_all c.loop-place.place c.args.read.now c.loop-place-test.false) (c.loop-place.invariant.marked count fulls are)
