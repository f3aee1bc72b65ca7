use Rattle.std.proofs.Common.{◌<◌, ◌∙◌, ◌++◌, ℕ, List, length, get_or, subst, arith}
use Rattle.std.proofs.lemmas.List.{length-set, take_all}
use Rattle.lq_tap_run.specs.Marks.{AreMarkedFull}
use Rattle.lq_tap_run.proofs.Marking.{mark_full_on, number_below}
use Rattle.lq_tap_run.proofs.fates.mark_full.Goals as goal

pub index_mut-requires : goal.index_mut-requires
index_mut-requires c =
    let below : (get_or c.args.full.now c.loop-n.n-index (0, 0)).0 < length c.args.fates.now.items = number_below c.args.full.now c.loop-n.n-index (length c.args.fates.now.items) c.loop-n-test.true c.requires.known in
    let long = c.loop-n.invariant.long in let ok = c.loop-n.fates.ok.0 in
    omega arith

pub loop-n-preserved : goal.loop-n-preserved
loop-n-preserved c =
    let full = c.args.full.now in
    let i = c.loop-n.n-index in
    let long = c.loop-n.invariant.long in
    let below : (get_or full i (0, 0)).0 < length c.args.fates.now.items = number_below full i (length c.args.fates.now.items) c.loop-n-test.true c.requires.known in
    record {
      long = length-set c.loop-n.fates.items _ _ ∙ long;
      marked = λ count fulls are. mark_full_on count fulls full i c.loop-n.fates.items c.loop-n-test.true (omega arith) (c.loop-n.invariant.marked count fulls are);
    }

pub returns : goal.returns
returns c = λ count fulls are. subst (λ (fs : List (ℕ × ℕ)). AreMarkedFull count (fulls ++ fs) c.loop-n.fates.items) (take_all c.loop-n.n-index c.args.full.now c.loop-n-test.false) (c.loop-n.invariant.marked count fulls are)
