use Rattle.std.proofs.Common.{◌≡◌, ◌++◌, ℕ, List, length, take}
use Rattle.lq_tap_run.specs.Marks.{AreMarkedFull}
use Rattle.lq_tap_run.proofs.fates.mark_full.Given as goal

abbrev pub invariant-loop-n : goal.invariant-loop-n
invariant-loop-n l = record {
  long : length l.fates.items ≡ length l.fn.fates.items;
  marked : (count : ℕ) (fulls : List (ℕ × ℕ)) → AreMarkedFull count fulls l.fn.fates.items → AreMarkedFull count (fulls ++ take l.n-index l.full) l.fates.items;
}
