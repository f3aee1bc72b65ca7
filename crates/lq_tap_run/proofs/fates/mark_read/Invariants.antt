use Rattle.std.proofs.Common.{◌≡◌, ℕ, List, length, take}
use Rattle.lq_tap_run.specs.Marks.{AreMarked, AreMarkedFull}
use Rattle.lq_tap_run.proofs.fates.mark_read.Given as goal

abbrev pub invariant-loop-place : goal.invariant-loop-place
invariant-loop-place l = record {
  long : length l.fates.items ≡ length l.fn.fates.items;
  marked : (count : ℕ) (fulls : List (ℕ × ℕ)) → AreMarkedFull count fulls l.fn.fates.items → AreMarked count fulls (take l.place l.read) l.fates.items;
}
