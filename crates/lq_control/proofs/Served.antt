-- Soft interrupts one after another.
use Rattle.std.proofs.Common.{◌≡◌, List, [], ◌++◌, sym, ap, ◌∙◌}
use Rattle.std.proofs.lemmas.List.{append_assoc}
use Rattle.lq_table.specs.Views.{View, SharePart}
use Rattle.lq_table.specs.Sees.{IsSole}
use Rattle.lq_control.specs.Control.{IsKeptByControl, IsServed}

pub served_none : (v w : View) → w ≡ v → IsServed v w
served_none v w e = record {
  kept = record { share = ap (λ (x : View). x.share) e; turns = ap (λ (x : View). x.turns) e; first = ap (λ (x : View). x.control.first) e; told = ap (λ (x : View). x.whole.told) e };
  control = ap (λ (x : View). x.control) e;
  trail = ap (λ (x : View). x.trail) e;
  fates = ([], ap (λ (x : View). x.settled) e);
}

pub served_then : (v w x : View) → IsServed v w → IsServed w x → IsServed v x
served_then v w x a b = record {
  kept = record { share = b.kept.share ∙ a.kept.share; turns = b.kept.turns ∙ a.kept.turns; first = b.kept.first ∙ a.kept.first; told = b.kept.told ∙ a.kept.told };
  control = b.control ∙ a.control;
  trail = b.trail ∙ a.trail;
  fates = (b.fates.0 ++ a.fates.0, b.fates.1 ∙ (ap (λ (fs : List _). b.fates.0 ++ fs) a.fates.1 ∙ sym (append_assoc b.fates.0 a.fates.0 v.settled)));
}

pub sole_kept : (v w : View) → IsKeptByControl v w → IsSole v → IsSole w
sole_kept v w k sole = (ap (λ (s : SharePart). s.shares) k.share ∙ sole.0, k.told ∙ sole.1)

pub sole_served : (v w : View) → IsServed v w → IsSole v → IsSole w
sole_served v w s sole = sole_kept v w s.kept sole
