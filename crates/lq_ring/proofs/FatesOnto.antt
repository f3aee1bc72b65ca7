-- The fates of packets that are stored one after another.
use Rattle.std.proofs.Common.{◌≡◌, ℕ, List, [], ◌∷◌, ◌++◌, refl}
use Rattle.lq_model.specs.declared.fate.Fate.{Fate}
use Rattle.lq_ring.specs.Fates.{fates_onto}

pub fates_append : (f : Fate) (ms ns : List ℕ) (fates : List (ℕ × Fate)) → fates_onto f ns (fates_onto f ms fates) ≡ fates_onto f (ms ++ ns) fates
fates_append f [] ns fates = refl
fates_append f (m ∷ ms) ns fates = fates_append f ms ns ((m, f) ∷ fates)
