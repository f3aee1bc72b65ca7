-- The fates that a call stores one after another.
use Rattle.std.specs.Prelude.{ℕ, List, [], ◌∷◌}
use Rattle.lq_model.specs.declared.fate.Fate.{Fate}

-- this fate of each of the packets, the latest stored first, before those that were stored before
abbrev pub fates_onto : Fate → List ℕ → List (ℕ × Fate) → List (ℕ × Fate)
fates_onto f [] fates = fates
fates_onto f (n ∷ ns) fates = fates_onto f ns ((n, f) ∷ fates)
