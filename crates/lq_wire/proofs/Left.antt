-- What is taken back from a driver's ring.
use Rattle.std.proofs.Common.{◌≡◌, ◌≤◌, All, Option, None, Some, ◌++◌, subst, ℕ, false, List, [], ◌∷◌, refl}
use Rattle.std.proofs.lemmas.Bool.{cond-false}
use Rattle.std.proofs.lemmas.List.Elements.{All-drop}
use Rattle.std.specs.Prelude.{nat_le, option_to_list}
use Rattle.lq_model.specs.Wire.{left_at}
use Rattle.lq_model.specs.declared.flight.Flight.{Flight}
use Rattle.lq_wire.specs.Wire.{first_has_left}

pub left-stops : (now : ℕ) (ring : List Flight) → first_has_left now ring ≡ false → left_at now ring ≡ ring
left-stops now [] e = refl
left-stops now (f ∷ ring) e = cond-false (nat_le f.ends now) _ _ e

-- all frames but the first end as early
pub ended-drop : (free : ℕ) (first : Option Flight) (ring left : List Flight) → ring ≡ option_to_list first ++ left → All (λ flight. flight.ends ≤ free) ring → All (λ flight. flight.ends ≤ free) left
ended-drop free None ring left is all = subst (All (λ (flight : Flight). flight.ends ≤ free)) is all
ended-drop free (Some f) ring left is all = All-drop (λ (flight : Flight). flight.ends ≤ free) 1 (f ∷ left) (subst (All (λ (flight : Flight). flight.ends ≤ free)) is all)
