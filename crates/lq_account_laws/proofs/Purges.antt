-- A purge settles the fate of each packet that is held, and leaves nothing held.
use Rattle.std.proofs.Common.{◌≡◌, ℕ, List, [], ◌++◌, Some, Contains, refl, ap₂, arith, drop_of_length-le}
use Rattle.lq_model.specs.Account.{Account, Fates, Purge, held, held_in, after, with_fates}
use Rattle.lq_model.specs.declared.fate.Cause.{Cause}
use Rattle.lq_model.specs.declared.fate.Fate.{Fate}
use Rattle.lq_account_laws.proofs.Lists.{fates-cases}

-- the packets of the list have the fate, and the others keep theirs
pub with_fates_in : (xs : List ℕ) (n : ℕ) (f : Fate) (fates : Fates) → Contains xs n → with_fates xs f fates n ≡ Some f
with_fates_in xs n f fates is_in = fates-cases (λ fate. fate ≡ Some f) xs n f fates (λ h. refl) (λ out. absurd (out is_in))

pub with_fates_out : (xs : List ℕ) (n : ℕ) (f : Fate) (fates : Fates) → (Contains xs n → ⊥) → with_fates xs f fates n ≡ fates n
with_fates_out xs n f fates out = fates-cases (λ fate. fate ≡ fates n) xs n f fates (λ h. absurd (out h)) (λ h. refl)

pub purge_empties : (cause : Cause) (a : Account) → held (after (Purge cause) a) ≡ []
purge_empties cause a = ap₂ (λ xs ys. xs ++ ys) (none 0) (ap₂ (λ xs ys. xs ++ ys) (none 1) (none 2))
  where
    none : (band : ℕ) → held_in (after (Purge cause) a) band ≡ []
    none band = drop_of_length-le (a.bands band).line (omega arith)
