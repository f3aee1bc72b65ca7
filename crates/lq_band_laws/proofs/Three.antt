-- Something for each band, after a change at one.
use Rattle.std.proofs.Common.{◌≡◌, ◌≢◌, ℕ, zero, suc, ◌<◌, refl, arith}
use Rattle.lq_band_laws.specs.Three.{Three, at, put, all_three}

module _ {A : Type 0} where
  pub at_put_same : (b : ℕ) (x : A) (t : Three A) → at b (put b x t) ≡ x
  at_put_same zero x t = refl
  at_put_same (suc zero) x t = refl
  at_put_same (suc (suc b)) x t = refl

  pub at_put_other : (b c : ℕ) (x : A) (t : Three A) → b < 3 → c < 3 → c ≢ b → at c (put b x t) ≡ at c t
  at_put_other zero zero x t h h' n = absurd (n refl)
  at_put_other zero (suc zero) x t h h' n = refl
  at_put_other zero (suc (suc c)) x t h h' n = refl
  at_put_other (suc zero) zero x t h h' n = refl
  at_put_other (suc zero) (suc zero) x t h h' n = absurd (n refl)
  at_put_other (suc zero) (suc (suc c)) x t h h' n = refl
  at_put_other (suc (suc b)) zero x t h h' n = refl
  at_put_other (suc (suc b)) (suc zero) x t h h' n = refl
  at_put_other (suc (suc zero)) (suc (suc zero)) x t h h' n = absurd (n refl)
  at_put_other (suc (suc zero)) (suc (suc (suc c))) x t h h' n = absurd (omega arith)
  at_put_other (suc (suc (suc b))) (suc (suc c)) x t h h' n = absurd (omega arith)

  pub put_at : (b : ℕ) (t : Three A) → put b (at b t) t ≡ t
  put_at zero t = refl
  put_at (suc zero) t = refl
  put_at (suc (suc b)) t = refl

  pub at_all : (b : ℕ) (x : A) → at b (all_three x) ≡ x
  at_all zero x = refl
  at_all (suc zero) x = refl
  at_all (suc (suc b)) x = refl

-- what holds of each of the three holds of each number below 3
pub three_cases : (P : ℕ → Type 0) → P 0 → P 1 → P 2 → (b : ℕ) → b < 3 → P b
three_cases P p q r zero h = p
three_cases P p q r (suc zero) h = q
three_cases P p q r (suc (suc zero)) h = r
three_cases P p q r (suc (suc (suc b))) h = absurd (omega arith)
