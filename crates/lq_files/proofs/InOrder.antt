-- The first packet whose time goes back.
use Rattle.std.proofs.Common.{◌≡◌, ℕ, zero, suc, ◌+◌, ◌-◌, ◌==◌, ◌&&◌, List, [], ◌∷◌, ◌++◌, Option, None, Some, Bool, true, false, refl, sym, ap, ap₂, ◌∙◌, slice_get, arith}
use Rattle.std.specs.Prelude.{if◌then◌else◌, nat_lt}
use Rattle.std.proofs.lemmas.Bool.{cond-false, ne_eqb}
use Rattle.std.specs.List.{filter}
use Rattle.std.specs.Option.{option_or}
use Rattle.std.proofs.lemmas.List.Elements.{filter-append}
use Rattle.lq_model.specs.Capture.{Packets, goes_back}
use Rattle.lq_model.specs.Numbers.{first_numbers}

-- the first one of a list, or else of the one behind it
first-of-both : (xs ys : List ℕ) → slice_get (xs ++ ys) 0 ≡ option_or (slice_get xs 0) (slice_get ys 0)
first-of-both [] ys = refl
first-of-both (x ∷ xs) ys = refl

-- the first one of a list with one number, if that one passes
first-of-one : (b : Bool) (n : ℕ) → slice_get (if b then n ∷ [] else []) 0 ≡ (if b then Some n else None)
first-of-one true n = refl
first-of-one false n = refl

-- with one number more
pub first-more : (p : ℕ → Bool) (n : ℕ) → slice_get (filter p (first_numbers (suc n))) 0 ≡ option_or (slice_get (filter p (first_numbers n)) 0) (if p n then Some n else None)
first-more p n =
    ap (λ (xs : List ℕ). slice_get xs 0) (filter-append p (first_numbers n) (n ∷ []))
    ∙ (first-of-both (filter p (first_numbers n)) (filter p (n ∷ [])) ∙ ap (option_or (slice_get (filter p (first_numbers n)) 0)) (first-of-one (p n) n))

module _ (packets : Packets) where
  -- the time of the packet before packet n; 0 before the first
  abbrev pub before-at : ℕ → ℕ
  before-at n = if n == 0 then 0 else packets.time (n - 1)

  -- the time of packet n is the one before packet n + 1
  pub next-before : (n time : ℕ) → time ≡ packets.time n → time ≡ before-at (n + 1)
  next-before n time is =
      is ∙ (ap packets.time (let same : n ≡ n + 1 - 1 = omega arith in same) ∙ sym (cond-false (n + 1 == 0) 0 (packets.time (n + 1 - 1)) (ne_eqb (n + 1) 0 (λ e. omega arith))))

  -- whether packet n goes back, by these times
  pub back-same : (n time before : ℕ) → time ≡ packets.time n → before ≡ before-at n → (nat_lt 0 n && nat_lt time before) ≡ goes_back packets n
  back-same zero time before is was = refl
  back-same (suc n) time before is was =
      ap₂ (λ (a b : ℕ). nat_lt 0 (suc n) && nat_lt a b) is (was ∙ cond-false (suc n == 0) 0 (packets.time (suc n - 1)) (ne_eqb (suc n) 0 (λ e. omega arith)))

  -- the first one that goes back below n, and then below n + 1
  pub back-more : (n : ℕ) (found : Option ℕ) (b : Bool) → found ≡ slice_get (filter (goes_back packets) (first_numbers n)) 0 → b ≡ goes_back packets n
      → option_or found (if b then Some n else None) ≡ slice_get (filter (goes_back packets) (first_numbers (n + 1))) 0
  back-more n found b is goes =
      let more : suc n ≡ n + 1 = omega arith in
      ap₂ (λ (o : Option ℕ) (c : Bool). option_or o (if c then Some n else None)) is goes
      ∙ (sym (first-more (goes_back packets) n) ∙ ap (λ (k : ℕ). slice_get (filter (goes_back packets) (first_numbers k)) 0) more)
