-- An idle seat that isn't raised joins the others, or leaves them.
use Rattle.std.proofs.Common.{◌≡◌, ℕ, zero, suc, ◌<◌, Bool, true, false, List, [], ◌∷◌, ◌++◌, ◌⊎◌, inl, inr, length, get_or, refl, ap, ◌∙◌, sum_by, arith}
use Rattle.std.specs.Prelude.{◌||◌}
use Rattle.std.specs.List.{list_any}
use Rattle.std.proofs.lemmas.List.Sums.{sum_by-cons, sum_by-append}
use Rattle.lq_model.specs.declared.machine.Position.{Position}
use Rattle.lq_model.specs.declared.machine.Position.TheVariants.{Idle}
use Rattle.lq_model.specs.declared.machine.Seat.{Seat}
use Rattle.lq_model.specs.Machine.{idle_seat}
use Rattle.lq_model.specs.Steps.{is_idle}

-- where a seat of one list stands in the other
place : ℕ → ℕ → ℕ
place zero k = suc k
place (suc n) zero = zero
place (suc n) (suc k) = suc (place n k)

-- the second list has each seat of the first, and one more, which is idle and not raised
pub record Extends (old now : List Seat) : Type 0 where
  pub up : ℕ → ℕ
  pub at : (k : ℕ) → get_or now (up k) idle_seat ≡ get_or old k idle_seat
  pub apart : (k j : ℕ) → up k ≡ up j → k ≡ j
  pub from : (i : ℕ) → ((get_or now i idle_seat).position ≡ Idle) ⊎ ((k : ℕ) × (up k ≡ i))
  pub added : ℕ
  pub within : added < length now
  pub idle : (get_or now added idle_seat).position ≡ Idle
  pub any : (test : Position → Bool) → test Idle ≡ false → list_any (λ (s : Seat). test s.position) now ≡ list_any (λ (s : Seat). test s.position) old
  pub sum : (f : Seat → ℕ) → ((run : ℕ) → f (record { position = Idle; raised = false; run = run }) ≡ 0) → sum_by f now ≡ sum_by f old

pub idle-is : (position : Position) → is_idle position ≡ true → position ≡ Idle
idle-is Idle e = refl
idle-is _ e = cc

-- each seat of the shorter list stands at its place in the longer one
place-at : (s : Seat) (xs ys : List Seat) (k : ℕ) → get_or (xs ++ s ∷ ys) (place (length xs) k) idle_seat ≡ get_or (xs ++ ys) k idle_seat
unfolding place
place-at s [] ys k = refl
place-at s (x ∷ xs) ys zero = refl
place-at s (x ∷ xs) ys (suc k) = place-at s xs ys k

-- no two at the same
place-apart : (n k j : ℕ) → place n k ≡ place n j → k ≡ j
unfolding place
place-apart zero k j e = omega arith
place-apart (suc n) zero zero e = refl
place-apart (suc n) zero (suc j) e = absurd (omega arith)
place-apart (suc n) (suc k) zero e = absurd (omega arith)
place-apart (suc n) (suc k) (suc j) e = ap suc (place-apart n k j (omega arith))

-- every other seat of the longer list is the idle one
place-from : (s : Seat) (xs ys : List Seat) → s.position ≡ Idle → (i : ℕ) → ((get_or (xs ++ s ∷ ys) i idle_seat).position ≡ Idle) ⊎ ((k : ℕ) × (place (length xs) k ≡ i))
unfolding place
place-from s [] ys idle zero = inl idle
place-from s [] ys idle (suc i) = inr (i, refl)
place-from s (x ∷ xs) ys idle zero = inr (zero, refl)
place-from s (x ∷ xs) ys idle (suc i) = elim (place-from s xs ys idle i) [ inl e ↦ inl e | inr found ↦ inr (suc found.0, ap suc found.1) ]

-- where it stands
added-within : (s : Seat) (xs ys : List Seat) → length xs < length (xs ++ s ∷ ys)
added-within s [] ys = omega arith
added-within s (x ∷ xs) ys = let less = added-within s xs ys in omega arith

added-at : (s : Seat) (xs ys : List Seat) → get_or (xs ++ s ∷ ys) (length xs) idle_seat ≡ s
added-at s [] ys = refl
added-at s (x ∷ xs) ys = added-at s xs ys

-- it passes no test that an idle seat fails, and adds nothing to a sum
added-any : (test : Position → Bool) (s : Seat) (xs ys : List Seat) → test s.position ≡ false → list_any (λ (t : Seat). test t.position) (xs ++ s ∷ ys) ≡ list_any (λ (t : Seat). test t.position) (xs ++ ys)
added-any test s [] ys out = ap (λ b. b || list_any (λ (t : Seat). test t.position) ys) out
added-any test s (x ∷ xs) ys out = ap (λ b. test x.position || b) (added-any test s xs ys out)

added-sum : (f : Seat → ℕ) (s : Seat) (xs ys : List Seat) → f s ≡ 0 → sum_by f (xs ++ s ∷ ys) ≡ sum_by f (xs ++ ys)
added-sum f s xs ys none = omega (arith, sum_by-append f xs (s ∷ ys), sum_by-append f xs ys, sum_by-cons f s ys, none)

pub extends : (s : Seat) (xs ys : List Seat) → s.position ≡ Idle → s.raised ≡ false → Extends (xs ++ ys) (xs ++ s ∷ ys)
extends s xs ys idle calm = record {
  up = place (length xs);
  at = place-at s xs ys;
  apart = place-apart (length xs);
  from = place-from s xs ys idle;
  added = length xs;
  within = added-within s xs ys;
  idle = ap (λ (t : Seat). t.position) (added-at s xs ys) ∙ idle;
  any = λ test out. added-any test s xs ys (ap test idle ∙ out);
  sum = λ f none. added-sum f s xs ys (ap f is ∙ none s.run);
}
  where
    is : s ≡ record { position = Idle; raised = false; run = s.run }
    is = λ i. record { position = idle i; raised = calm i; run = s.run }
