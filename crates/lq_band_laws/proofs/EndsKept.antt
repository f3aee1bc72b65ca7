-- The ends of a consumer as it takes and empties.
use Rattle.std.proofs.Common.{◌≡◌, ◌≢◌, ◌⊎◌, ℕ, ◌+◌, ◌-◌, ◌<◌, ◌≤◌, Bool, true, false, refl, sym, ap, ◌∙◌, subst, ⊎_elim, arith, eq-eqb, ne_eqb}
use Rattle.std.specs.Prelude.{if◌then◌else◌}
use Rattle.std.proofs.lemmas.Bool.{cases_eq, cases_Bool}
use Rattle.std.proofs.lemmas.Bool.Decides.{nat_tests}
use Rattle.lq_model.specs.Band.{batch}
use Rattle.lq_ring_core.proofs.Places.{batch-positive}
use Rattle.lq_band_laws.specs.Ring.{Ends, at_start, is_emptying, taken_on, all_empty, emptied_on, emptied_down, after_take, IsAtRest, AreEnds}

pub emptying_means : (size : ℕ) (c : Ends) → is_emptying size c ≡ true → (c.tail + batch size ≤ c.head) ⊎ (c.head ≡ size)
emptying_means size c h = grind (arith, nat_tests)

pub resting_means : (size : ℕ) (c : Ends) → AreEnds size c → is_emptying size c ≡ false → (c.head < c.tail + batch size) × (c.head < size) × (c.edge ≡ c.head)
resting_means size c ends h = let a : (c.head < c.tail + batch size) × (c.head ≢ size) = grind (arith, nat_tests) in let no_end = a.1 in (a.0, let in_size = ends.head_within in omega arith, ends.resting h)

pub resting_if : (size : ℕ) (c : Ends) → c.head < c.tail + batch size → c.head < size → is_emptying size c ≡ false
resting_if size c h h' = grind (arith, nat_tests)

module _ (size : ℕ) (c : Ends) where
  pub all_but_last : c.head ≢ size → all_empty size c ≡ record { head = c.head; tail = c.head; edge = c.head }
  all_but_last h = ap (λ (b : Bool). if b then at_start else record { head = c.head; tail = c.head; edge = c.head }) (ne_eqb c.head size h)

  pub all_of_lap : c.head ≡ size → all_empty size c ≡ at_start
  all_of_lap h = ap (λ (b : Bool). if b then at_start else record { head = c.head; tail = c.head; edge = c.head }) (eq-eqb c.head size h)

  pub still : c.tail + 1 ≢ c.edge → emptied_on size c ≡ record { head = c.head; tail = c.tail; edge = c.edge - 1 }
  still h = ap (λ (b : Bool). if b then all_empty size c else record { head = c.head; tail = c.tail; edge = c.edge - 1 }) (ne_eqb (c.tail + 1) c.edge h)

  pub all_but_end : c.tail + 1 ≡ c.edge → c.head ≢ size → emptied_on size c ≡ record { head = c.head; tail = c.head; edge = c.head }
  all_but_end h h' = ap (λ (b : Bool). if b then all_empty size c else record { head = c.head; tail = c.tail; edge = c.edge - 1 }) (eq-eqb (c.tail + 1) c.edge h)
      ∙ all_but_last h'

  pub at_end : c.tail + 1 ≡ c.edge → c.head ≡ size → emptied_on size c ≡ at_start
  at_end h h' = ap (λ (b : Bool). if b then all_empty size c else record { head = c.head; tail = c.tail; edge = c.edge - 1 }) (eq-eqb (c.tail + 1) c.edge h)
      ∙ all_of_lap h'

  -- one more of the slots below the head is emptied
  pub down_more : (n : ℕ) → c.tail + n < c.head → emptied_on size (emptied_down size c n) ≡ emptied_down size c (n + 1)
  down_more n h =
      let e : Ends = record { head = c.head; tail = c.tail; edge = c.head - n } in
      let now : emptied_down size c n ≡ e = ap (λ (b : Bool). if b then all_empty size c else e) (ne_eqb (c.tail + n) c.head (λ x. omega arith)) in
      let edge : c.head - (n + 1) ≡ c.head - n - 1 = omega arith in
      ap (emptied_on size) now ∙ ⊎_elim
      (λ (last : c.tail + 1 ≡ c.head - n). ap (λ (b : Bool). if b then all_empty size c else record { head = c.head; tail = c.tail; edge = c.head - n - 1 }) (eq-eqb (c.tail + 1) (c.head - n) last)
      ∙ sym (ap (λ (b : Bool). if b then all_empty size c else record { head = c.head; tail = c.tail; edge = c.head - (n + 1) }) (eq-eqb (c.tail + (n + 1)) c.head (omega arith))))
      (λ (more : c.tail + 1 ≢ c.head - n). ap (λ (b : Bool). if b then all_empty size c else record { head = c.head; tail = c.tail; edge = c.head - n - 1 }) (ne_eqb (c.tail + 1) (c.head - n) more)
      ∙ ((λ j. record { head = c.head; tail = c.tail; edge = sym edge j })
      ∙ sym (ap (λ (b : Bool). if b then all_empty size c else record { head = c.head; tail = c.tail; edge = c.head - (n + 1) }) (ne_eqb (c.tail + (n + 1)) c.head (λ x. more (omega arith))))))
      (cases_eq (c.tail + 1) (c.head - n))

  pub down_here : (n : ℕ) → c.tail + n < c.head → emptied_down size c n ≡ record { head = c.head; tail = c.tail; edge = c.head - n }
  down_here n h = ap (λ (b : Bool). if b then all_empty size c else record { head = c.head; tail = c.tail; edge = c.head - n }) (ne_eqb (c.tail + n) c.head (λ x. omega arith))

  pub down_all : (n : ℕ) → c.tail + n ≡ c.head → emptied_down size c n ≡ all_empty size c
  down_all n h = ap (λ (b : Bool). if b then all_empty size c else record { head = c.head; tail = c.tail; edge = c.head - n }) (eq-eqb (c.tail + n) c.head h)

  -- a take with its emptying leaves it at rest
  pub rest_after : IsAtRest size c → IsAtRest size (after_take size c)
  rest_after r =
      let below = r.1 in let first = r.0 in let few = batch-positive size in let d : Ends = taken_on c in ⊎_elim
      (λ (busy : is_emptying size d ≡ true). subst (IsAtRest size) (sym (ap (λ (b : Bool). if b then all_empty size d else d) busy)) (all_rest (omega arith)))
      (λ (idle : is_emptying size d ≡ false). subst (IsAtRest size) (sym (ap (λ (b : Bool). if b then all_empty size d else d) idle))
      (omega arith, (let more : c.head + 1 ≢ size = not_end idle in omega arith), refl, idle))
      (cases_Bool (is_emptying size d))
    where
      not_end : is_emptying size (taken_on c) ≡ false → c.head + 1 ≢ size
      not_end h = let a : (c.head + 1 < c.tail + batch size) × (c.head + 1 ≢ size) = grind (arith, nat_tests) in a.1

      all_rest : c.head + 1 ≤ size → IsAtRest size (all_empty size (taken_on c))
      all_rest h = let below = r.1 in let few = batch-positive size in ⊎_elim
          (λ (ends : c.head + 1 ≡ size). subst (IsAtRest size) (sym (ap (λ (b : Bool). if b then at_start else record { head = c.head + 1; tail = c.head + 1; edge = c.head + 1 }) (eq-eqb (c.head + 1) size ends)))
          (omega arith, omega arith, refl, resting_if size at_start (omega arith) (omega arith)))
          (λ (more : c.head + 1 ≢ size). let d : Ends = record { head = c.head + 1; tail = c.head + 1; edge = c.head + 1 } in
          subst (IsAtRest size) (sym (ap (λ (b : Bool). if b then at_start else d) (ne_eqb (c.head + 1) size more))) (omega arith, omega arith, refl, resting_if size d (omega arith) (omega arith)))
          (cases_eq (c.head + 1) size)
