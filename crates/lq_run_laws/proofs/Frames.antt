-- What a step of one seat leaves of the others.
use Rattle.std.proofs.Common.{◌≡◌, ◌≢◌, ℕ, zero, suc, ◌+◌, ◌<◌, ◌≤◌, Bool, true, false, ◌⊎◌, inl, inr, List, [], ◌∷◌, length, refl, ap, arith, get_or, sym, ◌∙◌, subst}
use Rattle.std.specs.Prelude.{sum_by, ◌||◌}
use Rattle.std.specs.List.{list_any}
use Rattle.std.proofs.Math.ListN.{set}
use Rattle.std.proofs.lemmas.List.{get_or-set_same, get_or-set_other, length-set}
use Rattle.std.proofs.lemmas.List.Sums.{sum_by-set, get_or-le-sum_by}
use Rattle.lq_model.specs.declared.machine.Seat.{Seat}
use Rattle.lq_model.specs.Machine.{Machine, bit, idle_seat, seat_at}
use Rattle.lq_model.specs.Steps.{After, with_seat}
use Rattle.lq_model.specs.Positions.{holds_lock}
use Rattle.lq_model.specs.Kept.{OneHolder}

-- THE SEAT THAT MOVED, AND THE OTHERS

pub seat-moved : (m : Machine) (i : ℕ) (a : After) → i < length m.seats → seat_at (with_seat m i a) i ≡ a.seat
seat-moved m i a inside = get_or-set_same m.seats i a.seat idle_seat inside

pub seat-other : (m : Machine) (i j : ℕ) (a : After) → j ≢ i → seat_at (with_seat m i a) j ≡ seat_at m j
seat-other m i j a other = get_or-set_other m.seats i j a.seat idle_seat other

-- what holds of the moved seat and of each other holds of each
pub each-seat :
    (m : Machine) (i : ℕ) (a : After) (P : Seat → Type 0) → i < length m.seats
    → P a.seat → ((j : ℕ) → j ≢ i → P (seat_at m j)) → (j : ℕ) → P (seat_at (with_seat m i a) j)
each-seat m i a P inside here others j = pick (same j i)
  where
    same : (j i : ℕ) → (j ≡ i) ⊎ (j ≢ i)
    same j i = grind arith

    pick : (j ≡ i) ⊎ (j ≢ i) → P (seat_at (with_seat m i a) j)
    pick (inl e) = subst (λ (k : ℕ). P (seat_at (with_seat m i a) k)) (sym e) (subst P (sym (seat-moved m i a inside)) here)
    pick (inr other) = subst P (sym (seat-other m i j a other)) (others j other)

-- SOME SEAT IS AT

or-swap : (a b c : Bool) → (a || (b || c)) ≡ (b || (a || c))
or-swap true true c = refl
or-swap true false c = refl
or-swap false true c = refl
or-swap false false c = refl

-- a test over all seats, as that of one and of the rest
pub record Split (f : Seat → Bool) (seats : List Seat) (i : ℕ) : Type 0 where
  pub rest : Bool
  pub before : list_any f seats ≡ (f (get_or seats i idle_seat) || rest)
  pub after : (s : Seat) → list_any f (set seats i s) ≡ (f s || rest)

pub any-split : (f : Seat → Bool) (seats : List Seat) (i : ℕ) → i < length seats → Split f seats i
any-split f [] i inside = absurd (omega arith)
any-split f (x ∷ xs) zero inside = record { rest = list_any f xs; before = refl; after = λ s. refl }
any-split f (x ∷ xs) (suc i) inside =
    let under : i < length xs = omega arith in
    let split = any-split f xs i under in
    record {
      rest = f x || split.rest;
      before = ap (λ b. f x || b) split.before ∙ or-swap (f x) (f (get_or xs i idle_seat)) split.rest;
      after = λ s. ap (λ b. f x || b) (split.after s) ∙ or-swap (f x) (f s) split.rest;
    }

-- a fact on such a test is kept where it is beside any rest
pub any-kept :
    (f : Seat → Bool) (P P' : Bool → Type 0) (seats : List Seat) (i : ℕ) (s : Seat) → i < length seats
    → ((rest : Bool) → P (f (get_or seats i idle_seat) || rest) → P' (f s || rest)) → P (list_any f seats) → P' (list_any f (set seats i s))
any-kept f P P' seats i s inside local kept =
    let split = any-split f seats i inside in
    subst P' (sym (split.after s)) (local split.rest (subst P split.before kept))

-- THE HOLDER

range : (i n : ℕ) → (i < n) ⊎ (n ≤ i)
range i n = grind arith

beyond : (seats : List Seat) (i : ℕ) → length seats ≤ i → get_or seats i idle_seat ≡ idle_seat
beyond [] i out = refl
beyond (x ∷ xs) zero out = absurd (omega arith)
beyond (x ∷ xs) (suc i) out = beyond xs i (omega arith)

-- where a seat stands as the holder, the lock is 1
pub holder-locks : (m : Machine) (i : ℕ) → OneHolder m → holds_lock (seat_at m i).position ≡ true → m.qdisc.locked ≡ true
holder-locks m i one holds = pick (range i (length m.seats))
  where
    held : bit (holds_lock (seat_at m i).position) ≡ 1
    held = ap bit holds

    one-means : (b : Bool) → 1 ≤ bit b → b ≡ true
    one-means true h = refl
    one-means false h = absurd (omega arith)

    pick : (i < length m.seats) ⊎ (length m.seats ≤ i) → m.qdisc.locked ≡ true
    pick (inl inside) =
        let le = get_or-le-sum_by (λ (s : Seat). bit (holds_lock s.position)) m.seats i idle_seat inside in
        one-means m.qdisc.locked (omega (arith, le, one, held))
    pick (inr out) = absurd (let e = beyond m.seats i out in let f : holds_lock (seat_at m i).position ≡ false = ap (λ (s : Seat). holds_lock s.position) e in cc)

-- beside the holder no seat stands as one
pub only-holder :
    (m : Machine) (i j : ℕ) → OneHolder m → i < length m.seats → holds_lock (seat_at m i).position ≡ true → j ≢ i
    → holds_lock (seat_at m j).position ≡ false
only-holder m i j one inside holds other = pick (range j (length m.seats))
  where
    count : Seat → ℕ
    count s = bit (holds_lock s.position)

    zero-means : (b : Bool) → bit b ≤ 0 → b ≡ false
    zero-means true h = absurd (omega arith)
    zero-means false h = refl

    bit-le : (b : Bool) → bit b ≤ 1
    bit-le true = omega arith
    bit-le false = omega arith

    pick : (j < length m.seats) ⊎ (length m.seats ≤ j) → holds_lock (seat_at m j).position ≡ false
    pick (inl there) =
        let cleared : sum_by count (set m.seats i idle_seat) + count (get_or m.seats i idle_seat) ≡ sum_by count m.seats + count idle_seat
        = sum_by-set count m.seats i idle_seat idle_seat inside in
        let now : j < length (set m.seats i idle_seat) = rw length-set there in
        let le = get_or-le-sum_by count (set m.seats i idle_seat) j idle_seat now in
        let same : get_or (set m.seats i idle_seat) j idle_seat ≡ get_or m.seats j idle_seat = get_or-set_other m.seats i j idle_seat idle_seat other in
        let le' : count (get_or m.seats j idle_seat) ≤ sum_by count (set m.seats i idle_seat) = rw same at le in
        let held : count (get_or m.seats i idle_seat) ≡ 1 = ap bit holds in
        zero-means _ (omega (arith, cleared, le', held, one, bit-le m.qdisc.locked))
    pick (inr out) = ap (λ (s : Seat). holds_lock s.position) (beyond m.seats j out)
