-- What the holder of the run lock takes next: the packet of the requeue slot, or else the first of the lowest band that
-- holds something.
use Rattle.std.proofs.Common.{◌≡◌, ℕ, ◌+◌, ◌<◌, Bool, true, false, List, [], ◌∷◌, ◌++◌, length, Option, Some, None, is_some, nat_lt, if◌then◌else◌, option_to_list, slice_get, refl, sym, ap, subst, ◌∙◌, arith, length-append, length-drop}
use Rattle.std.proofs.lemmas.Bool.{true≢false, lt-ltb, ltb-true, cond-true, cond-false}
use Rattle.lq_model.specs.Band.{Band, held_of, taken_by}
use Rattle.lq_model.specs.Account.{Account, Event, Take, Pick, held, held_in, after}
use Rattle.lq_model.specs.Alone.{next_taken, holds}

-- WHICH EVENT IT IS

some_is : {X : Type 0} {x y : X} → Some x ≡ Some y → x ≡ y
some_is e = cc

pub slot_none : (slot : Option ℕ) (rest : List ℕ) → option_to_list slot ++ rest ≡ [] → slot ≡ None
slot_none None rest none = refl
slot_none (Some m) rest none = cc

-- what comes into the hand next
pub data IsTurn (a : Account) : Event → Type 0 where
  picks : (n : ℕ) → a.slot ≡ Some n → IsTurn a Pick
  takes_0 : a.slot ≡ None → 0 < length (held_in a 0) → IsTurn a (Take 0)
  takes_1 : a.slot ≡ None → held_in a 0 ≡ [] → 0 < length (held_in a 1) → IsTurn a (Take 1)
  takes_2 : a.slot ≡ None → held_in a 0 ≡ [] → held_in a 1 ≡ [] → 0 < length (held_in a 2) → IsTurn a (Take 2)

no-length : (xs : List ℕ) → nat_lt 0 (length xs) ≡ false → xs ≡ []
no-length [] e = refl
no-length (x ∷ xs) e = absurd (true≢false (sym (lt-ltb 0 (length (x ∷ xs)) (omega arith)) ∙ e))

pub turn_of : (a : Account) (event : Event) → next_taken a ≡ Some event → IsTurn a event
turn_of a event next = by_slot a.slot refl next
  where
    by_band_2 : (b : Bool) → holds a 2 ≡ b → a.slot ≡ None → held_in a 0 ≡ [] → held_in a 1 ≡ [] → (if b then Some (Take 2) else None) ≡ Some event → IsTurn a event
    by_band_2 true e none empty_0 empty_1 next = subst (IsTurn a) (some_is next) (takes_2 none empty_0 empty_1 (ltb-true _ _ e))
    by_band_2 false e none empty_0 empty_1 next = cc

    by_band_1 : (b : Bool) → holds a 1 ≡ b → a.slot ≡ None → held_in a 0 ≡ [] → (if b then Some (Take 1) else if holds a 2 then Some (Take 2) else None) ≡ Some event → IsTurn a event
    by_band_1 true e none empty_0 next = subst (IsTurn a) (some_is next) (takes_1 none empty_0 (ltb-true _ _ e))
    by_band_1 false e none empty_0 next = by_band_2 (holds a 2) refl none empty_0 (no-length _ e) next

    by_band_0 : (b : Bool) → holds a 0 ≡ b → a.slot ≡ None
        → (if b then Some (Take 0) else if holds a 1 then Some (Take 1) else if holds a 2 then Some (Take 2) else None) ≡ Some event → IsTurn a event
    by_band_0 true e none next = subst (IsTurn a) (some_is next) (takes_0 none (ltb-true _ _ e))
    by_band_0 false e none next = by_band_1 (holds a 1) refl none (no-length _ e) next

    by_slot : (slot : Option ℕ) → a.slot ≡ slot
        → (if is_some slot then Some Pick else if holds a 0 then Some (Take 0) else if holds a 1 then Some (Take 1) else if holds a 2 then Some (Take 2) else None) ≡ Some event
        → IsTurn a event
    by_slot (Some n) e next = subst (IsTurn a) (some_is next) (picks n e)
    by_slot None e next = by_band_0 (holds a 0) refl e next

holds-none : (a : Account) (band : ℕ) → held_in a band ≡ [] → holds a band ≡ false
holds-none a band none = ap (λ xs. nat_lt 0 (length xs)) none

append-none : (xs ys : List ℕ) → xs ++ ys ≡ [] → (xs ≡ []) × (ys ≡ [])
append-none [] ys none = (refl, none)
append-none (x ∷ xs) ys none = cc

-- nothing is taken exactly where nothing is held
pub next_none : (a : Account) → held a ≡ [] → next_taken a ≡ None
next_none a none =
    let slot : a.slot ≡ None = slot_none a.slot _ none in
    let bands = (append-none (option_to_list a.slot) _ none).1 in
    let upper = (append-none (held_in a 0) _ bands).1 in
    ap (λ slot. next_taken (record a { slot = slot })) slot ∙ cond-false _ _ _ (holds-none a 0 (append-none (held_in a 0) _ bands).0)
    ∙ cond-false _ _ _ (holds-none a 1 (append-none (held_in a 1) _ upper).0) ∙ cond-false _ _ _ (holds-none a 2 (append-none (held_in a 1) _ upper).1)

pub held_none : (a : Account) → next_taken a ≡ None → held a ≡ []
held_none a next = by_slot a.slot next
  where
    by_band_2 : (xs : List ℕ) → (if nat_lt 0 (length xs) then Some (Take 2) else None) ≡ None → xs ≡ []
    by_band_2 [] next = refl
    by_band_2 (x ∷ xs) next = cc (cond-true {A = Option Event} _ (Some (Take 2)) None (lt-ltb 0 (length (x ∷ xs)) (omega arith)))

    by_band_1 : (xs ys : List ℕ) → (if nat_lt 0 (length xs) then Some (Take 1) else if nat_lt 0 (length ys) then Some (Take 2) else None) ≡ None → xs ++ ys ≡ []
    by_band_1 [] ys next = by_band_2 ys next
    by_band_1 (x ∷ xs) ys next = cc (cond-true {A = Option Event} _ (Some (Take 1)) (if nat_lt 0 (length ys) then Some (Take 2) else None) (lt-ltb 0 (length (x ∷ xs)) (omega arith)))

    by_band_0 : (xs ys zs : List ℕ)
        → (if nat_lt 0 (length xs) then Some (Take 0) else if nat_lt 0 (length ys) then Some (Take 1) else if nat_lt 0 (length zs) then Some (Take 2) else None) ≡ None
        → xs ++ (ys ++ zs) ≡ []
    by_band_0 [] ys zs next = by_band_1 ys zs next
    by_band_0 (x ∷ xs) ys zs next =
        cc (cond-true {A = Option Event} _ (Some (Take 0)) (if nat_lt 0 (length ys) then Some (Take 1) else if nat_lt 0 (length zs) then Some (Take 2) else None)
        (lt-ltb 0 (length (x ∷ xs)) (omega arith)))

    by_slot : (slot : Option ℕ)
        → (if is_some slot then Some Pick else if holds a 0 then Some (Take 0) else if holds a 1 then Some (Take 1) else if holds a 2 then Some (Take 2) else None) ≡ None
        → option_to_list slot ++ (held_in a 0 ++ (held_in a 1 ++ held_in a 2)) ≡ []
    by_slot (Some m) next = cc
    by_slot None next = by_band_0 (held_in a 0) (held_in a 1) (held_in a 2) next

-- WHAT IT LEAVES

-- a packet that was held is in hand now, and all else is as it was
pub record IsInHand (a b : Account) : Type 0 where
  pub packet : ℕ
  pub hand : b.hand ≡ Some packet
  pub slot : b.slot ≡ None
  pub fewer : length (held b) + 1 ≡ length (held a)
  pub len : b.len ≡ a.len
  pub unit : b.unit ≡ a.unit
  pub sent : b.sent ≡ a.sent
  pub fates : b.fates ≡ a.fates
  pub stops : b.stops ≡ a.stops
  pub down : b.down ≡ a.down

pub first_of_some : (xs : List ℕ) → 0 < length xs → (m : ℕ) × (slice_get xs 0 ≡ Some m)
first_of_some [] some = absurd (omega arith)
first_of_some (x ∷ xs) some = (x, refl)

pub length_held : (a : Account) → length (held a) ≡ length (option_to_list a.slot) + (length (held_in a 0) + (length (held_in a 1) + length (held_in a 2)))
length_held a = simp length-append

taken-length : (b : Band) → 0 < length (held_of b) → length (held_of (taken_by b 1)) + 1 ≡ length (held_of b)
taken-length b some = omega (arith, length-drop b.taken b.line, length-drop (b.taken + 1) b.line)

pub in_hand : {a : Account} {event : Event} → IsTurn a event → IsInHand a (after event a)
in_hand {a = a} (picks m slot) = record {
  packet = m;
  hand = slot;
  slot = refl;
  fewer = fewer;
  len = refl;
  unit = refl;
  sent = refl;
  fates = refl;
  stops = refl;
  down = refl;
}
  where
    fewer : length (held (after Pick a)) + 1 ≡ length (held a)
    fewer = let one : length (option_to_list a.slot) ≡ 1 = ap (λ slot. length (option_to_list slot)) slot in omega (arith, length_held a, length-append (held_in a 0) (held_in a 1 ++ held_in a 2), length-append (held_in a 1) (held_in a 2))
in_hand {a = a} (takes_0 slot some) = record {
  packet = (first_of_some _ some).0;
  hand = (first_of_some _ some).1;
  slot = slot;
  fewer = omega (arith, taken-length (a.bands 0) some, length_held a, length_held (after (Take 0) a));
  len = refl;
  unit = refl;
  sent = refl;
  fates = refl;
  stops = refl;
  down = refl;
}
in_hand {a = a} (takes_1 slot empty_0 some) = record {
  packet = (first_of_some _ some).0;
  hand = (first_of_some _ some).1;
  slot = slot;
  fewer = omega (arith, taken-length (a.bands 1) some, length_held a, length_held (after (Take 1) a));
  len = refl;
  unit = refl;
  sent = refl;
  fates = refl;
  stops = refl;
  down = refl;
}
in_hand {a = a} (takes_2 slot empty_0 empty_1 some) = record {
  packet = (first_of_some _ some).0;
  hand = (first_of_some _ some).1;
  slot = slot;
  fewer = omega (arith, taken-length (a.bands 2) some, length_held a, length_held (after (Take 2) a));
  len = refl;
  unit = refl;
  sent = refl;
  fates = refl;
  stops = refl;
  down = refl;
}
