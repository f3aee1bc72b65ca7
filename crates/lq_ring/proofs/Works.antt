-- The work on one band, step by step.
use Rattle.std.proofs.Common.{take, ◌≡◌, ◌≢◌, ◌⊎◌, inl, inr, ℕ, zero, suc, ◌+◌, ◌-◌, ◌/◌, ◌<◌, ◌≤◌, Bool, true, false, List, [], ◌∷◌, ◌++◌, length, set, drop, get_or, refl, sym, ap, ◌∙◌, subst, arith, ⊎_elim, Option, Some, option_map, Contains, length-set, length-drop, get_or-set_same, get_or-set_other, eq-eqb, ne_eqb}
use Rattle.std.specs.Prelude.{◌||◌, ◌==◌, if◌then◌else◌}
use Rattle.std.proofs.lemmas.Bool.{cases_eq, cases_lt}
use Rattle.std.specs.Option.{unwrap_or}
use lib.Seq.{set-get_or}
use Rattle.std.proofs.lemmas.List.Elements.{Contains-append_right}
use Rattle.lq_account_laws.proofs.Lists.{none-in, here-in, cons-in}
use Rattle.lq_model.specs.declared.fate.Fate.{Fate}
use Rattle.lq_model.specs.declared.fate.Fate.TheVariants as fate
use Rattle.lq_band_laws.specs.Ring.{word_at}
use Rattle.lq_band_laws.proofs.Lines.{word_at-past, word_at-within}
use Rattle.lq_band_laws.specs.Three.{at}
use Rattle.lq_band_laws.proofs.Three.{at_put_same, put_at}
use Rattle.lq_table.specs.Views.{View, HalfResize, Work, no_resizing}
use Rattle.lq_table.specs.Resizes.{is_word, is_member, hand_with, out_of, into, with_work, with_resizing, settled_work}
use Rattle.lq_ring.proofs.PutSteps.{put_put}
use Rattle.lq_table.specs.Fates.{settle_view_shrunk}
use Rattle.lq_ring.specs.Fates.{fates_onto}
use Rattle.lq_ring.specs.Work.{work_at, working, IsTurner, back_in, exchanged, reversed_to, rotated, zeroed_to, event_of_work}

-- the packets that it keeps or drops
abbrev pub members_of : Work → List ℕ
members_of w = w.kept ++ w.waiting

abbrev pub with_slots : List ℕ → Work → Work
with_slots s w = record w { slots = s }

-- the seat has stored these fates
abbrev pub having_settled : List (ℕ × Fate) → View → View
having_settled fates v = record v { settled = fates }

-- so many of the dropped packets, which stand from a place on, were settled
abbrev pub dropped_to : ℕ → ℕ → Work → Work
dropped_to from n w = record w { slots = zeroed_to from n w.slots; waiting = drop n w.waiting }

-- each slot is empty or has one of these packets
abbrev pub AreMembers : List ℕ → List ℕ → Type 0
AreMembers members slots = (x : ℕ) → (get_or slots x 0 ≡ 0) ⊎ (is_word (get_or slots x 0) members ≡ true)

-- a word is settled, unless it is 0
abbrev pub settled_if : ℕ → Work → Work
settled_if x w = if x == 0 then w else settled_work w

-- the fate of the packet of a word, unless it is 0
abbrev pub shrunk_if : ℕ → ℕ → List (ℕ × Fate) → List (ℕ × Fate)
shrunk_if x event fates = if x == 0 then fates else (x - 1, fate.Shrunk event) ∷ fates

-- the fates of the first n packets that a resize of the event dropped
abbrev pub shrunk_to : ℕ → ℕ → List ℕ → List (ℕ × Fate) → List (ℕ × Fate)
shrunk_to event n ns fates = fates_onto (fate.Shrunk event) (take n ns) fates

-- THE VIEW

pub work_same : (b : ℕ) (w : Work) (v : View) (t : HalfResize) → v.holder.resizing ≡ Some t → work_at b (working b w v) ≡ w
work_same b w v t e = ap (λ (o : Option HalfResize). at b (unwrap_or (option_map (with_work b w) o) no_resizing).works) e ∙ at_put_same b w t.works

pub work_again : (b : ℕ) (w w' : Work) (v : View) (t : HalfResize) → v.holder.resizing ≡ Some t → working b w (working b w' v) ≡ working b w v
work_again b w w' v t e =
    ap (λ (o : Option HalfResize). with_resizing (option_map (with_work b w) (option_map (with_work b w') o)) v) e
    ∙ ((λ j. with_resizing (Some (record t { works = put_put b w w' t.works j })) v)
    ∙ sym (ap (λ (o : Option HalfResize). with_resizing (option_map (with_work b w) o) v) e))

pub work_back : (b : ℕ) (v : View) (t : HalfResize) → v.holder.resizing ≡ Some t → v.whole.state.resizing ≡ Some t → working b (work_at b v) v ≡ v
work_back b v t e e' =
    ap (λ (o : Option HalfResize). with_resizing (option_map (with_work b (at b (unwrap_or o no_resizing).works)) o) v) e
    ∙ ((λ j. with_resizing (Some (record t { works = put_at b t.works j })) v)
    ∙ (λ j. record v { holder = record v.holder { resizing = sym e j }; whole = record v.whole { state = record v.whole.state { resizing = sym e' j } } }))

-- a step of the table as a step on the work
pub told_work : (b : ℕ) (f : Work → Work) (v : View) (t : HalfResize) → v.holder.resizing ≡ Some t → with_resizing (Some (with_work b (f (at b t.works)) t)) v ≡ working b (f (work_at b v)) v
told_work b f v t e = λ j. with_resizing (option_map (with_work b (f (at b (unwrap_or (sym e j) no_resizing).works))) (sym e j)) v

-- LISTS

pub set_twice : (s : List ℕ) (i x y : ℕ) → set (set s i x) i y ≡ set s i y
set_twice [] i x y = refl
set_twice (z ∷ s) zero x y = refl
set_twice (z ∷ s) (suc i) x y = ap (λ (l : List ℕ). z ∷ l) (set_twice s i x y)

pub set_apart : (s : List ℕ) (i j x y : ℕ) → i ≢ j → set (set s i x) j y ≡ set (set s j y) i x
set_apart [] i j x y h = refl
set_apart (z ∷ s) zero zero x y h = absurd (h refl)
set_apart (z ∷ s) zero (suc j) x y h = refl
set_apart (z ∷ s) (suc i) zero x y h = refl
set_apart (z ∷ s) (suc i) (suc j) x y h = ap (λ (l : List ℕ). z ∷ l) (set_apart s i j x y (λ e. h (ap suc e)))

-- ONE EXCHANGE

pub word_zero : (ns : List ℕ) → is_word 0 ns ≡ false
word_zero [] = refl
word_zero (n ∷ ns) = ap (λ (b : Bool). b || is_word 0 ns) (ne_eqb 0 (n + 1) (λ e. absurd (omega arith))) ∙ word_zero ns

pub word_some : (x : ℕ) (ns : List ℕ) → is_word x ns ≡ true → x ≢ 0
word_some x ns e z = let no_ : true ≡ false = sym e ∙ (ap (λ (y : ℕ). is_word y ns) z ∙ word_zero ns) in absurd (cc)

pub hand_zero : (x : ℕ) (w : Work) (h : List ℕ) → x ≡ 0 → hand_with (is_member x w) x h ≡ h
hand_zero x w h e = ap (λ (b : Bool). hand_with b x h) (ap (λ (y : ℕ). is_word y (members_of w)) e ∙ word_zero (members_of w))

pub hand_word : (x : ℕ) (w : Work) (h : List ℕ) → is_member x w ≡ true → hand_with (is_member x w) x h ≡ (x - 1) ∷ h
hand_word x w h e = ap (λ (b : Bool). hand_with b x h) e

pub back_zero : (i x : ℕ) (w : Work) → x ≡ 0 → back_in i x w ≡ w
back_zero i x w e = ap (λ (b : Bool). if b then w else record w { slots = set w.slots i x; hand = drop 1 w.hand }) (eq-eqb x 0 e)

pub back_word : (i x : ℕ) (w : Work) → x ≢ 0 → back_in i x w ≡ record w { slots = set w.slots i x; hand = drop 1 w.hand }
back_word i x w e = ap (λ (b : Bool). if b then w else record w { slots = set w.slots i x; hand = drop 1 w.hand }) (ne_eqb x 0 e)

abbrev pub IsPlain : ℕ → Work → Type 0
IsPlain x w = (x ≡ 0) ⊎ (is_member x w ≡ true)

-- what a slot gives comes into the hand where it isn't 0, and leaves it again
pub out_and_back : (i : ℕ) (w : Work) → IsPlain (get_or w.slots i 0) w → back_in i (get_or w.slots i 0) (out_of i w) ≡ w
out_and_back i w plain = let x : ℕ = get_or w.slots i 0 in ⊎_elim
    (λ (z : x ≡ 0). back_zero i x (out_of i w) z ∙ (λ j. record w { slots = (ap (λ (y : ℕ). set w.slots i y) (sym z) ∙ set-get_or w.slots i 0) j; hand = hand_zero x w w.hand z j }))
    (λ (y : is_member x w ≡ true). back_word i x (out_of i w) (word_some x (members_of w) y) ∙ (λ j. record w { slots = (set_twice w.slots i 0 x ∙ set-get_or w.slots i 0) j; hand = drop 1 (hand_word x w w.hand y j) }))
    plain

-- two slots are emptied, and each gets what the other had
pub exchange_is : (i j : ℕ) (w : Work) (x y : ℕ) → i ≢ j → x ≡ get_or w.slots i 0 → y ≡ get_or (set w.slots i 0) j 0 → IsPlain (get_or w.slots i 0) w → IsPlain (get_or w.slots j 0) w
    → back_in j x (back_in i y (out_of j (out_of i w))) ≡ with_slots (exchanged i j w.slots) w
exchange_is i j w x y apart x_is y_there plain_x plain_y =
    let s : List ℕ = w.slots in let h : List ℕ = w.hand in let x0 : ℕ = get_or s i 0 in let y1 : ℕ = get_or (set s i 0) j 0 in
    let y_is : y1 ≡ get_or s j 0 = get_or-set_other s i j 0 0 (λ e. apart (sym e)) in
    let y0 : ℕ = get_or s j 0 in
    let w2 : Work = record w { slots = set (set s i 0) j 0; hand = hand_with (is_member y0 w) y0 (hand_with (is_member x0 w) x0 h) } in
    let first : out_of j (out_of i w) ≡ w2 = λ a. record w { slots = set (set s i 0) j 0; hand = hand_with (is_member (y_is a) w) (y_is a) (hand_with (is_member x0 w) x0 h) } in
    let start : back_in j x (back_in i y (out_of j (out_of i w))) ≡ back_in j x0 (back_in i y0 w2) = λ a. back_in j (x_is a) (back_in i ((y_there ∙ y_is) a) (first a)) in
    let crossed : set (set (set s i 0) j 0) i y0 ≡ set (set s i y0) j 0 = set_apart (set s i 0) j i 0 y0 (λ e. apart (sym e)) ∙ ap (λ (l : List ℕ). set l j 0) (set_twice s i 0 y0) in
    start ∙ ⊎_elim
    (λ (zy : y0 ≡ 0). ap (back_in j x0) (back_zero i y0 w2 zy) ∙ ⊎_elim
    (λ (zx : x0 ≡ 0). back_zero j x0 w2 zx ∙ (λ a. record w { slots = set (set s i (sym zy a)) j (sym zx a); hand = (hand_zero y0 w (hand_with (is_member x0 w) x0 h) zy ∙ hand_zero x0 w h zx) a }))
    (λ (mx : is_member x0 w ≡ true). back_word j x0 w2 (word_some x0 (members_of w) mx)
    ∙ (λ a. record w { slots = (set_twice (set s i 0) j 0 x0 ∙ ap (λ (z : ℕ). set (set s i z) j x0) (sym zy)) a; hand = drop 1 ((hand_zero y0 w (hand_with (is_member x0 w) x0 h) zy ∙ hand_word x0 w h mx) a) }))
    plain_x)
    (λ (my : is_member y0 w ≡ true). let w3 : Work = record w { slots = set (set s i y0) j 0; hand = hand_with (is_member x0 w) x0 h } in
    let third : back_in i y0 w2 ≡ w3 = back_word i y0 w2 (word_some y0 (members_of w) my) ∙ (λ a. record w { slots = crossed a; hand = drop 1 (hand_word y0 w (hand_with (is_member x0 w) x0 h) my a) }) in
    ap (back_in j x0) third ∙ ⊎_elim
    (λ (zx : x0 ≡ 0). back_zero j x0 w3 zx ∙ (λ a. record w { slots = set (set s i y0) j (sym zx a); hand = hand_zero x0 w h zx a }))
    (λ (mx : is_member x0 w ≡ true). back_word j x0 w3 (word_some x0 (members_of w) mx) ∙ (λ a. record w { slots = set_twice (set s i y0) j 0 x0 a; hand = drop 1 (hand_word x0 w h mx a) }))
    plain_x)
    plain_y

-- the hand, where a word is to be put back
pub hand_before : (i j : ℕ) (w : Work) → i ≢ j → get_or (set w.slots i 0) j 0 ≡ get_or w.slots j 0
hand_before i j w apart = get_or-set_other w.slots i j 0 0 (λ e. apart (sym e))

-- THE REVERSAL

pub get_exchanged : (i j : ℕ) (s : List ℕ) → i < length s → j < length s → i ≢ j
    → (get_or (exchanged i j s) i 0 ≡ get_or s j 0) × (get_or (exchanged i j s) j 0 ≡ get_or s i 0) × ((x : ℕ) → x ≢ i → x ≢ j → get_or (exchanged i j s) x 0 ≡ get_or s x 0)
get_exchanged i j s h h' apart =
    let l = length-set s i (get_or s j 0) in (
      get_or-set_other (set s i (get_or s j 0)) j i (get_or s i 0) 0 apart ∙ get_or-set_same s i (get_or s j 0) 0 h,
      get_or-set_same (set s i (get_or s j 0)) j (get_or s i 0) 0 (omega arith),
      λ x n n'. get_or-set_other (set s i (get_or s j 0)) j x (get_or s i 0) 0 n' ∙ get_or-set_other s i x (get_or s j 0) 0 n,
    )

pub reversed_long : (a b k : ℕ) (s : List ℕ) → length (reversed_to a b k s) ≡ length s
reversed_long a b zero s = refl
reversed_long a b (suc k) s = let r : List ℕ = reversed_to a b k s in length-set (set r (a + k) (get_or r (b - 1 - k) 0)) (b - 1 - k) (get_or r (a + k) 0) ∙ (length-set r (a + k) (get_or r (b - 1 - k) 0) ∙ reversed_long a b k s)

pub record AreReversed (a b k : ℕ) (s r : List ℕ) : Type 0 where
  pub moved : (x : ℕ) → a ≤ x → x < b → (x < a + k) ⊎ (b ≤ x + k) → get_or r x 0 ≡ get_or s (a + b - 1 - x) 0
  pub inner : (x : ℕ) → a + k ≤ x → x + k < b → get_or r x 0 ≡ get_or s x 0
  pub outer : (x : ℕ) → (x < a) ⊎ (b ≤ x) → get_or r x 0 ≡ get_or s x 0

pub reversed : (a b k : ℕ) (s : List ℕ) → b ≤ length s → a + (k + k) ≤ b → AreReversed a b k s (reversed_to a b k s)
reversed a b zero s h h' = record {
  moved = λ x l l' c. absurd (⊎_elim (λ (q : x < a + 0). omega arith) (λ (q : b ≤ x + 0). omega arith) c);
  inner = λ x l l'. refl;
  outer = λ x c. refl;
}
reversed a b (suc k) s h h' =
    let r : List ℕ = reversed_to a b k s in let old = reversed a b k s h (omega arith) in let i : ℕ = a + k in let j : ℕ = b - 1 - k in let l = reversed_long a b k s in
    let e = get_exchanged i j r (omega arith) (omega arith) (λ q. absurd (omega arith)) in record {
      moved = λ x low high c. ⊎_elim
          (λ (at_i : x ≡ i). ap (λ (z : ℕ). get_or (exchanged i j r) z 0) at_i ∙ (e.0 ∙ (old.inner j (omega arith) (omega arith) ∙ ap (λ (z : ℕ). get_or s z 0) (let q : j ≡ a + b - 1 - x = omega arith in q))))
          (λ (no_i : x ≢ i). ⊎_elim
          (λ (at_j : x ≡ j). ap (λ (z : ℕ). get_or (exchanged i j r) z 0) at_j ∙ (e.1 ∙ (old.inner i (omega arith) (omega arith) ∙ ap (λ (z : ℕ). get_or s z 0) (let q : i ≡ a + b - 1 - x = omega arith in q))))
          (λ (no_j : x ≢ j). e.2 x no_i no_j ∙ old.moved x low high (⊎_elim (λ (q : x < a + suc k). inl (omega arith)) (λ (q : b ≤ x + suc k). inr (omega arith)) c))
          (cases_eq x j))
          (cases_eq x i);
      inner = λ x low high. e.2 x (λ q. absurd (omega arith)) (λ q. absurd (omega arith)) ∙ old.inner x (omega arith) (omega arith);
      outer = λ x c. e.2 x (λ q. absurd (⊎_elim (λ (z : x < a). omega arith) (λ (z : b ≤ x). omega arith) c)) (λ q. absurd (⊎_elim (λ (z : x < a). omega arith) (λ (z : b ≤ x). omega arith) c)) ∙ old.outer x c;
    }

pub turner_after : (b : ℕ) (w : Work) (v : View) → IsTurner v → IsTurner (working b w v)
turner_after b w v h = (h.0, (with_work b w h.1.0, ap (option_map (with_work b w)) h.1.1, ap (option_map (with_work b w)) h.1.1))

pub zero_or : (x : ℕ) (w : Work) → x ≢ 0 → IsPlain x w → is_member x w ≡ true
zero_or x w h plain = ⊎_elim (λ z. absurd (h z)) (λ y. y) plain

-- what has to be so before the first word is put back, and before the second
pub first_back : (i j : ℕ) (w : Work) (y : ℕ) → i ≢ j → i < length w.slots → y ≡ get_or (set w.slots i 0) j 0 → IsPlain (get_or w.slots j 0) w → y ≢ 0
    → ((out_of j (out_of i w)).hand ≡ (y - 1) ∷ (out_of i w).hand) × (get_or (set (set w.slots i 0) j 0) i 0 ≡ 0)
first_back i j w y apart inside is plain some_ =
    let here : y ≡ get_or w.slots j 0 = is ∙ hand_before i j w apart in let member : is_member (get_or (set w.slots i 0) j 0) w ≡ true = ap (λ (z : ℕ). is_member z w) (sym is ∙ here) ∙ zero_or (get_or w.slots j 0) w (λ z. some_ (here ∙ z)) plain in
    (hand_word (get_or (set w.slots i 0) j 0) (out_of i w) (out_of i w).hand member ∙ ap (λ (z : ℕ). (z - 1) ∷ (out_of i w).hand) (sym is), get_or-set_other (set w.slots i 0) j i 0 0 apart ∙ get_or-set_same w.slots i 0 0 inside)

pub second_back : (i j : ℕ) (w : Work) (x y : ℕ) → i ≢ j → j < length w.slots → x ≡ get_or w.slots i 0 → y ≡ get_or (set w.slots i 0) j 0 → IsPlain (get_or w.slots i 0) w → IsPlain (get_or w.slots j 0) w → x ≢ 0
    → ((back_in i y (out_of j (out_of i w))).hand ≡ (x - 1) ∷ w.hand) × (get_or (back_in i y (out_of j (out_of i w))).slots j 0 ≡ 0)
second_back i j w x y apart inside x_is y_is plain_x plain_y some_ =
    let y0 : ℕ = get_or w.slots j 0 in let here : y ≡ y0 = y_is ∙ hand_before i j w apart in let w2 : Work = out_of j (out_of i w) in
    let mine : (out_of i w).hand ≡ (x - 1) ∷ w.hand = hand_word (get_or w.slots i 0) w w.hand (zero_or _ w (λ z. some_ (x_is ∙ z)) plain_x) ∙ ap (λ (z : ℕ). (z - 1) ∷ w.hand) (sym x_is) in
    let l = length-set w.slots i 0 in let emptied : get_or (set (set w.slots i 0) j 0) j 0 ≡ 0 = get_or-set_same (set w.slots i 0) j 0 0 (omega arith) in ⊎_elim
    (λ (zy : y0 ≡ 0). let back = back_zero i y w2 (here ∙ zy) in (
      ap (λ (z : Work). z.hand) back ∙ (hand_zero (get_or (set w.slots i 0) j 0) (out_of i w) (out_of i w).hand (sym y_is ∙ (here ∙ zy)) ∙ mine),
      ap (λ (z : Work). get_or z.slots j 0) back ∙ emptied,
    ))
    (λ (my : is_member y0 w ≡ true). let some_y : y ≢ 0 = λ z. word_some y0 (members_of w) my (sym here ∙ z) in let back = back_word i y w2 some_y in (
      ap (λ (z : Work). z.hand) back ∙ (ap (drop 1) (hand_word (get_or (set w.slots i 0) j 0) (out_of i w) (out_of i w).hand (ap (λ (z : ℕ). is_member z w) (hand_before i j w apart) ∙ my)) ∙ mine),
      ap (λ (z : Work). get_or z.slots j 0) back ∙ (get_or-set_other (set (set w.slots i 0) j 0) i j y 0 (λ e. apart (sym e)) ∙ emptied),
    ))
    plain_y

pub reversed_members : (ms s : List ℕ) (a b k : ℕ) → b ≤ length s → a + (k + k) ≤ b → AreMembers ms s → AreMembers ms (reversed_to a b k s)
reversed_members ms s a b k h h' all x = let r = reversed a b k s h h' in ⊎_elim
    (λ (low : x < a). at_old x (r.outer x (inl low)))
    (λ (from : a ≤ x). ⊎_elim
    (λ (high : b ≤ x). at_old x (r.outer x (inr high)))
    (λ (within : x < b). ⊎_elim
    (λ (first : x < a + k). at_old _ (r.moved x from within (inl first)))
    (λ (later : a + k ≤ x). ⊎_elim
    (λ (last : b ≤ x + k). at_old _ (r.moved x from within (inr last)))
    (λ (mid : x + k < b). at_old x (r.inner x later mid))
    (flip (cases_lt (x + k) b)))
    (cases_lt x (a + k)))
    (flip (cases_lt x b)))
    (cases_lt x a)
  where
    flip : {A B : Type 0} → A ⊎ B → B ⊎ A
    flip (inl a) = inr a
    flip (inr b) = inl b

    at_old : (z : ℕ) → get_or (reversed_to a b k s) x 0 ≡ get_or s z 0 → (get_or (reversed_to a b k s) x 0 ≡ 0) ⊎ (is_word (get_or (reversed_to a b k s) x 0) ms ≡ true)
    at_old z e = subst (λ (y : ℕ). (y ≡ 0) ⊎ (is_word y ms ≡ true)) (sym e) (all z)

-- CHAINS OF STEPS

pub at_chain : (b : ℕ) (w : Work) (v v1 : View) → IsTurner v → v1 ≡ working b w v → work_at b v1 ≡ w
at_chain b w v v1 t e = ap (work_at b) e ∙ work_same b w v t.1.0 t.1.1

pub turner_chain : (b : ℕ) (w : Work) (v v1 : View) → IsTurner v → v1 ≡ working b w v → IsTurner v1
turner_chain b w v v1 t e = subst IsTurner (sym e) (turner_after b w v t)

pub chain : (b : ℕ) (f : Work → Work) (w : Work) (v v1 v2 : View) → IsTurner v → v1 ≡ working b w v → v2 ≡ working b (f (work_at b v1)) v1 → v2 ≡ working b (f w) v
chain b f w v v1 v2 t e e2 = e2 ∙ ((λ j. working b (f (at_chain b w v v1 t e j)) (e j)) ∙ work_again b (f w) w v t.1.0 t.1.1)

-- THE ROTATION

pub whole : (a b : ℕ) (s : List ℕ) → a ≤ b → b ≤ length s → (x : ℕ) → a ≤ x → x < b → get_or (reversed_to a b ((b - a) / 2) s) x 0 ≡ get_or s (a + b - 1 - x) 0
whole a b s h h' x low high = let k : ℕ = (b - a) / 2 in let r = reversed a b k s h' (omega arith) in ⊎_elim
    (λ (first : x < a + k). r.moved x low high (inl first))
    (λ (later : a + k ≤ x). ⊎_elim
    (λ (mid : x + k < b). r.inner x later mid ∙ ap (λ (z : ℕ). get_or s z 0) (let q : x ≡ a + b - 1 - x = omega arith in q))
    (λ (last : b ≤ x + k). r.moved x low high (inr last))
    (cases_lt (x + k) b))
    (cases_lt x (a + k))

pub else_where : (a b : ℕ) (s : List ℕ) → a ≤ b → b ≤ length s → (x : ℕ) → (x < a) ⊎ (b ≤ x) → get_or (reversed_to a b ((b - a) / 2) s) x 0 ≡ get_or s x 0
else_where a b s h h' x out = (reversed a b ((b - a) / 2) s h' (omega arith)).outer x out

pub rotated_long : (head size : ℕ) (s : List ℕ) → length (rotated head size s) ≡ length s
rotated_long head size s = reversed_long 0 size ((size - 0) / 2) _ ∙ (reversed_long head size ((size - head) / 2) _ ∙ reversed_long 0 head ((head - 0) / 2) s)

module _ (head size : ℕ) (s : List ℕ) (h : head ≤ size) (h' : size ≤ length s) where
  abbrev one : List ℕ
  one = reversed_to 0 head ((head - 0) / 2) s

  abbrev two : List ℕ
  two = reversed_to head size ((size - head) / 2) one

  long1 : length one ≡ length s
  long1 = reversed_long 0 head ((head - 0) / 2) s

  long2 : length two ≡ length one
  long2 = reversed_long head size ((size - head) / 2) one

  last : (x : ℕ) → x < size → get_or (rotated head size s) x 0 ≡ get_or two (0 + size - 1 - x) 0
  last x below = whole 0 size two (omega arith) (let a = long1 in let b = long2 in omega arith) x (omega arith) below

  pub rotated_low : (x : ℕ) → x + head < size → get_or (rotated head size s) x 0 ≡ get_or s (head + x) 0
  rotated_low x below = let a = long1 in let y : ℕ = 0 + size - 1 - x in
      last x (omega arith) ∙ (whole head size one h (omega arith) y (omega arith) (omega arith)
      ∙ (else_where 0 head s (omega arith) (omega arith) (head + size - 1 - y) (inr (omega arith)) ∙ ap (λ (z : ℕ). get_or s z 0) (let q : head + size - 1 - y ≡ head + x = omega arith in q)))

  pub rotated_high : (x : ℕ) → x < size → size ≤ x + head → get_or (rotated head size s) x 0 ≡ get_or s (x + head - size) 0
  rotated_high x below from = let a = long1 in let y : ℕ = 0 + size - 1 - x in
      last x below ∙ (else_where head size one h (omega arith) y (inl (omega arith))
      ∙ (whole 0 head s (omega arith) (omega arith) y (omega arith) (omega arith) ∙ ap (λ (z : ℕ). get_or s z 0) (let q : 0 + head - 1 - y ≡ x + head - size = omega arith in q)))

  pub rotated_out : (x : ℕ) → size ≤ x → get_or (rotated head size s) x 0 ≡ get_or s x 0
  rotated_out x from = let a = long1 in let b = long2 in
      else_where 0 size two (omega arith) (omega arith) x (inr from) ∙ (else_where head size one h (omega arith) x (inr from) ∙ else_where 0 head s (omega arith) (omega arith) x (inr (omega arith)))

-- EMPTIED SLOTS

pub zeroed_long : (from k : ℕ) (s : List ℕ) → length (zeroed_to from k s) ≡ length s
zeroed_long from zero s = refl
zeroed_long from (suc k) s = length-set (zeroed_to from k s) (from + k) 0 ∙ zeroed_long from k s

pub zeroed_at : (from k : ℕ) (s : List ℕ) (x : ℕ) → from + k ≤ length s → from ≤ x → x < from + k → get_or (zeroed_to from k s) x 0 ≡ 0
zeroed_at from zero s x h low high = absurd (omega arith)
zeroed_at from (suc k) s x h low high = let l = zeroed_long from k s in ⊎_elim
    (λ (e : x ≡ from + k). ap (λ (z : ℕ). get_or (set (zeroed_to from k s) (from + k) 0) z 0) e ∙ get_or-set_same (zeroed_to from k s) (from + k) 0 0 (omega arith))
    (λ (no_ : x ≢ from + k). get_or-set_other (zeroed_to from k s) (from + k) x 0 0 no_ ∙ zeroed_at from k s x (omega arith) low (omega arith))
    (cases_eq x (from + k))

pub zeroed_out : (from k : ℕ) (s : List ℕ) (x : ℕ) → (x < from) ⊎ (from + k ≤ x) → get_or (zeroed_to from k s) x 0 ≡ get_or s x 0
zeroed_out from zero s x c = refl
zeroed_out from (suc k) s x c =
    get_or-set_other (zeroed_to from k s) (from + k) x 0 0 (λ e. absurd (⊎_elim (λ (l : x < from). omega arith) (λ (l : from + suc k ≤ x). omega arith) c))
    ∙ zeroed_out from k s x (⊎_elim (λ (l : x < from). inl l) (λ (l : from + suc k ≤ x). inr (omega arith)) c)

pub zeroed_next : (from k : ℕ) (s : List ℕ) → set (zeroed_to from k s) (from + k) 0 ≡ zeroed_to from (k + 1) s
zeroed_next from k s = ap (λ (z : ℕ). zeroed_to from z s) (let e : suc k ≡ k + 1 = omega arith in e)

-- THE DROPPED PACKETS

pub contains_word : (m : ℕ) (ns : List ℕ) → Contains ns m → is_word (m + 1) ns ≡ true
contains_word m [] h = absurd (none-in [] m refl h)
contains_word m (n ∷ ns) h = ⊎_elim
    (λ (e : n ≡ m). ap (λ (b : Bool). b || is_word (m + 1) ns) (eq-eqb (m + 1) (n + 1) (ap (λ (z : ℕ). z + 1) (sym e))))
    (λ (r : Contains ns m). ⊎_elim
    (λ (e : m + 1 ≡ n + 1). ap (λ (b : Bool). b || is_word (m + 1) ns) (eq-eqb (m + 1) (n + 1) e))
    (λ (no_ : m + 1 ≢ n + 1). ap (λ (b : Bool). b || is_word (m + 1) ns) (ne_eqb (m + 1) (n + 1) no_) ∙ contains_word m ns r)
    (cases_eq (m + 1) (n + 1)))
    (cons-in n ns m h)

pub drop_next : (n : ℕ) (xs : List ℕ) → drop 1 (drop n xs) ≡ drop (n + 1) xs
drop_next zero xs = refl
drop_next (suc n) [] = ap (λ (z : ℕ). drop {A = ℕ} z []) (let q : suc (suc n) ≡ suc n + 1 = omega arith in q)
drop_next (suc n) (x ∷ xs) = drop_next n xs ∙ ap (λ (z : ℕ). drop z (x ∷ xs)) (let e : suc (n + 1) ≡ suc n + 1 = omega arith in e)

pub word_drop : (n : ℕ) (xs : List ℕ) → word_at (drop n xs) 0 ≡ word_at xs n
word_drop zero xs = refl
word_drop (suc n) [] = refl
word_drop (suc n) (x ∷ xs) = word_drop n xs

pub settled_none : (x : ℕ) (w : Work) → x ≡ 0 → settled_if x w ≡ w
settled_none x w e = ap (λ (b : Bool). if b then w else settled_work w) (eq-eqb x 0 e)

pub settled_one : (x : ℕ) (w : Work) → x ≢ 0 → settled_if x w ≡ settled_work w
settled_one x w e = ap (λ (b : Bool). if b then w else settled_work w) (ne_eqb x 0 e)

-- the packet in the slot is the first that waits: it comes into the hand
pub first_waits : (i x : ℕ) (w : Work) → w.hand ≡ [] → x ≡ get_or w.slots i 0 → x ≡ word_at w.waiting 0 → x ≢ 0 → (rest : List ℕ) × (w.waiting ≡ (x - 1) ∷ rest) × ((out_of i w).hand ≡ (x - 1) ∷ [])
first_waits i x w bare found first some_ = go w.waiting refl
  where
    go : (ws : List ℕ) → w.waiting ≡ ws → (rest : List ℕ) × (w.waiting ≡ (x - 1) ∷ rest) × ((out_of i w).hand ≡ (x - 1) ∷ [])
    go [] e = absurd (some_ (first ∙ ap (λ (z : List ℕ). word_at z 0) e))
    go (m ∷ rest) e =
        let is : x ≡ m + 1 = first ∙ ap (λ (z : List ℕ). word_at z 0) e in let less : x - 1 ≡ m = omega arith in
        let in_it : Contains (members_of w) m = Contains-append_right w.kept w.waiting m (subst (λ (z : List ℕ). Contains z m) (sym e) (here-in m rest)) in
        let member : is_member (get_or w.slots i 0) w ≡ true = ap (λ (z : ℕ). is_member z w) (sym found ∙ is) ∙ contains_word m (members_of w) in_it in
        (rest, e ∙ ap (λ (z : ℕ). z ∷ rest) (sym less), hand_word (get_or w.slots i 0) w w.hand member ∙ (λ j. (sym found j - 1) ∷ bare j))

pub settled_step : (i x : ℕ) (w : Work) → w.hand ≡ [] → x ≡ get_or w.slots i 0 → x ≡ word_at w.waiting 0 → settled_if x (out_of i w) ≡ record w { slots = set w.slots i 0; waiting = drop 1 w.waiting }
settled_step i x w bare found first = ⊎_elim
    (λ (z : x ≡ 0). settled_none x (out_of i w) z ∙ (λ j. record w { slots = set w.slots i 0; hand = hand_zero (get_or w.slots i 0) w w.hand (sym found ∙ z) j; waiting = nothing w.waiting (sym first ∙ z) j }))
    (λ (some_ : x ≢ 0). let f = first_waits i x w bare found first some_ in settled_one x (out_of i w) some_ ∙ (λ j. record w { slots = set w.slots i 0; hand = (ap (drop 1) f.2 ∙ sym bare) j; waiting = drop 1 w.waiting }))
    (cases_eq x 0)
  where
    nothing : (ws : List ℕ) → word_at ws 0 ≡ 0 → ws ≡ drop 1 ws
    nothing [] e = refl
    nothing (m ∷ ws) e = absurd (omega arith)

pub dropped_step : (from n x : ℕ) (w : Work) → w.hand ≡ [] → x ≡ get_or (zeroed_to from n w.slots) (from + n) 0 → x ≡ word_at w.waiting n → settled_if x (out_of (from + n) (dropped_to from n w)) ≡ dropped_to from (n + 1) w
dropped_step from n x w bare found first =
    settled_step (from + n) x (dropped_to from n w) bare found (first ∙ sym (word_drop n w.waiting)) ∙ (λ j. record w { slots = zeroed_next from n w.slots j; waiting = drop_next n w.waiting j })

pub event_after : (b : ℕ) (w : Work) (v : View) → IsTurner v → event_of_work (working b w v) ≡ event_of_work v
event_after b w v t = ap (λ (o : Option HalfResize). (unwrap_or (option_map (with_work b w) o) no_resizing).event) t.1.1 ∙ sym (ap (λ (o : Option HalfResize). (unwrap_or o no_resizing).event) t.1.1)

-- the fates of the first packets that wait, and that of the next
pub shrunk_next : (event : ℕ) (ws : List ℕ) (n x : ℕ) (fates : List (ℕ × Fate)) → x ≡ word_at ws n → shrunk_if x event (shrunk_to event n ws fates) ≡ shrunk_to event (n + 1) ws fates
shrunk_next event [] zero x fates e = ap (λ (z : ℕ). shrunk_if z event fates) e
shrunk_next event [] (suc n) x fates e = ap (λ (z : ℕ). shrunk_if z event fates) e ∙ ap (λ (z : ℕ). shrunk_to event z [] fates) (let q : suc (suc n) ≡ suc n + 1 = omega arith in q)
shrunk_next event (m ∷ ws) zero x fates e = ap (λ (z : ℕ). shrunk_if z event fates) e ∙ some_ m
  where
    some_ : (m : ℕ) → shrunk_if (m + 1) event fates ≡ (m, fate.Shrunk event) ∷ fates
    some_ m = ap (λ (b : Bool). if b then fates else (m + 1 - 1, fate.Shrunk event) ∷ fates) (ne_eqb (m + 1) 0 (λ q. absurd (omega arith))) ∙ ap (λ (z : ℕ). (z, fate.Shrunk event) ∷ fates) (let q : m + 1 - 1 ≡ m = omega arith in q)
shrunk_next event (m ∷ ws) (suc n) x fates e = shrunk_next event ws n x ((m, fate.Shrunk event) ∷ fates) e ∙ ap (λ (z : ℕ). shrunk_to event z (m ∷ ws) fates) (let q : suc (n + 1) ≡ suc n + 1 = omega arith in q)

pub count_next : (ws : List ℕ) (n x count one : ℕ) → x ≡ word_at ws n → one ≡ (if x == 0 then 0 else 1) → count + length (drop n ws) ≡ length ws → count + one + length (drop (n + 1) ws) ≡ length ws
count_next ws n x count one e one_is old = let l = length-drop n ws in let l' = length-drop (n + 1) ws in ⊎_elim
    (λ (z : x ≡ 0). let past : length ws ≤ n = ⊎_elim (λ (h : n < length ws). absurd (let w = word_at-within ws n h in omega arith)) (λ h. h) (cases_lt n (length ws)) in let none_ : one ≡ 0 = one_is ∙ ap (λ (b : Bool). if b then 0 else 1) (eq-eqb x 0 z) in omega arith)
    (λ (some_ : x ≢ 0). let inside : n < length ws = ⊎_elim (λ h. h) (λ (h : length ws ≤ n). absurd (some_ (e ∙ word_at-past ws n h))) (cases_lt n (length ws)) in let is_one : one ≡ 1 = one_is ∙ ap (λ (b : Bool). if b then 0 else 1) (ne_eqb x 0 some_) in omega arith)
    (cases_eq x 0)

pub work_of : (b : ℕ) (v : View) (t : HalfResize) → v.holder.resizing ≡ Some t → work_at b v ≡ at b t.works
work_of b v t e = ap (λ (o : Option HalfResize). at b (unwrap_or o no_resizing).works) e

-- the store of a fate as a step on the work
pub shrunk_is : (b b' x event : ℕ) (v : View) (t : HalfResize) → v.holder.resizing ≡ Some t → b' ≡ b → x ≢ 0 → settle_view_shrunk b' (x - 1) event v ≡ having_settled (shrunk_if x event v.settled) (working b (settled_if x (work_at b v)) v)
shrunk_is b b' x event v t e same some_ =
    let step : with_resizing (option_map (λ (t : HalfResize). with_work b (settled_work (at b t.works)) t) v.holder.resizing) v ≡ working b (settled_if x (work_at b v)) v =
    ap (λ (o : Option HalfResize). with_resizing (option_map (λ (t : HalfResize). with_work b (settled_work (at b t.works)) t) o) v) e ∙ (told_work b settled_work v t e ∙ ap (λ (w : Work). working b w v) (sym (settled_one x (work_at b v) some_))) in
    let fates : (x - 1, fate.Shrunk event) ∷ v.settled ≡ shrunk_if x event v.settled = sym (ap (λ (c : Bool). if c then v.settled else (x - 1, fate.Shrunk event) ∷ v.settled) (ne_eqb x 0 some_)) in
    ap (λ (z : ℕ). settle_view_shrunk z (x - 1) event v) same ∙ (λ j. having_settled (fates j) (step j))

pub into_is : (i x : ℕ) (hand : List ℕ) (w : Work) → x ≢ 0 → w.hand ≡ (x - 1) ∷ hand → into i (x - 1) hand w ≡ back_in i x w
into_is i x hand w some_ e = sym (back_word i x w some_ ∙ (λ j. record w { slots = set w.slots i ((let q : x ≡ x - 1 + 1 = omega arith in q) j); hand = drop 1 (e j) }))

-- ONE SLOT EMPTIED AND FILLED AGAIN

pub single_back : (i : ℕ) (w : Work) (x : ℕ) → i < length w.slots → x ≡ get_or w.slots i 0 → IsPlain (get_or w.slots i 0) w → x ≢ 0 → ((out_of i w).hand ≡ (x - 1) ∷ w.hand) × (get_or (out_of i w).slots i 0 ≡ 0) × (is_member x w ≡ true)
single_back i w x inside is plain some_ =
    let member = zero_or (get_or w.slots i 0) w (λ z. some_ (is ∙ z)) plain in
    (hand_word (get_or w.slots i 0) w w.hand member ∙ ap (λ (z : ℕ). (z - 1) ∷ w.hand) (sym is), get_or-set_same w.slots i 0 0 inside, ap (λ (z : ℕ). is_member z w) is ∙ member)

pub same_again : (b i : ℕ) (v vl v1 v2 : View) (x : ℕ) → IsTurner v → vl ≡ v → v1 ≡ working b (out_of i (work_at b vl)) vl → x ≡ get_or (work_at b vl).slots i 0 → v2 ≡ working b (back_in i x (work_at b v1)) v1 → IsPlain (get_or (work_at b v).slots i 0) (work_at b v) → v2 ≡ v
same_again b i v vl v1 v2 x t e0 e1 is e2 plain =
    let w : Work = work_at b v in let e1' : v1 ≡ working b (out_of i w) v = e1 ∙ ap (λ (z : View). working b (out_of i (work_at b z)) z) e0 in
    let x_is : x ≡ get_or w.slots i 0 = is ∙ ap (λ (z : View). get_or (work_at b z).slots i 0) e0 in
    chain b (back_in i x) (out_of i w) v v1 v2 t e1' e2 ∙ ((λ j. working b (back_in i (x_is j) (out_of i w)) v) ∙ (ap (λ (z : Work). working b z v) (out_and_back i w plain) ∙ work_back b v t.1.0 t.1.1 t.1.2))

pub event_of : (v : View) (t : HalfResize) → v.holder.resizing ≡ Some t → event_of_work v ≡ t.event
event_of v t e = ap (λ (o : Option HalfResize). (unwrap_or o no_resizing).event) e

pub member_of_first : (i x : ℕ) (w : Work) → x ≡ get_or w.slots i 0 → x ≡ word_at w.waiting 0 → x ≢ 0 → is_member x w ≡ true
member_of_first i x w found first some_ = go w.waiting refl
  where
    go : (ws : List ℕ) → w.waiting ≡ ws → is_member x w ≡ true
    go [] e = absurd (some_ (first ∙ ap (λ (z : List ℕ). word_at z 0) e))
    go (m ∷ rest) e = ap (λ (z : ℕ). is_member z w) (first ∙ ap (λ (z : List ℕ). word_at z 0) e)
        ∙ contains_word m (members_of w) (Contains-append_right w.kept w.waiting m (subst (λ (z : List ℕ). Contains z m) (sym e) (here-in m rest)))
