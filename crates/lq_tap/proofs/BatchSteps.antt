-- What the steps of a batch make of the view and of the list of steps.
use Rattle.std.proofs.Common.{◌≡◌, ℕ, zero, suc, ◌+◌, Bool, false, List, [], ◌∷◌, ◌++◌, length, drop, refl, sym, ap, ◌∙◌, arith}
use Rattle.std.proofs.lemmas.List.{append-nil, append_assoc}
use Rattle.lq_band_laws.specs.Ring.{Ends, after_take, IsAtRest}
use Rattle.lq_tap.specs.Views.{View}
use Rattle.lq_tap.specs.Made.{Made}
use Rattle.lq_tap.specs.Told.{after_takes, taking, with_ends, rest_at}
use Rattle.lq_tap.specs.Rule.{consumer_of}
use Rattle.lq_tap.specs.declared.view.Consumer.{Consumer}
use Rattle.lq_tap.specs.Steps.{took, took_all}

-- a packet was taken with all the emptying that this asks
abbrev pub having_taken_one : ℕ → View → View
having_taken_one n v = record v {
  reader = record v.reader { ends = after_take v.about.len v.reader.ends; taken = v.reader.taken ++ n ∷ []; batch = v.reader.batch ++ n ∷ []; drained = false };
}

-- it is loaded first, and then the slots are emptied
pub taken_and_emptied : (len n : ℕ) (ends : Ends) (v : View) → v.about.len ≡ len → v.reader.ends ≡ ends → with_ends (after_take len ends) (taking n v) ≡ having_taken_one n v
taken_and_emptied len n ends v about is = λ j. with_ends (after_take (sym about j) (sym is j)) (taking n v)

-- these were taken so far
abbrev pub taken_so_far : Bool → List ℕ → View → View
taken_so_far d batch v = record v { reader = record v.reader { ends = after_takes v.about.len (length batch) v.reader.ends; taken = v.reader.taken ++ batch; batch = batch; drained = d } }

length_snoc : (batch : List ℕ) (n : ℕ) → length (batch ++ n ∷ []) ≡ suc (length batch)
length_snoc [] n = refl
length_snoc (m ∷ ms) n = ap suc (length_snoc ms n)

pub one_more_taken : (d : Bool) (batch : List ℕ) (n : ℕ) (v : View) → having_taken_one n (taken_so_far d batch v) ≡ taken_so_far false (batch ++ n ∷ []) v
one_more_taken d batch n v = let long = sym (length_snoc batch n) in let taken = append_assoc v.reader.taken batch (n ∷ []) in
    λ j. record v { reader = record v.reader { ends = after_takes v.about.len (long j) v.reader.ends; taken = taken j; batch = batch ++ n ∷ []; drained = false } }

pub none_taken_yet : (v : View) → v.reader.batch ≡ [] → taken_so_far v.reader.drained [] v ≡ v
none_taken_yet v e = let taken = append-nil v.reader.taken in λ j. record v { reader = record v.reader { taken = taken j; batch = sym e j } }

after_more : (size n : ℕ) (c : Ends) → after_takes size (suc n) c ≡ after_takes size n (after_take size c)
after_more size zero c = refl
after_more size (suc n) c = ap (after_take size) (after_more size n c)

pub took_one_more : (len : ℕ) (ends : Ends) (batch : List ℕ) (n : ℕ) (steps : List Made) → took_all len ends (batch ++ n ∷ []) steps ≡ took len (after_takes len (length batch) ends) n (took_all len ends batch steps)
took_one_more len ends [] n steps = refl
took_one_more len ends (m ∷ ms) n steps = took_one_more len (after_take len ends) ms n (took len ends m steps) ∙ ap (λ (c : Ends). took len c n (took_all len (after_take len ends) ms (took len ends m steps))) (sym (after_more len (length ms) ends))

drop_none : {A : Type 0} (t : ℕ) → drop {A = A} t [] ≡ []
drop_none zero = refl
drop_none (suc t) = refl

drop_more : {A : Type 0} (t : ℕ) (xs : List A) → drop (t + 1) xs ≡ drop 1 (drop t xs)
drop_more zero xs = ap (λ (n : ℕ). drop n xs) (let e : zero + 1 ≡ 1 = omega arith in e)
drop_more (suc t) [] = drop_none (suc t + 1)
drop_more (suc t) (x ∷ xs) = ap (λ (n : ℕ). drop n (x ∷ xs)) (let e : suc t + 1 ≡ suc (t + 1) = omega arith in e) ∙ drop_more t xs

pub drop_further : (t : ℕ) (xs ys : List ℕ) → drop t xs ≡ drop t ys → drop (t + 1) xs ≡ drop (t + 1) ys
drop_further t xs ys e = drop_more t xs ∙ (ap (λ (zs : List ℕ). drop 1 zs) e ∙ sym (drop_more t ys))

-- what lies in the slot, and the ends that it stands for
pub slot_first : (a b : Consumer) → ◌≡◌ {A = List (ℕ × Consumer)} ((0, a) ∷ []) ((0, b) ∷ []) → a ≡ b
slot_first a b e = ap first e
  where
    first : List (ℕ × Consumer) → Consumer
    first [] = a
    first (x ∷ xs) = x.1

pub rest_of : (len : ℕ) (ends : Ends) (c : Consumer) → IsAtRest len ends → consumer_of ends ≡ c → rest_at c ≡ ends
rest_of len ends c rest e = ap rest_at (sym e) ∙ (let same = sym rest.2 in λ j. record { head = ends.head; tail = ends.tail; edge = same j })
