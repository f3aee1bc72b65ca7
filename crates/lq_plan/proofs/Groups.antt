-- The stations of a plan, group by group.
use Rattle.std.proofs.Common.{◌≡◌, ℕ, zero, suc, ◌+◌, ◌<◌, ◌≤◌, ◌⊎◌, inl, inr, List, [], ◌∷◌, ◌++◌, length, take, replicate, get_or, Some, option_map, slice_get, refl, sym, ap, ap₂, ◌∙◌, Bool, true, false, ◌||◌, ◌&&◌, nat_lt, arith, map}
use Rattle.std.specs.Prelude.{sum}
use Rattle.std.specs.List.{flat_map, list_any}
use Rattle.std.proofs.lemmas.Bool.{cases_lt, false≢true}
use Rattle.std.proofs.lemmas.List.Folds.{list_any-append}
use Rattle.std.specs.Option.{option_map_or}
use Rattle.std.proofs.lemmas.List.{get_or-replicate, length-append, length-map, length-replicate, replicate-append-replicate, append_assoc, take_all}
use Rattle.std.proofs.lemmas.List.Sums.{sum_by-cons, sum_by-take-le, sum_by_more, sum_by_more_le}
use Rattle.std.proofs.lemmas.Option.{get_or_from_slice_get, same_Some, slice_get-get_or, slice_get-map, slice_get_within}
use Rattle.toml.specs.Data.{Members}
use Rattle.lq_model.specs.Numbers.{first_numbers}
use Rattle.lq_model.specs.Plan.{Plan, first_at, is_swap, is_swap_kind, mq_at}
use Rattle.lq_model.specs.declared.plan.EventPlan.{EventPlan}
use Rattle.lq_model.specs.declared.plan.StationPlan.{StationPlan}
use Rattle.lq_plan.specs.Document.{Document}
use Rattle.lq_plan.specs.Keys.{event_word_in, group_in, mq_in}
use Rattle.lq_plan.specs.Limits.{IsWithinLimits}
use Rattle.lq_plan.specs.Reading.{children_in, event_in, has_group_fault, kind_as, plan_in, station_plan_in}
use Rattle.lq_plan.proofs.Lists.{list_any-map}

-- GROUPS

pub mq-read : (groups : List ℕ) (j : ℕ) → j < length groups → mq_at groups j ≡ get_or groups j 0
mq-read groups j within = ap (λ o. option_map_or (λ mq. mq) o 0) (slice_get-get_or groups j 0 within)

-- a group's children stand within all
pub group-within : (groups : List ℕ) (j : ℕ) → j < length groups → first_at groups j + mq_at groups j ≤ sum groups
group-within groups j within = let read = mq-read groups j within in let le = sum_by_more_le (λ x. x) groups j 0 within in omega arith

pub first-few : (groups : List ℕ) (j : ℕ) → first_at groups j ≤ sum groups
first-few groups j = sum_by-take-le (λ x. x) groups j

-- there are no more groups than children
few-sum : (groups : List ℕ) → ((j mq : ℕ) → slice_get groups j ≡ Some mq → 0 < mq) → length groups ≤ sum groups
few-sum [] each = omega arith
few-sum (mq ∷ groups) each =
    let rest = few-sum groups (λ j m at. each (suc j) m at) in let some = each 0 mq refl in let more = sum_by-cons (λ (x : ℕ). x) mq groups in omega arith

pub few-groups : (plan : Plan) → IsWithinLimits plan → length plan.groups ≤ 8
few-groups plan within = let few = few-sum plan.groups (λ j mq at. (within.each_group j mq at).0) in omega (arith, few, within.children, within.stations)

-- CHILDREN

pub length-children : (ts : List Members) → length (flat_map children_in ts) ≡ sum (map mq_in ts)
length-children [] = refl
length-children (t ∷ ts) =
    let rest = length-children ts in let whole = length-append (children_in t) (flat_map children_in ts) in let own = length-replicate (mq_in t) (station_plan_in t) in
    let more = sum_by-cons (λ (x : ℕ). x) (mq_in t) (map mq_in ts) in omega arith

-- too many children of all groups are too many stations, and an event of one of several is one of so many
pub group-fault : (d : Document) → has_group_fault (plan_in d) ≡ (nat_lt 8 (sum (map mq_in d.stations))
    || list_any (λ event. is_swap_kind (kind_as (event_word_in event) event) && nat_lt 1 (mq_at (map mq_in d.stations) (group_in event))) d.events)
group-fault d =
    ap₂ (λ many swaps. many || swaps) (ap (nat_lt 8) (length-children d.stations))
    (sym (list_any-map (λ (event : EventPlan). is_swap event && nat_lt 1 event.mq) (event_in (map mq_in d.stations)) d.events))

left-get : {X : Type 0} (xs ys : List X) (i : ℕ) (x : X) → slice_get xs i ≡ Some x → slice_get (xs ++ ys) i ≡ Some x
left-get [] ys i x at = cc
left-get (y ∷ xs) ys zero x at = at
left-get (y ∷ xs) ys (suc i) x at = left-get xs ys i x at

right-get : {X : Type 0} (xs ys : List X) (i : ℕ) → slice_get (xs ++ ys) (length xs + i) ≡ slice_get ys i
right-get [] ys i = let same : 0 + i ≡ i = omega arith in ap (slice_get ys) same
right-get (x ∷ xs) ys i = let same : length (x ∷ xs) + i ≡ suc (length xs + i) = omega arith in ap (slice_get (x ∷ (xs ++ ys))) same ∙ right-get xs ys i

either-get : {X : Type 0} (xs ys : List X) (i : ℕ) (x : X) → slice_get (xs ++ ys) i ≡ Some x → (slice_get xs i ≡ Some x) ⊎ ((k : ℕ) × (slice_get ys k ≡ Some x))
either-get [] ys i x at = inr (i, at)
either-get (y ∷ xs) ys zero x at = inl at
either-get (y ∷ xs) ys (suc i) x at = either-get xs ys i x at

copy-at : {X : Type 0} (n i : ℕ) (a : X) → i < n → slice_get (replicate n a) i ≡ Some a
copy-at n i a below =
    let own = length-replicate n a in
    slice_get-get_or (replicate n a) i a (omega arith) ∙ ap Some (get_or-replicate n i a a below)

copy-is : {X : Type 0} (n i : ℕ) (a x : X) → slice_get (replicate n a) i ≡ Some x → x ≡ a
copy-is n i a x at =
    let own = length-replicate n a in let within = slice_get_within (replicate n a) i x at in
    sym (get_or_from_slice_get (replicate n a) i x a at) ∙ get_or-replicate n i a a (omega arith)

-- a child is as its group
pub child-at : (ts : List Members) (j i : ℕ) (t : Members) → slice_get ts j ≡ Some t → i < mq_in t → slice_get (flat_map children_in ts) (first_at (map mq_in ts) j + i) ≡ Some (station_plan_in t)
child-at [] j i t at below = cc
child-at (s ∷ ts) zero i t at below =
    let is : s ≡ t = same_Some s t at in let place : first_at (map mq_in (s ∷ ts)) 0 + i ≡ i = omega arith in
    ap (slice_get (flat_map children_in (s ∷ ts))) place
    ∙ left-get (children_in s) (flat_map children_in ts) i (station_plan_in t)
    (ap (λ (x : Members). slice_get (children_in x) i) is ∙ copy-at (mq_in t) i (station_plan_in t) below)
child-at (s ∷ ts) (suc j) i t at below =
    let own = length-replicate (mq_in s) (station_plan_in s) in let more = sum_by-cons (λ (x : ℕ). x) (mq_in s) (take j (map mq_in ts)) in
    let place : first_at (map mq_in (s ∷ ts)) (suc j) + i ≡ length (children_in s) + (first_at (map mq_in ts) j + i) = omega arith in
    ap (slice_get (flat_map children_in (s ∷ ts))) place
    ∙ right-get (children_in s) (flat_map children_in ts) (first_at (map mq_in ts) j + i) ∙ child-at ts j i t at below

-- each station is a child
pub each-child : (ts : List Members) (c : ℕ) (s : StationPlan) → slice_get (flat_map children_in ts) c ≡ Some s → (t : Members) × ((j : ℕ) × (slice_get ts j ≡ Some t)) × (s ≡ station_plan_in t)
each-child [] c s at = cc
each-child (t ∷ ts) c s at = elim (either-get (children_in t) (flat_map children_in ts) c s at) [
  | inl here ↦ (t, (0, refl), copy-is (mq_in t) c (station_plan_in t) s here)
  | inr there ↦ let rest = each-child ts there.0 s there.1 in (rest.0, (suc rest.1.0, rest.1.1), rest.2)
]

-- one group more
pub group-read : (ts : List Members) (i : ℕ) (t : Members) → slice_get ts i ≡ Some t → (i < length (map mq_in ts)) × (get_or (map mq_in ts) i 0 ≡ mq_in t)
group-read ts i t at =
    let long = length-map ts mq_in in let below = slice_get_within ts i t at in
    let there : slice_get (map mq_in ts) i ≡ Some (mq_in t) = slice_get-map mq_in ts i ∙ ap (option_map mq_in) at in
    (omega arith, get_or_from_slice_get (map mq_in ts) i (mq_in t) 0 there)

pub sum-more : (ts : List Members) (i : ℕ) (t : Members) → slice_get ts i ≡ Some t → sum (take (i + 1) (map mq_in ts)) ≡ sum (take i (map mq_in ts)) + mq_in t
sum-more ts i t at = let read = group-read ts i t at in sum_by_more (λ (x : ℕ). x) (map mq_in ts) i 0 read.0 ∙ ap (λ m. sum (take i (map mq_in ts)) + m) read.1

pub sum-within : (ts : List Members) (i : ℕ) (t : Members) → slice_get ts i ≡ Some t → sum (take i (map mq_in ts)) + mq_in t ≤ sum (map mq_in ts)
sum-within ts i t at = let more = sum-more ts i t at in let few = first-few (map mq_in ts) (i + 1) in omega arith

pub sum-whole : (ts : List Members) (i : ℕ) → length ts ≤ i → sum (take i (map mq_in ts)) ≡ sum (map mq_in ts)
sum-whole ts i end = let long = length-map ts mq_in in ap sum (take_all i (map mq_in ts) (omega arith))

pub one-copy-more : {X : Type 0} (xs : List X) (n : ℕ) (x : X) → (xs ++ replicate n x) ++ x ∷ [] ≡ xs ++ replicate (n + 1) x
one-copy-more xs n x = append_assoc xs (replicate n x) (x ∷ []) ∙ ap (λ ys. xs ++ ys) (replicate-append-replicate n 1 x)

-- PLACES AMONG THE FIRST NUMBERS

or-left : (a b : Bool) → a ≡ true → (a || b) ≡ true
or-left true b h = refl
or-left false b h = cc

or-right : (a b : Bool) → b ≡ true → (a || b) ≡ true
or-right true b h = refl
or-right false true h = refl
or-right false false h = cc

pub any-first : (test : ℕ → Bool) (n k : ℕ) → k < n → test k ≡ true → list_any test (first_numbers n) ≡ true
any-first test zero k below passes = absurd (omega arith)
any-first test (suc n) k below passes = list_any-append test (first_numbers n) (n ∷ []) ∙ go (λ lower. any-first test n k lower passes) (cases_lt k n)
  where
    go : (k < n → list_any test (first_numbers n) ≡ true) → (k < n) ⊎ (n ≤ k) → (list_any test (first_numbers n) || list_any test (n ∷ [])) ≡ true
    go before (inl lower) = or-left (list_any test (first_numbers n)) _ (before lower)
    go before (inr last) = let same : k ≡ n = omega arith in or-right (list_any test (first_numbers n)) _ (or-left (test n) false (ap test (sym same) ∙ passes))

pub none-more : (test : ℕ → Bool) (n : ℕ) → list_any test (first_numbers n) ≡ false → test n ≡ false → list_any test (first_numbers (n + 1)) ≡ false
none-more test n before here =
    let more : n + 1 ≡ suc n = omega arith in
    ap (λ k. list_any test (first_numbers k)) more ∙ list_any-append test (first_numbers n) (n ∷ []) ∙ ap₂ (λ a b. a || (b || false)) before here

pub none-first : (test : ℕ → Bool) (n k : ℕ) → k < n → list_any test (first_numbers n) ≡ false → test k ≡ false
none-first test n k below none = go (test k) refl
  where
    go : (b : Bool) → test k ≡ b → b ≡ false
    go false is = refl
    go true is = absurd (false≢true (sym none ∙ any-first test n k below is))
