-- The packets that a unit sent, where a list has each at its serial.
use Rattle.std.proofs.Common.{◌≡◌, ◌≢◌, ◌<◌, ◌≤◌, ◌+◌, ◌++◌, ◌∷◌, [], ℕ, zero, suc, Bool, true, false, cond, eqb, ltb, List, length, map, take, refl, sym, ap, ◌∙◌, subst, add-one, arith, inl, inr, eq-eqb, get_or, set, slice_get, Some}
use Rattle.std.specs.Prelude.{count_by}
use Rattle.std.proofs.Math.Seq.{take-suc}
use Rattle.std.proofs.lemmas.List.{map-append, take_all, same_lists, get_or-set_same, length-set}
use Rattle.std.proofs.lemmas.List.Sums.{sum_by-cons, count_by_more_yes, count_by_more_no}
use Rattle.std.proofs.lemmas.Option.{slice_get_within, slice_get-get_or, get_or_from_slice_get}
use Rattle.std.proofs.lemmas.Bool.{cases_Bool, cases_lt, ne_eqb}
use Rattle.std.proofs.lemmas.Bool.Decides.{nat_tests}
use Rattle.lq_model.specs.Numbers.{first_numbers}
use Rattle.lq_model.specs.Sent.{is_sent_as, first_passing, sent_of}
use Rattle.lq_model.specs.Texts.{is_sent_by}
use Rattle.lq_model.specs.declared.fate.Fate.{Fate}
use Rattle.lq_model.specs.declared.fate.Fate.TheVariants.{Sent, Full, Shrunk, Purged, Refused}
use Rattle.lq_model.specs.Settled.{IsSentList, AreSerials}

-- HOW MANY NUMBERS OF A LIST ARE BELOW ONE

abbrev one_if : Bool → ℕ
one_if b = cond b 1 0

below_step : (x i : ℕ) → one_if (ltb x (i + 1)) ≡ one_if (ltb x i) + one_if (eqb x i)
below_step x i = grind (arith, nat_tests)

count_below_more : (xs : List ℕ) (i : ℕ) → count_by (λ x. ltb x (i + 1)) xs ≡ count_by (λ x. ltb x i) xs + count_by (λ x. eqb x i) xs
count_below_more [] i = refl
count_below_more (x ∷ xs) i =
    let more = sum_by-cons (λ y. one_if (ltb y (i + 1))) x xs in
    let less = sum_by-cons (λ y. one_if (ltb y i)) x xs in
    let here = sum_by-cons (λ y. one_if (eqb y i)) x xs in
    omega (arith, more, less, here, below_step x i, count_below_more xs i)

none_below_zero : (x : ℕ) → one_if (ltb x 0) ≡ 0
none_below_zero x = grind (arith, nat_tests)

count_below_zero : (xs : List ℕ) → count_by (λ x. ltb x 0) xs ≡ 0
count_below_zero [] = refl
count_below_zero (x ∷ xs) = omega (arith, sum_by-cons (λ y. one_if (ltb y 0)) x xs, none_below_zero x, count_below_zero xs)

one_below : (x i : ℕ) → x < i → one_if (ltb x i) ≡ 1
one_below x i lt = grind (arith, nat_tests)

count_all_below : (xs : List ℕ) (i : ℕ) → ((t x : ℕ) → slice_get xs t ≡ Some x → x < i) → count_by (λ x. ltb x i) xs ≡ length xs
count_all_below [] i below = refl
count_all_below (x ∷ xs) i below =
    omega (arith, sum_by-cons (λ y. one_if (ltb y i)) x xs, one_below x i (below zero x refl), count_all_below xs i (λ t y at. below (suc t) y at))

-- a number that is nowhere
count_nowhere : (xs : List ℕ) (i : ℕ) → ((t : ℕ) → slice_get xs t ≡ Some i → ⊥) → count_by (λ x. eqb x i) xs ≡ 0
count_nowhere [] i none = refl
count_nowhere (x ∷ xs) i none =
    let other : eqb x i ≡ false = ne_eqb x i (λ e. none zero (ap (λ y. Some y) e)) in
    let later : count_by (λ y. eqb y i) xs ≡ 0 = count_nowhere xs i (λ t at. none (suc t) at) in
    sum_by-cons (λ y. one_if (eqb y i)) x xs ∙ rw (other, later) refl

-- a number that is at one place
count_once : (xs : List ℕ) (i s : ℕ) → slice_get xs s ≡ Some i → ((t : ℕ) → slice_get xs t ≡ Some i → t ≡ s) → count_by (λ x. eqb x i) xs ≡ 1
count_once [] i s at only = cc
count_once (x ∷ xs) i zero at only =
    let same : x ≡ i = cc in
    let here : eqb x i ≡ true = eq-eqb x i same in
    let later : count_by (λ y. eqb y i) xs ≡ 0 = count_nowhere xs i (λ t there. (let e : suc t ≡ zero = only (suc t) there in absurd (omega arith))) in
    sum_by-cons (λ y. one_if (eqb y i)) x xs ∙ rw (here, later) refl
count_once (x ∷ xs) i (suc s) at only =
    let other : eqb x i ≡ false = ne_eqb x i (λ same. (let e : zero ≡ suc s = only zero (ap (λ y. Some y) same) in absurd (omega arith))) in
    let later : count_by (λ y. eqb y i) xs ≡ 1 = count_once xs i s at (λ t there. (let e : suc t ≡ suc s = only (suc t) there in omega arith)) in
    sum_by-cons (λ y. one_if (eqb y i)) x xs ∙ rw (other, later) refl

-- HOW MANY PACKETS A UNIT SENT

sent_by_is : (unit : ℕ) (fate : Fate) → is_sent_by unit fate ≡ true → (s : ℕ) × (fate ≡ Sent unit s)
sent_by_is unit (Sent by s) is = (s, ap (λ u. Sent u s) (grind (arith, nat_tests)))
sent_by_is unit (Full seen) is = cc
sent_by_is unit (Shrunk event) is = cc
sent_by_is unit (Purged cause) is = cc
sent_by_is unit (Refused event) is = cc

sent_by_itself : (unit s : ℕ) → is_sent_by unit (Sent unit s) ≡ true
sent_by_itself unit s = eq-eqb unit unit refl

-- among the packets below i the unit sent those whose numbers the list has
counted : (fates : List Fate) (unit : ℕ) (sent : List ℕ) → IsSentList fates unit sent → (i : ℕ) → i ≤ length fates → count_by (is_sent_by unit) (take i fates) ≡ count_by (λ x. ltb x i) sent
counted fates unit sent serials zero le = sym (count_below_zero sent)
counted fates unit sent serials (suc i) le =
    let test = is_sent_by unit in
    let fate : Fate = get_or fates i (Full 0) in
    let before : count_by test (take i fates) ≡ count_by (λ x. ltb x i) sent = counted fates unit sent serials i (omega arith) in
    let here : slice_get fates i ≡ Some fate = slice_get-get_or fates i (Full 0) (omega arith) in
    let more : count_by (λ x. ltb x (suc i)) sent ≡ count_by (λ x. ltb x i) sent + count_by (λ x. eqb x i) sent =
    subst (λ j. count_by (λ x. ltb x j) sent ≡ count_by (λ x. ltb x i) sent + count_by (λ x. eqb x i) sent) (add-one i) (count_below_more sent i)
    in
    ap (λ j. count_by test (take j fates)) (sym (add-one i))
    ∙ elim (cases_Bool (test fate)) [
      | inl passes ↦ (
          let is = sent_by_is unit fate passes in
          let at : slice_get sent is.0 ≡ Some i = (serials i is.0).0 (here ∙ ap (λ f. Some f) is.1) in
          let only : (t : ℕ) → slice_get sent t ≡ Some i → t ≡ is.0 = λ t there. (let e : slice_get fates i ≡ Some (Sent unit t) = (serials i t).1 there in cc) in
          count_by_more_yes test fates i (Full 0) (omega arith) passes ∙ omega (arith, before, more, count_once sent i is.0 at only)
          )
      | inr fails ↦ (
          let none : (t : ℕ) → slice_get sent t ≡ Some i → ⊥ = λ t there. (let e : slice_get fates i ≡ Some (Sent unit t) = (serials i t).1 there in let f : fate ≡ Sent unit t = cc in let passes : test fate ≡ true = ap test f ∙ sent_by_itself unit t in cc) in
          count_by_more_no test fates i (Full 0) (omega arith) fails ∙ omega (arith, before, more, count_nowhere sent i none)
          )
    ]

-- the unit sent as many packets as the list has
pub count_is : (fates : List Fate) (unit : ℕ) (sent : List ℕ) → IsSentList fates unit sent → count_by (is_sent_by unit) fates ≡ length sent
count_is fates unit sent serials =
    let n = length fates in
    let below : (t x : ℕ) → slice_get sent t ≡ Some x → x < n = λ t x there. slice_get_within fates x (Sent unit t) ((serials x t).1 there) in
    ap (count_by (is_sent_by unit)) (sym (take_all n fates (omega arith))) ∙ counted fates unit sent serials n (omega arith) ∙ count_all_below sent n below

-- WHICH PACKETS

-- a packet is the first one that passes, where no other passes
first_is : (test : Fate → Bool) (fates : List Fate) (n : ℕ) (fate : Fate) → slice_get fates n ≡ Some fate → test fate ≡ true → ((k : ℕ) (f : Fate) → slice_get fates k ≡ Some f → test f ≡ true → k ≡ n) → first_passing test fates ≡ n
first_is test [] n fate at passes only = cc
first_is test (x ∷ xs) zero fate at passes only =
    let same : x ≡ fate = cc in
    let here : test x ≡ true = ap test same ∙ passes in
    rw here refl
first_is test (x ∷ xs) (suc n) fate at passes only =
    let later : first_passing test xs ≡ n = first_is test xs n fate at passes (λ k f there is. (let e : suc k ≡ suc n = only (suc k) f there is in omega arith)) in
    elim (cases_Bool (test x)) [
      | inl here ↦ (let e : zero ≡ suc n = only zero x refl here in absurd (omega arith))
      | inr there ↦ (rw there (omega arith))
    ]

sent_as_is : (unit s : ℕ) (fate : Fate) → is_sent_as unit s fate ≡ true → fate ≡ Sent unit s
sent_as_is unit s (Sent by serial) is = grind (arith, nat_tests)
sent_as_is unit s (Full seen) is = cc
sent_as_is unit s (Shrunk event) is = cc
sent_as_is unit s (Purged cause) is = cc
sent_as_is unit s (Refused event) is = cc

sent_as_itself : (unit s : ℕ) → is_sent_as unit s (Sent unit s) ≡ true
sent_as_itself unit s = rw (eq-eqb unit unit refl, eq-eqb s s refl) refl

packet_is : (fates : List Fate) (unit : ℕ) (sent : List ℕ) → IsSentList fates unit sent → (s n : ℕ) → slice_get sent s ≡ Some n → first_passing (is_sent_as unit s) fates ≡ n
packet_is fates unit sent serials s n at =
    first_is (is_sent_as unit s) fates n (Sent unit s) ((serials n s).1 at) (sent_as_itself unit s)
    (λ k f there is. (let same : f ≡ Sent unit s = sent_as_is unit s f is in let e : slice_get fates k ≡ Some (Sent unit s) = there ∙ ap (λ g. Some g) same in let at-k : slice_get sent s ≡ Some k = (serials k s).0 e in cc))

-- a function that gives each element of a list at its place
map_is : (f : ℕ → ℕ) (xs : List ℕ) → ((s n : ℕ) → slice_get xs s ≡ Some n → f s ≡ n) → (m : ℕ) → m ≤ length xs → map f (first_numbers m) ≡ take m xs
map_is f xs gives zero le = refl
map_is f xs gives (suc m) le =
    let here : f m ≡ get_or xs m 0 = gives m (get_or xs m 0) (slice_get-get_or xs m 0 (omega arith)) in
    map-append f (first_numbers m) (m ∷ []) ∙ ap (λ ys. ys ++ f m ∷ []) (map_is f xs gives m (omega arith)) ∙ ap (λ y. take m xs ++ y ∷ []) here
    ∙ sym (take-suc xs m 0 (omega arith))

pub sent_is : (fates : List Fate) (unit : ℕ) (sent : List ℕ) → IsSentList fates unit sent → sent_of fates unit ≡ sent
sent_is fates unit sent serials =
    let f : ℕ → ℕ = λ s. first_passing (is_sent_as unit s) fates in
    ap (λ m. map f (first_numbers m)) (count_is fates unit sent serials)
    ∙ map_is f sent (packet_is fates unit sent serials) (length sent) (omega arith)
    ∙ take_all (length sent) sent (omega arith)

slice_get-set_same : (xs : List ℕ) (i y : ℕ) → i < length xs → slice_get (set xs i y) i ≡ Some y
slice_get-set_same xs i y lt = slice_get-get_or (set xs i y) i 0 (omega (arith, length-set xs i y)) ∙ ap (λ x. Some x) (get_or-set_same xs i y 0 lt)

slice_get-set_other : (xs : List ℕ) (i j y : ℕ) → j ≢ i → slice_get (set xs i y) j ≡ slice_get xs j
slice_get-set_other [] i j y other = refl
slice_get-set_other (x ∷ xs) zero zero y other = absurd (other refl)
slice_get-set_other (x ∷ xs) zero (suc j) y other = refl
slice_get-set_other (x ∷ xs) (suc i) zero y other = refl
slice_get-set_other (x ∷ xs) (suc i) (suc j) y other = slice_get-set_other xs i j y (λ e. other (ap suc e))

-- PACKETS PLACED AT THEIR SERIALS

-- each of the first n packets that the unit sent stands at its serial
abbrev pub ArePlaced : List Fate → ℕ → ℕ → List ℕ → Type 0
ArePlaced fates unit n places = (k s : ℕ) → k < n → slice_get fates k ≡ Some (Sent unit s) → slice_get places s ≡ Some k

read_at : (fates : List Fate) (n : ℕ) (d fate : Fate) → n < length fates → get_or fates n d ≡ fate → slice_get fates n ≡ Some fate
read_at fates n d fate lt is = slice_get-get_or fates n d lt ∙ ap (λ f. Some f) is

pub serial_within : (fates : List Fate) (unit : ℕ) → AreSerials fates unit → (n s : ℕ) (d : Fate) → n < length fates → get_or fates n d ≡ Sent unit s → s < count_by (is_sent_by unit) fates
serial_within fates unit serials n s d lt is =
    let at : slice_get fates n ≡ Some (Sent unit s) = read_at fates n d (Sent unit s) lt is in
    let within : s < length serials.0 = slice_get_within serials.0 s n ((serials.1 n s).0 at) in
    let count : count_by (is_sent_by unit) fates ≡ length serials.0 = count_is fates unit serials.0 serials.1 in
    omega arith

-- one packet more, which the unit sent
pub placed_more : (fates : List Fate) (unit : ℕ) → AreSerials fates unit → (n serial : ℕ) (d : Fate) (places : List ℕ) → ArePlaced fates unit n places → n < length fates → get_or fates n d ≡ Sent unit serial → serial < length places → ArePlaced fates unit (n + 1) (set places serial n)
placed_more fates unit serials n serial d places placed more is lt k s le there =
    let at : slice_get fates n ≡ Some (Sent unit serial) = read_at fates n d (Sent unit serial) more is in
    elim (cases_lt k n) [
      | inl before ↦ (
          let other : s ≢ serial = λ same. (let e : slice_get fates k ≡ Some (Sent unit serial) = there ∙ ap (λ i. Some (Sent unit i)) same in let at-k : slice_get serials.0 serial ≡ Some k = (serials.1 k serial).0 e in let at-n : slice_get serials.0 serial ≡ Some n = (serials.1 n serial).0 at in let both : k ≡ n = cc in absurd (omega arith)) in
          slice_get-set_other places serial s n other ∙ placed k s before there
          )
      | inr after ↦ (
          let last : k ≡ n = omega arith in
          let e : slice_get fates n ≡ Some (Sent unit s) = ap (slice_get fates) (sym last) ∙ there in
          let same : s ≡ serial = cc in
          ap (slice_get (set places serial n)) same ∙ slice_get-set_same places serial n lt ∙ ap (λ i. Some i) (sym last)
          )
    ]

-- one packet more, which the unit didn't send
pub placed_none : (fates : List Fate) (unit n : ℕ) (d : Fate) (places : List ℕ) → ArePlaced fates unit n places → is_sent_by unit (get_or fates n d) ≡ false → ArePlaced fates unit (n + 1) places
placed_none fates unit n d places placed fails k s le there =
    elim (cases_lt k n) [
      | inl before ↦ placed k s before there
      | inr after ↦ (
          let last : k ≡ n = omega arith in
          let is : get_or fates n d ≡ Sent unit s = get_or_from_slice_get fates n (Sent unit s) d (ap (slice_get fates) (sym last) ∙ there) in
          let passes : is_sent_by unit (get_or fates n d) ≡ true = ap (is_sent_by unit) is ∙ sent_by_itself unit s in
          absurd (cc)
          )
    ]

-- all packets
pub placed_all : (fates : List Fate) (unit : ℕ) → AreSerials fates unit → (n : ℕ) → length fates ≤ n → (places : List ℕ) → length places ≡ count_by (is_sent_by unit) fates → ArePlaced fates unit n places → places ≡ sent_of fates unit
placed_all fates unit serials i all places len placed =
    let sent : List ℕ = serials.0 in
    let count : count_by (is_sent_by unit) fates ≡ length sent = count_is fates unit sent serials.1 in
    same_lists places sent (len ∙ count)
    (λ s d lt. (
    let n : ℕ = get_or sent s d in
    let at : slice_get sent s ≡ Some n = slice_get-get_or sent s d (omega arith) in
    let there : slice_get fates n ≡ Some (Sent unit s) = (serials.1 n s).1 at in
    let lt : n < length fates = slice_get_within fates n (Sent unit s) there in
    get_or_from_slice_get places s n d (placed n s (omega arith) there)
    ))
    ∙ sym (sent_is fates unit sent serials.1)
