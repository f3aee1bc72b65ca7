-- Counts of fates, with one packet more.
use Rattle.std.proofs.Common.{◌≡◌, ◌≢◌, ◌<◌, ◌≤◌, ◌+◌, ◌^◌, ◌++◌, ◌∷◌, [], ℕ, zero, suc, Bool, true, false, cond, eqb, ◌&&◌, List, length, map, take, refl, sym, ap, ◌∙◌, subst, arith, inl, inr, eq-eqb, get_or, set, All, replicate}
use Rattle.std.specs.Prelude.{count_by}
use Rattle.std.specs.List.{flat_map, zip}
use Rattle.std.proofs.lemmas.List.{get_or-set_same, get_or-set_other, length-set, take_more, length-take-le, length-replicate, get_or-replicate, flat_map_more}
use Rattle.std.proofs.lemmas.List.Sums.{sum_by_push, count_by-le-length}
use Rattle.std.proofs.lemmas.Bool.{cases_eq, ne_eqb}
use Rattle.lq_model.proofs.FirstNumbers.{at_number, length_for_each, list_for_each, same_for_each}
use Rattle.lq_model.specs.Numbers.{first_numbers}
use Rattle.lq_model.specs.Texts.{count_at, counts_text, unit_line, station_line, is_full, is_purged, is_refused, is_sent, is_sent_by, is_shrunk}
use Rattle.lq_model.specs.declared.fate.Fate.{Fate}
use Rattle.lq_model.specs.declared.fate.Fate.TheVariants.{Sent, Full, Shrunk, Purged, Refused}
use Rattle.lq_model.specs.declared.fate.Info.{Info}
use Rattle.lq_fates.specs.declared.counts.Unsent.{Unsent}
use Rattle.lq_fates.specs.declared.counts.Counts.{Counts}
use Rattle.lq_fates.specs.Counts.{AreCounts, AreWithOne, CanCount, CanCountOneMore, counted_unsent, counted_by_station, counted_by_unit, none_unsent, station_lines, station_text, total_text, unit_lines, unit_text, unsent_of}

-- WHAT A FUNCTION GIVES FOR EACH NUMBER BELOW ONE

-- another value at one number
set_for_one : {A : Type 0} (f g : ℕ → A) (n i : ℕ) (y : A) → ((k : ℕ) → k ≢ i → f k ≡ g k) → (i < n → y ≡ g i) → set (map f (first_numbers n)) i y ≡ map g (first_numbers n)
set_for_one f g n i y others here =
    let len : length (map f (first_numbers n)) ≡ n = length_for_each f n in
    list_for_each g (set (map f (first_numbers n)) i y) n (length-set (map f (first_numbers n)) i y ∙ len)
    (λ k d lt.
    elim (cases_eq k i) [
      | inl same ↦ (let within : i < n = omega arith in ap (λ j. get_or (set (map f (first_numbers n)) i y) j d) same ∙ get_or-set_same (map f (first_numbers n)) i y d (omega arith) ∙ here within ∙ ap g (sym same))
      | inr other ↦ (get_or-set_other (map f (first_numbers n)) i k y d other ∙ at_number f n k d lt ∙ others k other)
    ])

-- ONE PACKET MORE

abbrev one_if : Bool → ℕ
one_if b = cond b 1 0

one_more : {A : Type 0} (test : A → Bool) (xs : List A) (x : A) → count_by test (xs ++ x ∷ []) ≡ count_by test xs + one_if (test x)
one_more test xs x = sum_by_push (λ y. one_if (test y)) xs x

add_none : (n : ℕ) → n + 0 ≡ n
add_none n = omega arith

-- each way of counting has one more where its test says so
unsent_more : (fate : Fate) (before after : (Fate → Bool) → ℕ) → ((test : Fate → Bool) → after test ≡ before test + one_if (test fate)) → unsent_of after ≡ counted_unsent fate (unsent_of before)
unsent_more (Sent unit serial) before after more = rw (more is_full, more is_shrunk, more is_purged, more is_refused) (simp add_none)
unsent_more (Full seen) before after more = rw (more is_full, more is_shrunk, more is_purged, more is_refused) (simp add_none)
unsent_more (Shrunk event) before after more = rw (more is_full, more is_shrunk, more is_purged, more is_refused) (simp add_none)
unsent_more (Purged cause) before after more = rw (more is_full, more is_shrunk, more is_purged, more is_refused) (simp add_none)
unsent_more (Refused event) before after more = rw (more is_full, more is_shrunk, more is_purged, more is_refused) (simp add_none)

unsent_same : (before after : (Fate → Bool) → ℕ) → ((test : Fate → Bool) → after test ≡ before test) → unsent_of before ≡ unsent_of after
unsent_same before after same = rw (same is_full, same is_shrunk, same is_purged, same is_refused) refl

-- by unit
by_unit_more : (fates : List Fate) (fate : Fate) (units : ℕ) → counted_by_unit fate (map (λ u. count_by (is_sent_by u) fates) (first_numbers units)) ≡ map (λ u. count_by (is_sent_by u) (fates ++ fate ∷ [])) (first_numbers units)
by_unit_more fates (Sent unit serial) units =
    let f : ℕ → ℕ = λ u. count_by (is_sent_by u) fates in
    let g : ℕ → ℕ = λ u. count_by (is_sent_by u) (fates ++ Sent unit serial ∷ []) in
    let more : (u : ℕ) → g u ≡ f u + one_if (eqb unit u) = λ u. one_more (is_sent_by u) fates (Sent unit serial) in
    set_for_one f g units unit (get_or (map f (first_numbers units)) unit 0 + 1)
    (λ u other. sym (more u ∙ ap (λ b. f u + one_if b) (ne_eqb unit u (λ e. other (sym e))) ∙ add_none (f u)))
    (λ lt. ap (λ n. n + 1) (at_number f units unit 0 lt) ∙ sym (more unit ∙ ap (λ b. f unit + one_if b) (eq-eqb unit unit refl)))
by_unit_more fates (Full seen) units = same_for_each (λ u. count_by (is_sent_by u) fates) (λ u. count_by (is_sent_by u) (fates ++ Full seen ∷ [])) units (λ u lt. sym (one_more (is_sent_by u) fates (Full seen) ∙ add_none _))
by_unit_more fates (Shrunk event) units = same_for_each (λ u. count_by (is_sent_by u) fates) (λ u. count_by (is_sent_by u) (fates ++ Shrunk event ∷ [])) units (λ u lt. sym (one_more (is_sent_by u) fates (Shrunk event) ∙ add_none _))
by_unit_more fates (Purged cause) units = same_for_each (λ u. count_by (is_sent_by u) fates) (λ u. count_by (is_sent_by u) (fates ++ Purged cause ∷ [])) units (λ u lt. sym (one_more (is_sent_by u) fates (Purged cause) ∙ add_none _))
by_unit_more fates (Refused event) units = same_for_each (λ u. count_by (is_sent_by u) fates) (λ u. count_by (is_sent_by u) (fates ++ Refused event ∷ [])) units (λ u lt. sym (one_more (is_sent_by u) fates (Refused event) ∙ add_none _))

-- by station
zip_more : {A B : Type 0} (xs : List A) (ys : List B) (x : A) (y : B) → length xs ≡ length ys → zip (xs ++ x ∷ []) (ys ++ y ∷ []) ≡ zip xs ys ++ (x, y) ∷ []
zip_more [] [] x y len = refl
zip_more [] (b ∷ ys) x y len = absurd (omega arith)
zip_more (a ∷ xs) [] x y len = absurd (omega arith)
zip_more (a ∷ xs) (b ∷ ys) x y len = ap (λ rest. (a, b) ∷ rest) (zip_more xs ys x y (omega arith))

count_at_more : (fates : List Fate) (infos : List Info) (fate : Fate) (info : Info) → length fates ≡ length infos → (station : ℕ) (test : Fate → Bool) → count_at (fates ++ fate ∷ []) (infos ++ info ∷ []) station test ≡ count_at fates infos station test + one_if (test fate && eqb info.station station)
count_at_more fates infos fate info len station test =
    let both : Fate × Info → Bool = λ p. test p.0 && eqb p.1.station station in
    ap (count_by both) (zip_more fates infos fate info len) ∙ one_more both (zip fates infos) (fate, info)

and_true : (b : Bool) → (b && true) ≡ b
and_true true = refl
and_true false = refl

and_false : (b : Bool) → (b && false) ≡ false
and_false true = refl
and_false false = refl

by_station_more : (fates : List Fate) (infos : List Info) (fate : Fate) (info : Info) → length fates ≡ length infos → (stations : ℕ) → counted_by_station fate info.station (map (λ j. unsent_of (count_at fates infos j)) (first_numbers stations)) ≡ map (λ j. unsent_of (count_at (fates ++ fate ∷ []) (infos ++ info ∷ []) j)) (first_numbers stations)
by_station_more fates infos fate info len stations =
    let at = info.station in
    let f : ℕ → Unsent = λ j. unsent_of (count_at fates infos j) in
    let g : ℕ → Unsent = λ j. unsent_of (count_at (fates ++ fate ∷ []) (infos ++ info ∷ []) j) in
    let more : (j : ℕ) (test : Fate → Bool) → count_at (fates ++ fate ∷ []) (infos ++ info ∷ []) j test ≡ count_at fates infos j test + one_if (test fate && eqb at j) = λ j test. count_at_more fates infos fate info len j test in
    set_for_one f g stations at (counted_unsent fate (get_or (map f (first_numbers stations)) at none_unsent))
    (λ j other.
    unsent_same (count_at fates infos j) (count_at (fates ++ fate ∷ []) (infos ++ info ∷ []) j)
    (λ test. more j test ∙ ap (λ b. count_at fates infos j test + one_if (test fate && b)) (ne_eqb at j (λ e. other (sym e))) ∙ ap (λ b. count_at fates infos j test + one_if b) (and_false (test fate)) ∙ add_none (count_at fates infos j test)))
    (λ lt.
    ap (counted_unsent fate) (at_number f stations at none_unsent lt)
    ∙ sym (unsent_more fate (count_at fates infos at) (count_at (fates ++ fate ∷ []) (infos ++ info ∷ []) at)
    (λ test. more at test ∙ ap (λ b. count_at fates infos at test + one_if (test fate && b)) (eq-eqb at at refl) ∙ ap (λ b. count_at fates infos at test + one_if b) (and_true (test fate)))))

-- of all
sent_more : (fates : List Fate) (fate : Fate) → cond (is_sent fate) (count_by is_sent fates + 1) (count_by is_sent fates) ≡ count_by is_sent (fates ++ fate ∷ [])
sent_more fates fate =
    let P : Bool → Type 0 = λ b. cond b (count_by is_sent fates + 1) (count_by is_sent fates) ≡ count_by is_sent fates + one_if b in
    let both : (b : Bool) → P b = λ b. elim b as P [ true ↦ refl | false ↦ sym (add_none (count_by is_sent fates)) ] in
    both (is_sent fate) ∙ sym (one_more is_sent fates fate)

counts_more : (fates : List Fate) (infos : List Info) (fate : Fate) (info : Info) (stations units : ℕ) (before after : Counts) → length fates ≡ length infos → AreCounts fates infos stations units before → AreWithOne before after fate info.station → AreCounts (fates ++ fate ∷ []) (infos ++ info ∷ []) stations units after
counts_more fates infos fate info stations units before after len are one = record {
  by_unit = one.by_unit ∙ ap (counted_by_unit fate) are.by_unit ∙ by_unit_more fates fate units;
  by_station = one.by_station ∙ ap (counted_by_station fate info.station) are.by_station ∙ by_station_more fates infos fate info len stations;
  sent = one.sent ∙ ap (λ n. cond (is_sent fate) (n + 1) n) are.sent ∙ sent_more fates fate;
  unsent = one.unsent ∙ ap (counted_unsent fate) are.unsent ∙ sym (unsent_more fate (λ test. count_by test fates) (λ test. count_by test (fates ++ fate ∷ [])) (λ test. one_more test fates fate));
}

-- the counts of the first n packets, with the next one
pub counts_next : (fates : List Fate) (infos : List Info) (n : ℕ) (d : Fate) (e : Info) (stations units : ℕ) (before after : Counts) → length fates ≡ length infos → n < length fates → AreCounts (take n fates) (take n infos) stations units before → AreWithOne before after (get_or fates n d) (get_or infos n e).station → AreCounts (take (n + 1) fates) (take (n + 1) infos) stations units after
counts_next fates infos n d e stations units before after len lt are one =
    subst (λ fs. AreCounts fs (take (n + 1) infos) stations units after) (sym (take_more fates n d lt))
    (subst (λ is. AreCounts (take n fates ++ get_or fates n d ∷ []) is stations units after) (sym (take_more infos n e (omega arith)))
    (counts_more (take n fates) (take n infos) (get_or fates n d) (get_or infos n e) stations units before after (omega (arith, length-take-le n fates (omega arith), length-take-le n infos (omega arith))) are one))

-- ROOM FOR ONE MORE

length_zip : {A B : Type 0} (xs : List A) (ys : List B) → length (zip xs ys) ≤ length xs
length_zip [] ys = omega arith
length_zip (x ∷ xs) [] = omega arith
length_zip (x ∷ xs) (y ∷ ys) = omega (arith, length_zip xs ys)

All_for_each : {A : Type 0} (P : A → Type 0) (f : ℕ → A) → ((k : ℕ) → P (f k)) → (n : ℕ) → All P (map f (first_numbers n))
All_for_each P f each n k d lt = subst P (sym (at_number f n k d (omega (arith, length_for_each f n)))) (each k)

unsent_has_room : (count : (Fate → Bool) → ℕ) → ((test : Fate → Bool) → count test < 2 ^ 63) → CanCountOneMore (unsent_of count)
unsent_has_room count few = (few is_full, few is_shrunk, few is_purged, few is_refused)

pub can_count : (fates : List Fate) (infos : List Info) (stations units : ℕ) (counts : Counts) → length fates < 2 ^ 63 → AreCounts fates infos stations units counts → CanCount counts
can_count fates infos stations units counts few are =
    let count_few : (test : Fate → Bool) → count_by test fates < 2 ^ 63 = λ test. omega (arith, count_by-le-length test fates) in
    let count_at_few : (j : ℕ) (test : Fate → Bool) → count_at fates infos j test < 2 ^ 63 =
    λ j test. omega (arith, count_by-le-length (λ (p : Fate × Info). test p.0 && eqb p.1.station j) (zip fates infos), length_zip fates infos)
    in
    record {
      by_unit = subst (All (λ sent. sent < 2 ^ 63)) (sym are.by_unit) (All_for_each (λ sent. sent < 2 ^ 63) (λ u. count_by (is_sent_by u) fates) (λ u. count_few (is_sent_by u)) units);
      by_station = subst (All CanCountOneMore) (sym are.by_station) (All_for_each CanCountOneMore (λ j. unsent_of (count_at fates infos j)) (λ j. unsent_has_room (count_at fates infos j) (count_at_few j)) stations);
      sent = omega (arith, are.sent, count_few is_sent);
      unsent = subst CanCountOneMore (sym are.unsent) (unsent_has_room (λ test. count_by test fates) count_few);
    }

-- NO PACKET YET

pub none_counted : (stations units : ℕ) (counts : Counts) → counts.by_unit.items ≡ replicate units 0 → counts.by_station.items ≡ replicate stations none_unsent → counts.sent ≡ 0 → counts.unsent ≡ none_unsent → AreCounts [] [] stations units counts
none_counted stations units counts by_unit by_station sent unsent = record {
  by_unit = by_unit ∙ list_for_each (λ u. count_by (is_sent_by u) []) (replicate units 0) units (length-replicate units 0) (λ k d lt. get_or-replicate units k 0 d lt);
  by_station = by_station ∙ list_for_each (λ j. unsent_of (count_at [] [] j)) (replicate stations none_unsent) stations (length-replicate stations none_unsent) (λ k d lt. get_or-replicate stations k none_unsent d lt);
  sent = sent;
  unsent = unsent;
}

-- THE TEXT OF THE COUNTS

same_lines : (f g : ℕ → List ℕ) (n : ℕ) → ((k : ℕ) → k < n → f k ≡ g k) → flat_map f (first_numbers n) ≡ flat_map g (first_numbers n)
same_lines f g zero same = refl
same_lines f g (suc n) same =
    sym (flat_map_more f [] (first_numbers n) n) ∙ ap (λ xs. xs ++ f n) (same_lines f g n (λ k lt. same k (omega arith))) ∙ ap (λ line. flat_map g (first_numbers n) ++ line) (same n (omega arith))
    ∙ flat_map_more g [] (first_numbers n) n

unit_lines_are : (fates : List Fate) (units : ℕ) → unit_lines (map (λ u. count_by (is_sent_by u) fates) (first_numbers units)) ≡ flat_map (unit_line fates) (first_numbers units)
unit_lines_are fates units =
    let f : ℕ → ℕ = λ u. count_by (is_sent_by u) fates in
    ap (λ n. flat_map (λ u. unit_text u (get_or (map f (first_numbers units)) u 0)) (first_numbers n)) (length_for_each f units)
    ∙ same_lines (λ u. unit_text u (get_or (map f (first_numbers units)) u 0)) (unit_line fates) units (λ u lt. ap (unit_text u) (at_number f units u 0 lt))

station_lines_are : (fates : List Fate) (infos : List Info) (stations : ℕ) → station_lines (map (λ j. unsent_of (count_at fates infos j)) (first_numbers stations)) ≡ flat_map (station_line fates infos) (first_numbers stations)
station_lines_are fates infos stations =
    let f : ℕ → Unsent = λ j. unsent_of (count_at fates infos j) in
    ap (λ n. flat_map (λ j. station_text j (get_or (map f (first_numbers stations)) j none_unsent)) (first_numbers n)) (length_for_each f stations)
    ∙ same_lines (λ j. station_text j (get_or (map f (first_numbers stations)) j none_unsent)) (station_line fates infos) stations (λ j lt. ap (station_text j) (at_number f stations j none_unsent lt))

lines_are : (fates : List Fate) (infos : List Info) (stations units : ℕ) (counts : Counts) → AreCounts fates infos stations units counts → (unit_lines counts.by_unit.items ++ station_lines counts.by_station.items) ++ total_text (length fates) counts.sent counts.unsent ≡ counts_text fates infos stations units
unfolding counts_text
lines_are fates infos stations units counts are =
    ap (λ lines. (lines ++ station_lines counts.by_station.items) ++ total_text (length fates) counts.sent counts.unsent) (ap unit_lines are.by_unit ∙ unit_lines_are fates units)
    ∙ ap (λ lines. (flat_map (unit_line fates) (first_numbers units) ++ lines) ++ total_text (length fates) counts.sent counts.unsent) (ap station_lines are.by_station ∙ station_lines_are fates infos stations)
    ∙ ap (λ n. (flat_map (unit_line fates) (first_numbers units) ++ flat_map (station_line fates infos) (first_numbers stations)) ++ total_text (length fates) n counts.unsent) are.sent
    ∙ ap (λ u. (flat_map (unit_line fates) (first_numbers units) ++ flat_map (station_line fates infos) (first_numbers stations)) ++ total_text (length fates) (count_by is_sent fates) u) are.unsent

-- a text, written in three parts from an empty one
pub counts_text_is : (fates : List Fate) (infos : List Info) (stations units : ℕ) (counts : Counts) (by_unit : List ℕ) (by_station : List Unsent) (empty first second text : List ℕ) → AreCounts fates infos stations units counts → by_unit ≡ counts.by_unit.items → by_station ≡ counts.by_station.items → empty ≡ [] → first ≡ empty ++ unit_lines by_unit → second ≡ first ++ station_lines by_station → text ≡ second ++ total_text (length fates) counts.sent counts.unsent → text ≡ counts_text fates infos stations units
counts_text_is fates infos stations units counts by_unit by_station empty first second text are us ss none one two three =
    let total : List ℕ = total_text (length fates) counts.sent counts.unsent in
    let begins : first ≡ unit_lines counts.by_unit.items = one ∙ ap (λ t. t ++ unit_lines by_unit) none ∙ ap unit_lines us in
    let goes_on : second ≡ unit_lines counts.by_unit.items ++ station_lines counts.by_station.items = two ∙ ap (λ t. t ++ station_lines by_station) begins ∙ ap (λ xs. unit_lines counts.by_unit.items ++ station_lines xs) ss in
    three ∙ ap (λ t. t ++ total) goes_on ∙ lines_are fates infos stations units counts are
