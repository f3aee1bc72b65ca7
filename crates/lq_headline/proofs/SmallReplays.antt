-- What the page's words come to: texts that are computed, and replays that are no headline.
use Rattle.std.proofs.Common.{◌≡◌, ◌<◌, ◌++◌, ◌∷◌, [], ℕ, zero, suc, ap, List, length, refl, sym, ◌∙◌, arith, Some, slice_get}
use Rattle.std.specs.Fmt.{decimal}
use Rattle.std.specs.Prelude.{codes}
use Rattle.std.proofs.lemmas.Fmt.{decimal_digit}
use Rattle.std.proofs.lemmas.Option.{same_Some}
use Rattle.lq_model.specs.declared.fate.Fate.{Fate}
use Rattle.lq_model.specs.declared.fate.Fate.TheVariants.{Sent, Full}
use Rattle.lq_headline.specs.SmallReplays.{InOrder, IsNotEnough, OneFateEach, SentByUnits, SentPackets, by_first, four, small}
use Rattle.lq_headline.specs.Page.{Headline, Replay, count_lines, fate_lines, unit_capture}

-- TEXTS

zero_is : decimal 0 ≡ 48 ∷ []
zero_is = decimal_digit 0 (omega arith)

one_is : decimal 1 ≡ 49 ∷ []
one_is = decimal_digit 1 (omega arith)

two_is : decimal 2 ≡ 50 ∷ []
two_is = decimal_digit 2 (omega arith)

three_is : decimal 3 ≡ 51 ∷ []
three_is = decimal_digit 3 (omega arith)

four_is : decimal 4 ≡ 52 ∷ []
four_is = decimal_digit 4 (omega arith)

pub capture_has : unit_capture four 0 ≡ 9 ∷ 3 ∷ 1 ∷ []
capture_has = refl

pub fates_have : fate_lines four.fates ≡ codes "0 sent 0 1" ++ 10 ∷ [] ++ codes "1 full 0" ++ 10 ∷ [] ++ codes "2 sent 0 0" ++ 10 ∷ [] ++ codes "3 purged hung" ++ 10 ∷ []
fates_have = rw (zero_is, one_is, two_is, three_is) refl

pub counts_have : count_lines four
    ≡ codes "unit 0 sent 2" ++ 10 ∷ [] ++ codes "station 0 full 1 shrunk 0 purged 1 refused 0" ++ 10 ∷ [] ++ codes "total 4 sent 2 full 1 shrunk 0 purged 1 refused 0" ++ 10 ∷ []
counts_have = rw (zero_is, one_is, two_is, four_is) refl

-- NO HEADLINE

-- a packet more than there are fates, or a fate more than there are packets
pub no_packet_is_lost : (run : Replay) → Headline run → length run.fates < length run.records → ⊥
no_packet_is_lost run h less = let one = h.one_fate_each in absurd (omega arith)

pub no_fate_is_made_up : (run : Replay) → Headline run → length run.records < length run.fates → ⊥
no_fate_is_made_up run h less = let one = h.one_fate_each in absurd (omega arith)

serials : (fates : List Fate) (n unit j k : ℕ) → slice_get fates n ≡ Some (Sent unit j) → slice_get fates n ≡ Some (Sent unit k) → j ≡ k
serials fates n unit j k one other = let e = same_Some (Sent unit j) (Sent unit k) (sym one ∙ other) in cc

-- no packet stands twice in a capture
pub no_packet_is_sent_twice : (run : Replay) → Headline run → (unit n j k : ℕ) → slice_get (run.sent unit) j ≡ Some n → slice_get (run.sent unit) k ≡ Some n → j ≡ k
no_packet_is_sent_twice run h unit n j k one other = serials run.fates n unit j k ((h.sent_packets unit n j).0 one) ((h.sent_packets unit n k).0 other)

-- nor in two
pub no_packet_is_sent_by_two : (run : Replay) → Headline run → (u v n j k : ℕ) → slice_get (run.sent u) j ≡ Some n → slice_get (run.sent v) k ≡ Some n → u ≡ v
no_packet_is_sent_by_two run h u v n j k one other =
    let e = same_Some (Sent u j) (Sent v k) (sym ((h.sent_packets u n j).0 one) ∙ (h.sent_packets v n k).0 other) in cc

-- nor does one that was dropped
pub no_dropped_packet_is_sent : (run : Replay) → Headline run → (unit n k seen : ℕ) → slice_get run.fates n ≡ Some (Full seen) → slice_get (run.sent unit) k ≡ Some n → ⊥
no_dropped_packet_is_sent run h unit n k seen full there = let e = same_Some (Full seen) (Sent unit k) (sym full ∙ (h.sent_packets unit n k).0 there) in cc

-- NONE OF THE FOUR FOLLOWS FROM THE OTHERS

nothing_there : {X : Type 0} (k : ℕ) (x : X) → slice_get [] k ≡ Some x → ⊥
nothing_there k x e = cc

none_sent : (unit k n : ℕ) → slice_get (by_first [] unit) k ≡ Some n → ⊥
none_sent zero k n e = cc
none_sent (suc unit) k n e = cc

full_only : (n unit k : ℕ) → slice_get (Full 0 ∷ []) n ≡ Some (Sent unit k) → ⊥
full_only zero unit k e = cc
full_only (suc n) unit k e = cc

not_first : Headline (small 1 [] (Full 0 ∷ []) []) → ⊥
not_first h = let one : ◌≡◌ {A = ℕ} 1 0 = h.one_fate_each in absurd (omega arith)

-- a fate of no packet
pub without_first : IsNotEnough (λ run. SentPackets run × SentByUnits run × InOrder run)
without_first = (
  small 1 [] (Full 0 ∷ []) [],
  (
    λ unit n k. (λ there. absurd (none_sent unit k n there), λ there. absurd (full_only n unit k there)),
    λ unit n k there. absurd (none_sent unit k n there),
    λ unit m n j k less sender band there other. absurd (none_sent unit j m there),
  ),
  not_first,
)

not_second : Headline (small 1 ([] ∷ []) (Sent 0 0 ∷ []) []) → ⊥
not_second h = nothing_there 0 0 ((h.sent_packets 0 0 0).1 refl)

-- a packet that has the fate to be sent, and isn't among those that were
pub without_second : IsNotEnough (λ run. OneFateEach run × SentByUnits run × InOrder run)
without_second = (
  small 1 ([] ∷ []) (Sent 0 0 ∷ []) [],
  (refl, λ unit n k there. absurd (none_sent unit k n there), λ unit m n j k less sender band there other. absurd (none_sent unit j m there)),
  not_second,
)

-- one packet that unit 0 sent, where there are no units
one_sent : (unit n k : ℕ) → slice_get (by_first (0 ∷ []) unit) k ≡ Some n → slice_get (Sent 0 0 ∷ []) n ≡ Some (Sent unit k)
one_sent zero n zero there = ap (λ (m : ℕ). slice_get (Sent 0 0 ∷ []) m) (sym (same_Some 0 n there))
one_sent zero n (suc k) there = cc
one_sent (suc unit) n k there = cc

one_there : (unit n k : ℕ) → slice_get (Sent 0 0 ∷ []) n ≡ Some (Sent unit k) → slice_get (by_first (0 ∷ []) unit) k ≡ Some n
one_there unit (suc n) k there = cc
one_there zero zero zero there = refl
one_there zero zero (suc k) there = let e = same_Some (Sent 0 0) (Sent 0 (suc k)) there in let same : 0 ≡ suc k = cc in absurd (omega arith)
one_there (suc unit) zero k there = let e = same_Some (Sent 0 0) (Sent (suc unit) k) there in let same : 0 ≡ suc unit = cc in absurd (omega arith)

only_one : (unit n k : ℕ) → slice_get (by_first (0 ∷ []) unit) k ≡ Some n → n ≡ 0
only_one zero n zero there = sym (same_Some 0 n there)
only_one zero n (suc k) there = cc
only_one (suc unit) n k there = cc

not_third : Headline (small 0 ([] ∷ []) (Sent 0 0 ∷ []) (0 ∷ [])) → ⊥
not_third h = let below : 0 < 0 = h.sent_by_units 0 0 0 refl in absurd (omega arith)

pub without_third : IsNotEnough (λ run. OneFateEach run × SentPackets run × InOrder run)
without_third = (
  small 0 ([] ∷ []) (Sent 0 0 ∷ []) (0 ∷ []),
  (refl, λ unit n k. (one_sent unit n k, one_there unit n k), λ unit m n j k less sender band there other. (let n_is = only_one unit n k other in absurd (omega arith))),
  not_third,
)

-- two packets of one sender and one band that were sent in the other order
two_sent : (unit n k : ℕ) → slice_get (by_first (1 ∷ 0 ∷ []) unit) k ≡ Some n → slice_get (Sent 0 1 ∷ Sent 0 0 ∷ []) n ≡ Some (Sent unit k)
two_sent zero n zero there = ap (λ (m : ℕ). slice_get (Sent 0 1 ∷ Sent 0 0 ∷ []) m) (sym (same_Some 1 n there))
two_sent zero n (suc zero) there = ap (λ (m : ℕ). slice_get (Sent 0 1 ∷ Sent 0 0 ∷ []) m) (sym (same_Some 0 n there))
two_sent zero n (suc (suc k)) there = cc
two_sent (suc unit) n k there = cc

two_there : (unit n k : ℕ) → slice_get (Sent 0 1 ∷ Sent 0 0 ∷ []) n ≡ Some (Sent unit k) → slice_get (by_first (1 ∷ 0 ∷ []) unit) k ≡ Some n
two_there unit (suc (suc n)) k there = cc
two_there zero zero zero there = let e = same_Some (Sent 0 1) (Sent 0 0) there in let same : ◌≡◌ {A = ℕ} 1 0 = cc in absurd (omega arith)
two_there zero zero (suc zero) there = refl
two_there zero zero (suc (suc k)) there = let e = same_Some (Sent 0 1) (Sent 0 (suc (suc k))) there in let same : 1 ≡ suc (suc k) = cc in absurd (omega arith)
two_there zero (suc zero) zero there = refl
two_there zero (suc zero) (suc k) there = let e = same_Some (Sent 0 0) (Sent 0 (suc k)) there in let same : 0 ≡ suc k = cc in absurd (omega arith)
two_there (suc unit) zero k there = let e = same_Some (Sent 0 1) (Sent (suc unit) k) there in let same : 0 ≡ suc unit = cc in absurd (omega arith)
two_there (suc unit) (suc zero) k there = let e = same_Some (Sent 0 0) (Sent (suc unit) k) there in let same : 0 ≡ suc unit = cc in absurd (omega arith)

one_unit : (unit n k : ℕ) → slice_get (by_first (1 ∷ 0 ∷ []) unit) k ≡ Some n → unit < 1
one_unit zero n k there = omega arith
one_unit (suc unit) n k there = cc

not_fourth : Headline (small 1 ([] ∷ [] ∷ []) (Sent 0 1 ∷ Sent 0 0 ∷ []) (1 ∷ 0 ∷ [])) → ⊥
not_fourth h = let wrong : 1 < 0 = h.in_order 0 0 1 1 0 (omega arith) refl refl refl refl in absurd (omega arith)

pub without_fourth : IsNotEnough (λ run. OneFateEach run × SentPackets run × SentByUnits run)
without_fourth = (small 1 ([] ∷ [] ∷ []) (Sent 0 1 ∷ Sent 0 0 ∷ []) (1 ∷ 0 ∷ []), (refl, λ unit n k. (two_sent unit n k, two_there unit n k), one_unit), not_fourth)
