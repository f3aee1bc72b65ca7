-- The texts of the fates and of the counts, as the page has them.
use Rattle.std.proofs.Common.{zero-add, add-zero, slice_get, Some, ◌≡◌, ◌+◌, ◌++◌, ◌∷◌, [], ℕ, suc, Bool, true, false, cond, ◌&&◌, ◌==◌, List, length, map, refl, sym, ap, ◌∙◌, arith}
use Rattle.std.specs.Fmt.{decimal}
use Rattle.std.specs.List.{enumerate_from, filter, flat_map, starts_with, zip}
use Rattle.std.specs.Prelude.{codes, count_by, nat_eq}
use Rattle.std.proofs.Math.Path.{fun_ext}
use Rattle.std.proofs.lemmas.List.{append_assoc}
use Rattle.std.proofs.lemmas.List.Sums.{sum_by-cons}
use Rattle.lq_fates.proofs.SentLemmas.{count_is}
use Rattle.lq_model.specs.Numbers.{first_numbers}
use Rattle.lq_model.specs.Settled.{IsSentList}
use Rattle.lq_model.specs.Texts.{count_at, counts_text, fate_words, fates_text, is_full, is_purged, is_refused, is_sent, is_shrunk, station_line, total_line, unit_line, unsent_words}
use Rattle.lq_model.specs.declared.fate.Cause.TheVariants.{Event, Hung}
use Rattle.lq_model.specs.declared.fate.Fate.{Fate}
use Rattle.lq_model.specs.declared.fate.Fate.TheVariants.{Sent, Full, Shrunk, Purged, Refused}
use Rattle.lq_model.specs.declared.fate.Info.{Info}
use Rattle.lq_headline.specs.Page as page

-- FATES

same_words : (fate : Fate) → fate_words fate ≡ codes " " ++ page.fate_text fate ++ 10 ∷ []
same_words (Sent unit serial) = simp append_assoc
same_words (Full seen) = simp append_assoc
same_words (Shrunk event) = simp append_assoc
same_words (Purged (Event event)) = simp append_assoc
same_words (Purged (Hung unit)) = refl
same_words (Refused event) = simp append_assoc

same_line : (packet : ℕ × Fate) → decimal packet.0 ++ fate_words packet.1 ≡ decimal packet.0 ++ codes " " ++ page.fate_text packet.1 ++ 10 ∷ []
same_line packet = ap (λ (text : List ℕ). decimal packet.0 ++ text) (same_words packet.1) ∙ simp append_assoc

pub same_fates : (fates : List Fate) → fates_text fates ≡ page.fate_lines fates
same_fates fates = ap (λ (line : ℕ × Fate → List ℕ). flat_map line (enumerate_from 0 fates)) (fun_ext same_line)

-- COUNTS

sent_begins : (fate : Fate) → is_sent fate ≡ starts_with nat_eq (page.fate_text fate) (codes "sent")
sent_begins (Sent unit serial) = refl
sent_begins (Full seen) = refl
sent_begins (Shrunk event) = refl
sent_begins (Purged (Event event)) = refl
sent_begins (Purged (Hung unit)) = refl
sent_begins (Refused event) = refl

full_begins : (fate : Fate) → is_full fate ≡ starts_with nat_eq (page.fate_text fate) (codes "full")
full_begins (Sent unit serial) = refl
full_begins (Full seen) = refl
full_begins (Shrunk event) = refl
full_begins (Purged (Event event)) = refl
full_begins (Purged (Hung unit)) = refl
full_begins (Refused event) = refl

shrunk_begins : (fate : Fate) → is_shrunk fate ≡ starts_with nat_eq (page.fate_text fate) (codes "shrunk")
shrunk_begins (Sent unit serial) = refl
shrunk_begins (Full seen) = refl
shrunk_begins (Shrunk event) = refl
shrunk_begins (Purged (Event event)) = refl
shrunk_begins (Purged (Hung unit)) = refl
shrunk_begins (Refused event) = refl

purged_begins : (fate : Fate) → is_purged fate ≡ starts_with nat_eq (page.fate_text fate) (codes "purged")
purged_begins (Sent unit serial) = refl
purged_begins (Full seen) = refl
purged_begins (Shrunk event) = refl
purged_begins (Purged (Event event)) = refl
purged_begins (Purged (Hung unit)) = refl
purged_begins (Refused event) = refl

refused_begins : (fate : Fate) → is_refused fate ≡ starts_with nat_eq (page.fate_text fate) (codes "refused")
refused_begins (Sent unit serial) = refl
refused_begins (Full seen) = refl
refused_begins (Shrunk event) = refl
refused_begins (Purged (Event event)) = refl
refused_begins (Purged (Hung unit)) = refl
refused_begins (Refused event) = refl

-- what a way of counting counts of each kind but the first
unsent_is : (count : (Fate → Bool) → ℕ) (fates : List Fate) → ((test : Fate → Bool) → count test ≡ count_by test fates) → unsent_words count ≡ page.unsent_counts fates
unsent_is count fates counts =
    let full : count is_full ≡ page.count fates (codes "full") = counts is_full ∙ ap (λ (test : Fate → Bool). count_by test fates) (fun_ext full_begins) in
    let shrunk : count is_shrunk ≡ page.count fates (codes "shrunk") = counts is_shrunk ∙ ap (λ (test : Fate → Bool). count_by test fates) (fun_ext shrunk_begins) in
    let purged : count is_purged ≡ page.count fates (codes "purged") = counts is_purged ∙ ap (λ (test : Fate → Bool). count_by test fates) (fun_ext purged_begins) in
    let refused : count is_refused ≡ page.count fates (codes "refused") = counts is_refused ∙ ap (λ (test : Fate → Bool). count_by test fates) (fun_ext refused_begins) in
    ap (λ n. codes " full " ++ (decimal n ++ (codes " shrunk " ++ (decimal (count is_shrunk) ++ (codes " purged " ++ (decimal (count is_purged) ++ (codes " refused " ++ (decimal (count is_refused) ++ 10 ∷ [])))))))) full
    ∙ ap (λ n. codes " full " ++ (decimal (page.count fates (codes "full")) ++ (codes " shrunk " ++ (decimal n ++ (codes " purged " ++ (decimal (count is_purged) ++ (codes " refused " ++ (decimal (count is_refused) ++ 10 ∷ [])))))))) shrunk
    ∙ ap (λ n. codes " full " ++ (decimal (page.count fates (codes "full")) ++ (codes " shrunk " ++ (decimal (page.count fates (codes "shrunk")) ++ (codes " purged " ++ (decimal n ++ (codes " refused " ++ (decimal (count is_refused) ++ 10 ∷ [])))))))) purged
    ∙ ap (λ n. codes " full " ++ (decimal (page.count fates (codes "full")) ++ (codes " shrunk " ++ (decimal (page.count fates (codes "shrunk")) ++ (codes " purged " ++ (decimal (page.count fates (codes "purged")) ++ (codes " refused " ++ (decimal n ++ 10 ∷ [])))))))) refused
    ∙ laid (codes " full ") (decimal (page.count fates (codes "full"))) (codes " shrunk ") (decimal (page.count fates (codes "shrunk"))) (codes " purged ") (decimal (page.count fates (codes "purged"))) (codes " refused ") (decimal (page.count fates (codes "refused"))) (10 ∷ [])
  where
    laid : (p a q b r c s d z : List ℕ) → p ++ (a ++ (q ++ (b ++ (r ++ (c ++ (s ++ (d ++ z))))))) ≡ ((p ++ a) ++ ((q ++ b) ++ ((r ++ c) ++ ((s ++ d) ++ [])))) ++ z
    laid p a q b r c s d z = simp append_assoc

both_true : (b : Bool) → (b && true) ≡ b
both_true true = refl
both_true false = refl

both_false : (b : Bool) → (b && false) ≡ false
both_false true = refl
both_false false = refl

-- those of a station, by the packets' infos or by their numbers
module _ (station : ℕ) (station_at : ℕ → ℕ) (test : Fate → Bool) where
  abbrev chosen : ℕ → List Fate → List Fate
  chosen n fates = map (λ p. p.1) (filter (λ p. station_at p.0 == station) (enumerate_from n fates))

  here : (n : ℕ) (fate : Fate) (fates : List Fate) (b : Bool)
      → cond (test fate && b) 1 0 + count_by test (chosen (n + 1) fates)
      ≡ count_by test (map (λ p. p.1) (cond b ((n, fate) ∷ filter (λ p. station_at p.0 == station) (enumerate_from (n + 1) fates)) (filter (λ p. station_at p.0 == station) (enumerate_from (n + 1) fates))))
  here n fate fates true =
      ap (λ b. cond b 1 0 + count_by test (chosen (n + 1) fates)) (both_true (test fate)) ∙ sym (sum_by-cons (λ f. cond (test f) 1 0) fate (chosen (n + 1) fates))
  here n fate fates false = ap (λ b. cond b 1 0 + count_by test (chosen (n + 1) fates)) (both_false (test fate)) ∙ zero-add (count_by test (chosen (n + 1) fates))

  pub at_station : (n : ℕ) (fates : List Fate) (infos : List Info) → length fates ≡ length infos → ((k : ℕ) (info : Info) → slice_get infos k ≡ Some info → info.station ≡ station_at (n + k))
      → count_by (λ p. test p.0 && (p.1.station == station)) (zip fates infos) ≡ count_by test (chosen n fates)
  at_station n [] infos same stand = refl
  at_station n (fate ∷ fates) [] same stand = absurd (omega arith)
  at_station n (fate ∷ fates) (info ∷ infos) same stand =
      let first : info.station ≡ station_at n = stand 0 info refl ∙ ap station_at (add-zero n) in
      let rest = at_station (n + 1) fates infos (omega arith) (λ k i there. (let behind : n + suc k ≡ n + 1 + k = omega arith in stand (suc k) i there ∙ ap station_at behind)) in
      sum_by-cons (λ p. cond (test p.0 && (p.1.station == station)) 1 0) (fate, info) (zip fates infos)
      ∙ ap (λ s. cond (test fate && (s == station)) 1 0 + count_by (λ p. test p.0 && (p.1.station == station)) (zip fates infos)) first
      ∙ ap (λ m. cond (test fate && (station_at n == station)) 1 0 + m) rest
      ∙ here n fate fates (station_at n == station)

-- THE LINES

module _ (run : page.Replay) (infos : List Info) (sent : (unit : ℕ) → IsSentList run.fates unit (run.sent unit)) (one_each : length run.fates ≡ length infos)
    (stations : (n : ℕ) (info : Info) → slice_get infos n ≡ Some info → info.station ≡ run.station n) where
  same_unit : (unit : ℕ) → unit_line run.fates unit ≡ codes "unit " ++ decimal unit ++ codes " sent " ++ decimal (length (run.sent unit)) ++ 10 ∷ []
  same_unit unit =
      ap (λ n. codes "unit " ++ (decimal unit ++ (codes " sent " ++ (decimal n ++ 10 ∷ [])))) (count_is run.fates unit (run.sent unit) (sent unit)) ∙ simp append_assoc

  same_station : (station : ℕ) → station_line run.fates infos station ≡ codes "station " ++ decimal station ++ page.unsent_counts (page.fates_at run station)
  same_station station =
      ap (λ (text : List ℕ). codes "station " ++ (decimal station ++ text))
      (unsent_is (count_at run.fates infos station) (page.fates_at run station)
      (λ test. at_station station run.station test 0 run.fates infos one_each (λ k info there. stations k info there ∙ ap run.station (sym (zero-add k)))))
      ∙ sym (append_assoc (codes "station ") (decimal station) (page.unsent_counts (page.fates_at run station)))

  same_total : total_line run.fates ≡ codes "total " ++ decimal (length run.fates) ++ codes " sent " ++ decimal (page.count run.fates (codes "sent")) ++ page.unsent_counts run.fates
  same_total =
      ap (λ n. codes "total " ++ (decimal (length run.fates) ++ (codes " sent " ++ (decimal n ++ unsent_words (λ test. count_by test run.fates)))))
      (ap (λ (test : Fate → Bool). count_by test run.fates) (fun_ext sent_begins))
      ∙ ap (λ (text : List ℕ). codes "total " ++ (decimal (length run.fates) ++ (codes " sent " ++ (decimal (page.count run.fates (codes "sent")) ++ text))))
      (unsent_is (λ test. count_by test run.fates) run.fates (λ test. refl))
      ∙ all (decimal (length run.fates)) (decimal (page.count run.fates (codes "sent"))) (page.unsent_counts run.fates)
    where
      all : (a b c : List ℕ) → codes "total " ++ (a ++ (codes " sent " ++ (b ++ c))) ≡ (((codes "total " ++ a) ++ codes " sent ") ++ b) ++ c
      all a b c = simp append_assoc

  pub same_counts : counts_text run.fates infos run.stations run.units ≡ page.count_lines run
  unfolding counts_text
  same_counts =
      ap (λ (line : ℕ → List ℕ). flat_map line (first_numbers run.units) ++ flat_map (station_line run.fates infos) (first_numbers run.stations) ++ total_line run.fates) (fun_ext same_unit)
      ∙ ap (λ (line : ℕ → List ℕ).
      flat_map (λ unit. codes "unit " ++ decimal unit ++ codes " sent " ++ decimal (length (run.sent unit)) ++ 10 ∷ []) (first_numbers run.units)
      ++ flat_map line (first_numbers run.stations) ++ total_line run.fates) (fun_ext same_station)
      ∙ ap (λ (text : List ℕ).
      flat_map (λ unit. codes "unit " ++ decimal unit ++ codes " sent " ++ decimal (length (run.sent unit)) ++ 10 ∷ []) (first_numbers run.units)
      ++ flat_map (λ station. codes "station " ++ decimal station ++ page.unsent_counts (page.fates_at run station)) (first_numbers run.stations) ++ text) same_total
