-- The packets that each unit sent, a packet at a time.
use Rattle.std.proofs.Common.{◌≡◌, ◌≢◌, ◌<◌, ◌≤◌, ◌+◌, [], ℕ, false, List, length, map, refl, sym, ap, ◌∙◌, subst, arith, inl, inr, get_or, set, slice_get, Some}
use Rattle.std.specs.Prelude.{count_by}
use Rattle.std.specs.Option.{option_map}
use Rattle.std.proofs.lemmas.Bool.{cases_eq, ne_eqb}
use Rattle.std.proofs.lemmas.List.{get_or-set_same, get_or-set_other, length-map, length-set}
use Rattle.std.proofs.lemmas.Option.{get_or_from_slice_get, slice_get-get_or, slice_get-map, slice_get_within}
use Rattle.lq_model.proofs.FirstNumbers.{at_number, list_for_each}
use Rattle.lq_model.specs.Numbers.{first_numbers}
use Rattle.lq_model.specs.Sent.{sent_of}
use Rattle.lq_model.specs.Settled.{AreSerials}
use Rattle.lq_model.specs.Texts.{is_sent_by}
use Rattle.lq_model.specs.declared.fate.Fate.{Fate}
use Rattle.lq_model.specs.declared.fate.Fate.TheVariants.{Sent, Full, Shrunk, Purged, Refused}
use Rattle.lq_fates.specs.Sent.{HasPlace, laid, sent_by_units}
use Rattle.lq_fates.proofs.SentLemmas.{ArePlaced, placed_all, placed_more, placed_none, serial_within}

-- Each list has a place for each packet that its unit sent, and each of the first n packets stands at its serial.
pub record AreAllPlaced (fates : List Fate) (units n : ℕ) (lists : List (List ℕ)) : Type 0 where
  pub one_each : length lists ≡ units
  pub long : (unit : ℕ) (places : List ℕ) → slice_get lists unit ≡ Some places → length places ≡ count_by (is_sent_by unit) fates
  pub placed : (unit : ℕ) (places : List ℕ) → slice_get lists unit ≡ Some places → ArePlaced fates unit n places

-- NO PACKET YET

pub none_placed : (fates : List Fate) (counts : List ℕ) (lists : List (List ℕ)) → counts ≡ map (λ unit. count_by (is_sent_by unit) fates) (first_numbers (length counts))
    → map length lists ≡ counts → AreAllPlaced fates (length counts) 0 lists
none_placed fates counts lists counted long =
    let same : length lists ≡ length counts = sym (length-map lists length) ∙ ap length long in
    record {
      one_each = same;
      long = λ unit places at.
          let count : ℕ → ℕ = λ u. count_by (is_sent_by u) fates in
          let within : unit < length counts = (let inside = slice_get_within lists unit places at in omega arith) in
          let here : slice_get counts unit ≡ Some (length places) = ap (λ xs. slice_get xs unit) (sym long) ∙ (slice_get-map length lists unit ∙ ap (option_map length) at) in
          sym (get_or_from_slice_get counts unit (length places) 0 here) ∙ (ap (λ xs. get_or xs unit 0) counted ∙ at_number count (length counts) unit 0 within);
      placed = λ unit places at k s before there. absurd (omega arith);
    }

-- ONE PACKET MORE

module _ (fates : List Fate) (units n : ℕ) (lists : List (List ℕ)) (serials : (unit : ℕ) → AreSerials fates unit) (all : AreAllPlaced fates units n lists) where
  -- a unit that didn't send it
  unsent : (fate : Fate) (unit : ℕ) (places : List ℕ) → slice_get fates n ≡ Some fate → is_sent_by unit fate ≡ false → slice_get lists unit ≡ Some places → ArePlaced fates unit (n + 1) places
  unsent fate unit places is fails at =
      placed_none fates unit n (Full 0) places (all.placed unit places at) (ap (is_sent_by unit) (get_or_from_slice_get fates n fate (Full 0) is) ∙ fails)

  -- no unit sent it
  none_more : (fate : Fate) → slice_get fates n ≡ Some fate → ((unit : ℕ) → is_sent_by unit fate ≡ false) → AreAllPlaced fates units (n + 1) lists
  none_more fate is fails = record { one_each = all.one_each; long = all.long; placed = λ unit places at. unsent fate unit places is (fails unit) at }

  -- what stands at another place, and at this one
  module _ (by : ℕ) (new : List ℕ) where
    other_at : (unit : ℕ) (places : List ℕ) → unit ≢ by → slice_get (set lists by new) unit ≡ Some places → slice_get lists unit ≡ Some places
    other_at unit places other at =
        let within : unit < length lists = (let inside = slice_get_within (set lists by new) unit places at in let same = length-set lists by new in omega arith) in
        slice_get-get_or lists unit [] within ∙ ap Some (sym (get_or-set_other lists by unit new [] other) ∙ get_or_from_slice_get (set lists by new) unit places [] at)

    within_at : (unit : ℕ) (places : List ℕ) → unit ≡ by → slice_get (set lists by new) unit ≡ Some places → by < length lists
    within_at unit places same at = let inside = slice_get_within (set lists by new) unit places at in let long = length-set lists by new in omega arith

    same_at : (unit : ℕ) (places : List ℕ) → unit ≡ by → slice_get (set lists by new) unit ≡ Some places → places ≡ new
    same_at unit places same at =
        sym (get_or_from_slice_get (set lists by new) unit places [] at)
        ∙ (ap (λ k. get_or (set lists by new) k []) same ∙ get_or-set_same lists by new [] (within_at unit places same at))

  -- a unit sent it
  module _ (by serial : ℕ) (is : slice_get fates n ≡ Some (Sent by serial)) where
    abbrev old : List ℕ
    old = get_or lists by []

    abbrev new : List ℕ
    new = set old serial n

    within : n < length fates
    within = slice_get_within fates n (Sent by serial) is

    read : get_or fates n (Full 0) ≡ Sent by serial
    read = get_or_from_slice_get fates n (Sent by serial) (Full 0) is

    old_at : by < length lists → slice_get lists by ≡ Some old
    old_at inside = slice_get-get_or lists by [] inside

    pub fits : (places : List ℕ) → slice_get lists by ≡ Some places → serial < length places
    fits places at = let long = all.long by places at in let below = serial_within fates by (serials by) n serial (Full 0) within read in omega arith

    new_long : by < length lists → length new ≡ count_by (is_sent_by by) fates
    new_long inside = length-set old serial n ∙ all.long by old (old_at inside)

    new_placed : by < length lists → ArePlaced fates by (n + 1) new
    new_placed inside = placed_more fates by (serials by) n serial (Full 0) old (all.placed by old (old_at inside)) within read (fits old (old_at inside))

    one_more : AreAllPlaced fates units (n + 1) (set lists by new)
    one_more = record {
      one_each = length-set lists by new ∙ all.one_each;
      long = λ unit places at. elim (cases_eq unit by) [
        | inl same ↦ (ap length (same_at by new unit places same at) ∙ (new_long (within_at by new unit places same at) ∙ ap (λ u. count_by (is_sent_by u) fates) (sym same)))
        | inr other ↦ all.long unit places (other_at by new unit places other at)
      ];
      placed = λ unit places at. elim (cases_eq unit by) [
        | inl same ↦ subst (λ u. ArePlaced fates u (n + 1) places) (sym same)
            (subst (λ (ps : List ℕ). ArePlaced fates by (n + 1) ps) (sym (same_at by new unit places same at)) (new_placed (within_at by new unit places same at)))
        | inr other ↦ unsent (Sent by serial) unit places is (ne_eqb by unit (λ e. other (sym e))) (other_at by new unit places other at)
      ];
    }

  pub has_place : (fate : Fate) → slice_get fates n ≡ Some fate → HasPlace fate lists
  has_place (Sent by serial) is = fits by serial is
  has_place (Full seen) is = tt
  has_place (Shrunk event) is = tt
  has_place (Purged cause) is = tt
  has_place (Refused event) is = tt

  pub next_placed : (fate : Fate) → slice_get fates n ≡ Some fate → AreAllPlaced fates units (n + 1) (laid fate n lists)
  next_placed (Sent by serial) is = one_more by serial is
  next_placed (Full seen) is = none_more (Full seen) is (λ unit. refl)
  next_placed (Shrunk event) is = none_more (Shrunk event) is (λ unit. refl)
  next_placed (Purged cause) is = none_more (Purged cause) is (λ unit. refl)
  next_placed (Refused event) is = none_more (Refused event) is (λ unit. refl)

-- ALL PACKETS

pub all_placed : (fates : List Fate) (units n : ℕ) (lists : List (List ℕ)) → ((unit : ℕ) → AreSerials fates unit) → length fates ≤ n → AreAllPlaced fates units n lists
    → lists ≡ sent_by_units fates units
all_placed fates units n lists serials le all =
    list_for_each (λ unit. sent_of fates unit) lists units all.one_each
    (λ unit d below.
    let places : List ℕ = get_or lists unit d in
    let at : slice_get lists unit ≡ Some places = slice_get-get_or lists unit d (let one = all.one_each in omega arith) in
    placed_all fates unit (serials unit) n le places (all.long unit places at) (all.placed unit places at))
