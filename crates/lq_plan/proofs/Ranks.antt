-- Ranks that are counted in the order of a list, and those of a capture's packets.
use Rattle.std.proofs.Common.{◌≡◌, ℕ, zero, suc, ◌+◌, ◌*◌, ◌<◌, ◌≤◌, ◌&&◌, Bool, cond, arith, List, [], ◌∷◌, ◌++◌, Some, All, count_by, drop, get_or, length, map, nat_eq, set, slice_get, slice_index, take, refl, sym, ap, ap₂, ◌∙◌, add-one, subst, add-zero}
use Rattle.std.specs.Option.{option_map_or}
use Rattle.std.proofs.lemmas.List.{drop-drop, drop-set-lt, get_or-drop, map-append, take_more_set}
use Rattle.std.proofs.lemmas.List.Sums.{sum_by-append}
use Rattle.std.proofs.lemmas.Option.{slice_get-get_or}
use Rattle.lq_model.proofs.FirstNumbers.{at_number, length_for_each, same_for_each}
use Rattle.lq_model.specs.Capture.{Packets}
use Rattle.lq_model.specs.Numbers.{first_numbers}
use Rattle.lq_model.specs.Plan.{Plan, owner_of, station_of, owner_in, station_in, rank_of, info_of, infos_of}
use Rattle.lq_model.specs.declared.fate.Info.{Info}
use Rattle.lq_plan.specs.Packets.{AreUnranked, IsInfoWithin, IsUnranked, ranked, ranked_at}
use Rattle.lq_plan.proofs.Counts.{AreCounts, AreCounts-more, counted, counted-few}

same-count : (p q : ℕ → Bool) (n : ℕ) → ((m : ℕ) → m < n → p m ≡ q m) → count_by p (first_numbers n) ≡ count_by q (first_numbers n)
same-count p q zero same = refl
same-count p q (suc n) same =
    sum_by-append (λ (m : ℕ). cond (p m) 1 0) (first_numbers n) (n ∷ [])
    ∙ ap₂ (λ (before : ℕ) (b : Bool). before + (0 + cond b 1 0)) (same-count p q n (λ m lt. same m (omega arith))) (same n (omega arith))
    ∙ sym (sum_by-append (λ (m : ℕ). cond (q m) 1 0) (first_numbers n) (n ∷ []))

-- RANKS IN ORDER

-- of a list, the first n have their ranks, and are counted
pub record IsRankedUpTo (old : List Info) (senders n : ℕ) (infos : List Info) (counts : List ℕ) : Type 0 where
  pub done : take n infos ≡ map (ranked_at old) (first_numbers n)
  pub rest : drop n infos ≡ drop n old
  pub counts_are : AreCounts (owner_in old) (station_in old) senders n counts

-- with its rank
ranked-at : (infos : List Info) (n rank : ℕ) (info : Info) → slice_get infos n ≡ Some info
    → rank ≡ counted (owner_in infos) (station_in infos) info.owner info.station n → record info { rank = rank } ≡ ranked_at infos n
ranked-at infos n rank info at rank_is = rw at (ap (λ (k : ℕ). record info { rank = k }) rank_is)

-- one that has no rank yet is as it was
at-rest : (old infos : List Info) (n : ℕ) (d : Info) → drop n infos ≡ drop n old → get_or infos n d ≡ get_or old n d
at-rest old infos n d rest =
    let first : (xs : List Info) → get_or xs n d ≡ get_or (drop n xs) 0 d = λ xs. ap (λ k. get_or xs k d) (sym (add-zero n)) ∙ sym (get_or-drop n xs 0 d) in
    first infos ∙ ap (λ (xs : List Info). get_or xs 0 d) rest ∙ sym (first old)

-- the step at place n
module _ (old infos : List Info) (senders n : ℕ) (counts : List ℕ) (known : IsRankedUpTo old senders n infos counts) (long : length infos ≡ length old) (lt : n < length old)
    (within : All (λ (info : Info). (info.owner < senders) × (info.station < 8)) old) (d : Info) where
  abbrev place-read : ℕ
  place-read = (get_or infos n d).owner * 8 + (get_or infos n d).station

  same-place : place-read ≡ (get_or old n d).owner * 8 + (get_or old n d).station
  same-place = ap (λ (i : Info). i.owner * 8 + i.station) (at-rest old infos n d known.rest)

  pub has-place : (get_or infos n d).owner * 8 + (get_or infos n d).station < length counts
  has-place = let here = within n d lt in omega (arith, same-place, here.0, here.1, known.counts_are.len)

  -- the count of its owner and station is its rank
  rank-read : slice_index counts ((get_or infos n d).owner * 8 + (get_or infos n d).station) ≡ counted (owner_in old) (station_in old) (get_or old n d).owner (get_or old n d).station n
  rank-read = let here = within n d lt in ap (slice_index counts) same-place ∙ known.counts_are.count (get_or old n d).owner (get_or old n d).station here.0 here.1

  pub few-counted : slice_index counts ((get_or infos n d).owner * 8 + (get_or infos n d).station) ≤ n
  few-counted = omega (arith, rank-read, counted-few (owner_in old) (station_in old) (get_or old n d).owner (get_or old n d).station n)

  pub ranked-more : (rank : ℕ) → rank ≡ slice_index counts ((get_or infos n d).owner * 8 + (get_or infos n d).station)
      → IsRankedUpTo old senders (n + 1) (set infos n (record (get_or infos n d) { rank = rank })) (set counts ((get_or infos n d).owner * 8 + (get_or infos n d).station) (rank + 1))
  ranked-more rank read =
      let info : Info = get_or old n d in
      let at : slice_get old n ≡ Some info = slice_get-get_or old n d lt in
      let here = within n d lt in
      let owner_is : owner_in old n ≡ info.owner = ap (λ o. option_map_or (λ (i : Info). i.owner) o 0) at in
      let station_is : station_in old n ≡ info.station = ap (λ o. option_map_or (λ (i : Info). i.station) o 0) at in
      let place_is : owner_in old n * 8 + station_in old n ≡ place-read = ap₂ (λ (i j : ℕ). i * 8 + j) owner_is station_is ∙ sym same-place in
      let is : record (get_or infos n d) { rank = rank } ≡ ranked_at old n =
      ap (λ (i : Info). record i { rank = rank }) (at-rest old infos n d known.rest) ∙ ranked-at old n rank info at (read ∙ rank-read) in
      record {
        done =
            take_more_set infos n (record (get_or infos n d) { rank = rank }) (omega arith)
            ∙ ap₂ (λ (xs : List Info) (x : Info). xs ++ x ∷ []) known.done is
            ∙ sym (map-append (ranked_at old) (first_numbers n) (n ∷ []))
            ∙ ap (λ k. map (ranked_at old) (first_numbers k)) (sym (add-one n));
        rest =
            drop-set-lt (n + 1) infos n (record (get_or infos n d) { rank = rank }) (omega arith)
            ∙ sym (drop-drop 1 n infos) ∙ ap (drop 1) known.rest ∙ drop-drop 1 n old;
        counts_are =
            subst (λ (xs : List ℕ). AreCounts (owner_in old) (station_in old) senders (n + 1) xs)
            (ap (λ p. set counts p (slice_index counts p + 1)) place_is ∙ ap (λ k. set counts place-read (k + 1)) (sym read))
            (AreCounts-more (owner_in old) (station_in old) senders n counts known.counts_are (subst (λ k. k < senders) (sym owner_is) here.0) (subst (λ k. k < 8) (sym station_is) here.1));
      }

-- THE PACKETS OF A CAPTURE

module _ (plan : Plan) (packets : Packets) (infos : List Info) (are : AreUnranked plan packets infos) where
  abbrev d : Info
  d = record { rank = 0; owner = 0; station = 0; band = 0; queue = 0 }

  is-at : (n : ℕ) → n < packets.count → IsUnranked plan packets n (get_or infos n d)
  is-at n lt = are.each n (get_or infos n d) (slice_get-get_or infos n d (omega arith))

  owner-at : (n : ℕ) → n < packets.count → owner_in infos n ≡ owner_of plan packets n
  owner-at n lt = ap (λ o. option_map_or (λ (i : Info). i.owner) o 0) (slice_get-get_or infos n d (omega arith)) ∙ ap (λ (i : Info). i.owner) (is-at n lt).info

  station-at : (n : ℕ) → n < packets.count → station_in infos n ≡ station_of plan packets n
  station-at n lt = ap (λ o. option_map_or (λ (i : Info). i.station) o 0) (slice_get-get_or infos n d (omega arith)) ∙ ap (λ (i : Info). i.station) (is-at n lt).info

  rank-at : (n : ℕ) → n < packets.count → rank_of plan packets n ≡ counted (owner_in infos) (station_in infos) (get_or infos n d).owner (get_or infos n d).station n
  rank-at n lt =
      let is = (is-at n lt).info in
      same-count (λ m. nat_eq (owner_of plan packets m) (owner_of plan packets n) && nat_eq (station_of plan packets m) (station_of plan packets n))
      (λ m. nat_eq (owner_in infos m) (get_or infos n d).owner && nat_eq (station_in infos m) (get_or infos n d).station) n
      (λ m before. ap₂ (λ (a b : Bool). a && b)
      (ap₂ nat_eq (sym (owner-at m (omega arith))) (sym (ap (λ (i : Info). i.owner) is)))
      (ap₂ nat_eq (sym (station-at m (omega arith))) (sym (ap (λ (i : Info). i.station) is))))

  info-at : (n : ℕ) → n < packets.count → ranked_at infos n ≡ info_of plan packets n
  info-at n lt =
      sym (ranked-at infos n (rank_of plan packets n) (get_or infos n d) (slice_get-get_or infos n d (omega arith)) (rank-at n lt))
      ∙ ap (λ (i : Info). record i { rank = rank_of plan packets n }) (is-at n lt).info

  within-at : (n : ℕ) → n < packets.count → IsInfoWithin plan (info_of plan packets n)
  within-at n lt =
      let within : IsInfoWithin plan (record (info_of plan packets n) { rank = 0 }) = subst (IsInfoWithin plan) (is-at n lt).info (is-at n lt).within in
      record { owner = within.owner; station = within.station; band = within.band; queue = within.queue }

  -- with their ranks they are what the packets are to the rules
  pub ranked-are : ranked infos ≡ infos_of plan packets
  ranked-are = ap (λ k. map (ranked_at infos) (first_numbers k)) are.count ∙ same_for_each (ranked_at infos) (info_of plan packets) packets.count info-at

  pub ranked-within : All (IsInfoWithin plan) (infos_of plan packets)
  ranked-within k e lt =
      let below : k < packets.count = omega (arith, length_for_each (info_of plan packets) packets.count) in
      subst (IsInfoWithin plan) (sym (at_number (info_of plan packets) packets.count k e below)) (within-at k below)

  -- each has a count
  pub has-count : All (λ (info : Info). (info.owner < plan.senders) × (info.station < 8)) infos
  has-count k e lt = let is = are.each k (get_or infos k e) (slice_get-get_or infos k e lt) in (is.within.owner, is.few_stations)
