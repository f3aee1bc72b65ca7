-- Packets of one sender and one band that one unit sent.
use Rattle.std.proofs.Common.{◌≡◌, ◌<◌, ℕ, List, length, Some, sym, ap, ◌∙◌, subst, arith, inl, inr, slice_get}
use Rattle.std.specs.Option.{option_map, option_map_or}
use Rattle.std.proofs.lemmas.Nat.{mod_below}
use Rattle.std.proofs.lemmas.Option.{slice_get-map, slice_get_cases, slice_get_within}
use Rattle.lq_account_laws.proofs.Units.{one-station}
use Rattle.lq_files.proofs.TextLemmas.{length-infos_of}
use Rattle.lq_model.proofs.FirstNumbers.{first-at}
use Rattle.lq_model.specs.Capture.{Packets}
use Rattle.lq_model.specs.Class.{band_of}
use Rattle.lq_model.specs.Numbers.{first_numbers}
use Rattle.lq_model.specs.Plan.{Plan, band_in, group_of, owner_of, info_of, infos_of, mq_at, owner_in, priority_by, source_number, station_in, station_of, unit_count}
use Rattle.lq_model.specs.Settled.{IsInSenderOrder, IsSettled, IsUnitOf}
use Rattle.lq_model.specs.declared.fate.Fate.{Fate}
use Rattle.lq_model.specs.declared.fate.Fate.TheVariants.{Sent}
use Rattle.lq_model.specs.declared.fate.Info.{Info}
use Rattle.lq_plan.specs.Limits.{IsWithinLimits}
use Rattle.lq_plan.proofs.Groups.{group-within}
use Rattle.lq_senders.proofs.AtEnd.{configured-below, unit-configured}

module _ (plan : Plan) (packets : Packets) (within : IsWithinLimits plan) where
  some_children : (j : ℕ) → j < length plan.groups → 0 < mq_at plan.groups j
  some_children j below = elim (slice_get_cases plan.groups j).1 [
    | inl found ↦ subst (λ n. 0 < n) (sym (ap (λ o. option_map_or (λ (mq : ℕ). mq) o 0) found.2)) (within.each_group j found.0 found.2).0
    | inr past ↦ (let none = past.0 in absurd (omega arith))
  ]

  station-below : (n : ℕ) → station_of plan packets n < length plan.stations
  station-below n =
      let group = group_of plan packets n in
      let there : group < length plan.groups = mod_below _ (length plan.groups) within.has_group in
      let child = mod_below (source_number plan.spread packets n) (mq_at plan.groups group) (some_children group there) in
      let fits = group-within plan.groups group there in
      let all = within.children in
      omega (arith, child, fits, all)

  pub at-packet : (n : ℕ) → n < packets.count → slice_get (infos_of plan packets) n ≡ Some (info_of plan packets n)
  at-packet n below = slice_get-map (info_of plan packets) (first_numbers packets.count) n ∙ ap (option_map (info_of plan packets)) (first-at packets.count n below)

  pub station-in : (n : ℕ) → n < packets.count → station_in (infos_of plan packets) n < length plan.stations
  station-in n below = subst (λ k. k < length plan.stations) (sym (ap (λ o. option_map_or (λ (info : Info). info.station) o 0) (at-packet n below))) (station-below n)

  module _ (fates : List Fate) (settled : IsSettled plan (infos_of plan packets) fates) where
    count-is : length fates ≡ packets.count
    count-is = settled.one_each ∙ length-infos_of plan packets

    sent-below : (n unit k : ℕ) → slice_get fates n ≡ Some (Sent unit k) → n < packets.count
    sent-below n unit k sent = subst (λ c. n < c) count-is (slice_get_within fates n (Sent unit k) sent)

    -- only units of the plan sent packets
    pub units-below : (unit n k : ℕ) → slice_get fates n ≡ Some (Sent unit k) → unit < unit_count plan
    units-below unit n k sent =
        let station = station_in (infos_of plan packets) n in
        let of : IsUnitOf plan station unit = settled.each n (Sent unit k) sent in
        let configured = unit-configured plan station unit (station-in n (sent-below n unit k sent)) of in
        configured-below plan unit configured.0 configured.1

    -- the lower number has the lower serial
    pub in-order : IsInSenderOrder (infos_of plan packets) fates → (unit m n j k : ℕ) → m < n → owner_of plan packets m ≡ owner_of plan packets n
        → band_of (priority_by plan.classify packets m) ≡ band_of (priority_by plan.classify packets n)
        → slice_get fates m ≡ Some (Sent unit j) → slice_get fates n ≡ Some (Sent unit k) → j < k
    in-order ordered unit m n j k less owner band sent-m sent-n =
        let infos = infos_of plan packets in
        let at-m = at-packet m (sent-below m unit j sent-m) in
        let at-n = at-packet n (sent-below n unit k sent-n) in
        let owners : owner_in infos m ≡ owner_in infos n = ap (λ o. option_map_or (λ (i : Info). i.owner) o 0) at-m ∙ owner ∙ sym (ap (λ o. option_map_or (λ (i : Info). i.owner) o 0) at-n) in
        let bands : band_in infos m ≡ band_in infos n = ap (λ o. option_map_or (λ (i : Info). i.band) o 0) at-m ∙ band ∙ sym (ap (λ o. option_map_or (λ (i : Info). i.band) o 0) at-n) in
        let stations : station_in infos m ≡ station_in infos n =
        one-station plan (station_in infos m) (station_in infos n) unit (station-in m (sent-below m unit j sent-m)) (station-in n (sent-below n unit k sent-n))
        (settled.each m (Sent unit j) sent-m) (settled.each n (Sent unit k) sent-n) in
        elim (ordered m n unit unit j k less owners stations bands sent-m sent-n) [
          | inl lower ↦ absurd (omega arith)
          | inr same ↦ same.1
        ]
