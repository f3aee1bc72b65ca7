-- All stations of a plan: their accounts settle the fates of all packets.
use Rattle.std.proofs.Common.{◌≡◌, ℕ, zero, suc, ◌<◌, ◌≤◌, ◌⊎◌, inl, inr, List, [], ◌∷◌, length, refl, ap, arith, Some, ◌∙◌, subst}
use Rattle.std.specs.Prelude.{slice_get}
use Rattle.std.proofs.lemmas.Option.{slice_get_within}
use Rattle.lq_model.specs.Account.{Account}
use Rattle.lq_model.specs.Plan.{Plan, station_in}
use Rattle.lq_model.specs.Settled.{IsSettled, IsInSenderOrder, IsSentList, AreSerials, IsUnitOf}
use Rattle.lq_model.specs.declared.fate.Fate.{Fate}
use Rattle.lq_model.specs.declared.fate.Fate.TheVariants.{Sent}
use Rattle.lq_model.specs.declared.fate.Info.{Info}
use Rattle.lq_account_laws.proofs.Units.{one-station}
use Rattle.lq_account_laws.specs.Accounts.{AreSettledStations, IsSettledStation}

-- a packet with a fate is a packet of the capture
within : (infos : List Info) (fates : List Fate) (n : ℕ) (fate : Fate) → length fates ≡ length infos → slice_get fates n ≡ Some fate → n < length infos
within infos fates n fate same there = let inside = slice_get_within fates n fate there in omega arith

-- the units of a station: what its account has of a unit is the unit's list
pub sent_list_of :
    (plan : Plan) (infos : List Info) (fates : List Fate) (accounts : ℕ → Account) → AreSettledStations plan infos fates accounts
    → (station unit : ℕ) → station < length plan.stations → IsUnitOf plan station unit → IsSentList fates unit ((accounts station).sent unit)
sent_list_of plan infos fates accounts all station unit here of_unit n serial = (to, from)
  where
    own : IsSettledStation plan infos fates station (accounts station)
    own = all.each station here

    to : slice_get fates n ≡ Some (Sent unit serial) → slice_get ((accounts station).sent unit) serial ≡ Some n
    to fate =
        let inside = within infos fates n (Sent unit serial) all.one_each fate in
        let other = all.each (station_in infos n) (all.of_plan n inside) in
        let there = (other.sent n unit serial inside refl).0 fate in
        let unit_there = (other.of_station n unit serial there).1.1 in
        let same = one-station plan (station_in infos n) station unit (all.of_plan n inside) here unit_there of_unit in
        subst (λ s. slice_get ((accounts s).sent unit) serial ≡ Some n) same there

    from : slice_get ((accounts station).sent unit) serial ≡ Some n → slice_get fates n ≡ Some (Sent unit serial)
    from there =
        let about = own.of_station n unit serial there in
        (own.sent n unit serial about.0 about.1.0).1 there

-- a unit that none of the first stations used sent nothing for them
abbrev Unused : (ℕ → Account) → ℕ → ℕ → Type 0
Unused accounts unit stations = (station : ℕ) → station < stations → (accounts station).sent unit ≡ []

below-or-last : (station k : ℕ) → station < suc k → (station < k) ⊎ (station ≡ k)
below-or-last zero zero below = inr refl
below-or-last zero (suc k) below = inl (omega arith)
below-or-last (suc station) zero below = absurd (omega arith)
below-or-last (suc station) (suc k) below = elim (below-or-last station k (omega arith)) [
  | inl less ↦ inl (omega arith)
  | inr equal ↦ inr (ap suc equal)
]

-- one of the first stations used the unit, or none did
used-by :
    (plan : Plan) (infos : List Info) (fates : List Fate) (accounts : ℕ → Account) → AreSettledStations plan infos fates accounts
    → (unit stations : ℕ) → stations ≤ length plan.stations → ((station : ℕ) × (station < stations) × IsUnitOf plan station unit) ⊎ Unused accounts unit stations
used-by plan infos fates accounts all unit zero few = inr (λ station below. absurd (omega arith))
used-by plan infos fates accounts all unit (suc k) few = elim (used-by plan infos fates accounts all unit k (omega arith)) [
  | inl (station, below, uses) ↦ inl (station, omega arith, uses)
  | inr unused ↦ last unused ((accounts k).sent unit) refl
]
  where
    last : Unused accounts unit k → (sent : List ℕ) → (accounts k).sent unit ≡ sent → ((station : ℕ) × (station < suc k) × IsUnitOf plan station unit) ⊎ Unused accounts unit (suc k)
    last unused [] is = inr (λ station below. elim (below-or-last station k below) [
      | inl less ↦ unused station less
      | inr equal ↦ ap (λ s. (accounts s).sent unit) equal ∙ is
    ])
    last unused (n ∷ sent) is = inl (k, omega arith, ((all.each k (omega arith)).of_station n unit 0 (ap (λ list. slice_get list 0) is)).1.1)

pub accounts_settle :
    (plan : Plan) (infos : List Info) (fates : List Fate) (accounts : ℕ → Account) → AreSettledStations plan infos fates accounts
    → IsSettled plan infos fates
accounts_settle plan infos fates accounts all = record {
  one_each = all.one_each;
  serials = serials;
  each = λ n fate there. let inside = within infos fates n fate all.one_each there in
      (all.each (station_in infos n) (all.of_plan n inside)).each n fate inside refl there;
}
  where
    serials : (unit : ℕ) → AreSerials fates unit
    serials unit = elim (used-by plan infos fates accounts all unit (length plan.stations) (omega arith)) [
      | inl (station, below, uses) ↦ ((accounts station).sent unit, sent_list_of plan infos fates accounts all station unit below uses)
      | inr unused ↦ ([], λ n serial. (λ fate. absurd (none unused n serial fate), λ there. cc))
    ]
      where
        none : Unused accounts unit (length plan.stations) → (n serial : ℕ) → slice_get fates n ≡ Some (Sent unit serial) → ⊥
        none unused n serial fate =
            let inside = within infos fates n (Sent unit serial) all.one_each fate in
            let here = all.of_plan n inside in
            let there = ((all.each (station_in infos n) here).sent n unit serial inside refl).0 fate in
            let nothing = ap (λ list. slice_get list serial) (unused (station_in infos n) here) in cc

pub accounts_are_in_order :
    (plan : Plan) (infos : List Info) (fates : List Fate) (accounts : ℕ → Account) → AreSettledStations plan infos fates accounts
    → IsInSenderOrder infos fates
accounts_are_in_order plan infos fates accounts all m n u v s t below owner station band sent_m sent_n =
    let inside = within infos fates n (Sent v t) all.one_each sent_n in
    (all.each (station_in infos n) (all.of_plan n inside)).in_order m n u v s t below inside station refl owner band sent_m sent_n
