-- Closed stations are taken apart, and the devices go back to the bench.
use Rattle.std.proofs.Common.{◌≡◌, inl, inr, ℕ, suc, ◌+◌, ◌<◌, ◌≤◌, List, [], ◌∷◌, ◌++◌, length, refl, ap, arith, Option, Some, sym, ◌∙◌, subst, map, take, drop, slice_get, length-append, count_by}
use Rattle.std.specs.Option.{option_map_or}
use Rattle.std.proofs.Math.Seq.{drop-append_seam}
use Rattle.std.proofs.lemmas.List.{append_assoc, length-map, map-append}
use Rattle.std.proofs.lemmas.Option.{same_Some, slice_get_within, slice_get_cases}
use Rattle.lq_account_laws.proofs.Lists.{get-push-old}
use Rattle.lq_device.specs.Station.{StationState}
use Rattle.lq_model.specs.Device.{DeviceState}
use Rattle.lq_model.specs.Plan.{Plan, is_swap, unit_count}
use Rattle.lq_model.specs.declared.fate.Fate.{Fate}
use Rattle.lq_model.specs.declared.fate.Info.{Info}
use Rattle.lq_seat.specs.State.{SeatState, no_station}
use Rattle.lq_senders.specs.Ends.{AreBack, ClosedState, FatesRead, HasSentAll, IsReadable, SameBoxes, home_device}
use Rattle.lq_senders.specs.Fates.{AreEnded, AreFatesOf, IsEndedAs, identities_of}
use Rattle.lq_table.specs.Ended.{EndedState}
use Rattle.lq_senders.specs.Setup.{AreAtHome}
use Rattle.lq_senders.specs.Units.{by_unit, undone}
use Rattle.lq_senders.proofs.Benches.{last-taken}
use Rattle.lq_senders.proofs.Seats.{mapped-at}

-- ONE BY ONE

-- the last of those that were left stands before the others
pub laid-through : {A B C X : Type 0} (f : X → C) (h : A → B) (k : B → C) (all left : List A) (n : ℕ) (a : A) (x : X) (now : List X) (first : List C)
    → take (suc n) all ≡ left ++ a ∷ [] → length left ≡ n → f x ≡ k (h a)
    → map f now ≡ map k (map h (drop (suc n) all)) ++ first
    → map f (x ∷ now) ≡ map k (map h (drop n all)) ++ first
laid-through f h k all left n a x now first taken len is before =
    let dropped = (last-taken n all left a taken len).1 in
    ap (λ c. c ∷ map f now) is ∙ (ap (λ cs. k (h a) ∷ cs) before ∙ ap (λ xs. map k (map h xs) ++ first) (sym dropped))

pub home-is : (x : ClosedState) (st : StationState) → x.home ≡ Some st → home_device x ≡ st.device
home-is x st home = ap (λ (h : Option StationState). option_map_or (λ (s : StationState). s.device) h no_station.device) home

-- IN THE ORDER OF UNITS

-- devices of two lists were laid before the others
module _ {X : Type 0} (homes spares rest bench : List X) (laid : bench ≡ homes ++ (spares ++ rest)) where
  pub laid-by-unit : (f : X → DeviceState) (plan : Plan) (old_homes old_spares : List DeviceState) → (map f homes, map f spares) ≡ undone plan (length plan.events) (old_homes, old_spares)
      → map f bench ≡ by_unit plan old_homes old_spares ++ map f rest
  laid-by-unit f plan old_homes old_spares back =
      ap (map f) laid
      ∙ (map-append f homes (spares ++ rest)
      ∙ (ap (λ l. map f homes ++ l) (map-append f spares rest)
      ∙ (sym (append_assoc (map f homes) (map f spares) (map f rest))
      ∙ ap (λ (d : List DeviceState × List DeviceState). (d.0 ++ d.1) ++ map f rest) back)))

  pub laid-before : (n : ℕ) → length homes + length spares ≡ n → drop n bench ≡ rest
  laid-before n many =
      ap (λ k. drop k bench) (sym many ∙ sym (length-append homes spares))
      ∙ (ap (drop (length (homes ++ spares))) (laid ∙ sym (append_assoc homes spares rest)) ∙ drop-append_seam (homes ++ spares) rest)

-- ALL STATIONS

pub are-back : (plan : Plan) (closed : List ClosedState) (spares after rest : List DeviceState) → after ≡ by_unit plan (map home_device closed) spares ++ rest → AreBack plan closed spares after
are-back plan closed spares after rest is unit device at = ap (λ ds. slice_get ds unit) is ∙ get-push-old (by_unit plan (map home_device closed) spares) rest device unit at

pub stays-are : (plan : Plan) (infos : List Info) (fates : List Fate) (closed : List ClosedState) (ended : List EndedState) → length closed ≡ length plan.stations
    → ended ≡ map (λ (x : ClosedState). x.ended) closed → ((j : ℕ) (x : ClosedState) → slice_get closed j ≡ Some x → IsEndedAs plan infos fates j x.ended) → AreEnded plan infos fates ended
stays-are plan infos fates closed ended many is each = record {
  one_each = ap length is ∙ (length-map closed (λ (x : ClosedState). x.ended) ∙ many);
  each = λ j e at. elim (slice_get_cases closed j).1 [
    | inl (x, inside, there, same) ↦ (let e_is : x.ended ≡ e = same_Some x.ended e (sym (mapped-at (λ (y : ClosedState). y.ended) closed j x there) ∙ (sym (ap (λ es. slice_get es j) is) ∙ at)) in
        subst (λ (y : EndedState). IsEndedAs plan infos fates j y) e_is (each j x there))
    | inr (past, nothing) ↦ absurd (let inside = slice_get_within ended j e at in let long = ap length is ∙ length-map closed (λ (x : ClosedState). x.ended) in omega arith)
  ];
}

-- each of the first so many is the same box as the one that stood there
same-boxes : (front before : List DeviceState) → length front ≤ length before
    → ((j : ℕ) (old new : DeviceState) → slice_get before j ≡ Some old → slice_get front j ≡ Some new → new.identity ≡ old.identity)
    → identities_of front ≡ take (length front) (identities_of before)
same-boxes [] before within same = refl
same-boxes (d ∷ front) [] within same = absurd (omega arith)
same-boxes (d ∷ front) (b ∷ before) within same =
    ap (λ i. i ∷ identities_of front) (same 0 b d refl refl) ∙ ap (λ ids. b.identity ∷ ids) (same-boxes front before (omega arith) (λ j. same (suc j)))

pub boxes-kept : (n : ℕ) (front before rest after : List DeviceState) → length after ≡ n + length rest → n ≤ length before → after ≡ front ++ rest
    → ((j : ℕ) (old new : DeviceState) → j < n → slice_get before j ≡ Some old → slice_get after j ≡ Some new → new.identity ≡ old.identity)
    → identities_of after ≡ take n (identities_of before) ++ identities_of rest
boxes-kept n front before rest after many within is same =
    let long : length front ≡ n = let both = ap length is in omega (arith, length-append front rest) in
    ap identities_of is ∙ (map-append (λ (d : DeviceState). d.identity) front rest
    ∙ ap (λ ids. ids ++ identities_of rest) (same-boxes front before (omega arith) (λ j old new at at'. same j old new (let inside = slice_get_within front j new at' in omega arith) at
    (ap (λ ds. slice_get ds j) is ∙ get-push-old front rest new j at'))
    ∙ ap (λ k. take k (identities_of before)) long))

module _ (plan : Plan) (infos : List Info) (opens : ℕ → ℕ) (others : ℕ) (start : List SeatState) (brought : List DeviceState) (closed : List ClosedState) (spares : List DeviceState) (run : HasSentAll plan infos opens others start brought closed spares) where
  pub closed-many : length closed ≡ length plan.stations
  closed-many = run.closed_are.so_many

  pub at-home : AreAtHome closed
  at-home j x at = elim (slice_get_cases run.seats j).1 [
    | inl (c, inside, there, same) ↦ (let home = (run.closed_are.each j c x there at).at_home in (home.0, home.1))
    | inr (past, nothing) ↦ absurd (let inside = slice_get_within closed j x at in let many = run.closed_are.so_many in let one_each = run.one_each in omega arith)
  ]

-- THE WHOLE RUN

-- What is known of a run by its closed tables and spare devices. `IsBench` holds of the benches that its devices were in before.
pub record HasRun (plan : Plan) (infos : List Info) (opens : ℕ → ℕ) (IsBench : List DeviceState → Type 0)
    (closed : List ClosedState) (spares : List DeviceState) : Type 0 where
  pub one_a_station : length closed ≡ length plan.stations
  pub one_a_swap : length spares ≡ count_by is_swap plan.events
  pub home : AreAtHome closed
  pub readable : IsReadable infos closed
  pub fates : (before after : List DeviceState) (fates : List Fate) → IsBench before → FatesRead infos closed (length infos) fates
      → AreBack plan closed spares after → AreFatesOf plan infos opens fates before after
  pub ended : (fates : List Fate) → FatesRead infos closed (length infos) fates
      → (j : ℕ) (x : ClosedState) → slice_get closed j ≡ Some x → IsEndedAs plan infos fates j x.ended
  pub boxes : (before after : List DeviceState) → IsBench before → AreBack plan closed spares after → SameBoxes plan before after

-- What is given back of a run, before the devices that are left in the bench: the fates that were read, and the devices in the
-- order of units.
pub record IsGivenBack (plan : Plan) (infos : List Info) (closed : List ClosedState)
    (spares rest after : List DeviceState) (fates : List Fate) : Type 0 where
  pub read : FatesRead infos closed (length infos) fates
  pub bench : after ≡ by_unit plan (map home_device closed) spares ++ rest
  pub many : length after ≡ unit_count plan + length rest

module _ {plan : Plan} {infos : List Info} {opens : ℕ → ℕ} {IsBench : List DeviceState → Type 0} {closed : List ClosedState}
    {spares rest after : List DeviceState} {fates : List Fate}
    (run : HasRun plan infos opens IsBench closed spares) (back : IsGivenBack plan infos closed spares rest after fates) where
  pub fates-given : (before : List DeviceState) → IsBench before → AreFatesOf plan infos opens fates before after
  fates-given before bench = run.fates before after fates bench back.read (are-back plan closed spares after rest back.bench)

  pub stays-given : (ended : List EndedState) → ended ≡ map (λ (x : ClosedState). x.ended) closed → AreEnded plan infos fates ended
  stays-given ended is = stays-are plan infos fates closed ended run.one_a_station is (run.ended fates back.read)

  pub boxes-given : (before : List DeviceState) → IsBench before → unit_count plan ≤ length before
      → identities_of after ≡ take (unit_count plan) (identities_of before) ++ identities_of rest
  boxes-given before bench within =
      boxes-kept (unit_count plan) (by_unit plan (map home_device closed) spares) before rest after back.many within back.bench
      (run.boxes before after bench (are-back plan closed spares after rest back.bench))
