-- The run of one sender over all stations of a plan without events: its fates are settled.
use Rattle.std.proofs.Common.{◌≡◌, ℕ, zero, suc, ◌+◌, ◌<◌, ◌≤◌, ◌==◌, Bool, true, false, cond, List, [], ◌∷◌, ◌++◌, ◌⊎◌, inl, inr, length, map, filter, Option, Some, None, nat_le, slice_get, refl, sym, ap, ap₂, subst, ◌∙◌, eqb-true, arith}
use Rattle.std.specs.Option.{option_and_then, option_map, option_map_or, unwrap_or}
use Rattle.std.proofs.lemmas.Bool.{eqb-false}
use Rattle.std.proofs.lemmas.List.{length-map, map-append}
use Rattle.std.proofs.lemmas.Option.{same_Some, slice_get_cases, slice_get-map}
use Rattle.lq_model.proofs.FirstNumbers.{first-at, length-first_numbers}
use Rattle.lq_model.specs.Account.{Account, held}
use Rattle.lq_model.specs.Alone.{RunningStation, after_packets, after_run, alone, before_of, brought_in, bypass_of, changed_where, events_before, events_after, fate_in, run_fates, finished, new_station, new_stations, opened, opened_and_served, served, turn_ended, with_events, with_packet, with_turn}
use Rattle.lq_model.specs.Numbers.{first_numbers}
use Rattle.lq_model.specs.Plan.{Plan, station_in}
use Rattle.lq_model.specs.declared.fate.Fate.{Fate}
use Rattle.lq_model.specs.declared.fate.Fate.TheVariants.{Full}
use Rattle.lq_model.specs.declared.fate.Info.{Info}
use Rattle.lq_model.specs.declared.plan.StationPlan.{StationPlan}
use Rattle.lq_account_laws.specs.Accounts.{AreSettledStations, IsSettledStation}
use Rattle.lq_account_laws.specs.Progress.{start_of}
use Rattle.lq_account_laws.specs.Sender.{AreAloneSettled, IsInRun, IsPlain}
use Rattle.lq_account_laws.proofs.Closing.{is_closed}
use Rattle.lq_account_laws.proofs.Law.{law_of_accounts}
use Rattle.lq_account_laws.proofs.OneStopRun.{finished_by_rounds}
use Rattle.lq_account_laws.proofs.Placed.{decided}
use Rattle.lq_account_laws.proofs.Sender.{begins_in_run, brought_in_run, finished_in_run, opened_in_run, passes_in_run, served_in_run}
use Rattle.lq_account_laws.proofs.Settle.{accounts_are_in_order, accounts_settle}

-- LISTS

map-some : {X Y : Type 0} (f : X → Y) (xs : List X) (j : ℕ) (y : Y) → slice_get (map f xs) j ≡ Some y → (x : X) × (slice_get xs j ≡ Some x) × (f x ≡ y)
map-some f [] j y e = cc
map-some f (x ∷ xs) zero y e = (x, refl, same_Some (f x) y e)
map-some f (x ∷ xs) (suc j) y e = map-some f xs j y e

-- an element of a list in which those whose place passes the test were changed
where-some : {X : Type 0} (test : ℕ → Bool) (f : X → X) (xs : List X) (j : ℕ) (y : X) → slice_get (changed_where test f xs) j ≡ Some y
    → ((test j ≡ true) × ((x : X) × (slice_get xs j ≡ Some x) × (f x ≡ y))) ⊎ ((test j ≡ false) × (slice_get xs j ≡ Some y))
where-some test f [] j y e = cc
where-some {X} test f (x ∷ xs) zero y e = go (test 0) refl e
  where
    go : (b : Bool) → test 0 ≡ b → Some (cond b (f x) x) ≡ Some y → ((test 0 ≡ true) × ((z : X) × (Some x ≡ Some z) × (f z ≡ y))) ⊎ ((test 0 ≡ false) × (Some x ≡ Some y))
    go true is e = inl (is, (x, refl, same_Some (f x) y e))
    go false is e = inr (is, e)
where-some test f (x ∷ xs) (suc j) y e = where-some (λ k. test (suc k)) f xs j y e

length-where : {X : Type 0} (test : ℕ → Bool) (f : X → X) (xs : List X) → length (changed_where test f xs) ≡ length xs
length-where test f [] = refl
length-where test f (x ∷ xs) = ap suc (length-where (λ k. test (suc k)) f xs)

new-some : (k : ℕ) (ss : List StationPlan) (j : ℕ) (y : RunningStation) → slice_get (new_stations k ss) j ≡ Some y → (s : StationPlan) × (slice_get ss j ≡ Some s) × (new_station (k + j) s ≡ y)
new-some k [] j y e = cc
new-some k (s ∷ ss) zero y e = (s, refl, ap (λ n. new_station n s) (omega arith) ∙ same_Some _ y e)
new-some k (s ∷ ss) (suc j) y e = let rest = new-some (k + 1) ss j y e in (rest.0, rest.1, ap (λ n. new_station n rest.0) (omega arith) ∙ rest.2)

length-new : (k : ℕ) (ss : List StationPlan) → length (new_stations k ss) ≡ length ss
length-new k [] = refl
length-new k (s ∷ ss) = ap suc (length-new (k + 1) ss)

-- each of the first numbers has a value
all-some : (f : ℕ → Option Fate) (count : ℕ) → ((n : ℕ) → n < count → f n ≡ Some (unwrap_or (f n) (Full 0)))
    → map f (first_numbers count) ≡ map Some (map (λ n. unwrap_or (f n) (Full 0)) (first_numbers count))
all-some f zero some = refl
all-some f (suc count) some =
    map-append f (first_numbers count) (count ∷ []) ∙ ap₂ (λ xs x. xs ++ x ∷ []) (all-some f count (λ n below. some n (omega arith))) (some count (omega arith))
    ∙ sym (map-append Some (map (λ n. unwrap_or (f n) (Full 0)) (first_numbers count)) (unwrap_or (f count) (Full 0) ∷ []))
    ∙ ap (map Some) (sym (map-append (λ n. unwrap_or (f n) (Full 0)) (first_numbers count) (count ∷ [])))

-- ALL STATIONS

record AreInRun (plan : Plan) (infos : List Info) (n : ℕ) (stations : List RunningStation) : Type 0 where
  one_each : length stations ≡ length plan.stations
  each : (j : ℕ) (s : RunningStation) → slice_get stations j ≡ Some s → IsInRun plan infos j n s

module _ (plan : Plan) (infos : List Info) (opens : ℕ → ℕ) (plain : IsPlain plan infos) where
  all-begin : AreInRun plan infos 0 (new_stations 0 plan.stations)
  all-begin = record {
    one_each = length-new 0 plan.stations;
    each = λ j s at. (let new = new-some 0 plan.stations j s at in
        subst (IsInRun plan infos j 0) (ap (λ k. new_station k new.0) (omega arith) ∙ new.2) (begins_in_run plan infos j new.0 new.1 (plain.have_slots j new.0 new.1) (plain.one_queue j new.0 new.1)));
  }

  all-mapped : (f : RunningStation → RunningStation) (n : ℕ) (stations : List RunningStation) → ((j : ℕ) (s : RunningStation) → IsInRun plan infos j n s → IsInRun plan infos j n (f s))
      → AreInRun plan infos n stations → AreInRun plan infos n (map f stations)
  all-mapped f n stations keeps all = record {
    one_each = length-map stations f ∙ all.one_each;
    each = λ j s at. (let old = map-some f stations j s at in subst (IsInRun plan infos j n) old.2 (keeps j old.0 (all.each j old.0 old.1)));
  }

  all-brought : (n : ℕ) (stations : List RunningStation) → n < length infos → AreInRun plan infos n stations → AreInRun plan infos (n + 1) (with_packet plan infos n stations)
  all-brought n stations within all = record {
    one_each = length-where (λ k. k == station_in infos n) _ stations ∙ all.one_each;
    each = λ j s at. elim (where-some (λ k. k == station_in infos n) (λ s. served infos (brought_in infos (bypass_of plan (station_in infos n)) n s)) stations j s at) [
      | inl own ↦ subst (IsInRun plan infos j (n + 1)) own.1.2 (served_in_run plan infos j plain.queues (n + 1) _
          (brought_in_run plan infos j plain.queues (bypass_of plan (station_in infos n)) n own.1.0 within (sym (eqb-true j (station_in infos n) own.0)) (all.each j own.1.0 own.1.1)))
      | inr other ↦ passes_in_run (λ same. eqb-false j (station_in infos n) other.0 (sym same)) (all.each j s other.1)
    ];
  }

  all-served : (m : ℕ) (stations : List RunningStation) → AreInRun plan infos m stations → AreInRun plan infos m (map (served infos) stations)
  all-served m stations all = all-mapped (served infos) m stations (λ j s h. served_in_run plan infos j plain.queues m s h) all

  all-opened : (times m : ℕ) (stations : List RunningStation) → AreInRun plan infos m stations → AreInRun plan infos m (opened_and_served infos times stations)
  all-opened zero m stations all = all
  all-opened (suc times) m stations all =
      all-served m _ (all-mapped opened m _ (λ j s h. opened_in_run plan infos j plain.queues m s h) (all-opened times m stations all))

  all-turned : (times m : ℕ) (stations : List RunningStation) → AreInRun plan infos m stations → AreInRun plan infos m (turn_ended infos times stations)
  all-turned zero m stations all = all-served m stations all
  all-turned (suc times) m stations all = all-opened (suc times) m stations all

  none-before : (n : ℕ) → events_before plan n ≡ []
  none-before n = ap (λ count. filter (λ event. before_of plan event == n) (first_numbers count)) (ap length plain.no_events)

  none-after : (n : ℕ) → events_after plan n ≡ []
  none-after n = ap (λ count. filter (λ event. nat_le n (before_of plan event)) (first_numbers count)) (ap length plain.no_events)

  all-turn : (n : ℕ) (stations : List RunningStation) → n < length infos → AreInRun plan infos n stations → AreInRun plan infos (n + 1) (with_turn plan infos opens (λ n. true) n stations)
  all-turn n stations within all =
      all-turned (opens n) (n + 1) _ (all-brought n _ within
      (subst (λ events. AreInRun plan infos n (with_events plan infos events stations)) (sym (none-before n)) all))

  all-packets : (n : ℕ) → n ≤ length infos → AreInRun plan infos n (after_packets plan infos opens (λ n. true) (new_stations 0 plan.stations) n)
  all-packets zero within = all-begin
  all-packets (suc n) within = subst (λ k. AreInRun plan infos k (with_turn plan infos opens (λ n. true) n (after_packets plan infos opens (λ n. true) (new_stations 0 plan.stations) n))) (omega arith)
      (all-turn n _ (omega arith) (all-packets n (omega arith)))

  -- the stations after the run
  abbrev ended : List RunningStation
  ended = after_run plan infos opens (λ n. true) (new_stations 0 plan.stations)

  all-after : AreInRun plan infos (length infos) (with_events plan infos (events_after plan (length infos)) (after_packets plan infos opens (λ n. true) (new_stations 0 plan.stations) (length infos)))
  all-after = subst (λ events. AreInRun plan infos (length infos) (with_events plan infos events (after_packets plan infos opens (λ n. true) (new_stations 0 plan.stations) (length infos))))
      (sym (none-after (length infos))) (all-packets (length infos) (omega arith))

  all-ended : AreInRun plan infos (length infos) ended
  all-ended = all-mapped (finished infos) (length infos) _ (λ j s h. finished_in_run plan infos j plain.queues (length infos) s h) all-after

  none-held : (j : ℕ) (s : RunningStation) → slice_get ended j ≡ Some s → held s.account ≡ []
  none-held j s at =
      let old = map-some (finished infos) (with_events plan infos (events_after plan (length infos)) (after_packets plan infos opens (λ n. true) (new_stations 0 plan.stations) (length infos))) j s at in
      let h = all-after.each j old.0 old.1 in
      subst (λ (t : RunningStation). held t.account ≡ []) old.2 ((finished_by_rounds infos old.0 plain.queues h.one_queue).nothing_held h.active)

  -- THE FATES

  station-at : (j : ℕ) → j < length plan.stations → (s : RunningStation) × (slice_get ended j ≡ Some s)
  station-at j below = elim (slice_get_cases ended j).1 [
    | inl here ↦ (here.0, here.2)
    | inr past ↦ absurd (let beyond = past.0 in let same = all-ended.one_each in omega arith)
  ]

  fate-is : (n j : ℕ) (s : RunningStation) → station_in infos n ≡ j → slice_get ended j ≡ Some s → fate_in ended infos n ≡ s.account.fates n
  fate-is n j s of at = ap (λ o. option_and_then (λ (s : RunningStation). s.account.fates n) o) (ap (slice_get ended) of ∙ at)

  decided-at : (n j : ℕ) (s : RunningStation) → n < length infos → station_in infos n ≡ j → slice_get ended j ≡ Some s → fate_in ended infos n ≡ Some (unwrap_or (fate_in ended infos n) (Full 0))
  decided-at n j s within of at =
      let fate = decided plain.bands (all-ended.each j s at).at (none-held j s at) (all-ended.each j s at).one_queue.hand n within of in
      some-unwraps (fate_in ended infos n) fate.0 (fate-is n j s of at ∙ fate.1)
    where
      some-unwraps : (o : Option Fate) (f : Fate) → o ≡ Some f → o ≡ Some (unwrap_or o (Full 0))
      some-unwraps None f e = cc
      some-unwraps (Some g) f e = refl

  abbrev fates : List Fate
  fates = map (λ n. unwrap_or (fate_in ended infos n) (Full 0)) (first_numbers (length infos))

  fates-are : (n : ℕ) → n < length infos → slice_get fates n ≡ Some (unwrap_or (fate_in ended infos n) (Full 0))
  fates-are n within = slice_get-map _ (first_numbers (length infos)) n ∙ ap (option_map (λ n. unwrap_or (fate_in ended infos n) (Full 0))) (first-at (length infos) n within)

  one-fate-each : length fates ≡ length infos
  one-fate-each = length-map (first_numbers (length infos)) _ ∙ length-first_numbers (length infos)

  settled-station : (j : ℕ) (s : RunningStation) → j < length plan.stations → slice_get ended j ≡ Some s → IsSettledStation plan infos fates j s.account
  settled-station j s below at =
      let h = all-ended.each j s at in
      law_of_accounts plan infos fates j h.at.past s.account below
      (is_closed fates plain.no_events h.at (none-held j s at) h.one_queue.hand one-fate-each
      (λ n within of. fates-are n within ∙ sym (decided-at n j s within of at) ∙ fate-is n j s of at))

  abbrev account-of : ℕ → Account
  account-of j = option_map_or (λ (s : RunningStation). s.account) (slice_get ended j) (start_of plan j)

  all-settled : AreSettledStations plan infos fates account-of
  all-settled = record {
    one_each = one-fate-each;
    of_plan = plain.stations;
    each = λ j below. (let here = station-at j below in
        subst (IsSettledStation plan infos fates j) (sym (ap (λ o. option_map_or (λ (s : RunningStation). s.account) o (start_of plan j)) here.1)) (settled-station j here.0 below here.1));
  }

  alone-fates : alone plan infos opens ≡ map Some fates
  unfolding run_fates
  alone-fates = all-some (fate_in ended infos) (length infos) (λ n within. (let here = station-at (station_in infos n) (plain.stations n within) in decided-at n (station_in infos n) here.0 within refl here.1))

pub alone_settles : (plan : Plan) (infos : List Info) (opens : ℕ → ℕ) → IsPlain plan infos → AreAloneSettled plan infos opens
alone_settles plan infos opens plain = record {
  fates = fates plan infos opens plain;
  are = alone-fates plan infos opens plain;
  settled = accounts_settle plan infos _ _ (all-settled plan infos opens plain);
  in_order = accounts_are_in_order plan infos _ _ (all-settled plan infos opens plain);
}
