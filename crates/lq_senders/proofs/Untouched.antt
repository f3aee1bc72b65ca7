-- A station to which no packet is offered has no fate to tell.
use Rattle.std.proofs.Common.{◌≡◌, ◌≢◌, ℕ, zero, suc, ◌+◌, ◌<◌, ◌==◌, Bool, true, false, cond, List, [], ◌∷◌, ◌++◌, drop, take, length, map, Option, Some, None, slice_get, refl, sym, ap, subst, ◌∙◌, arith, eqb-true}
use Rattle.std.specs.Prelude.{is_some, nat_lt, option_to_list, slice_index}
use Rattle.std.specs.Option.{option_and_then, option_map, option_map_or}
use Rattle.std.proofs.lemmas.Bool.{ne_eqb}
use Rattle.std.proofs.lemmas.Option.{same_Some, slice_get-map}
use Rattle.lq_model.proofs.FirstNumbers.{first-is, length-first_numbers}
use Rattle.lq_model.specs.Account.{Account, Event, Pick, Take, Purge, Down, Resize, Wake, Fates, after, held, held_in, with_fates, is_hung}
use Rattle.lq_model.specs.Alone.{RunningStation, after_packets, after_run, alone_at, changed, changed_where, cleaned, deactivated, events_after, events_before, fate_in, finished, finished_rounds, is_done, is_left, new_station, new_stations, next_taken, opened, opened_and_served, opened_up_to, run_fates, served, served_turns, taken_served, turn_ended, turns_of, with_event, with_events, with_packet}
use Rattle.lq_model.specs.Plan.{Plan, is_at, station_in}
use Rattle.lq_model.specs.declared.fate.Cause.{Cause}
use Rattle.lq_model.specs.declared.fate.Cause.TheVariants as cause
use Rattle.lq_model.specs.declared.fate.Fate.{Fate}
use Rattle.lq_model.specs.declared.fate.Info.{Info}
use Rattle.lq_model.specs.declared.plan.EventKind.{EventKind}
use Rattle.lq_model.specs.declared.plan.EventKind.TheVariants as kind
use Rattle.lq_model.specs.declared.plan.EventPlan.{EventPlan}
use Rattle.lq_model.specs.declared.plan.StationPlan.{StationPlan}
use Rattle.lq_model.specs.Numbers.{first_numbers}
use Rattle.lq_senders.proofs.OwnPackets.{at-where, own}
use Rattle.lq_senders.proofs.Seats.{where-apart}
use Rattle.lq_senders.proofs.Turns.{event-there}

-- no packet ever came
record IsBare (a : Account) : Type 0 where
  pub lines : (band : ℕ) → (a.bands band).line ≡ []
  pub slot : a.slot ≡ None
  pub fates : (n : ℕ) → a.fates n ≡ None

drop-nil : (n : ℕ) → drop {A = ℕ} n [] ≡ []
drop-nil zero = refl
drop-nil (suc n) = refl

take-nil : (n : ℕ) → take {A = ℕ} n [] ≡ []
take-nil zero = refl
take-nil (suc n) = refl

nothing-in : (a : Account) → IsBare a → (band : ℕ) → held_in a band ≡ []
nothing-in a bare band = ap (drop (a.bands band).taken) (bare.lines band) ∙ drop-nil (a.bands band).taken

four-none : (o : Option ℕ) (x y z : List ℕ) → o ≡ None → x ≡ [] → y ≡ [] → z ≡ [] → option_to_list o ++ (x ++ (y ++ z)) ≡ []
four-none o x y z p q r t = rw (p, q, r, t) refl

nothing-held : (a : Account) → IsBare a → held a ≡ []
nothing-held a bare = four-none a.slot (held_in a 0) (held_in a 1) (held_in a 2) bare.slot (nothing-in a bare 0) (nothing-in a bare 1) (nothing-in a bare 2)

abbrev chosen : Option ℕ → List ℕ → List ℕ → List ℕ → Option Event
chosen o x y z =
    cond (is_some o) (Some Pick) (cond (nat_lt 0 (length x)) (Some (Take 0)) (cond (nat_lt 0 (length y)) (Some (Take 1)) (cond (nat_lt 0 (length z)) (Some (Take 2)) None)))

none-chosen : (o : Option ℕ) (x y z : List ℕ) → o ≡ None → x ≡ [] → y ≡ [] → z ≡ [] → chosen o x y z ≡ None
none-chosen o x y z p q r t = rw (p, q, r, t) refl

none-taken : (a : Account) → IsBare a → next_taken a ≡ None
none-taken a bare = none-chosen a.slot (held_in a 0) (held_in a 1) (held_in a 2) bare.slot (nothing-in a bare 0) (nothing-in a bare 1) (nothing-in a bare 2)

-- SERVING

module _ (infos : List Info) where
  turns-same : (turns : ℕ) (s : RunningStation) → IsBare s.account → (served_turns infos turns s).account ≡ s.account
  turns-same zero s bare = refl
  turns-same (suc turns) s bare = go (is_left s.account)
    where
      go : (b : Bool) → (cond b s (taken_served infos (served_turns infos turns) (next_taken s.account) s)).account ≡ s.account
      go true = refl
      go false = ap (λ o. (taken_served infos (served_turns infos turns) o s).account) (none-taken s.account bare)

  bare-served : (s : RunningStation) → IsBare s.account → IsBare (served infos s).account
  bare-served s bare = go (is_left s.account)
    where
      go : (b : Bool) → IsBare (cond b s (cleaned (served_turns infos (turns_of s) s))).account
      go true = bare
      go false = subst IsBare (sym (turns-same (turns_of s) s bare)) bare

bare-opened : (count : ℕ) (a : Account) → IsBare a → IsBare (opened_up_to count a)
bare-opened zero a bare = bare
bare-opened (suc queue) a bare = go (bare-opened queue a bare) (slice_index (opened_up_to queue a).stops queue == 1)
  where
    go : IsBare (opened_up_to queue a) → (b : Bool) → IsBare (cond b (after (Wake queue) (opened_up_to queue a)) (opened_up_to queue a))
    go before true = record { lines = before.lines; slot = before.slot; fates = before.fates }
    go before false = before

-- EVENTS

no-fates : (ns : List ℕ) (f : Fate) (fates : Fates) (n : ℕ) → ns ≡ [] → fates n ≡ None → with_fates ns f fates n ≡ None
no-fates ns f fates n none was = ap (λ l. with_fates l f fates n) none ∙ was

bare-purged : (why : Cause) (a : Account) → IsBare a → IsBare (after (Purge why) a)
bare-purged why a bare = record { lines = bare.lines; slot = refl; fates = λ n. no-fates (held a) _ a.fates n (nothing-held a bare) (bare.fates n) }

bare-down : (event : ℕ) (a : Account) → IsBare a → IsBare (deactivated event a)
bare-down event a bare = bare-purged _ (after (Down event) a) (record { lines = bare.lines; slot = bare.slot; fates = bare.fates })

three-none : (len : ℕ) (x y z : List ℕ) → x ≡ [] → y ≡ [] → z ≡ [] → drop len x ++ (drop len y ++ drop len z) ≡ []
three-none len x y z q r t = rw (q, r, t) (go len)
  where
    go : (n : ℕ) → drop {A = ℕ} n [] ++ (drop {A = ℕ} n [] ++ drop {A = ℕ} n []) ≡ []
    go zero = refl
    go (suc n) = refl

bare-resized : (len event : ℕ) (a : Account) → IsBare a → IsBare (after (Resize len event) a)
bare-resized len event a bare = record {
  lines = λ band. ap (take len) (nothing-in a bare band) ∙ take-nil len;
  slot = bare.slot;
  fates = λ n. no-fates _ _ a.fates n (three-none len (held_in a 0) (held_in a 1) (held_in a 2) (nothing-in a bare 0) (nothing-in a bare 1) (nothing-in a bare 2)) (bare.fates n);
}

bare-changed : (plan : Plan) (event : ℕ) (k : EventKind) (s : RunningStation) → IsBare s.account → IsBare (changed plan event k s).account
bare-changed plan event kind.Down s bare = bare-down event s.account bare
bare-changed plan event kind.Up s bare = record { lines = bare.lines; slot = bare.slot; fates = bare.fates }
bare-changed plan event (kind.Resize len) s bare = bare-resized len event s.account bare
bare-changed plan event (kind.TxQueueLen len) s bare =
    let now = bare-resized len event (deactivated event s.account) (bare-down event s.account bare) in record { lines = now.lines; slot = now.slot; fates = now.fates }
bare-changed plan event (kind.Swap params) s bare =
    let now = bare-down event s.account bare in record { lines = now.lines; slot = now.slot; fates = now.fates }

-- THE END

module _ (infos : List Info) where
  bare-rounds : (rounds : ℕ) (s : RunningStation) → IsBare s.account → IsBare (finished_rounds infos rounds s).account
  bare-rounds zero s bare = bare
  bare-rounds (suc rounds) s bare =
      go (bare-rounds rounds (served infos (opened s)) (bare-served infos (opened s) (bare-opened (length s.account.stops) s.account bare))) (is_done s.account)
    where
      go : IsBare (finished_rounds infos rounds (served infos (opened s))).account → (b : Bool) → IsBare (cond b s (finished_rounds infos rounds (served infos (opened s)))).account
      go after true = bare
      go after false = after

  bare-finished : (s : RunningStation) → IsBare s.account → IsBare (finished infos s).account
  bare-finished s bare = go (is_hung t.account)
    where
      t : RunningStation
      t = finished_rounds infos (length (held s.account) + 1) s

      now : IsBare t.account
      now = bare-rounds (length (held s.account) + 1) s bare

      go : (b : Bool) → IsBare (cond b (after (Purge (cause.Hung t.account.unit)) t.account) t.account)
      go true = bare-purged (cause.Hung t.account.unit) t.account now
      go false = now

-- ALL STATIONS

-- no packet came to the station at this place
abbrev BareAt : ℕ → List RunningStation → Type 0
BareAt k stations = (s : RunningStation) → slice_get stations k ≡ Some s → IsBare s.account

bare-mapped : (k : ℕ) (f : RunningStation → RunningStation) (xs : List RunningStation) → ((s : RunningStation) → IsBare s.account → IsBare (f s).account) → BareAt k xs → BareAt k (map f xs)
bare-mapped k f xs keeps bare s there = go (slice_get xs k) refl
  where
    go : (o : Option RunningStation) → slice_get xs k ≡ o → IsBare s.account
    go None is = absurd (let e : None ≡ Some s = ap (option_map f) (sym is) ∙ (sym (slice_get-map f xs k) ∙ there) in cc)
    go (Some x) is =
        let e : Some (f x) ≡ Some s = ap (option_map f) (sym is) ∙ (sym (slice_get-map f xs k) ∙ there) in
        subst (λ (z : RunningStation). IsBare z.account) (same_Some (f x) s e) (keeps x (bare x is))

bare-where : (k : ℕ) (test : ℕ → Bool) (f : RunningStation → RunningStation) (xs : List RunningStation) → ((s : RunningStation) → IsBare s.account → IsBare (f s).account) → BareAt k xs → BareAt k (changed_where test f xs)
bare-where k test f xs keeps bare s there = go (slice_get xs k) refl
  where
    kept : (b : Bool) (x : RunningStation) → IsBare x.account → IsBare (cond b (f x) x).account
    kept true x was = keeps x was
    kept false x was = was

    go : (o : Option RunningStation) → slice_get xs k ≡ o → IsBare s.account
    go None is = absurd (let e : None ≡ Some s = ap (option_map (λ x. cond (test k) (f x) x)) (sym is) ∙ (sym (at-where test f xs k) ∙ there) in cc)
    go (Some x) is =
        let e : Some (cond (test k) (f x) x) ≡ Some s = ap (option_map (λ x. cond (test k) (f x) x)) (sym is) ∙ (sym (at-where test f xs k) ∙ there) in
        subst (λ (z : RunningStation). IsBare z.account) (same_Some (cond (test k) (f x) x) s e) (kept (test k) x (bare x is))

module _ (plan : Plan) (infos : List Info) (opens : ℕ → ℕ) (j k : ℕ) (other : k ≢ j) where
  bare-event : (e : ℕ) (xs : List RunningStation) → BareAt k xs → BareAt k (with_event plan infos e xs)
  bare-event e xs bare = go (slice_get plan.events e)
    where
      go : (o : Option EventPlan) → BareAt k (option_map_or (λ (x : EventPlan). changed_where (λ i. is_at i x) (λ s. served infos (changed plan e x.kind s)) xs) o xs)
      go None = bare
      go (Some x) = bare-where k (λ i. is_at i x) (λ s. served infos (changed plan e x.kind s)) xs (λ s was. bare-served infos (changed plan e x.kind s) (bare-changed plan e x.kind s was)) bare

  bare-events : (events : List ℕ) (xs : List RunningStation) → BareAt k xs → BareAt k (with_events plan infos events xs)
  bare-events [] xs bare = bare
  bare-events (e ∷ events) xs bare = bare-events events (with_event plan infos e xs) (bare-event e xs bare)

  bare-packet : (n : ℕ) (xs : List RunningStation) → BareAt k xs → BareAt k (cond (own infos j n) (with_packet plan infos n xs) xs)
  bare-packet n xs bare = go (own infos j n) refl
    where
      go : (b : Bool) → (station_in infos n == j) ≡ b → BareAt k (cond b (with_packet plan infos n xs) xs)
      go true is = λ s there. bare s (sym (where-apart (λ i. i == station_in infos n) k _ xs (ne_eqb k (station_in infos n) (λ same. other (same ∙ eqb-true (station_in infos n) j is)))) ∙ there)
      go false is = bare

  bare-opened-times : (times : ℕ) (xs : List RunningStation) → BareAt k xs → BareAt k (opened_and_served infos times xs)
  bare-opened-times zero xs bare = bare
  bare-opened-times (suc times) xs bare =
      let before = opened_and_served infos times xs in
      bare-mapped k (served infos) (map opened before) (λ s was. bare-served infos s was)
      (bare-mapped k opened before (λ s was. bare-opened (length s.account.stops) s.account was) (bare-opened-times times xs bare))

  bare-turn : (times : ℕ) (xs : List RunningStation) → BareAt k xs → BareAt k (turn_ended infos times xs)
  bare-turn zero xs bare = bare-mapped k (served infos) xs (λ s was. bare-served infos s was) bare
  bare-turn (suc times) xs bare = bare-opened-times (suc times) xs bare

  bare-packets : (start : List RunningStation) (n : ℕ) → BareAt k start → BareAt k (after_packets plan infos opens (own infos j) start n)
  bare-packets start zero bare = bare
  bare-packets start (suc n) bare =
      let xs = with_events plan infos (events_before plan n) (after_packets plan infos opens (own infos j) start n) in
      bare-turn (opens n) (cond (own infos j n) (with_packet plan infos n xs) xs)
      (bare-packet n xs (bare-events (events_before plan n) (after_packets plan infos opens (own infos j) start n) (bare-packets start n bare)))

  bare-run : (start : List RunningStation) → BareAt k start → BareAt k (after_run plan infos opens (own infos j) start)
  bare-run start bare =
      bare-mapped k (finished infos) (with_events plan infos (events_after plan (length infos)) (after_packets plan infos opens (own infos j) start (length infos))) (λ s was. bare-finished infos s was)
      (bare-events (events_after plan (length infos)) (after_packets plan infos opens (own infos j) start (length infos)) (bare-packets start (length infos) bare))

new-bare : (number : ℕ) (ss : List StationPlan) (k : ℕ) → BareAt k (new_stations number ss)
new-bare number [] k s there = absurd cc
new-bare number (x ∷ xs) zero s there = subst (λ (z : RunningStation). IsBare z.account) (same_Some (new_station number x) s there) (record { lines = λ band. refl; slot = refl; fates = λ n. refl })
new-bare number (x ∷ xs) (suc k) s there = new-bare (number + 1) xs k s there

-- no fate of a packet of another station
pub fate-none : (plan : Plan) (infos : List Info) (opens : ℕ → ℕ) (station n : ℕ) → station_in infos n ≢ station → fate_in (after_run plan infos opens (own infos station) (new_stations 0 plan.stations)) infos n ≡ None
fate-none plan infos opens station n other = go (slice_get stations (station_in infos n)) refl
  where
    stations : List RunningStation
    stations = after_run plan infos opens (own infos station) (new_stations 0 plan.stations)

    go : (o : Option RunningStation) → slice_get stations (station_in infos n) ≡ o → option_and_then (λ (s : RunningStation). s.account.fates n) o ≡ None
    go None is = refl
    go (Some s) is = (bare-run plan infos opens station (station_in infos n) other (new_stations 0 plan.stations) (new-bare 0 plan.stations (station_in infos n)) s is).fates n

pub other_fates : (plan : Plan) (infos : List Info) (opens : ℕ → ℕ) (station n : ℕ) → n < length infos → station_in infos n ≢ station → slice_get (alone_at plan infos opens station) n ≡ Some None
unfolding run_fates
other_fates plan infos opens station n within other =
    let run = after_run plan infos opens (own infos station) (new_stations 0 plan.stations) in
    let k = event-there (first_numbers (length infos)) n (let long = length-first_numbers (length infos) in omega arith) in
    slice_get-map (fate_in run infos) (first_numbers (length infos)) n ∙ (ap (option_map (fate_in run infos)) k.1
    ∙ ap Some (ap (fate_in run infos) (sym (first-is (length infos) n k.0 k.1)) ∙ fate-none plan infos opens station n other))
