-- The stations of the run of one sender don't meet.
use Rattle.std.proofs.Common.{◌≡◌, ℕ, zero, suc, ◌==◌, Bool, true, false, cond, List, [], ◌∷◌, length, map, Option, Some, None, slice_get, refl, sym, ap, subst, ◌∙◌}
use Rattle.std.specs.Option.{option_and_then, option_map, option_map_or}
use Rattle.std.proofs.lemmas.Bool.{eqb-false, ne_eqb}
use Rattle.std.proofs.lemmas.Option.{slice_get-map}
use Rattle.lq_model.proofs.FirstNumbers.{first-is}
use Rattle.lq_model.specs.Alone.{RunningStation, after_packets, after_run, alone, alone_at, bypass_of, brought_in, changed, changed_where, events_after, events_before, fate_in, finished, new_stations, opened, opened_and_served, run_fates, served, turn_ended, with_event, with_events, with_packet}
use Rattle.lq_model.specs.Numbers.{first_numbers}
use Rattle.lq_model.specs.Plan.{Plan, is_at, station_in}
use Rattle.lq_model.specs.declared.fate.Info.{Info}
use Rattle.lq_model.specs.declared.plan.EventPlan.{EventPlan}
use Rattle.lq_senders.proofs.Seats.{where-apart}

-- both lists have the same at this place
abbrev AgreeAt : {X : Type 0} → ℕ → List X → List X → Type 0
AgreeAt j xs ys = slice_get xs j ≡ slice_get ys j

mapped : {X Y : Type 0} (f : X → Y) (j : ℕ) (xs ys : List X) → AgreeAt j xs ys → AgreeAt j (map f xs) (map f ys)
mapped f j xs ys same = slice_get-map f xs j ∙ (ap (option_map f) same ∙ sym (slice_get-map f ys j))

-- the element at a place, where those whose place passes the test were changed
pub at-where : {X : Type 0} (test : ℕ → Bool) (f : X → X) (xs : List X) (j : ℕ) → slice_get (changed_where test f xs) j ≡ option_map (λ x. cond (test j) (f x) x) (slice_get xs j)
at-where test f [] j = refl
at-where test f (x ∷ xs) zero = refl
at-where test f (x ∷ xs) (suc j) = at-where (λ i. test (suc i)) f xs j

where-alike : {X : Type 0} (test : ℕ → Bool) (f : X → X) (j : ℕ) (xs ys : List X) → AgreeAt j xs ys → AgreeAt j (changed_where test f xs) (changed_where test f ys)
where-alike test f j xs ys same = at-where test f xs j ∙ (ap (option_map (λ x. cond (test j) (f x) x)) same ∙ sym (at-where test f ys j))

-- packet n is one of station j
abbrev pub own : List Info → ℕ → ℕ → Bool
own infos j n = station_in infos n == j

module _ (plan : Plan) (infos : List Info) (opens : ℕ → ℕ) (j : ℕ) where
  event-alike : (e : ℕ) (xs ys : List RunningStation) → AgreeAt j xs ys → AgreeAt j (with_event plan infos e xs) (with_event plan infos e ys)
  event-alike e xs ys same = go (slice_get plan.events e)
    where
      after : Option EventPlan → List RunningStation → List RunningStation
      after o zs = option_map_or (λ (x : EventPlan). changed_where (λ k. is_at k x) (λ s. served infos (changed plan e x.kind s)) zs) o zs

      go : (o : Option EventPlan) → AgreeAt j (after o xs) (after o ys)
      go None = same
      go (Some x) = where-alike (λ k. is_at k x) (λ s. served infos (changed plan e x.kind s)) j xs ys same

  events-alike : (events : List ℕ) (xs ys : List RunningStation) → AgreeAt j xs ys → AgreeAt j (with_events plan infos events xs) (with_events plan infos events ys)
  events-alike [] xs ys same = same
  events-alike (e ∷ events) xs ys same = events-alike events (with_event plan infos e xs) (with_event plan infos e ys) (event-alike e xs ys same)

  opened-alike : (times : ℕ) (xs ys : List RunningStation) → AgreeAt j xs ys → AgreeAt j (opened_and_served infos times xs) (opened_and_served infos times ys)
  opened-alike zero xs ys same = same
  opened-alike (suc times) xs ys same =
      let before = opened_and_served infos times xs in let whole = opened_and_served infos times ys in
      mapped (served infos) j (map opened before) (map opened whole) (mapped opened j before whole (opened-alike times xs ys same))

  turn-alike : (times : ℕ) (xs ys : List RunningStation) → AgreeAt j xs ys → AgreeAt j (turn_ended infos times xs) (turn_ended infos times ys)
  turn-alike zero xs ys same = mapped (served infos) j xs ys same
  turn-alike (suc times) xs ys same = opened-alike (suc times) xs ys same

  -- a packet of another station leaves this one as it is
  packet-alike : (n : ℕ) (xs ys : List RunningStation) → AgreeAt j xs ys → AgreeAt j (cond (own infos j n) (with_packet plan infos n xs) xs) (with_packet plan infos n ys)
  packet-alike n xs ys same = go (own infos j n) refl
    where
      step : RunningStation → RunningStation
      step s = served infos (brought_in infos (bypass_of plan (station_in infos n)) n s)

      go : (b : Bool) → (station_in infos n == j) ≡ b → AgreeAt j (cond b (with_packet plan infos n xs) xs) (with_packet plan infos n ys)
      go true is = where-alike (λ k. k == station_in infos n) step j xs ys same
      go false other = same ∙ sym (where-apart (λ k. k == station_in infos n) j step ys (ne_eqb j (station_in infos n) (λ same. eqb-false (station_in infos n) j other (sym same))))

  packets-alike : (start : List RunningStation) (n : ℕ) → AgreeAt j (after_packets plan infos opens (own infos j) start n) (after_packets plan infos opens (λ n. true) start n)
  packets-alike start zero = refl
  packets-alike start (suc n) =
      let old = after_packets plan infos opens (own infos j) start n in let whole = after_packets plan infos opens (λ n. true) start n in
      let events = events-alike (events_before plan n) old whole (packets-alike start n) in
      let xs = with_events plan infos (events_before plan n) old in let ys = with_events plan infos (events_before plan n) whole in
      turn-alike (opens n) (cond (own infos j n) (with_packet plan infos n xs) xs) (with_packet plan infos n ys) (packet-alike n xs ys events)

  run-alike : (start : List RunningStation) → AgreeAt j (after_run plan infos opens (own infos j) start) (after_run plan infos opens (λ n. true) start)
  run-alike start =
      let old = after_packets plan infos opens (own infos j) start (length infos) in let whole = after_packets plan infos opens (λ n. true) start (length infos) in
      mapped (finished infos) j (with_events plan infos (events_after plan (length infos)) old) (with_events plan infos (events_after plan (length infos)) whole)
      (events-alike (events_after plan (length infos)) old whole (packets-alike start (length infos)))

-- a packet of the station has the same fate
fates-alike : (plan : Plan) (infos : List Info) (opens : ℕ → ℕ) (n : ℕ) → fate_in (after_run plan infos opens (own infos (station_in infos n)) (new_stations 0 plan.stations)) infos n ≡ fate_in (after_run plan infos opens (λ n. true) (new_stations 0 plan.stations)) infos n
fates-alike plan infos opens n = ap (option_and_then (λ (s : RunningStation). s.account.fates n)) (run-alike plan infos opens (station_in infos n) (new_stations 0 plan.stations))

-- NUMBERS

-- two functions on the first numbers that agree at one
agree-at : {X : Type 0} (f g : ℕ → X) (count n : ℕ) → f n ≡ g n → AgreeAt n (map f (first_numbers count)) (map g (first_numbers count))
agree-at f g count n same = slice_get-map f (first_numbers count) n ∙ (go (slice_get (first_numbers count) n) refl ∙ sym (slice_get-map g (first_numbers count) n))
  where
    go : (o : Option ℕ) → slice_get (first_numbers count) n ≡ o → option_map f o ≡ option_map g o
    go None is = refl
    go (Some k) is = ap Some (subst (λ i. f i ≡ g i) (first-is count n k is) same)

pub own_fates : (plan : Plan) (infos : List Info) (opens : ℕ → ℕ) (n : ℕ) → slice_get (alone_at plan infos opens (station_in infos n)) n ≡ slice_get (alone plan infos opens) n
unfolding run_fates
own_fates plan infos opens n =
    let start = new_stations 0 plan.stations in
    agree-at (fate_in (after_run plan infos opens (own infos (station_in infos n)) start) infos) (fate_in (after_run plan infos opens (λ n. true) start) infos) (length infos) n (fates-alike plan infos opens n)
