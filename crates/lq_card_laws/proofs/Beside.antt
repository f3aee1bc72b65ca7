-- The run of one sender whose queues are opened as a card opens them.
use Rattle.std.proofs.Common.{◌≡◌, ℕ, zero, suc, ◌+◌, ◌<◌, ◌==◌, Bool, true, false, cond, List, [], ◌∷◌, map, Option, Some, None, slice_get, refl, sym, ap, ap₂, subst, ◌∙◌, arith}
use Rattle.std.specs.Option.{option_map_or}
use Rattle.std.proofs.lemmas.Bool.{le-leb}
use Rattle.lq_model.specs.Alone.{RunningStation, after_packets, brought_in, bypass_of, changed, changed_where, events_before, new_stations, opened, opened_and_served, served, turn_ended, with_events, with_packet, with_turn}
use Rattle.lq_model.specs.Capture.{Packets}
use Rattle.lq_model.specs.Plan.{Plan, is_at}
use Rattle.lq_model.specs.Wire.{Wired, after_wired, first_wired, moment, openings_of_card, turned, wired_with, with_changes}
use Rattle.lq_model.specs.Wire.{served_with}
use Rattle.lq_model.specs.declared.fate.Info.{Info}
use Rattle.lq_model.specs.declared.plan.Card.{Card}
use Rattle.lq_model.specs.declared.plan.EventPlan.{EventPlan}
use Rattle.lq_model.specs.declared.plan.StationPlan.{StationPlan}
use Rattle.lq_card_laws.specs.Laws.{FitsCard, HasOneStation, reopened}
use Rattle.lq_lone.specs.Lone.{Rest, LoneState}
use Rattle.lq_model.specs.Account.{new_account}
use Rattle.lq_model.specs.Band.{empty_band}
use Rattle.lq_lone.proofs.Still.{HasIt, HasSettled, settled-same, still-brought, still-changed, still-opened, still-served}
use Rattle.lq_card_laws.proofs.Often.{stepped-station, turned-more}

-- behind each packet the station stays as it is where it is served once more
abbrev StaysServed : Card → Plan → Packets → List Info → StationPlan → Type 0
StaysServed card plan packets infos station = (n : ℕ) →
    let s = (wired_with card plan packets infos n (after_wired card plan packets infos (first_wired station) n)).station in served infos s ≡ s

module _ (card : Card) (plan : Plan) (packets : Packets) (infos : List Info) (station : StationPlan) (one : HasOneStation plan infos station) (stays : StaysServed card plan packets infos station) where
  -- EVENTS

  by-event : (e : ℕ) (s : RunningStation) (o : Option EventPlan) → slice_get plan.events e ≡ o
      → option_map_or (λ v. changed_where (λ j. is_at j v) (λ s. served infos (changed plan e v.kind s)) (s ∷ [])) o (s ∷ []) ≡ option_map_or (λ v. served infos (changed plan e v.kind s)) o s ∷ []
  by-event e s None is = refl
  by-event e s (Some v) is = ap (λ (b : Bool). cond b (served infos (changed plan e v.kind s)) s ∷ []) (one.events e v is)

  events-one : (events : List ℕ) (s : RunningStation) → with_events plan infos events (s ∷ []) ≡ with_changes plan infos events s ∷ []
  events-one [] s = refl
  events-one (e ∷ es) s =
      ap (with_events plan infos es) (by-event e s (slice_get plan.events e) refl)
      ∙ events-one es (option_map_or (λ v. served infos (changed plan e v.kind s)) (slice_get plan.events e) s)

  -- A PACKET

  packet-one : (n : ℕ) (s : RunningStation) → with_packet plan infos n (s ∷ []) ≡ served_with plan infos n s ∷ []
  packet-one n s = ap (λ (j : ℕ). cond (0 == j) (served infos (brought_in infos (bypass_of plan j) n s)) s ∷ []) (one.packets n)

  -- WHAT FOLLOWS IT

  opened-one : (times : ℕ) (s : RunningStation) → opened_and_served infos times (s ∷ []) ≡ reopened infos times s ∷ []
  opened-one zero s = refl
  opened-one (suc times) s = ap (λ (ss : List RunningStation). map (served infos) (map opened ss)) (opened-one times s)

  ended-one : (times : ℕ) (s : RunningStation) → served infos s ≡ s → turn_ended infos times (s ∷ []) ≡ reopened infos times s ∷ []
  ended-one zero s same = ap (λ (t : RunningStation). t ∷ []) same
  ended-one (suc times) s same = opened-one (suc times) s

  -- THE RUN

  abbrev wired : ℕ → Wired
  wired n = after_wired card plan packets infos (first_wired station) n

  opens-are : (n : ℕ) → n + 1 < packets.count → openings_of_card card plan packets infos n ≡ (turned card plan packets infos n (wired n)).times
  unfolding openings_of_card
  opens-are n below =
      ap₂ (λ (b : Bool) (ss : List StationPlan). cond b (option_map_or (λ (s : StationPlan). (turned card plan packets infos n (after_wired card plan packets infos (first_wired s) n)).times) (slice_get ss 0) 0) 0)
      (le-leb (suc (n + 1)) packets.count (omega arith)) one.stations

  beside : (n : ℕ) → n < packets.count → after_packets plan infos (openings_of_card card plan packets infos) (λ m. true) (new_stations 0 plan.stations) n ≡ (wired n).station ∷ []
  beside zero below = ap (new_stations 0) one.stations
  beside (suc n) below =
      let s = (wired n).station in let before = events_before plan n in
      let here = (wired_with card plan packets infos n (wired n)).station in
      let stepped_is : here ≡ served_with plan infos n (with_changes plan infos before s) =
      stepped-station card packets infos (moment card packets n) (λ s. served_with plan infos n (with_changes plan infos before s)) (wired n) in
      ap (λ (ss : List RunningStation). with_turn plan infos (openings_of_card card plan packets infos) (λ m. true) n ss) (beside n (omega arith))
      ∙ (ap (λ (ss : List RunningStation). turn_ended infos (openings_of_card card plan packets infos n) (with_packet plan infos n ss)) (events-one before s)
      ∙ (ap (turn_ended infos (openings_of_card card plan packets infos n)) (packet-one n (with_changes plan infos before s))
      ∙ (ap₂ (λ (k : ℕ) (t : RunningStation). turn_ended infos k (t ∷ [])) (opens-are n (omega arith)) (sym stepped_is)
      ∙ (ended-one (turned card plan packets infos n (wired n)).times here (stays n)
      ∙ ap (λ (t : RunningStation). t ∷ []) (sym (turned-more card packets infos plan n (wired n)))))))

-- THE STATION STAYS AS IT IS

module _ (card : Card) (plan : Plan) (packets : Packets) (infos : List Info) (station : StationPlan) (fits : FitsCard plan infos station) where
  again : (k : ℕ) (s : RunningStation) → HasIt s → HasIt (reopened infos k s)
  again zero s has = has
  again (suc k) s has = still-served infos fits.first_queue (opened (reopened infos k s)) (still-opened infos fits.first_queue (reopened infos k s) (again k s has))

  changed-still : (events : List ℕ) (s : RunningStation) → HasIt s → HasIt (with_changes plan infos events s)
  changed-still [] s has = has
  changed-still (e ∷ es) s has = changed-still es _ (by (slice_get plan.events e) refl)
    where
      by : (o : Option EventPlan) → slice_get plan.events e ≡ o → HasIt (option_map_or (λ v. served infos (changed plan e v.kind s)) o s)
      by None is = has
      by (Some v) is = still-served infos fits.first_queue (changed plan e v.kind s) (still-changed infos fits.first_queue plan e v.kind s (fits.no_swap e v is) has)

  abbrev made-of : ℕ → ℕ → ℕ → ℕ → RunningStation
  made-of queues burst busy_every hang_after = record {
    account = new_account station.len 0 queues;
    clean = true;
    device = record { params = record { burst = burst; busy_every = busy_every; busy_limit = station.params.busy_limit; hang_after = hang_after }; busies = 0 };
  }

  begins : HasIt (first_wired station).station
  begins =
      let m : LoneState = record { len = station.len; low = empty_band; mid = empty_band; high = empty_band; slot = None; stopped = false; clean = true; down = false } in
      let rest : Rest = record { bands = λ (_ : ℕ). empty_band; unit = 0; sent = λ (_ : ℕ). []; fates = λ (_ : ℕ). None; down = None; busy_limit = station.params.busy_limit; busies = 0 } in (
        m,
        record {
          rest = rest;
          is = ap₂ (λ (q b : ℕ). made-of q b station.params.busy_every station.params.hang_after) fits.queues fits.burst ∙ ap₂ (made-of 1 1) fits.never_busy fits.never_hangs;
          low = refl;
          mid = refl;
          high = refl;
          down = refl;
        },
      )

  pub brought-settled : (n : ℕ) (w : Wired) → HasIt w.station → HasSettled (wired_with card plan packets infos n w).station
  brought-settled n w has =
      let ready = with_changes plan infos (events_before plan n) w.station in
      subst HasSettled (sym (stepped-station card packets infos (moment card packets n) (λ s. served_with plan infos n (with_changes plan infos (events_before plan n) s)) w))
      (still-brought infos fits.first_queue (bypass_of plan 0) n ready (fits.bands n) (changed-still (events_before plan n) w.station has))

  pub wired-still : (n : ℕ) → HasIt (after_wired card plan packets infos (first_wired station) n).station
  wired-still zero = begins
  wired-still (suc n) =
      let w = after_wired card plan packets infos (first_wired station) n in let settled = brought-settled n w (wired-still n) in
      subst HasIt (sym (turned-more card packets infos plan n w)) (again (turned card plan packets infos n w).times _ (settled.0, settled.1.0))

  stays : StaysServed card plan packets infos station
  stays n = settled-same infos fits.first_queue _ (brought-settled n (after_wired card plan packets infos (first_wired station) n) (wired-still n))

  pub runs-beside : (n : ℕ) → n < packets.count → after_packets plan infos (openings_of_card card plan packets infos) (λ m. true) (new_stations 0 plan.stations) n ≡ (after_wired card plan packets infos (first_wired station) n).station ∷ []
  runs-beside n below = beside card plan packets infos station fits.one stays n below
