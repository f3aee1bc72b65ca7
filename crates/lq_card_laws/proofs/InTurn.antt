-- The frames of a wire, one after the other.
use Rattle.std.proofs.Common.{◌≡◌, ℕ, zero, suc, ◌+◌, ◌-◌, ◌==◌, ◌&&◌, Bool, true, false, cond, List, [], ◌∷◌, ◌++◌, length, Option, None, Some, nat_le, slice_get, refl, subst}
use Rattle.std.specs.Option.{option_map_or}
use Rattle.std.specs.Prelude.{max}
use Rattle.lq_model.specs.Account.{held}
use Rattle.lq_model.specs.Alone.{RunningStation, events_after, events_before, opened, served}
use Rattle.lq_model.specs.Capture.{Packets}
use Rattle.lq_model.specs.Plan.{Plan}
use Rattle.lq_model.specs.Wire.{OpenedSoFar, Wired, with_flight, after_wired, with_flights, come, delay, finished_wired, first_wired, flights_of, flights_of_card, ring_has_room, interrupted, interrupted_while, is_shut, left_at, moment, newly_sent, next_interrupt, opened_while, made_at, turned, wire_time, wired_with, with_changes, served_with}
use Rattle.lq_model.specs.declared.fate.Info.{Info}
use Rattle.lq_model.specs.declared.flight.Flight.{Flight}
use Rattle.lq_model.specs.declared.plan.Card.{Card}
use Rattle.lq_model.specs.declared.plan.StationPlan.{StationPlan}
use Rattle.lq_card_laws.specs.Laws.{AreInTurn}

-- the same, with the moment from which on the wire is free behind them
abbrev UpTo : Card → ℕ → List Flight → ℕ → Type 0
UpTo card free [] last = last ≡ free
UpTo card free (f ∷ fs) last = (f.begins ≡ max f.accepted free) × (f.ends ≡ f.begins + wire_time card f.length) × UpTo card f.ends fs last

all-in-turn : (card : Card) (free : ℕ) (fs : List Flight) (last : ℕ) → UpTo card free fs last → AreInTurn card free fs
all-in-turn card free [] last up = tt
all-in-turn card free (f ∷ fs) last up = (up.0, up.1, all-in-turn card f.ends fs last up.2)

one-more : (card : Card) (free : ℕ) (fs : List Flight) (last : ℕ) (f : Flight) → UpTo card free fs last → f.begins ≡ max f.accepted last → f.ends ≡ f.begins + wire_time card f.length
    → UpTo card free (fs ++ f ∷ []) f.ends
one-more card free [] last f up begins ends = (subst (λ (t : ℕ). f.begins ≡ max f.accepted t) up begins, ends, refl)
one-more card free (x ∷ fs) last f up begins ends = (up.0, up.1, one-more card x.ends fs last f up.2 begins ends)

module _ (card : Card) (packets : Packets) (infos : List Info) where
  abbrev InTurn : Wired → Type 0
  InTurn w = UpTo card 0 w.flights w.free

  if-in-turn : (b : Bool) (x y : OpenedSoFar) → InTurn x.wired → InTurn y.wired → InTurn (cond b x y).wired
  if-in-turn true x y one two = one
  if-in-turn false x y one two = two

  accepts : (now : ℕ) (ns : List ℕ) (w : Wired) → InTurn w → InTurn (with_flights card packets now ns w)
  accepts now [] w up = up
  accepts now (n ∷ ns) w up = accepts now ns (with_flight card packets now n w) (one-more card 0 w.flights w.free _ up refl refl)

  steps : (now : ℕ) (step : RunningStation → RunningStation) (w : Wired) → InTurn w → InTurn (made_at card packets now step w)
  steps now step w up = accepts now (newly_sent w.station (step w.station)) (record w { station = step w.station }) up

  opens : (now more : ℕ) (o : OpenedSoFar) → InTurn o.wired → InTurn (opened_while card packets infos now more o).wired
  opens now zero o up = up
  opens now (suc more) o up =
      let next : OpenedSoFar = record { times = o.times + 1; wired = made_at card packets now (λ s. served infos (opened s)) o.wired } in
      if-in-turn (is_shut o.wired.station && ring_has_room card o.wired.ring) (opened_while card packets infos now more next) o
      (opens now more next (steps now (λ s. served infos (opened s)) o.wired up)) up

  interrupts : (now : ℕ) (o : OpenedSoFar) → InTurn o.wired → InTurn (interrupted card packets infos now o).wired
  interrupts now o up =
      let left : OpenedSoFar = record o { wired = record o.wired { ring = left_at now o.wired.ring } } in
      opens now (length (held left.wired.station.account) + 1) left up

  by-ring : (due : ℕ → Bool) (more : ℕ) (ring : List Flight) (o : OpenedSoFar) → ((next : OpenedSoFar) → InTurn next.wired → InTurn (interrupted_while card packets infos due more next).wired) → InTurn o.wired
      → InTurn (next_interrupt card packets infos due (interrupted_while card packets infos due more) ring o).wired
  by-ring due more [] o rest up = up
  by-ring due more (f ∷ ring) o rest up =
      let next = interrupted card packets infos (f.ends + delay card) o in
      if-in-turn (due (f.ends + delay card)) (interrupted_while card packets infos due more next) o (rest next (interrupts (f.ends + delay card) o up)) up

  goes : (due : ℕ → Bool) (more : ℕ) (o : OpenedSoFar) → InTurn o.wired → InTurn (interrupted_while card packets infos due more o).wired
  goes due zero o up = up
  goes due (suc more) o up = by-ring due more o.wired.ring o (λ next so. goes due more next so) up

  module _ (plan : Plan) where
    comes : (n : ℕ) (w : Wired) → InTurn w → InTurn (come card plan packets infos n w).wired
    comes n w up =
        let now = moment card packets n in let here = wired_with card plan packets infos n w in
        opens now (length (held here.station.account) + 1) (record { times = 0; wired = here })
        (steps now (λ s. served_with plan infos n (with_changes plan infos (events_before plan n) s)) w up)

    turns : (n : ℕ) (w : Wired) → InTurn w → InTurn (turned card plan packets infos n w).wired
    turns n w up =
        let o = come card plan packets infos n w in
        goes (λ now. nat_le now (moment card packets (n + 1))) (length o.wired.ring + length (held o.wired.station.account)) o (comes n w up)

    behind : (start : Wired) (n : ℕ) → InTurn start → InTurn (after_wired card plan packets infos start n)
    behind start zero up = up
    behind start (suc n) up = turns n (after_wired card plan packets infos start n) (behind start n up)

    finishes : (n : ℕ) (w : Wired) → InTurn w → InTurn (finished_wired card plan packets infos n w)
    finishes n w up =
        let now = moment card packets n in let o = come card plan packets infos n w in
        let left = made_at card packets now (with_changes plan infos (events_after plan packets.count)) o.wired in
        goes (λ now. true) (length left.ring + length (held left.station.account)) (record { times = 0; wired = left })
        (steps now (with_changes plan infos (events_after plan packets.count)) o.wired (comes n w up))

    by-count : (b : Bool) (fs : List Flight) (last : ℕ) → UpTo card 0 fs last → AreInTurn card 0 (cond b [] fs)
    by-count true fs last up = tt
    by-count false fs last up = all-in-turn card 0 fs last up

    all-flights : (s : StationPlan) → AreInTurn card 0 (flights_of card plan packets infos (first_wired s))
    all-flights s =
        let last = packets.count - 1 in let w = finished_wired card plan packets infos last (after_wired card plan packets infos (first_wired s) last) in
        by-count (packets.count == 0) w.flights w.free (finishes last (after_wired card plan packets infos (first_wired s) last) (behind (first_wired s) last refl))

    by-station : (o : Option StationPlan) → AreInTurn card 0 (option_map_or (λ s. flights_of card plan packets infos (first_wired s)) o [])
    by-station None = tt
    by-station (Some s) = all-flights s

pub in-turn : (card : Card) (plan : Plan) (packets : Packets) (infos : List Info) → AreInTurn card 0 (flights_of_card card plan packets infos)
unfolding flights_of_card
in-turn card plan packets infos = by-station card packets infos plan (slice_get plan.stations 0)
