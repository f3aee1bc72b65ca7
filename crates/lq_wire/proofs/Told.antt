-- What a card does is the same whichever packets it accepted before.
use Rattle.std.proofs.Common.{◌≡◌, ℕ, zero, suc, ◌+◌, ◌&&◌, Bool, true, false, cond, List, [], ◌∷◌, ◌++◌, length, nat_le, refl, sym, ap, subst, ◌∙◌, arith}
use Rattle.std.proofs.lemmas.List.{append-nil, append_assoc}
use Rattle.lq_model.specs.Account.{held}
use Rattle.lq_model.specs.Alone.{RunningStation, events_after, events_before, opened, served}
use Rattle.lq_model.specs.Capture.{Packets}
use Rattle.lq_model.specs.Plan.{Plan}
use Rattle.lq_model.specs.Wire.{OpenedSoFar, Wired, with_flight, after_wired, with_flights, all_interrupted, come, delay, finished_wired, first_wired, flight_of, ring_has_room, interrupted, interrupted_while, is_shut, left_at, moment, newly_sent, next_interrupt, opened_at, opened_while, made_at, turned, wired_with, with_changes, served_with}
use Rattle.lq_model.specs.declared.fate.Info.{Info}
use Rattle.lq_model.specs.declared.flight.Flight.{Flight}
use Rattle.lq_model.specs.declared.plan.Card.{Card}
use Rattle.lq_model.specs.declared.plan.StationPlan.{StationPlan}
use Rattle.lq_wire.specs.Wired.{IsWired, none_told}
use Rattle.lq_wire.specs.declared.wired.Wired.{Wired as Linked}

module _ (told : List Flight) where
  -- with these accepted before
  abbrev behind : Wired → Wired
  behind w = record w { flights = told ++ w.flights }

  abbrev opened-behind : OpenedSoFar → OpenedSoFar
  opened-behind o = record o { wired = behind o.wired }

  if-behind : (b : Bool) (x y more : OpenedSoFar) → more ≡ opened-behind x → cond b more (opened-behind y) ≡ opened-behind (cond b x y)
  if-behind true x y more is = is
  if-behind false x y more is = refl

  module _ (card : Card) (packets : Packets) (infos : List Info) where
    accepts-one : (now n : ℕ) (w : Wired) → with_flight card packets now n (behind w) ≡ behind (with_flight card packets now n w)
    accepts-one now n w = ap (λ (fs : List Flight). record (with_flight card packets now n w) { flights = fs }) (append_assoc told w.flights (flight_of card packets now w.free n ∷ []))

    accepts : (now : ℕ) (ns : List ℕ) (w : Wired) → with_flights card packets now ns (behind w) ≡ behind (with_flights card packets now ns w)
    accepts now [] w = refl
    accepts now (n ∷ ns) w = ap (with_flights card packets now ns) (accepts-one now n w) ∙ accepts now ns (with_flight card packets now n w)

    steps : (now : ℕ) (step : RunningStation → RunningStation) (w : Wired) → made_at card packets now step (behind w) ≡ behind (made_at card packets now step w)
    steps now step w = accepts now (newly_sent w.station (step w.station)) (record w { station = step w.station })

    opens : (now more : ℕ) (o : OpenedSoFar) → opened_while card packets infos now more (opened-behind o) ≡ opened-behind (opened_while card packets infos now more o)
    opens now zero o = refl
    opens now (suc more) o =
        let next : OpenedSoFar = record { times = o.times + 1; wired = made_at card packets now (λ s. served infos (opened s)) o.wired } in
        if-behind (is_shut o.wired.station && ring_has_room card o.wired.ring) (opened_while card packets infos now more next) o _
        (ap (λ (w : Wired). opened_while card packets infos now more (record { times = o.times + 1; wired = w })) (steps now (λ s. served infos (opened s)) o.wired) ∙ opens now more next)

    interrupts : (now : ℕ) (o : OpenedSoFar) → interrupted card packets infos now (opened-behind o) ≡ opened-behind (interrupted card packets infos now o)
    interrupts now o = opens now (length (held o.wired.station.account) + 1) (record o { wired = record o.wired { ring = left_at now o.wired.ring } })

    by-ring : (due : ℕ → Bool) (go_on : OpenedSoFar → OpenedSoFar) (ring : List Flight) (o : OpenedSoFar) → ((next : OpenedSoFar) → go_on (opened-behind next) ≡ opened-behind (go_on next))
        → next_interrupt card packets infos due go_on ring (opened-behind o) ≡ opened-behind (next_interrupt card packets infos due go_on ring o)
    by-ring due go_on [] o rest = refl
    by-ring due go_on (f ∷ ring) o rest =
        let next = interrupted card packets infos (f.ends + delay card) o in if-behind (due (f.ends + delay card)) (go_on next) o _ (ap go_on (interrupts (f.ends + delay card) o) ∙ rest next)

    goes : (due : ℕ → Bool) (more : ℕ) (o : OpenedSoFar) → interrupted_while card packets infos due more (opened-behind o) ≡ opened-behind (interrupted_while card packets infos due more o)
    goes due zero o = refl
    goes due (suc more) o = by-ring due (interrupted_while card packets infos due more) o.wired.ring o (goes due more)

    module _ (plan : Plan) (n : ℕ) (w : Wired) where
      abbrev now : ℕ
      now = moment card packets n

      comes : come card plan packets infos n (behind w) ≡ opened-behind (come card plan packets infos n w)
      comes =
          let here = wired_with card plan packets infos n w in
          ap (λ (v : Wired). opened_at card packets infos now (record { times = 0; wired = v })) (steps now (λ s. served_with plan infos n (with_changes plan infos (events_before plan n) s)) w)
          ∙ opens now (length (held here.station.account) + 1) (record { times = 0; wired = here })

      turns : turned card plan packets infos n (behind w) ≡ opened-behind (turned card plan packets infos n w)
      turns =
          let o = come card plan packets infos n w in let due : ℕ → Bool = λ now. nat_le now (moment card packets (n + 1)) in
          ap (all_interrupted card packets infos due) comes ∙ goes due (length o.wired.ring + length (held o.wired.station.account)) o

      finishes : finished_wired card plan packets infos n (behind w) ≡ behind (finished_wired card plan packets infos n w)
      finishes =
          let o = come card plan packets infos n w in let changes = with_changes plan infos (events_after plan packets.count) in let left = made_at card packets now changes o.wired in
          let goes-on : Wired → Wired = λ v. (all_interrupted card packets infos (λ _. true) (record { times = 0; wired = v })).wired in
          ap (λ (p : OpenedSoFar). goes-on (made_at card packets now changes p.wired)) comes
          ∙ (ap goes-on (steps now changes o.wired) ∙ ap (λ (p : OpenedSoFar). p.wired) (goes (λ _. true) (length left.ring + length (held left.station.account)) (record { times = 0; wired = left })))

all-behind : (w : Wired) → w ≡ behind w.flights (none_told w)
all-behind w = ap (λ (fs : List Flight). record w { flights = fs }) (sym (append-nil w.flights))

module _ (card : Card) (plan : Plan) (packets : Packets) (infos : List Info) (n : ℕ) (w : Wired) where
  turn-of : turned card plan packets infos n w ≡ opened-behind w.flights (turned card plan packets infos n (none_told w))
  turn-of = ap (turned card plan packets infos n) (all-behind w) ∙ turns w.flights card packets infos plan n (none_told w)

  pub times-untold : (turned card plan packets infos n w).times ≡ (turned card plan packets infos n (none_told w)).times
  times-untold = ap (λ (o : OpenedSoFar). o.times) turn-of

  pub turned-untold : none_told (turned card plan packets infos n (none_told w)).wired ≡ none_told (turned card plan packets infos n w).wired
  turned-untold = sym (ap (λ (o : OpenedSoFar). none_told o.wired) turn-of)

  pub turned-flights : (turned card plan packets infos n w).wired.flights ≡ w.flights ++ (turned card plan packets infos n (none_told w)).wired.flights
  turned-flights = ap (λ (o : OpenedSoFar). o.wired.flights) turn-of

  pub finished-flights : (finished_wired card plan packets infos n w).flights ≡ w.flights ++ (finished_wired card plan packets infos n (none_told w)).flights
  finished-flights = ap (λ (v : Wired). v.flights) (ap (finished_wired card plan packets infos n) (all-behind w) ∙ finishes w.flights card packets infos plan n (none_told w))

-- the packets that were accepted behind packet n are told
pub told-on : (card : Card) (plan : Plan) (packets : Packets) (infos : List Info) (station : StationPlan) (n : ℕ) (m new : Linked)
    → IsWired m (turned card plan packets infos n (none_told (after_wired card plan packets infos (first_wired station) n))).wired → ((w : Wired) → IsWired m w → IsWired new (none_told w))
    → IsWired new (none_told (after_wired card plan packets infos (first_wired station) (n + 1)))
told-on card plan packets infos station n m new is told =
    let at : ℕ → Wired = after_wired card plan packets infos (first_wired station) in
    let next : suc n ≡ n + 1 = omega arith in
    subst (IsWired new) (turned-untold card plan packets infos n (at n) ∙ ap (λ (k : ℕ). none_told (at k)) next) (told (turned card plan packets infos n (none_told (at n))).wired is)
