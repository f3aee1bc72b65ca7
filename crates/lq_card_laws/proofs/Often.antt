-- How often a card opens its station.
use Rattle.std.proofs.Common.{◌≡◌, ℕ, zero, suc, ◌+◌, ◌&&◌, Bool, true, false, cond, List, [], ◌∷◌, length, nat_le, refl, ap, ◌∙◌, arith}
use Rattle.lq_model.specs.Account.{held}
use Rattle.lq_model.specs.Alone.{RunningStation, opened, served}
use Rattle.lq_model.specs.Capture.{Packets}
use Rattle.lq_model.specs.Plan.{Plan}
use Rattle.lq_model.specs.Wire.{OpenedSoFar, Wired, with_flight, with_flights, come, delay, ring_has_room, interrupted, interrupted_while, is_shut, left_at, moment, newly_sent, next_interrupt, opened_while, made_at, turned, wired_with}
use Rattle.lq_model.specs.declared.fate.Info.{Info}
use Rattle.lq_model.specs.declared.flight.Flight.{Flight}
use Rattle.lq_model.specs.declared.plan.Card.{Card}
use Rattle.lq_card_laws.specs.Laws.{reopened}

module _ (card : Card) (packets : Packets) (infos : List Info) where
  -- what the device accepts changes nothing of the station
  same-station : (now : ℕ) (ns : List ℕ) (w : Wired) → (with_flights card packets now ns w).station ≡ w.station
  same-station now [] w = refl
  same-station now (n ∷ ns) w = same-station now ns (with_flight card packets now n w)

  pub stepped-station : (now : ℕ) (step : RunningStation → RunningStation) (w : Wired) → (made_at card packets now step w).station ≡ step w.station
  stepped-station now step w = same-station now (newly_sent w.station (step w.station)) (record w { station = step w.station })

  more : (j k : ℕ) (s : RunningStation) → reopened infos k (reopened infos j s) ≡ reopened infos (j + k) s
  more j zero s = ap (λ (i : ℕ). reopened infos i s) (let same : j ≡ j + 0 = omega arith in same)
  more j (suc k) s = ap (λ (t : RunningStation). served infos (opened t)) (more j k s) ∙ ap (λ (i : ℕ). reopened infos i s) (let next : suc (j + k) ≡ j + suc k = omega arith in next)

  -- from one state to another it was opened so often, and no more was done
  record IsMore (old new : OpenedSoFar) : Type 0 where
    count : ℕ
    times : new.times ≡ old.times + count
    station : new.wired.station ≡ reopened infos count old.wired.station

  none : (o : OpenedSoFar) → IsMore o o
  none o = record { count = 0; times = omega arith; station = refl }

  both : (a b c : OpenedSoFar) → IsMore a b → IsMore b c → IsMore a c
  both a b c one two = record {
    count = one.count + two.count;
    times = let first = one.times in let second = two.times in omega arith;
    station = two.station ∙ (ap (reopened infos two.count) one.station ∙ more one.count two.count a.wired.station);
  }

  once : (now : ℕ) (o : OpenedSoFar) → IsMore o (record { times = o.times + 1; wired = made_at card packets now (λ s. served infos (opened s)) o.wired })
  once now o = record { count = 1; times = refl; station = stepped-station now (λ s. served infos (opened s)) o.wired }

  abbrev opened-next : ℕ → OpenedSoFar → OpenedSoFar
  opened-next now o = record { times = o.times + 1; wired = made_at card packets now (λ s. served infos (opened s)) o.wired }

  if-more : (b : Bool) (o new : OpenedSoFar) → IsMore o new → IsMore o (cond b new o)
  if-more true o new more = more
  if-more false o new more = none o

  while-more : (now fuel : ℕ) (o : OpenedSoFar) → IsMore o (opened_while card packets infos now fuel o)
  while-more now zero o = none o
  while-more now (suc fuel) o =
      let next = opened-next now o in
      if-more (is_shut o.wired.station && ring_has_room card o.wired.ring) o (opened_while card packets infos now fuel next)
      (both o next (opened_while card packets infos now fuel next) (once now o) (while-more now fuel next))

  -- what is taken back changes nothing of the station
  interrupt-more : (now : ℕ) (o : OpenedSoFar) → IsMore o (interrupted card packets infos now o)
  interrupt-more now o =
      let taken : OpenedSoFar = record o { wired = record o.wired { ring = left_at now o.wired.ring } } in
      let rest = while-more now (length (held taken.wired.station.account) + 1) taken in
      record { count = rest.count; times = rest.times; station = rest.station }

  by-ring : (due : ℕ → Bool) (fuel : ℕ) (o : OpenedSoFar) (ring : List Flight) → ((next : OpenedSoFar) → IsMore next (interrupted_while card packets infos due fuel next))
      → IsMore o (next_interrupt card packets infos due (interrupted_while card packets infos due fuel) ring o)
  by-ring due fuel o [] rest = none o
  by-ring due fuel o (flight ∷ ring) rest =
      let next = interrupted card packets infos (flight.ends + delay card) o in
      if-more (due (flight.ends + delay card)) o (interrupted_while card packets infos due fuel next)
      (both o next (interrupted_while card packets infos due fuel next) (interrupt-more (flight.ends + delay card) o) (rest next))

  due-more : (due : ℕ → Bool) (fuel : ℕ) (o : OpenedSoFar) → IsMore o (interrupted_while card packets infos due fuel o)
  due-more due zero o = none o
  due-more due (suc fuel) o = by-ring due fuel o o.wired.ring (λ next. due-more due fuel next)

  pub turned-more : (plan : Plan) (n : ℕ) (w : Wired)
      → (turned card plan packets infos n w).wired.station ≡ reopened infos (turned card plan packets infos n w).times (wired_with card plan packets infos n w).station
  turned-more plan n w =
      let first : OpenedSoFar = record { times = 0; wired = wired_with card plan packets infos n w } in
      let at-once = come card plan packets infos n w in
      let due : ℕ → Bool = λ now. nat_le now (moment card packets (n + 1)) in
      let all = both first at-once (turned card plan packets infos n w) (while-more (moment card packets n) (length (held first.wired.station.account) + 1) first)
      (due-more due (length at-once.wired.ring + length (held at-once.wired.station.account)) at-once) in
      all.station ∙ ap (λ (k : ℕ). reopened infos k (wired_with card plan packets infos n w).station) (let same : all.count ≡ (turned card plan packets infos n w).times = (let is = all.times in omega arith) in same)
