-- A packet waits in an active station only while the driver has no room.
use Rattle.std.proofs.Common.{◌≡◌, ℕ, zero, suc, ◌+◌, ◌<◌, ◌&&◌, Bool, true, false, cond, List, [], ◌∷◌, ◌++◌, length, Option, Some, None, slice_get, refl, sym, ap, subst, ◌∙◌, length-append, length-drop, inl, arith}
use Rattle.std.proofs.lemmas.Bool.{cond-false, cond-true}
use Rattle.std.specs.Prelude.{is_some, option_to_list}
use Rattle.lq_model.specs.Account.{held}
use Rattle.lq_model.specs.Alone.{RunningStation, opened, served}
use Rattle.lq_model.specs.Band.{Band, held_of, taken_by}
use Rattle.lq_model.specs.Capture.{Packets}
use Rattle.lq_model.specs.Plan.{Plan}
use Rattle.lq_model.specs.Wire.{OpenedSoFar, after_wired, come, delay, first_wired, interrupted, interrupted_while, is_shut, left_at, made_at, moment, next_interrupt, opened_at, opened_while, ring_has_room, wired_with}
use Rattle.lq_model.specs.declared.fate.Info.{Info}
use Rattle.lq_model.specs.declared.flight.Flight.{Flight}
use Rattle.lq_model.specs.declared.plan.Card.{Card}
use Rattle.lq_model.specs.declared.plan.StationPlan.{StationPlan}
use Rattle.lq_lone.specs.Lone.{HaveOneQueue, HasNothingToServe, IsLone, LoneState, first_of, is_down, is_empty, is_stopped, slot_count, station_with}
use Rattle.lq_lone.proofs.Serves.{by-high, by-low, by-mid, by-none, by-slot, opens, same-served}
use Rattle.lq_lone.proofs.Still.{HasSettled}
use Rattle.lq_card_laws.specs.Laws.{FitsCard, WaitsForRoom}
use Rattle.lq_card_laws.proofs.Beside.{brought-settled, wired-still}
use Rattle.lq_card_laws.proofs.Often.{stepped-station}

-- HOW MANY WAIT

slot-long : (o : Option ℕ) → length (option_to_list o) ≡ slot_count o
slot-long None = refl
slot-long (Some n) = refl

long : (s : RunningStation) (m : LoneState) → IsLone m s → length (held s.account) ≡ length (held_of m.low) + length (held_of m.mid) + length (held_of m.high) + slot_count m.slot
long s m lone =
    let bands = lone.rest.bands in
    let low : length (held_of (bands 0)) ≡ length (held_of m.low) = ap (λ (b : Band). length (held_of b)) lone.low in
    let mid : length (held_of (bands 1)) ≡ length (held_of m.mid) = ap (λ (b : Band). length (held_of b)) lone.mid in
    let high : length (held_of (bands 2)) ≡ length (held_of m.high) = ap (λ (b : Band). length (held_of b)) lone.high in
    let slot = slot-long m.slot in
    let all = length-append (option_to_list m.slot) (held_of (bands 0) ++ (held_of (bands 1) ++ held_of (bands 2))) in
    let two = length-append (held_of (bands 0)) (held_of (bands 1) ++ held_of (bands 2)) in
    let one = length-append (held_of (bands 1)) (held_of (bands 2)) in
    ap (λ (t : RunningStation). length (held t.account)) lone.is ∙ (omega arith)

none-long : (l : List ℕ) → slice_get l 0 ≡ None → length l ≡ 0
none-long [] e = refl
none-long (x ∷ xs) e = absurd cc

some-long : (l : List ℕ) (n : ℕ) → slice_get l 0 ≡ Some n → 0 < length l
some-long [] n e = absurd cc
some-long (x ∷ xs) n e = omega arith

one-taken : (b : Band) (n : ℕ) → first_of b ≡ Some n → length (held_of (taken_by b 1)) + 1 ≡ length (held_of b)
one-taken b n first = let some = some-long (held_of b) n first in let old = length-drop b.taken b.line in let new = length-drop (b.taken + 1) b.line in omega arith

-- whether its queue is stopped
stops-shut : (stopped : Bool) (s : RunningStation) (m : LoneState) → IsLone m s → m.stopped ≡ stopped → is_shut s ≡ stopped
stops-shut stopped s m lone is = ap is_shut (lone.is ∙ ap (λ (b : Bool). station_with lone.rest m.len m.slot b m.clean) is) ∙ by stopped
  where
    by : (b : Bool) → is_shut (station_with lone.rest m.len m.slot b m.clean) ≡ b
    by true = refl
    by false = refl

-- where it is open and active, none waits
settled-empty : (s : RunningStation) → HasSettled s → is_shut s ≡ false → s.account.down ≡ None → length (held s.account) ≡ 0
settled-empty s (m, (lone, is_stopped stopped)) running active = absurd (let wrong : true ≡ false = sym (stops-shut true s m lone stopped) ∙ running in cc)
settled-empty s (m, (lone, is_down down)) running active =
    absurd (let wrong : false ≡ true = ap is_some (sym active ∙ ap (λ (t : RunningStation). t.account.down) lone.is) ∙ (lone.down ∙ down) in cc)
settled-empty s (m, (lone, is_empty clean slot low mid high)) running active =
    let l = none-long (held_of m.low) low in let k = none-long (held_of m.mid) mid in let h = none-long (held_of m.high) high in let o : slot_count m.slot ≡ 0 = ap slot_count slot in long s m lone ∙ omega arith

-- OPENED AND SERVED

-- what it leaves is settled, and where the queue is stopped again, one fewer waits
record OpensOne (infos : List Info) (s : RunningStation) : Type 0 where
  new : LoneState
  is : IsLone new (served infos (opened s))
  settled : HasNothingToServe new
  fewer : new.stopped ≡ true → length (held (served infos (opened s)).account) + 1 ≡ length (held s.account)

module _ (infos : List Info) (queues : HaveOneQueue infos) (s : RunningStation) (m : LoneState) (lone : IsLone m s) where
  abbrev wake : LoneState
  wake = record m { stopped = false }

  lone-open : IsLone wake (opened s)
  lone-open = opens m s lone

  by-next : (slot low mid high : Option ℕ) → m.down ≡ false → m.slot ≡ slot → first_of m.low ≡ low → first_of m.mid ≡ mid → first_of m.high ≡ high → OpensOne infos s
  by-next (Some n) low mid high active a b c d =
      let new : LoneState = record wake { slot = None; stopped = true; clean = false } in let steps = by-slot infos (opened s) wake queues lone-open refl active n a in record {
        new = new;
        is = steps.is;
        settled = is_stopped refl;
        fewer = λ _. let x = long (served infos (opened s)) new steps.is in let y = long s m lone in let z : slot_count m.slot ≡ 1 = ap slot_count a in omega arith;
      }
  by-next None (Some n) mid high active a b c d =
      let new : LoneState = record wake { low = taken_by m.low 1; stopped = true; clean = false } in let steps = by-low infos (opened s) wake queues lone-open refl active n a b in record {
        new = new;
        is = steps.is;
        settled = is_stopped refl;
        fewer = λ _. let x = long (served infos (opened s)) new steps.is in let y = long s m lone in let z = one-taken m.low n b in omega arith;
      }
  by-next None None (Some n) high active a b c d =
      let new : LoneState = record wake { mid = taken_by m.mid 1; stopped = true; clean = false } in let steps = by-mid infos (opened s) wake queues lone-open refl active n a b c in record {
        new = new;
        is = steps.is;
        settled = is_stopped refl;
        fewer = λ _. let x = long (served infos (opened s)) new steps.is in let y = long s m lone in let z = one-taken m.mid n c in omega arith;
      }
  by-next None None None (Some n) active a b c d =
      let new : LoneState = record wake { high = taken_by m.high 1; stopped = true; clean = false } in let steps = by-high infos (opened s) wake queues lone-open refl active n a b c d in record {
        new = new;
        is = steps.is;
        settled = is_stopped refl;
        fewer = λ _. let x = long (served infos (opened s)) new steps.is in let y = long s m lone in let z = one-taken m.high n d in omega arith;
      }
  by-next None None None None active a b c d = record {
    new = record wake { stopped = false; clean = true };
    is = (by-none infos (opened s) wake queues lone-open refl active a b c d).is;
    settled = is_empty refl a b c d;
    fewer = λ wrong. absurd cc;
  }

  opens-one : OpensOne infos s
  opens-one = by m.down refl
    where
      by : (d : Bool) → m.down ≡ d → OpensOne infos s
      by true down = record {
        new = wake;
        is = subst (IsLone wake) (sym (same-served infos (opened s) wake lone-open (inl down))) lone-open;
        settled = is_down down;
        fewer = λ wrong. absurd cc;
      }
      by false active = by-next m.slot (first_of m.low) (first_of m.mid) (first_of m.high) active refl refl refl refl

-- OPENED WHILE THERE IS ROOM

both-first : (a b : Bool) → (a && b) ≡ true → a ≡ true
both-first true b e = refl
both-first false b e = e

module _ (card : Card) (packets : Packets) (infos : List Info) (queues : HaveOneQueue infos) where
  abbrev may-open : OpenedSoFar → Bool
  may-open o = is_shut o.wired.station && ring_has_room card o.wired.ring

  -- the station is settled, and its queue is open or there is no room
  abbrev IsDone : OpenedSoFar → Type 0
  IsDone o = HasSettled o.wired.station × (may-open o ≡ false)

  opens-all : (now more : ℕ) (o : OpenedSoFar) → HasSettled o.wired.station → (is_shut o.wired.station ≡ true → length (held o.wired.station.account) < more) → IsDone (opened_while card packets infos now more o)
  opens-all now zero o settled few = (settled, by (is_shut o.wired.station) refl)
    where
      by : (b : Bool) → is_shut o.wired.station ≡ b → may-open o ≡ false
      by true shut = absurd (let none = few shut in omega arith)
      by false running = ap (λ (b : Bool). b && ring_has_room card o.wired.ring) running
  opens-all now (suc more) o settled few = by (opens-all now more next) (may-open o) refl
    where
      next : OpenedSoFar
      next = record { times = o.times + 1; wired = made_at card packets now (λ s. served infos (opened s)) o.wired }

      by : (HasSettled next.wired.station → (is_shut next.wired.station ≡ true → length (held next.wired.station.account) < more) → IsDone (opened_while card packets infos now more next)) → (b : Bool) → may-open o ≡ b
          → IsDone (opened_while card packets infos now (suc more) o)
      by rest false stays = subst IsDone (sym (cond-false (may-open o) (opened_while card packets infos now more next) o stays)) (settled, stays)
      by rest true goes =
          let shut = both-first (is_shut o.wired.station) (ring_has_room card o.wired.ring) goes in
          let one = opens-one infos queues o.wired.station settled.0 settled.1.0 in
          let same : next.wired.station ≡ served infos (opened o.wired.station) = stepped-station card packets infos now (λ s. served infos (opened s)) o.wired in
          let fewer : is_shut next.wired.station ≡ true → length (held next.wired.station.account) < more =
          λ again. (let stopped : one.new.stopped ≡ true = sym (stops-shut one.new.stopped (served infos (opened o.wired.station)) one.new one.is refl) ∙ (ap is_shut (sym same) ∙ again) in
          let here = one.fewer stopped in let was = few shut in let long : length (held next.wired.station.account) ≡ length (held (served infos (opened o.wired.station)).account) = ap (λ (t : RunningStation). length (held t.account)) same in omega arith) in
          subst IsDone (sym (cond-true (may-open o) (opened_while card packets infos now more next) o goes)) (rest (subst HasSettled (sym same) (one.new, (one.is, one.settled))) fewer)

  at-once : (now : ℕ) (o : OpenedSoFar) → HasSettled o.wired.station → IsDone (opened_at card packets infos now o)
  at-once now o settled = opens-all now (length (held o.wired.station.account) + 1) o settled (λ _. omega arith)

  by-ring : (due : ℕ → Bool) (go_on : OpenedSoFar → OpenedSoFar) (ring : List Flight) (o : OpenedSoFar) → ((next : OpenedSoFar) → IsDone next → IsDone (go_on next)) → IsDone o → IsDone (next_interrupt card packets infos due go_on ring o)
  by-ring due go_on [] o rest done = done
  by-ring due go_on (f ∷ ring) o rest done = by (due (f.ends + delay card))
    where
      now : ℕ
      now = f.ends + delay card

      by : (b : Bool) → IsDone (cond b (go_on (interrupted card packets infos now o)) o)
      by true = rest (interrupted card packets infos now o) (at-once now (record o { wired = record o.wired { ring = left_at now o.wired.ring } }) done.0)
      by false = done

  goes : (due : ℕ → Bool) (more : ℕ) (o : OpenedSoFar) → IsDone o → IsDone (interrupted_while card packets infos due more o)
  goes due zero o done = done
  goes due (suc more) o done = by-ring due (interrupted_while card packets infos due more) o.wired.ring o (goes due more) done

  waits : (o : OpenedSoFar) → IsDone o → WaitsForRoom card o.wired
  waits o done active some = by (is_shut o.wired.station) (ring_has_room card o.wired.ring) refl refl
    where
      by : (b r : Bool) → is_shut o.wired.station ≡ b → ring_has_room card o.wired.ring ≡ r → ring_has_room card o.wired.ring ≡ false
      by b false shut room = room
      by false true running room = absurd (let none = settled-empty o.wired.station done.0 running active in omega arith)
      by true true shut room =
          absurd (let wrong : true ≡ false = sym (ap (λ (b : Bool). b && ring_has_room card o.wired.ring) shut ∙ room) ∙ done.1 in cc)

pub waits-only : (card : Card) (plan : Plan) (packets : Packets) (infos : List Info) (station : StationPlan) → FitsCard plan infos station → (n : ℕ) (due : ℕ → Bool) (more : ℕ)
    → WaitsForRoom card (interrupted_while card packets infos due more (come card plan packets infos n (after_wired card plan packets infos (first_wired station) n))).wired
waits-only card plan packets infos station fits n due more =
    let w = after_wired card plan packets infos (first_wired station) n in
    let here : OpenedSoFar = record { times = 0; wired = wired_with card plan packets infos n w } in
    let came = at-once card packets infos fits.first_queue (moment card packets n) here (brought-settled card plan packets infos station fits n w (wired-still card plan packets infos station fits n)) in
    waits card packets infos fits.first_queue (interrupted_while card packets infos due more (come card plan packets infos n w)) (goes card packets infos fits.first_queue due more (come card plan packets infos n w) came)
