-- What a table holds is sent, in whatever order its seats step.
use Rattle.std.proofs.Common.{◌≡◌, ℕ, zero, suc, ◌+◌, ◌*◌, ◌<◌, ◌≤◌, true, false, inl, inr, List, [], ◌∷◌, ◌++◌, length, refl, ap, ◌∙◌, arith, Option, Some, Contains, get_or, ◌⊎◌, ⊎_elim}
use Rattle.std.specs.Prelude.{◌&&◌, is_some}
use Rattle.std.specs.List.{list_any}
use Rattle.std.specs.Option.{option_map}
use Rattle.std.proofs.lemmas.Bool.{cases_Bool}
use Rattle.std.proofs.lemmas.List.Elements.{Contains-append_left, Contains-append_right}
use Rattle.lq_device.specs.Station.{StationState}
use Rattle.lq_model.specs.Account.{held}
use Rattle.lq_model.specs.declared.machine.Packet.{Packet}
use Rattle.lq_model.specs.declared.machine.Position.{Position}
use Rattle.lq_model.specs.declared.machine.Position.TheVariants.{Gate}
use Rattle.lq_model.specs.declared.machine.Seat.{Seat}
use Rattle.lq_model.specs.Machine.{Machine, band_at, idle_seat}
use Rattle.lq_model.specs.Positions.{Holds, holds_lock, in_hand}
use Rattle.lq_run_core.specs.Measure.{ServesOpen, has_any, is_ahead, is_held, measure, serves, waits_in}
use Rattle.lq_run_core.specs.Progress.{Course}
use Rattle.lq_run_core.specs.Waits.{AllOpen, IsWaiting, carries, packets}
use Rattle.lq_run_core.proofs.Bounded.{measure-below}
use Rattle.lq_run_core.proofs.Sent.{waits-or-sent}
use Rattle.lq_run_core.proofs.Tests.{or-left, or-right}
use Rattle.lq_table.specs.Rule.{Rule, account, words_of}
use Rattle.lq_table.specs.Views.{Setup, machine_packet}
use Rattle.lq_table_laws.specs.Runs.{Runs, table_after}
use Rattle.lq_table_laws.specs.Runs.Runs.{no_step, then_moves, then_sends}
use Rattle.lq_table_laws.specs.Stands.{AreQueuesOpen, Table, machine_by}
use Rattle.lq_table_laws.specs.Stepped.{Leads, Stepped, counting, machine_after, machine_before, none_sent, one_sent}
use Rattle.lq_table_laws.proofs.Determined.{holder_of}
use Rattle.lq_table_laws.proofs.Devices.{send_move}
use Rattle.lq_table_laws.proofs.Moves.{place, there}
use Rattle.lq_table_laws.proofs.Served.{all_open, holds}

-- WHAT WAITS IS SERVED

some_any : (xs : List Packet) (p : Packet) → Contains xs p → has_any xs ≡ true
some_any [] p (k, below, at) = absurd (omega arith)
some_any (x ∷ xs) p c = refl

band_ahead : (bands : List (List Packet)) (k : ℕ) → k < 3 → waits_in k bands ≡ true → is_ahead 0 bands ≡ true
band_ahead bands zero below e = or-left _ _ e
band_ahead bands (suc zero) below e = or-right _ _ (or-left _ _ e)
band_ahead bands (suc (suc zero)) below e = or-right _ _ (or-right _ _ e)
band_ahead bands (suc (suc (suc k))) below e = absurd (omega arith)

hand_holds : (position : Position) → is_some (in_hand position) ≡ true → (holds_lock position && carries position) ≡ true
hand_holds (Gate r direct) e = refl
hand_holds _ e = cc

some_seat_has : (p : Packet) (seats : List Seat) (i : ℕ) → in_hand (get_or seats i idle_seat).position ≡ Some p → list_any (λ s. holds_lock s.position && carries s.position) seats ≡ true
some_seat_has p [] i e = cc
some_seat_has p (x ∷ xs) zero e = or-left _ _ (hand_holds x.position (ap is_some e))
some_seat_has p (x ∷ xs) (suc i) e = or-right _ _ (some_seat_has p xs i e)

served : (p : Packet) (m : Machine) → IsWaiting p m → AllOpen m → ServesOpen m
served p m waits opens = record { serves = by waits; queues_open = opens }
  where
    held_now : Holds m p → is_held m.qdisc.slot m.qdisc.bands ≡ true
    held_now (inl slot) = or-left _ _ (ap (λ (o : Option Packet). is_some o) slot)
    held_now (inr (k, (below, there))) = or-right _ _ (band_ahead m.qdisc.bands k below (some_any (band_at m.qdisc k) p there))

    by : IsWaiting p m → serves m ≡ true
    by (inl is) = or-left _ _ (held_now is)
    by (inr (i, at)) = or-right _ _ (some_seat_has p m.seats i at)

-- ONE STEP

module _ (k : Setup) (n first : ℕ) where
  abbrev p : Packet
  p = machine_packet k.infos n

  -- the packet waits, and the moves since the number was the first one have paid for themselves
  pub record StillWaits (moves cost : ℕ) (s : Table) (r : Rule k s) : Type 0 where
    pub waits : IsWaiting p (machine_by r)
    pub number : moves + measure (machine_by r) ≤ first + cost

  step : (place : ℕ) (t : Stepped k place) (c : Course) (moves cost : ℕ) → Leads c (machine_before t) (machine_after t) → c.with_control ≡ false → AreQueuesOpen (words_of k t.old.words) → AreQueuesOpen (words_of k (table_after t).words)
      → StillWaits moves cost t.old t.rule → StillWaits (moves + c.moves) (cost + c.cost) (table_after t) t.rule_after ⊎ Contains c.accepted p
  step place t c moves cost leads calm open_before open_after still =
      by (waits-or-sent p (machine_before t) (counting leads.sent leads.full (machine_after t)) c t.rule.parts.machine.invariant still.waits leads.goes calm)
    where
      by : IsWaiting p (machine_after t) ⊎ Contains c.accepted p → StillWaits (moves + c.moves) (cost + c.cost) (table_after t) t.rule_after ⊎ Contains c.accepted p
      by (inl waits) = inl (record {
        waits = waits;
        number = let before = still.number in
            let z = leads.nearer (served p (machine_before t) still.waits (all_open k t.old t.rule open_before)) (served p (machine_after t) waits (all_open k (table_after t) t.rule_after open_after)) in omega arith;
      })
      by (inr sent) = inr sent

  -- ALL STEPS

  module _ (s : Table) (r : Rule k s) where
    last_open : (moves cost : ℕ) (sent : List ℕ) (s' : Table) (r' : Rule k s') → Runs k s r moves cost sent s' r' → AreQueuesOpen (words_of k s'.words)
    last_open _ _ _ _ _ (no_step opens) = opens
    last_open _ _ _ _ _ (then_moves moves cost sent place more more_cost t past is opens) = opens
    last_open _ _ _ _ _ (then_sends moves cost sent m t past is opens) = opens

    nothing_sent : Contains [] p → ⊥
    nothing_sent (i, below, at) = absurd (omega arith)

    sent_is : (m : ℕ) → Contains (machine_packet k.infos m ∷ []) p → Contains (m ∷ []) n
    sent_is m (zero, below, at) = (zero, omega arith, ap (λ (q : Packet). q.number) at)
    sent_is m (suc i, below, at) = absurd (omega arith)

    all_steps : (moves cost : ℕ) (sent : List ℕ) (s' : Table) (r' : Rule k s') → IsWaiting p (machine_by r) → measure (machine_by r) ≤ first → Runs k s r moves cost sent s' r' → StillWaits moves cost s' r' ⊎ Contains sent n
    all_steps _ _ _ _ _ waits small (no_step opens) = inl (record { waits = waits; number = omega arith })
    all_steps _ _ _ _ _ waits small (then_moves moves cost sent place more more_cost t past is opens) = go (all_steps moves cost sent t.old t.rule waits small past)
      where
        go : StillWaits moves cost t.old t.rule ⊎ Contains sent n → StillWaits (moves + more) (cost + more_cost) (table_after t) t.rule_after ⊎ Contains sent n
        go (inl still) = now (step place t (none_sent more more_cost) moves cost is refl (last_open moves cost sent t.old t.rule past) opens still)
          where
            now : StillWaits (moves + more) (cost + more_cost) (table_after t) t.rule_after ⊎ Contains [] p → StillWaits (moves + more) (cost + more_cost) (table_after t) t.rule_after ⊎ Contains sent n
            now (inl later) = inl later
            now (inr none) = absurd (nothing_sent none)
        go (inr before) = inr before
    all_steps _ _ _ _ _ waits small (then_sends moves cost sent m t past is opens) = go (all_steps moves cost sent t.old t.rule waits small past)
      where
        leads : Leads (one_sent (machine_packet k.infos m)) (machine_before t) (machine_after t)
        leads = let a = is.accepted in send_move k t.old t.rule t.stored t.seat t.before t.after t.homes t.here t.live is.keeps m is.station a.answer a.packet a.direct t.rule_after is.within is.told a.position a.in_hand (ap (λ (z : StationState). z.last) a.called.rest) a.accepted

        go : StillWaits moves cost t.old t.rule ⊎ Contains sent n → StillWaits (moves + 1) cost (table_after t) t.rule_after ⊎ Contains (sent ++ m ∷ []) n
        go (inl still) = now (step _ t (one_sent (machine_packet k.infos m)) moves cost leads refl (last_open moves cost sent t.old t.rule past) opens still)
          where
            now : StillWaits (moves + 1) (cost + 0) (table_after t) t.rule_after ⊎ Contains (machine_packet k.infos m ∷ []) p → StillWaits (moves + 1) cost (table_after t) t.rule_after ⊎ Contains (sent ++ m ∷ []) n
            now (inl later) = inl (record { waits = later.waits; number = let z = later.number in omega arith })
            now (inr this) = inr (Contains-append_right sent (m ∷ []) n (sent_is m this))
        go (inr before) = inr (Contains-append_left sent (m ∷ []) n before)

-- what the account has in hand a seat has in hand: the holder of the run lock, and there is one
in_a_hand : (k : Setup) (s : Table) (r : Rule k s) (n : ℕ) → (account k r.state).hand ≡ Some n → IsWaiting (machine_packet k.infos n) (machine_by r)
in_a_hand k s r n is = ⊎_elim
    (λ (locked : r.qdisc.locked ≡ true). let f = holder_of k s r locked in inr (
      place s.views f.id f.view f.view f.here f.live f.live,
      ap (λ (t : Seat). in_hand t.position) (there s.views f.id f.view f.view f.here f.live f.live)
          ∙ ((r.parts.station.lends.knows f.id f.view f.here f.live f.holds).in_hand ∙ ap (option_map (machine_packet k.infos)) is),
    ))
    (λ (free : r.qdisc.locked ≡ false). absurd (let none = (r.parts.station.lends.home free).hand_empty in cc))
    (cases_Bool r.qdisc.locked)

pub is_sent : (k : Setup) (s s' : Table) (r : Rule k s) (r' : Rule k s') (moves cost n : ℕ) (sent : List ℕ) → Contains (held (account k r.state)) n ⊎ ((account k r.state).hand ≡ Some n) → Runs k s r moves cost sent s' r'
    → 20 * packets (machine_by r) + 42 * length (machine_by r).seats + cost < moves → Contains sent n
is_sent k s s' r r' moves cost n sent is runs many = by (all_steps k n (measure (machine_by r)) s r moves cost sent s' r' (waits is) (omega arith) runs)
  where
    waits : Contains (held (account k r.state)) n ⊎ ((account k r.state).hand ≡ Some n) → IsWaiting (machine_packet k.infos n) (machine_by r)
    waits (inl held_now) = inl (holds k s r n held_now)
    waits (inr hand) = in_a_hand k s r n hand

    by : StillWaits k n (measure (machine_by r)) moves cost s' r' ⊎ Contains sent n → Contains sent n
    by (inl still) = let z = still.number in let few = measure-below (machine_by r) in absurd (omega arith)
    by (inr was_sent) = was_sent
