-- The kinds of steps at the words of the run lock and of the state, at the stop words, and at the calls inside.
use Rattle.std.proofs.Common.{◌≡◌, ◌⊎◌, ℕ, ◌+◌, ◌<◌, Bool, true, false, not, eqb, [], ◌∷◌, refl, sym, ap, ◌∙◌, subst, arith, Option, Some, None, inl, inr}
use Rattle.std.proofs.lemmas.Bool.{eqb-false, false≢true}
use Rattle.std.specs.Option.{option_map_or}
use Rattle.std.specs.Prelude.{if◌then◌else◌, ◌&&◌, ◌/◌, ◌-◌}
use mathlib.Core.Option.{some}
use lib.ListN.{get_elem?}
use Rattle.lq_device.specs.Station.{with_slot}
use Rattle.lq_model.specs.Control.{is_control}
use Rattle.lq_model.specs.Machine.{bit}
use Rattle.lq_model.specs.Plan.{queue_in}
use Rattle.lq_model.specs.Steps.{queue_of_blocked}
use Rattle.lq_model.specs.declared.machine.Packet.{Packet}
use Rattle.lq_model.specs.declared.machine.Blocked.{Blocked}
use Rattle.lq_model.specs.declared.machine.Position.{Position}
use Rattle.lq_model.specs.declared.machine.Position.TheVariants as position
use Rattle.lq_run_core.specs.Progress.{start_cost}
use Rattle.lq_table.specs.Inside.{bringing_packet, call_of, load_inside_view}
use Rattle.lq_table.specs.Locks.{look_lock_view, try_lock_at, try_lock_view_in_call, try_lock_view_in_control, unlock_view_in_call, unlock_view_in_control}
use Rattle.lq_table.specs.Moves.{at_rest, is_set}
use Rattle.lq_table.specs.Places.{inside_place, lock_place, state_place, xoff_word}
use Rattle.lq_table.specs.Rule.{IsResting, account, event_word, is_live, shown}
use Rattle.lq_table.specs.States.{check_view_refused, load_state_view, miss_at, miss_view, recheck_view_direct, set_sched_view, some_bit}
use Rattle.lq_table.specs.Step.{Check, ClearDraining, ClearMissed, ClearSched, Enter, Leave, LoadInside, LoadState, LoadXoff, LookLock, LookMissed, Miss, Recheck, Requeue, SetDraining, SetMissed, SetSched, Standing, StoreXoff, TryLock, Unlock, Wake, carried_station}
use Rattle.lq_table.specs.Stops.{load_xoff_at, load_xoff_queue, load_xoff_view, load_xoff_view_from, store_xoff_view_from}
use Rattle.lq_table.specs.Views.{HolderPart, Setup, View}
use Rattle.lq_table_laws.specs.Stepped.{KeepsStation, KeepsWord, Leads, Remains, Stepped, found, looks_in_call, machine_after, machine_before, none_sent, of_control, tries_in_call}
use Rattle.lq_table_laws.proofs.Calls.{clears_draining_move, clears_missed_move, clears_sched_move, finds_missed_move, looks, misses_move, schedules_move}
use Rattle.lq_table_laws.proofs.Controls.{control_gets, control_releases, find_move}
use Rattle.lq_table_laws.proofs.Dequeue.{deq_none_move, deq_some_move, stores_move}
use Rattle.lq_table_laws.proofs.Devices.{blocked_move, gate_move, requeue_moves, wake_moves}
use Rattle.lq_table_laws.proofs.Enters.{enter_moves, enter_returning, leave_move}
use Rattle.lq_table_laws.proofs.AnyStep.{AreItsMoves, MovesAt, either, here, live, logs, no_move, one_move, one_of_control, remains, stays}
use Rattle.lq_table_laws.proofs.Locks.{finds_locked, gets_lock, releases}
use Rattle.lq_table_laws.proofs.Sets.{sets_draining_all, sets_missed_all}

-- THE RUN LOCK

pub look_lock : (seen : ℕ) (s : Standing) → MovesAt (LookLock seen) s lock_place
look_lock seen s t m = by (eqb seen 0) refl m.knows m.may
  where
    v : View
    v = s.view

    by : (b : Bool) → eqb seen 0 ≡ b → t.after ≡ (if b then v else look_lock_view v)
        → ((not b && tries_in_call v.place.position) ≡ false → Remains v (if b then v else look_lock_view v))
        → Leads (if not b && tries_in_call v.place.position then one_move else no_move) (machine_before t) (machine_after t)
    by true e is may = stays m m.station (logs m).2 v is (remains v)
    by false e is may = either (tries_in_call v.place.position)
        (λ at. finds_locked _ t.old t.rule t.stored t.seat v t.after t.homes t.rule_after (here m) (live m) is m.station (logs m).2 (λ z. eqb-false seen 0 e (sym (logs m).1 ∙ z)) at)
        (λ off. stays m m.station (logs m).2 (look_lock_view v) is (may off))

pub fail_lock : (s : Standing) → MovesAt (TryLock None) s lock_place
fail_lock s t m = either (tries_in_call s.view.place.position)
    (λ at. finds_locked _ t.old t.rule t.stored t.seat s.view t.after t.homes t.rule_after (here m) (live m) m.knows m.station (logs m).2 (logs m).1 at)
    (λ off. stays m m.station (logs m).2 (look_lock_view s.view) m.knows (m.may off))

pub take_lock : (d : HolderPart) (s : Standing) → MovesAt (TryLock (Some d)) s lock_place
take_lock d s t m = by v.place.position refl m.may m.knows
  where
    v : View
    v = s.view

    by : (p : Position) → v.place.position ≡ p → try_lock_at p ≡ true → t.after ≡ (if is_control p then try_lock_view_in_control d v else try_lock_view_in_call d v)
        → Leads (if is_control p then one_of_control else one_move) (machine_before t) (machine_after t)
    by (position.Control false) e h is = control_gets _ t.old t.rule t.stored t.seat v t.after t.homes t.rule_after (here m) (live m) (ap is_live is ∙ live m) d is m.station.0 m.station.1 m.station.2 (logs m).1 (logs m).2 e
    by (position.Control true) e h is = absurd (false≢true h)
    by (position.Try1 attempt) e h is = gets_lock _ t.old t.rule t.stored t.seat v t.after t.homes t.rule_after (here m) (live m) d is m.station.0 m.station.1 m.station.2 (logs m).1 (logs m).2 (ap tries_in_call e)
    by (position.Try2 attempt) e h is = gets_lock _ t.old t.rule t.stored t.seat v t.after t.homes t.rule_after (here m) (live m) d is m.station.0 m.station.1 m.station.2 (logs m).1 (logs m).2 (ap tries_in_call e)
    by _ e h is = absurd (false≢true h)

pub unlock : (s : Standing) → MovesAt Unlock s lock_place
unlock s t m = by m.may
  where
    v : View
    v = s.view

    Goal : Position → Type 0
    Goal p = t.after ≡ (if is_control p then unlock_view_in_control v else unlock_view_in_call v) → Leads (if is_control p then one_of_control else one_move) (machine_before t) (machine_after t)

    gives : (t.homes ≡ some (Some (shown v.holder)) ∷ []) × IsResting v.holder.size v.holder.ends × (v.holder.resizing ≡ None)
    gives = subst (λ (z : View). (t.homes ≡ some (Some (shown z.holder)) ∷ []) × IsResting z.holder.size z.holder.ends × (z.holder.resizing ≡ None)) m.knew m.station

    by : (v.place.position ≡ position.Unlock) ⊎ ((v.place.position ≡ position.Control true) × (v.control.purge ≡ None)) → AreItsMoves Unlock s t
    by (inl at) = subst Goal (sym at) (λ is. releases _ t.old t.rule t.stored t.seat v t.after t.homes t.rule_after (here m) (live m) is gives.0 gives.1 gives.2 (logs m).1 at) m.knows
    by (inr held) = subst Goal (sym held.0) (λ is. control_releases _ t.old t.rule t.stored t.seat v t.after t.homes t.rule_after (here m) (live m) (ap is_live is ∙ live m) is gives.0 gives.1 gives.2 (logs m).1 held.0 held.1) m.knows

-- THE STATE

bit_small : (b : Bool) → bit b < 2
bit_small true = let e : 1 < 2 = omega arith in e
bit_small false = let e : 0 < 2 = omega arith in e

event_below : (d : Option ℕ) → ((event : ℕ) → d ≡ Some event → event < 4294967296) → event_word d < 4294967297
event_below None h = let e : 0 < 4294967297 = omega arith in e
event_below (Some event) h = let below = h event refl in omega arith

-- it is the word of the machine's bits and of the event, so it is small
pub state_small : {k : Setup} (t : Stepped k state_place) → found t < 18446744073709551616
state_small {k} t = let q = t.rule.qdisc in let is = t.rule.parts.station.stands.state in
    let a = bit_small q.sched in let b = bit_small q.deactivated in let c = bit_small q.missed in let d = bit_small q.draining in
    let e = event_below (account k t.rule.state).down t.rule.parts.account.accounted.down in omega arith

-- a load in a call
module _ (s : Standing) (t : Stepped s.view.share.about state_place) (here' : get_elem? t.old.views t.seat ≡ some s.view) (live' : is_live s.view ≡ true) (same : KeepsStation t) (word : KeepsWord t) where
  abbrev v : View
  v = s.view

  loads : (seen : ℕ) → found t ≡ seen → t.after ≡ load_state_view seen v → looks_in_call v.place.position ≡ true → Leads one_move (machine_before t) (machine_after t)
  loads seen was is at = looks _ t.old t.rule t.stored t.seat v t.homes here' live' same t.after (load_state_view seen v) t.rule_after is word at
      (ap (λ (z : ℕ). (load_state_view z v).place) (sym was)) live' (record { part = record { ends = refl; slot = refl; resizing = refl }; first = refl; phase = refl; purge = refl })

  refuses : (n event seen : ℕ) → found t ≡ seen → t.after ≡ check_view_refused n event seen v → looks_in_call v.place.position ≡ true → Leads one_move (machine_before t) (machine_after t)
  refuses n event seen was is at = looks _ t.old t.rule t.stored t.seat v t.homes here' live' same t.after (check_view_refused n event seen v) t.rule_after is word at
      (ap (λ (z : ℕ). (load_state_view z v).place) (sym was)) live' (record { part = record { ends = refl; slot = refl; resizing = refl }; first = refl; phase = refl; purge = refl })

  goes_past : (n seen : ℕ) → found t ≡ seen → t.after ≡ recheck_view_direct n seen v → looks_in_call v.place.position ≡ true → Leads one_move (machine_before t) (machine_after t)
  goes_past n seen was is at = looks _ t.old t.rule t.stored t.seat v t.homes here' live' same t.after (recheck_view_direct n seen v) t.rule_after is word at
      (ap (λ (z : ℕ). (load_state_view z v).place) (sym was)) live' (record { part = record { ends = refl; slot = refl; resizing = refl }; first = refl; phase = refl; purge = refl })

pub load_state : (seen : ℕ) (s : Standing) → MovesAt (LoadState seen) s state_place
load_state seen s t m = either (looks_in_call s.view.place.position)
    (λ at. loads s t (here m) (live m) m.station (logs m).2 seen (logs m).1 m.knows at)
    (λ off. stays m m.station (logs m).2 (load_state_view seen s.view) m.knows (m.may off))

pub check : (n seen : ℕ) (s : Standing) → MovesAt (Check n seen) s state_place
check n seen s t m = by (is_set 2 seen) m.knows
  where
    by : (b : Bool) → t.after ≡ (if b then check_view_refused n (seen / 256 - 1) seen s.view else load_state_view seen s.view) → Leads one_move (machine_before t) (machine_after t)
    by true is = refuses s t (here m) (live m) m.station (logs m).2 n (seen / 256 - 1) seen (logs m).1 is m.may
    by false is = loads s t (here m) (live m) m.station (logs m).2 seen (logs m).1 is m.may

pub recheck : (n seen : ℕ) (s : Standing) → MovesAt (Recheck n seen) s state_place
recheck n seen s t m = by (some_bit seen) m.knows
  where
    by : (b : Bool) → t.after ≡ (if b then load_state_view seen s.view else recheck_view_direct n seen s.view) → Leads one_move (machine_before t) (machine_after t)
    by true is = loads s t (here m) (live m) m.station (logs m).2 seen (logs m).1 is m.may
    by false is = goes_past s t (here m) (live m) m.station (logs m).2 n seen (logs m).1 is m.may

pub look_missed : (seen : ℕ) (s : Standing) → MovesAt (LookMissed seen) s state_place
look_missed seen s t m = by (is_set 4 seen) refl m.knows m.may
  where
    v : View
    v = s.view

    by : (b : Bool) → is_set 4 seen ≡ b → t.after ≡ (if b then miss_view true v else v) → ((b && miss_at v.place.position) ≡ false → Remains v (if b then miss_view true v else v))
        → Leads (if b && miss_at v.place.position then one_move else no_move) (machine_before t) (machine_after t)
    by true e is may = either (miss_at v.place.position)
        (λ at. finds_missed_move _ t.old t.rule t.stored t.seat v t.homes (here m) (live m) m.station t.after t.rule_after is (ap (is_set 4) (logs m).1 ∙ e) (logs m).2 at)
        (λ off. stays m m.station (logs m).2 (miss_view true v) is (may off))
    by false e is may = stays m m.station (logs m).2 v is (remains v)

pub miss : (was : Bool) (s : Standing) → MovesAt (Miss was) s state_place
miss was s t m = misses_move _ t.old t.rule t.stored t.seat s.view t.homes (here m) (live m) m.station t.after t.rule_after was m.knows (logs m).1 (logs m).2 m.may

pub set_sched : (was : Bool) (s : Standing) → MovesAt (SetSched was) s state_place
set_sched was s t m = schedules_move _ t.old t.rule t.stored t.seat s.view t.homes (here m) (live m) m.station t.after t.rule_after
    (m.knows ∙ ap (λ (z : Bool). set_sched_view z s.view) (logs m).1) (logs m).2 m.may

pub clear_sched : (s : Standing) → MovesAt ClearSched s state_place
clear_sched s t m = clears_sched_move _ t.old t.rule t.stored t.seat s.view t.homes (here m) (live m) m.station t.after t.rule_after m.knows (logs m).1 (state_small t) m.may

pub clear_missed : (s : Standing) → MovesAt ClearMissed s state_place
clear_missed s t m = clears_missed_move _ t.old t.rule t.stored t.seat s.view t.homes (here m) (live m) m.station t.after t.rule_after m.knows (logs m).1 (state_small t) m.may

pub clear_draining : (s : Standing) → MovesAt ClearDraining s state_place
clear_draining s t m = clears_draining_move _ t.old t.rule t.stored t.seat s.view t.homes (here m) (live m) m.station t.after t.rule_after m.knows (logs m).1 (state_small t) m.may

pub set_missed : (was : Bool) (s : Standing) → MovesAt (SetMissed was) s state_place
set_missed was s t m = sets_missed_all _ t.old t.rule t.stored t.seat s.view t.after t.homes (here m) (live m) m.station t.rule_after m.knows (logs m).2 m.may

pub set_draining : (was : Bool) (s : Standing) → MovesAt (SetDraining was) s state_place
set_draining was s t m = sets_draining_all _ t.old t.rule t.stored t.seat s.view t.after t.homes (here m) (live m) m.station t.rule_after m.knows (logs m).2 m.may

pub requeue : (was : Bool) (s : Standing) → MovesAt (Requeue was) s state_place
requeue was s t m = requeue_moves _ t.old t.rule t.stored t.seat s.view t.after t.homes (here m) (live m) m.station (with_slot (carried_station s) s.view.holder.slot) m.may.0 m.may.1
    t.rule_after m.knows (logs m).2 m.may.2

-- THE STOP WORDS

-- a load of this queue's word, in a call
abbrev LoadsStop : Setup → View → ℕ → Type 0
LoadsStop k v queue = (t : Stepped k (xoff_word k queue)) → get_elem? t.old.views t.seat ≡ some v → is_live v ≡ true → KeepsStation t → KeepsWord t → t.after ≡ load_xoff_view (found t) v
    → Leads one_move (machine_before t) (machine_after t)

at_gate : (k : Setup) (v : View) (p : Packet) (direct : Bool) (queue : ℕ) → v.place.position ≡ position.Gate p direct → p.queue ≡ queue → LoadsStop k v queue
at_gate k v p direct queue at of = subst (LoadsStop k v) of (λ t here' live' same word is. gate_move k t.old t.rule t.stored t.seat v t.after t.homes here' live' same p direct t.rule_after is word at)

at_blocked : (k : Setup) (v : View) (b : Blocked) (queue : ℕ) → v.place.position ≡ position.BlockedLoad b → queue_of_blocked b ≡ queue → LoadsStop k v queue
at_blocked k v b queue at of = subst (LoadsStop k v) of (λ t here' live' same word is. blocked_move k t.old t.rule t.stored t.seat v t.after t.homes here' live' same b t.rule_after is word at)

at_dequeue : (k : Setup) (v : View) (slot : Option ℕ) (queue : ℕ) → v.place.position ≡ position.Deq → v.holder.slot ≡ slot → option_map_or (queue_in k.infos) slot 0 ≡ queue → LoadsStop k v queue
at_dequeue k v None queue at empty of = subst (LoadsStop k v) of (λ t here' live' same word is. deq_none_move k t.old t.rule t.stored t.seat v t.after t.homes here' live' same t.rule_after is word at empty)
at_dequeue k v (Some n) queue at full of = subst (LoadsStop k v) of (λ t here' live' same word is. deq_some_move k t.old t.rule t.stored t.seat v t.after t.homes here' live' same n t.rule_after is word at full)

-- elsewhere the seat stays
load_stays : (v : View) (p : Position) → v.place.position ≡ p → (w : View) → w ≡ record v { place = record v.place { position = p } } → Remains v w
load_stays v p e w is = subst (Remains v) (sym is) (record { share = refl; place = ap (λ (z : Position). record v.place { position = z }) (sym e); holder = refl; control = refl })

pub load_xoff : (queue seen : ℕ) (s : Standing) → MovesAt (LoadXoff queue seen) s (xoff_word s.view.share.about queue)
load_xoff queue seen s t m = by v.place.position refl m.may m.knows
  where
    v : View
    v = s.view

    k : Setup
    k = s.view.share.about

    loaded : t.after ≡ load_xoff_view (found t) v
    loaded = m.knows ∙ ap (λ (z : ℕ). load_xoff_view z v) (sym (logs m).1)

    by : (p : Position) → v.place.position ≡ p → load_xoff_queue k.infos v.holder.slot p queue ≡ queue → t.after ≡ load_xoff_view_from p v.holder.slot seen v
        → Leads (if load_xoff_at p && not (is_control p) then one_move else no_move) (machine_before t) (machine_after t)
    by (position.Gate p direct) e of is = at_gate k v p direct queue e of t (here m) (live m) m.station (logs m).2 loaded
    by (position.BlockedLoad b) e of is = at_blocked k v b queue e of t (here m) (live m) m.station (logs m).2 loaded
    by position.Deq e of is = at_dequeue k v v.holder.slot queue e refl of t (here m) (live m) m.station (logs m).2 loaded
    by p e of is = stays m m.station (logs m).2 _ is (load_stays v p e _ refl)

pub store_xoff : (queue value : ℕ) (s : Standing) → MovesAt (StoreXoff queue value) s (xoff_word s.view.share.about queue)
store_xoff queue value s t m = let at = m.may.2 in
    stores_move _ t.old t.rule t.stored t.seat s.view t.after t.homes (here m) (live m) m.station queue m.may.0 m.may.1 t.rule_after m.may.4
    (m.knows ∙ ap (λ (p : Position). store_xoff_view_from p s.view) at) ((logs m).1 ∙ m.may.3) at

pub wake : (queue : ℕ) (s : Standing) → MovesAt (Wake queue true) s (xoff_word s.view.share.about queue)
wake queue s t m = wake_moves _ t.old t.rule t.stored t.seat s.view t.after t.homes (here m) (live m) m.station queue t.rule_after m.may.1 m.knows (logs m).1 (logs m).2 m.may.0

-- THE CALLS INSIDE

pub begin_call : (s : Standing) → MovesAt Enter s inside_place
begin_call s t m = by v.place.position refl m.may.0
  where
    v : View
    v = s.view

    by : (p : Position) → v.place.position ≡ p → at_rest p ≡ true
        → Leads (if is_control p then of_control 3 (18 + start_cost (call_of (bringing_packet v))) else none_sent 2 (start_cost (call_of (bringing_packet v)))) (machine_before t) (machine_after t)
    by position.Idle e h = enter_moves _ t.old t.rule t.stored t.seat v t.after t.homes t.rule_after (here m) (live m) (ap is_live m.knows ∙ live m) m.station m.knows e m.may.1
    by (position.Control false) e h = enter_returning _ t.old t.rule t.stored t.seat v t.after t.homes t.rule_after (here m) (live m) (ap is_live m.knows ∙ live m) m.station m.knows e m.may.1
    by (position.Control true) e h = absurd (false≢true h)
    by _ e h = absurd (false≢true h)

pub leave : (s : Standing) → MovesAt Leave s inside_place
leave s t m = leave_move _ t.old t.rule t.stored t.seat s.view t.after t.homes t.rule_after (here m) (live m) (ap is_live m.knows ∙ live m) m.station m.knows m.may

pub load_inside : (seen : ℕ) (s : Standing) → MovesAt (LoadInside seen) s inside_place
load_inside seen s t m = by v.place.position refl m.may
  where
    v : View
    v = s.view

    by : (p : Position) → v.place.position ≡ p → is_control p ≡ true → Leads one_of_control (machine_before t) (machine_after t)
    by (position.Control holds) e h = find_move _ t.old t.rule inside_place t.stored t.seat v t.after t.homes t.rule_after (here m) (live m) (ap is_live m.knows ∙ live m) holds
        (m.knows ∙ ap (λ (z : ℕ). load_inside_view z v) (sym (logs m).1)) m.station (logs m).2 refl e
    by _ e h = absurd (false≢true h)
