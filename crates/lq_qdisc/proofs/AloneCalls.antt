-- What the calls of a seat alone do: the run of one sender.
use Rattle.std.proofs.Common.{length-set, zero, suc, ◌≡◌, ◌≢◌, ℕ, ◌+◌, ◌<◌, ◌==◌, Bool, true, false, not, ◌&&◌, ◌||◌, if◌then◌else◌, refl, sym, ap, ap₂, ◌∙◌, subst, arith, List, [], ◌∷◌, length, None, Some, IsSome, Option, inl, inr, ◌⊎◌}
use Rattle.std.specs.Prelude.{is_some, nat_lt, slice_index, slice_set}
use Rattle.std.specs.Option.{option_map}
use Rattle.std.proofs.lemmas.Bool.{and_from, and_parts, cond-true, cond-false, eq-eqb, lt-ltb, ne_eqb, or_left, true≢false}
use Rattle.lq_account_laws.proofs.Offers.{brought_direct, brought_through, queued_join}
use Rattle.lq_model.specs.Account.{Account, Event, Refuse, Join, Full, Direct, Wake, after}
use Rattle.lq_model.specs.Alone.{RunningStation, brought_in, taken_in, gone_direct, joined_or_full, opened, opened_queue, opened_up_to, seen_in, served}
use Rattle.lq_model.specs.Band.{IsOccupied}
use Rattle.lq_model.specs.Positions.{holds_lock}
use Rattle.lq_model.specs.declared.machine.Position.TheVariants.{Leave, Put, Try1}
use Rattle.lq_model.specs.declared.machine.Attempt.TheVariants.{Direct as ToPass}
use Rattle.lq_model.specs.Plan.{band_in, queue_in}
use Rattle.lq_model.specs.Steps.{begun as begun_as}
use Rattle.lq_model.specs.declared.fate.Info.{Info}
use Rattle.lq_run.specs.Runs as runs
use Rattle.lq_table.specs.Views.{View, Setup, machine_packet, SharePart, first_account, no_packets}
use Rattle.lq_table.specs.Sees.{Solo, IsSole, account_of, solo, heard}
use Rattle.lq_table.specs.Locks.{locked_to}
use Rattle.lq_table.specs.States.{SeesState, clear_sched_alone, set_sched_alone, recheck_view_direct, load_state_view, some_bit}
use Rattle.lq_table.specs.Inside.{lowered, call_of, enter_view}
use Rattle.lq_table.specs.Moves.{is_set, seen_by, stepped}
use Rattle.lq_model.specs.declared.machine.Answer.TheVariants.{Plain}
use Rattle.lq_qdisc.proofs.ViewRelations.{Enqueues, Attempts, FollowsDirect, Goes, GoesPast, GoesThrough, Interrupts, RunsToEnd, TriesToPass, transmitting, WakesAt, WakesFirst, IsRefused}
use Rattle.lq_qdisc.specs.Alone.{BringsAlone, Does, HasAll, IsAlone, IsOneSender, RunsAlone, account_in, bits_are_clear, running}
use Rattle.lq_qdisc.specs.declared.answers.Sending.{Sending}
use Rattle.lq_qdisc.specs.declared.answers.Sending.TheVariants as sending
use Rattle.lq_qdisc.specs.declared.answers.Through.{Through}
use Rattle.lq_qdisc.specs.declared.answers.Through.TheVariants as through
use Rattle.lq_qdisc.proofs.AloneForms.{AttemptsAlone, DirectsAlone, MayRun, ended}
use Rattle.lq_qdisc.proofs.AloneOffers.{stops_set}
use Rattle.lq_qdisc.proofs.AlonePast.{past_left}
use Rattle.lq_qdisc.proofs.AloneRests.{attempt_done, entered, entered_off, entered_ready, entered_serves, put_ready, put_through, ready_locked}
use Rattle.lq_qdisc.proofs.AloneSteps.{KnowsSlot, account_at, accounts_slot, count_of, directs_alone, runs_alone}

-- THE END OF A RUN

abbrev bits : Solo → Bool → Bool → Bool → Solo
bits s r m c = record s { raised = r; whole = record s.whole { missed = m; scheduled = c } }

ended_bits : (s : Solo) (r m c : Bool) → runs.ended (bits s r m c) ≡ ended (bits s r m c)
ended_bits s true true true = refl
ended_bits s true true false = refl
ended_bits s true false true = refl
ended_bits s true false false = refl
ended_bits s false true true = refl
ended_bits s false true false = refl
ended_bits s false false true = refl
ended_bits s false false false = refl

pub ended_is : (s : Solo) → runs.ended s ≡ ended s
ended_is s = ended_bits s s.raised s.whole.missed s.whole.scheduled

none_of : {X : Type 0} (o : Option X) → is_some o ≡ false → o ≡ None
none_of None e = refl
none_of (Some x) e = absurd (true≢false e)

both_clear : (missed draining : Bool) → not (missed || draining) ≡ true → (missed || draining) ≡ true → ⊥
both_clear true draining clean some = true≢false (sym clean)
both_clear false true clean some = true≢false (sym clean)
both_clear false false clean some = true≢false (sym some)

-- as a soft interrupt begins
pub entering_solo : (v : View) → v.packets ≡ no_packets → solo (enter_view v) ≡ lowered (solo v)
entering_solo v packets =
    λ j. solo (stepped Plain (seen_by v) (record v { place = begun_as (call_of (option_map (machine_packet v.share.about.infos) (packets j).fresh)) v.place }))

module _ (k : Setup) (infos : List Info) where
  to_end_alone : (old new : View) → old.share.about ≡ k → IsOneSender (first_account k) (solo old) → (account_in (first_account k) (solo old)).down ≡ None → KnowsSlot old → RunsToEnd infos old new
      → (last : Solo) × RunsAlone infos (first_account k) (solo old) last × (solo new ≡ ended last)
  to_end_alone old new about sender active knows e =
      let r = runs_alone k infos old about sender active (λ _. knows) e.ran e.last e.runs in
      (solo e.last, r, e.ended.sole r.on.sender.sole ∙ ended_is (solo e.last))

  pub attempt_alone : (old new : View) → old.share.about ≡ k → MayRun (first_account k) (solo old) → Attempts infos old new → AttemptsAlone infos (first_account k) (solo old) (solo new)
  attempt_alone old new about ready (inl m) = absurd (true≢false (sym (m.sole ready.sender.sole).0 ∙ ready.unlocked))
  attempt_alone old new about ready (inr t) =
      let s = t.1.sole ready.sender.sole in
      let r = to_end_alone t.0 new (ap (λ (x : SharePart). x.about) t.1.calm.share ∙ about) (subst (IsOneSender (first_account k)) (sym s.1) (ready_locked (first_account k) (solo old) ready))
      (ap (λ (v : Solo). (account_in (first_account k) v).down) s.1 ∙ ready.active) (accounts_slot t.0 s.2) t.2 in
      attempt_done infos (first_account k) (solo old) r.0 (solo new) ready (subst (λ (v : Solo). RunsAlone infos (first_account k) v r.0) s.1 r.1) r.2

  -- SOFT INTERRUPTS

  module _ (old before new : View) (about : old.share.about ≡ k) (packets : old.packets ≡ no_packets) (raised : old.place.raised ≡ true) (i : Interrupts infos (enter_view old) before) (same : solo new ≡ solo before)
      (h : IsAlone infos (first_account k) (solo old)) where
    cleared_is : (w : View) → solo w ≡ clear_sched_alone (solo (enter_view old)) → solo w ≡ entered (solo old)
    cleared_is w e = e ∙ ap clear_sched_alone (entering_solo old packets)

    serves : solo i.cleared ≡ entered (solo old) → i.cleared.share ≡ old.share → (account_of old).down ≡ None → i.due ≡ true
        → IsAlone infos (first_account k) (solo new) × (served infos (running (first_account k) (solo new)) ≡ served infos (running (first_account k) (solo old)))
    serves e share down due =
        let active : (account_in (first_account k) (solo old)).down ≡ None = ap (λ (a : Account). a.down) (account_at k old about) ∙ down in
        let ready = subst (MayRun (first_account k)) (sym e) (entered_ready infos (first_account k) (solo old) h active) in
        let t = attempt_alone i.cleared before (ap (λ (x : SharePart). x.about) share ∙ about) ready (i.serves due) in
        entered_serves infos (first_account k) (solo old) (solo new) h raised active
        (subst (λ (v : Solo). AttemptsAlone infos (first_account k) (entered (solo old)) v) (sym same) (subst (λ (v : Solo). AttemptsAlone infos (first_account k) v (solo before)) e t))

    leaves : solo i.cleared ≡ entered (solo old) → is_some (account_of old).down ≡ true → i.due ≡ false
        → IsAlone infos (first_account k) (solo new) × (served infos (running (first_account k) (solo new)) ≡ served infos (running (first_account k) (solo old)))
    leaves e down due =
        let off = entered_off infos (first_account k) (solo old) h (ap (λ (a : Account). is_some a.down) (account_at k old about) ∙ down) in
        let is : solo new ≡ entered (solo old) = same ∙ (ap solo (i.leaves due) ∙ e) in
        subst (λ (v : Solo). IsAlone infos (first_account k) v × (served infos (running (first_account k) v) ≡ served infos (running (first_account k) (solo old)))) (sym is) off

    by_first : (b : Bool) → is_set 2 i.begins.first ≡ b → IsAlone infos (first_account k) (solo new) × (served infos (running (first_account k) (solo new)) ≡ served infos (running (first_account k) (solo old)))
    by_first false e =
        let a = i.begins.active e in let down = (i.begins.sees h.sender.sole).down in
        serves (cleared_is i.cleared (ap solo a.1 ∙ i.begins.step)) (ap (λ (v : View). v.share) a.1) (none_of (account_of old).down (sym down ∙ e)) a.0
    by_first true e =
        let d = i.begins.deactivated e in let down = (i.begins.sees h.sender.sole).down in
        leaves (cleared_is i.cleared d.3) (sym down ∙ e) (d.1 ∙ ap not (d.4 h.sender.sole ∙ (sym down ∙ e)))

    softirq_done : IsAlone infos (first_account k) (solo new) × (served infos (running (first_account k) (solo new)) ≡ served infos (running (first_account k) (solo old)))
    softirq_done = by_first (is_set 2 i.begins.first) refl

  pub softirq_alone : (old before new : View) → old.share.about ≡ k → old.packets ≡ no_packets → old.place.raised ≡ true → Interrupts infos (enter_view old) before → solo new ≡ solo before
      → BringsAlone infos (first_account k) (λ s. s) (solo old) (solo new)
  softirq_alone old before new about packets raised i same = λ h. softirq_done old before new about packets raised i same h

-- A PACKET JOINS ITS BAND, OR IS DROPPED AS FULL

full_as : (n band seen : ℕ) (a : Account) → IsOccupied a.len (a.bands band) → seen ≡ seen_in a.len (a.bands band) → after (Full n seen) a ≡ joined_or_full n band a
full_as n band seen a occupied is =
    ap (λ (m : ℕ). after (Full n m) a) is
    ∙ sym (ap (λ (b : Bool). if b then after (Full n (seen_in a.len (a.bands band))) a else after (Join n band) a) (eq-eqb _ _ occupied))

pub enqueues_alone : (k : Setup) (n band : ℕ) (answer : Sending) (old put : View) → old.share.about ≡ k → IsSole old → holds_lock old.place.position ≡ false → Enqueues n band answer old put
    → (event : Event) × (solo put ≡ heard event (solo old)) × (after event (account_in (first_account k) (solo old)) ≡ joined_or_full n band (account_in (first_account k) (solo old)))
enqueues_alone k n band sending.Queued old put about alone free e =
    let see = e.1 alone (λ held. absurd (true≢false (sym held ∙ free))) in (
      Join n band,
      e.2,
      ap (λ (a : Account). after (Join n band) a) (account_at k old about)
          ∙ (sym (queued_join n band (account_of old) (λ occupied. absurd (omega (arith, see.0.1 occupied))))
          ∙ ap (λ (a : Account). joined_or_full n band a) (sym (account_at k old about))),
    )
enqueues_alone k n band (sending.FullSeen seen) old put about alone free e =
    let see = e.1 alone (λ held. absurd (true≢false (sym held ∙ free))) in
    let some : 0 < seen + 1 = omega arith in
    let is : seen + 1 ≡ seen_in (account_of old).len ((account_of old).bands band) + 1 = see.1 some in (
      Full n seen,
      e.2,
      ap (λ (a : Account). after (Full n seen) a) (account_at k old about)
          ∙ (full_as n band seen (account_of old) (see.0.0 some) (omega (arith, is))
          ∙ ap (λ (a : Account). joined_or_full n band a) (sym (account_at k old about))),
    )
enqueues_alone k n band sending.Direct old put about alone free e = absurd e
enqueues_alone k n band (sending.Refused event) old put about alone free e = absurd e
enqueues_alone k n band (sending.OutOfTurn found) old put about alone free e = absurd e

-- TRANSMIT

module _ (k : Setup) (infos : List Info) (n : ℕ) where
  -- through its band, by a seat that doesn't have the run lock
  pub through_alone : (answer : Sending) (old new : View) → old.share.about ≡ k → holds_lock old.place.position ≡ false → MayRun (first_account k) (solo old) → GoesThrough infos n answer old new → new.share ≡ new.share
      → IsAlone infos (first_account k) (solo new) × (served infos (running (first_account k) (solo new)) ≡ served infos (Rattle.lq_model.specs.Alone.gone_through infos n (running (first_account k) (solo old))))
  through_alone answer old new about free ready g share =
      let q = enqueues_alone k n (band_in infos n) answer old g.put about ready.sender.sole free g.enqueued in
      let start = first_account k in
      let mid = put_ready infos start n (solo old) (solo g.put) q.0 ready q.1 q.2 in
      put_through infos start n (solo old) (solo g.put) q.0 ready q.1 q.2 (solo new) (attempt_alone k infos g.put new (put_about answer old g.put about g.enqueued) mid g.attempted)
    where
      put_about : (answer : Sending) (old put : View) → old.share.about ≡ k → Enqueues n (band_in infos n) answer old put → put.share.about ≡ k
      put_about sending.Queued old put about e = ap (λ (v : View). v.share.about) e.0 ∙ about
      put_about (sending.FullSeen seen) old put about e = ap (λ (v : View). v.share.about) e.0 ∙ about
      put_about sending.Direct old put about e = absurd e
      put_about (sending.Refused event) old put about e = absurd e
      put_about (sending.OutOfTurn found) old put about e = absurd e

  -- past the bands, under the run lock
  module _ (old got new : View) (about : got.share.about ≡ k) (low : (solo old).raised ≡ false) (active : (account_in (first_account k) (solo old)).down ≡ None) (clean : bits_are_clear (solo old) ≡ true)
      (h : IsAlone infos (first_account k) (solo old)) (lock : solo got ≡ locked_to true (solo old)) (p : GoesPast infos n got new) where
    going_is : solo (recheck_view_direct n p.state got) ≡ heard (Direct n) (locked_to true (solo old))
    going_is = p.step ∙ ap (λ (v : Solo). heard (Direct n) v) lock

    directs : DirectsAlone (first_account k) (queue_in infos n) p.handed (heard (Direct n) (locked_to true (solo old))) (solo p.after)
    directs = subst (λ (w : Solo). DirectsAlone (first_account k) (queue_in infos n) p.handed w (solo p.after)) going_is (
        directs_alone k (recheck_view_direct n p.state got) about (subst HasAll (sym going_is) h.sender.sole) (subst (λ (w : Solo). IsSome w.whole.device.told) (sym going_is) h.sender.tells)
        p.handed n (queue_in infos n) p.after p.direct
        )

    follows_is : (t : Through) (last : View) → FollowsDirect t infos last new → HasAll (solo last) → (t ≡ through.Yes → bits_are_clear (solo last) ≡ true) → solo new ≡ ended (solo last)
    follows_is through.Yes last f all still = by_state f.3
      where
        same_bits : some_bit f.0 ≡ ((solo last).whole.missed || (solo last).whole.draining)
        same_bits = ap₂ (λ (x y : Bool). x || y) (f.1 all).missed (f.1 all).draining

        by_state : (((some_bit f.0 ≡ true) × RunsToEnd infos (load_state_view f.0 last) new) ⊎ ((some_bit f.0 ≡ false) × Rattle.lq_qdisc.proofs.ViewRelations.IsLockReleased (load_state_view f.0 last) new)) → solo new ≡ ended (solo last)
        by_state (inl t) = absurd (both_clear (solo last).whole.missed (solo last).whole.draining (still refl) (sym same_bits ∙ t.0))
        by_state (inr t) = t.1.sole all ∙ (ended_is (solo (load_state_view f.0 last)) ∙ ap ended f.2)
    follows_is (through.Back reason) last f all still = f.sole all ∙ ended_is (solo last)

    pub past_alone : IsAlone infos (first_account k) (solo new) × (running (first_account k) (solo new) ≡ gone_direct infos n (running (first_account k) (solo old)))
    past_alone =
        let l = past_left infos (first_account k) n (solo old) low active clean h p.handed (solo p.after) directs in
        subst (λ (v : Solo). IsAlone infos (first_account k) v × (running (first_account k) v ≡ gone_direct infos n (running (first_account k) (solo old)))) (sym (follows_is p.handed p.after p.follows l.1 l.2)) l.0

  module _ (bypass : Bool) (answer : Sending) (old new : View) (about : old.share.about ≡ k) (bypass_is : old.share.about.bypass ≡ bypass) (last : View) (goes : Goes infos bypass n answer (transmitting infos n old) last) (step : solo new ≡ solo last) (low : old.place.raised ≡ false)
      (active : (account_in (first_account k) (solo old)).down ≡ None) (h : IsAlone infos (first_account k) (solo old)) where
    sees : SeesState (transmitting infos n old) goes.state
    sees = goes.sees h.sender.sole

    ready : MayRun (first_account k) (solo old)
    ready = record { sender = h.sender; active = active; unlocked = h.rests.unlocked; scheduled = h.rests.scheduled }

    abbrev pub Ends : Type 0
    Ends = IsAlone infos (first_account k) (solo new) × (served infos (running (first_account k) (solo new)) ≡ served infos (brought_in infos bypass n (running (first_account k) (solo old))))

    same_bits : some_bit goes.state ≡ ((solo old).whole.missed || (solo old).whole.draining)
    same_bits = ap₂ (λ (x y : Bool). x || y) sees.missed sees.draining

    same_clean : not (some_bit goes.state) ≡ bits_are_clear (solo old)
    same_clean = ap not same_bits

    still_active : is_set 2 goes.state ≡ false
    still_active = sees.down ∙ ap (λ (o : Option ℕ). is_some o) (ap (λ (a : Account). a.down) (sym (account_at k old about)) ∙ active)

    -- where the seat stands after its first load of the state
    stands : (c : Bool) → bypass && not (some_bit goes.state) ≡ c
        → (load_state_view goes.state (transmitting infos n old)).place.position ≡ (if c then Try1 (ToPass (machine_packet old.share.about.infos n)) else Put (machine_packet old.share.about.infos n) false)
    stands c e =
        ap (λ (d : Bool). if d then Leave else if old.share.about.bypass && not (some_bit goes.state) then Try1 (ToPass (machine_packet old.share.about.infos n)) else Put (machine_packet old.share.about.infos n) false) still_active
        ∙ (ap (λ (b : Bool). if b && not (some_bit goes.state) then Try1 (ToPass (machine_packet old.share.about.infos n)) else Put (machine_packet old.share.about.infos n) false) bypass_is
        ∙ ap (λ (b : Bool). if b then Try1 (ToPass (machine_packet old.share.about.infos n)) else Put (machine_packet old.share.about.infos n) false) e)

    through_bands : bypass && not (some_bit goes.state) ≡ false → Ends
    through_bands e =
        let g = through_alone answer (load_state_view goes.state (transmitting infos n old)) last about (ap holds_lock (stands false e)) ready (goes.through still_active e) refl in
        let done = subst (λ (v : Solo). IsAlone infos (first_account k) v × (served infos (running (first_account k) v) ≡ served infos (Rattle.lq_model.specs.Alone.gone_through infos n (running (first_account k) (solo old))))) (sym step) g in
        (done.0, done.1 ∙ ap (served infos) (sym (brought_through infos bypass n (running (first_account k) (solo old)) active (ap (λ (b : Bool). bypass && b) (sym same_clean) ∙ e))))

    past_bands : bypass && not (some_bit goes.state) ≡ true → TriesToPass infos n answer (load_state_view goes.state (transmitting infos n old)) last → Ends
    past_bands e (inl m) = absurd (true≢false (sym (m.1.sole h.sender.sole).0 ∙ h.rests.unlocked))
    past_bands e (inr b) = by_way b.2
      where
        both : (bypass ≡ true) × (not (some_bit goes.state) ≡ true)
        both = and_parts bypass (not (some_bit goes.state)) e

        clean : bits_are_clear (solo old) ≡ true
        clean = sym same_clean ∙ both.1

        lock : solo b.0 ≡ locked_to true (solo old)
        lock = (b.1.sole h.sender.sole).1

        about_got : b.0.share.about ≡ k
        about_got = ap (λ (s : SharePart). s.about) b.1.calm.share ∙ about

        by_way : (Rattle.lq_qdisc.proofs.ViewRelations.GoesThroughHeld infos n answer b.0 last ⊎ ((answer ≡ sending.Direct) × GoesPast infos n b.0 last)) → Ends
        by_way (inl held) =
            let s = held.sees (subst HasAll (sym lock) h.sender.sole) in
            absurd (both_clear (solo old).whole.missed (solo old).whole.draining clean
            (sym (ap₂ (λ (x y : Bool). x || y) (s.missed ∙ ap (λ (v : Solo). v.whole.missed) lock) (s.draining ∙ ap (λ (v : Solo). v.whole.draining) lock)) ∙ held.waits))
        by_way (inr p) =
            let g = past_alone old b.0 last about_got low active clean h lock p.1 in
            let done = subst (λ (v : Solo). IsAlone infos (first_account k) v × (running (first_account k) v ≡ gone_direct infos n (running (first_account k) (solo old)))) (sym step) g in
            (done.0, ap (served infos) (done.1 ∙ sym (brought_direct infos bypass n (running (first_account k) (solo old)) active (and_from bypass (bits_are_clear (solo old)) both.0 clean))))

    by_bits : (c : Bool) → bypass && not (some_bit goes.state) ≡ c → Ends
    by_bits false e = through_bands e
    by_bits true e = past_bands e (goes.past still_active e)

    pub transmit_done : Ends
    transmit_done = by_bits (bypass && not (some_bit goes.state)) refl

  -- the station is deactivated: the packet is refused by its event
  module _ (bypass : Bool) (answer : Sending) (old new : View) (about : old.share.about ≡ k) (last : View) (goes : Goes infos bypass n answer (transmitting infos n old) last) (step : solo new ≡ solo last)
      (event : ℕ) (down : (account_in (first_account k) (solo old)).down ≡ Some event) (h : IsAlone infos (first_account k) (solo old)) where
    known_down : (account_of old).down ≡ Some event
    known_down = ap (λ (a : Account). a.down) (sym (account_at k old about)) ∙ down

    seen : SeesState (transmitting infos n old) goes.state
    seen = goes.sees h.sender.sole

    by_answer : (found : ℕ) → IsRefused n found goes.state (transmitting infos n old) last → IsAlone infos (first_account k) (solo new)
        × (served infos (running (first_account k) (solo new)) ≡ served infos (brought_in infos bypass n (running (first_account k) (solo old))))
    by_answer found r =
        let e = seen.event event known_down in
        let same : found ≡ event = omega (arith, r.1.1, r.1.2, e.1, e.2) in
        let is : solo new ≡ heard (Refuse n event) (solo old) = step ∙ (ap solo r.2 ∙ ap (λ (y : ℕ). heard (Refuse n y) (solo old)) same) in
        subst (λ (v : Solo). IsAlone infos (first_account k) v × (served infos (running (first_account k) v) ≡ served infos (brought_in infos bypass n (running (first_account k) (solo old))))) (sym is) (
          record {
            sender = record {
              sole = h.sender.sole;
              tells = h.sender.tells;
              station = record { queues = h.sender.station.queues; known = h.sender.station.known; hand = h.sender.station.hand; busies = h.sender.station.busies };
            };
            rests = record {
              unlocked = h.rests.unlocked;
              scheduled = h.rests.scheduled;
              missed = h.rests.missed;
              empty = h.rests.empty;
              waits = h.rests.waits;
              shut = h.rests.shut;
              off = h.rests.off;
            };
          },
          ap (served infos) (sym (ap (λ (o : Option ℕ). taken_in infos bypass n o (running (first_account k) (solo old))) down)),
        )

    refused_done : IsAlone infos (first_account k) (solo new) × (served infos (running (first_account k) (solo new)) ≡ served infos (brought_in infos bypass n (running (first_account k) (solo old))))
    refused_done = let r = goes.refused (seen.down ∙ ap (λ (o : Option ℕ). is_some o) known_down) in by_answer r.0 r.2

  pub transmit_alone : (bypass : Bool) (answer : Sending) (old new : View) → old.share.about ≡ k → old.share.about.bypass ≡ bypass → (last : View) → Goes infos bypass n answer (transmitting infos n old) last → solo new ≡ solo last
      → old.place.raised ≡ false → BringsAlone infos (first_account k) (brought_in infos bypass n) (solo old) (solo new)
  transmit_alone bypass answer old new about bypass_is last goes step low h = by_down (account_in (first_account k) (solo old)).down refl
    where
      by_down : (o : Option ℕ) → (account_in (first_account k) (solo old)).down ≡ o → IsAlone infos (first_account k) (solo new)
          × (served infos (running (first_account k) (solo new)) ≡ served infos (brought_in infos bypass n (running (first_account k) (solo old))))
      by_down None active = transmit_done bypass answer old new about bypass_is last goes step low active h
      by_down (Some event) down = refused_done bypass answer old new about last goes step event down h

-- WAKES

not_or : (r : Bool) → (r || not r) ≡ true
not_or true = refl
not_or false = refl

-- a queue that was opened is one of several, or it is the one
some_open : (stops : List ℕ) (queue : ℕ) → slice_index stops queue ≡ 1 → (nat_lt 1 (length (slice_set stops queue 0)) || (slice_index (slice_set stops queue 0) 0 == 0)) ≡ true
some_open [] queue e = absurd (omega (arith, e))
some_open (x ∷ []) zero e = refl
some_open (x ∷ []) (suc queue) e = absurd (omega (arith, e))
some_open (x ∷ y ∷ xs) queue e =
    or_left (nat_lt 1 (length (slice_set (x ∷ y ∷ xs) queue 0))) _
    (lt-ltb 1 (length (slice_set (x ∷ y ∷ xs) queue 0)) (let same : length (slice_set (x ∷ y ∷ xs) queue 0) ≡ length (x ∷ y ∷ xs) = length-set (x ∷ y ∷ xs) queue 0 in omega arith))

-- the station with another account
abbrev with_account : Account → RunningStation → RunningStation
with_account a s = record s { account = a }

module _ (k : Setup) (infos : List Info) (queue : ℕ) (old new : View) (about : old.share.about ≡ k) (h : IsAlone infos (first_account k) (solo old)) where
  -- this queue was opened where it was stopped
  abbrev Opens : Solo → Type 0
  Opens v = IsAlone infos (first_account k) v × (running (first_account k) v ≡ with_account (opened_queue queue (account_in (first_account k) (solo old))) (running (first_account k) (solo old)))

  stop-at : slice_index (account_of old).stops queue ≡ slice_index (account_in (first_account k) (solo old)).stops queue
  stop-at = ap (λ (a : Account). slice_index a.stops queue) (sym (account_at k old about))

  woken_alone : (was : Bool) → solo new ≡ set_sched_alone was (heard (Wake queue) (solo old)) → was ≡ (solo old).whole.scheduled → slice_index (account_in (first_account k) (solo old)).stops queue ≡ 1 → Opens (solo new)
  woken_alone was is sched stop = subst Opens (sym is) (
    record {
      sender = record {
        sole = h.sender.sole;
        tells = h.sender.tells;
        station = record {
          queues = subst (λ (n : ℕ). 0 < n) (sym (length-set (account_in (first_account k) (solo old)).stops queue 0)) h.sender.station.queues;
          known = stops_set (account_in (first_account k) (solo old)).stops queue 0 h.sender.station.known (omega (arith, stop)) (omega arith);
          hand = h.sender.station.hand;
          busies = h.sender.station.busies;
        };
      };
      rests = record {
        unlocked = h.rests.unlocked;
        scheduled = sym up;
        missed = λ _. up;
        empty = h.rests.empty;
        waits = λ low. absurd (true≢false (sym up ∙ low));
        shut = λ _ _. some_open (account_in (first_account k) (solo old)).stops queue stop;
        off = h.rests.off;
      };
    },
    sym (ap (λ (a : Account). with_account a (running (first_account k) (solo old))) (cond-true _ _ _ (eq-eqb _ _ stop))),
  )
    where
      up : ((solo old).raised || not was) ≡ true
      up = ap (λ (b : Bool). (solo old).raised || not b) (sched ∙ h.rests.scheduled) ∙ not_or (solo old).raised

  still_alone : new ≡ old → slice_index (account_in (first_account k) (solo old)).stops queue ≢ 1 → Opens (solo new)
  still_alone is other = subst (λ (v : View). Opens (solo v)) (sym is) (
    h,
    sym (ap (λ (a : Account). with_account a (running (first_account k) (solo old))) (cond-false _ _ _ (ne_eqb _ _ other))),
  )

  wake_alone : (one : Bool) → WakesAt queue one old new → Opens (solo new)
  wake_alone true w = woken_alone w.0 w.2 (w.3 h.sender.sole) (sym stop-at ∙ w.4 h.sender.sole)
  wake_alone false w = still_alone w.0 (λ z. w.1 h.sender.sole (stop-at ∙ z))

wake_about : (queue : ℕ) (one : Bool) (old new : View) → WakesAt queue one old new → new.share.about ≡ old.share.about
wake_about queue true old new w = ap (λ (v : View). v.share.about) w.1
wake_about queue false old new w = ap (λ (v : View). v.share.about) w.0

wakes_alone : (k : Setup) (infos : List Info) (queues : ℕ) (one : Bool) (old new : View) → old.share.about ≡ k → IsAlone infos (first_account k) (solo old) → WakesFirst queues one old new
    → (new.share.about ≡ k) × (IsAlone infos (first_account k) (solo new) × (running (first_account k) (solo new) ≡ with_account (opened_up_to queues (account_in (first_account k) (solo old))) (running (first_account k) (solo old))))
wakes_alone k infos zero one old new about h (none, w) =
    (ap (λ (v : View). v.share.about) w ∙ about, (subst (λ (v : View). IsAlone infos (first_account k) (solo v)) (sym w) h, ap (λ (v : View). running (first_account k) (solo v)) w))
wakes_alone k infos (suc queue) one old new about h (mid, before, now, first, wakes, is) =
    let below = wakes_alone k infos queue before old mid about h first in
    let here = wake_alone k infos queue mid new below.0 below.1.0 now wakes in
    (wake_about queue now mid new wakes ∙ below.0, (here.0, here.1 ∙ ap (λ (s : RunningStation). with_account (opened_queue queue s.account) s) below.1.1))

pub irq_alone : (k : Setup) (infos : List Info) (one : Bool) (old new : View) → old.share.about ≡ k → WakesFirst k.queues one old new → Does infos (first_account k) opened (solo old) (solo new)
irq_alone k infos one old new about w h =
    let all = wakes_alone k infos k.queues one old new about h w in
    (all.1.0, all.1.1 ∙ ap (λ (n : ℕ). with_account (opened_up_to n (account_in (first_account k) (solo old))) (running (first_account k) (solo old))) (sym (count_of k (solo old))))
