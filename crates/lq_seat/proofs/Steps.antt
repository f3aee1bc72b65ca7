-- What a seat knows after a call, and after the soft interrupts that follow it.
use Rattle.std.proofs.Common.{◌≡◌, ℕ, Bool, true, false, cond, List, [], ◌∷◌, inl, inr, ⊎_elim, Option, Some, None, refl, sym, ap, ◌∙◌, subst, is_some}
use Rattle.std.specs.Prelude.{◌↔◌, ◌<◌, ◌==◌, ◌+◌, ◌*◌, slice_set}
use Rattle.lq_account_laws.proofs.Lists.{cons-in}
use Rattle.lq_account_laws.specs.Controls.{with_control}
use Rattle.lq_account_laws.specs.Trail.{down_of, is_own}
use Rattle.lq_control.specs.Comes.{ComesToEnd, SwapsFor}
use Rattle.lq_control.specs.Control.{IsKeptByControl, IsServed, KeepsDevice}
use Rattle.lq_control.specs.Finish.{AreAllDone}
use Rattle.lq_model.specs.Account.{Account, Event, Join, Full, Refuse, Direct, Purge}
use Rattle.lq_model.specs.Alone.{RunningStation, brought_in, changed, new_device, opened, served}
use Rattle.lq_model.specs.Device.{DeviceState}
use Rattle.lq_model.specs.Plan.{Plan, owner_in, band_in, rank_in}
use Rattle.lq_model.specs.declared.device.Params.{Params}
use Rattle.lq_model.specs.declared.fate.Cause.TheVariants as cause
use Rattle.lq_model.specs.declared.fate.Info.{Info}
use Rattle.lq_model.specs.declared.plan.EventKind.{EventKind}
use Rattle.lq_model.specs.declared.plan.EventKind.TheVariants as kind
use Rattle.lq_control.specs.Steps.{NoneYet}
use Rattle.lq_table.specs.Step.{standing}
use Rattle.lq_control.proofs.Served.{served_none}
use Rattle.lq_qdisc.proofs.AloneRests.{rests_served}
use Rattle.lq_qdisc.proofs.StepLemmas.{none_opened}
use Rattle.lq_qdisc.specs.Alone.{BringsAlone, Does}
use Rattle.lq_model.specs.declared.machine.Position.TheVariants.{Idle}
use Rattle.lq_qdisc.specs.Sends.{IsCallKept, IsReadyToSend, IsStill, WakesBelow, came_as, trail_with}
use Rattle.lq_qdisc.specs.Steps.{TransmitsBy}
use Rattle.lq_qdisc.specs.declared.answers.Sending.{Sending}
use Rattle.lq_qdisc.specs.declared.answers.Sending.TheVariants as sending
use Rattle.lq_seat.specs.Calls.{Came, Changes, DoesEvent, DoesSwap, Drains, SendsPacket, WakesQueues}
use Rattle.lq_seat.specs.Ends.{EndsTrail}
use Rattle.lq_seat.specs.Rests.{AreUnitsSmall, IsSeatBetween, phase_of}
use Rattle.lq_seat.specs.Steps.{ControlsBy, DoesInterrupts, LooksAtStops, Makes, SwapsBy, Transmits}
use Rattle.lq_seat.specs.State.{IsHere, IsWellMade, SeatState, TableState}
use Rattle.lq_seat.specs.State.{seat_account, seat_state, seat_seen, table_seen, solo_of, units_of}
use Rattle.lq_table.specs.Sees.{IsSameSeat, known, position, setup, view, Solo, solo}
use Rattle.lq_table.specs.Views.{Setup, SharePart, View, first_account, Known}
use Rattle.lq_table.specs.declared.shared.Cpu.{Cpu}
use Rattle.lq_table.specs.declared.shared.Shared.{Shared}

-- THE RUN OF ONE SENDER

-- what a call brings is there once the soft interrupts are done
pub brought-served : (infos : List Info) (start : Account) (step : RunningStation → RunningStation) (old mid new : Solo)
    → BringsAlone infos start step old mid → Does infos start (served infos) mid new → Does infos start (λ s. served infos (step s)) old new
brought-served infos start step old mid new brings serves = λ alone. let now = brings alone in let end = serves now.0 in (end.0, end.1 ∙ now.1)

pub done-served : (infos : List Info) (start : Account) (step : RunningStation → RunningStation) (old mid new : Solo)
    → Does infos start step old mid → Does infos start (served infos) mid new → Does infos start (λ s. served infos (step s)) old new
done-served infos start step old mid new does serves = λ alone. let now = does alone in let end = serves now.0 in (end.0, end.1 ∙ ap (served infos) now.1)

-- THE TRAIL

own-keeps : {X : Type 0} (f : List Event → X) (own : Bool) (e : Event) (trail : List Event) → f (e ∷ trail) ≡ f trail → f (cond own (e ∷ trail) trail) ≡ f trail
own-keeps f true e trail same = same
own-keeps f false e trail same = refl

-- a packet that comes neither activates the station nor brings a unit
pub down-came : (infos : List Info) (n : ℕ) (s : Sending) (v : View) → down_of (trail_with (came_as infos n s) v) ≡ down_of v.trail
down-came infos n sending.Direct v = own-keeps down_of (is_own v.share.about.infos (Direct n)) (Direct n) v.trail refl
down-came infos n sending.Queued v = own-keeps down_of (is_own v.share.about.infos (Join n (band_in infos n))) (Join n (band_in infos n)) v.trail refl
down-came infos n (sending.FullSeen seen) v = own-keeps down_of (is_own v.share.about.infos (Full n seen)) (Full n seen) v.trail refl
down-came infos n (sending.Refused event) v = own-keeps down_of (is_own v.share.about.infos (Refuse n event)) (Refuse n event) v.trail refl
down-came infos n (sending.OutOfTurn found) v = refl

pub units-came : (infos : List Info) (n : ℕ) (s : Sending) (v : View) → units_of (trail_with (came_as infos n s) v) ≡ units_of v.trail
units-came infos n sending.Direct v = own-keeps units_of (is_own v.share.about.infos (Direct n)) (Direct n) v.trail refl
units-came infos n sending.Queued v = own-keeps units_of (is_own v.share.about.infos (Join n (band_in infos n))) (Join n (band_in infos n)) v.trail refl
units-came infos n (sending.FullSeen seen) v = own-keeps units_of (is_own v.share.about.infos (Full n seen)) (Full n seen) v.trail refl
units-came infos n (sending.Refused event) v = own-keeps units_of (is_own v.share.about.infos (Refuse n event)) (Refuse n event) v.trail refl
units-came infos n (sending.OutOfTurn found) v = refl

own-is : (own : Bool) (e : Event) (trail : List Event) → own ≡ true → cond own (e ∷ trail) trail ≡ e ∷ trail
own-is true e trail own = refl
own-is false e trail own = absurd cc

not-down : (down : Option ℕ) → ((event : ℕ) → down ≡ Some event → ⊥) → down ≡ None
not-down None never = refl
not-down (Some event) never = absurd (never event refl)

-- a packet of the first sender comes on the first seat's trail, refused just where that has the station deactivated
pub came-first : (infos : List Info) (n : ℕ) (s : Sending) (v : View) → owner_in v.share.about.infos n ≡ 0 → is_some (came_as infos n s) ≡ true
    → ((event : ℕ) → (s ≡ sending.Refused event) ↔ (down_of v.trail ≡ Some event)) → Came n v.trail (trail_with (came_as infos n s) v)
came-first infos n sending.Direct v first came refused = record {
  event = Direct n;
  brings = refl;
  refused = not-down (down_of v.trail) (λ event down. let not_so = (refused event).1 down in absurd cc);
  trail = own-is _ (Direct n) v.trail (ap (λ k. k == 0) first);
}
came-first infos n sending.Queued v first came refused = record {
  event = Join n (band_in infos n);
  brings = refl;
  refused = not-down (down_of v.trail) (λ event down. let not_so = (refused event).1 down in absurd cc);
  trail = own-is _ (Join n (band_in infos n)) v.trail (ap (λ k. k == 0) first);
}
came-first infos n (sending.FullSeen seen) v first came refused = record {
  event = Full n seen;
  brings = refl;
  refused = not-down (down_of v.trail) (λ event down. let not_so = (refused event).1 down in absurd cc);
  trail = own-is _ (Full n seen) v.trail (ap (λ k. k == 0) first);
}
came-first infos n (sending.Refused event) v first came refused = record {
  event = Refuse n event;
  brings = refl;
  refused = (refused event).0 refl;
  trail = own-is _ (Refuse n event) v.trail (ap (λ k. k == 0) first);
}
came-first infos n (sending.OutOfTurn found) v first came refused = absurd cc

-- A CALL

-- what a seat of the table knows that this was made of
pub made-is : {D : Type 0} (sh : Shared D) (c : Cpu D) (t : TableState) (s : SeatState) → table_seen sh ≡ t → seat_seen c ≡ s → IsHere t s → (view c).share.about ≡ setup sh
made-is sh c t s is-t is-s here = ap (λ (x : SeatState). x.made) is-s ∙ (here.made ∙ sym (ap (λ (x : TableState). x.made) is-t))

-- what the soft interrupts after a call go on to
pub drained-on : (step : Setup → RunningStation → RunningStation) (old mid new : SeatState) → mid.made ≡ old.made → Does old.made.infos (first_account old.made) (step old.made) (solo_of old) (solo_of mid) → Drains mid new
    → Does old.made.infos (first_account old.made) (λ r. served old.made.infos (step old.made r)) (solo_of old) (solo_of new)
drained-on step old mid new made does drains =
    done-served old.made.infos (first_account old.made) (step old.made) (solo_of old) (solo_of mid) (solo_of new) does
    (subst (λ (k : Setup). Does k.infos (first_account k) (served k.infos) (solo_of mid) (solo_of new)) made drains.alone)

module _ {D : Type 0} (sh : Shared D) (c c' : Cpu D) (made : (view c).share.about ≡ setup sh) where
  -- a call that the seat made at the table
  pub call-made : (call : Setup → Known → Known → Type 0) → c'.known.seat.table_id ≡ c.known.seat.table_id → call (setup sh) (known c) (known c') → Makes call (seat_seen c) (seat_seen c')
  call-made call same did = (known c, known c', refl, ap (λ t. seat_state t (known c')) (sym same), subst (λ (k : Setup). call k (known c) (known c')) (sym made) did)

  -- a step of the run of one sender, as the table's rule has it
  does-here : (step : Setup → RunningStation → RunningStation) → Does sh.infos.now (first_account (setup sh)) (step (setup sh)) (solo (view c)) (solo (view c'))
      → Does (view c).share.about.infos (first_account (view c).share.about) (step (view c).share.about) (solo_of (seat_seen c)) (solo_of (seat_seen c'))
  does-here step does = subst (λ (k : Setup). Does k.infos (first_account k) (step k) (solo (view c)) (solo (view c'))) (sym made) does

  pub sent-drained : (n : ℕ) (answer : Sending) (s : SeatState) → IsCallKept c c' → TransmitsBy (setup sh) n answer (known c) (known c')
      → (view c').turns ≡ slice_set (view c).turns (owner_in sh.infos.now n) (2 * rank_in sh.infos.now n + 2)
      → (view c').trail ≡ trail_with (came_as sh.infos.now n answer) (view c) → is_some (came_as sh.infos.now n answer) ≡ true
      → ((view c).control.first ≡ true → (event : ℕ) → (answer ≡ sending.Refused event) ↔ (down_of (view c).trail ≡ Some event))
      → BringsAlone sh.infos.now (first_account (setup sh)) (brought_in sh.infos.now sh.bypass n) (solo (view c)) (solo (view c'))
      → Drains (seat_seen c') s → SendsPacket n (seat_seen c) s
  sent-drained n answer s kept transmits turns trail came first brings drains = record {
    is = drains.is ∙ (λ i. record (seat_seen c) {
      table = kept.seat.0 i;
      made = (kept.share i).about;
      shares = (kept.share i).shares;
      owners = (kept.share i).owners;
      first = (kept.control i).first;
      raised = false;
      turns = turns-are i;
      trail = (sym (ap (λ (x : SeatState). x.trail) drains.is)) i;
      origin = (kept.control i).origin;
      gone = (kept.control i).gone;
      told = kept.told i;
      whole = s.whole;
      steps = s.steps;
    });
    by = (seat_seen c', ap (λ x. x.about) kept.share, call-made (Transmits n) kept.seat.0 (answer, transmits), drains.by);
    came = λ is-first owner. subst (Came n (view c).trail) (sym (ap (λ (x : SeatState). x.trail) drains.is ∙ trail))
        (came-first sh.infos.now n answer (view c) owner came (first is-first));
    alone = let k = (view c).share.about in brought-served k.infos (first_account k) (brought_in k.infos k.bypass n) (solo (view c)) (solo (view c')) (solo_of s)
        (subst (λ (k : Setup). BringsAlone k.infos (first_account k) (brought_in k.infos k.bypass n) (solo (view c)) (solo (view c'))) (sym made) brings)
        (subst (λ (k : Setup). Does k.infos (first_account k) (served k.infos) (solo (view c')) (solo_of s)) (ap (λ x. x.about) kept.share) drains.alone);
  }
    where
      turns-are : (view c').turns ≡ slice_set (view c).turns (owner_in (view c).share.about.infos n) (2 * rank_in (view c).share.about.infos n + 2)
      turns-are = turns ∙ ap (λ (k : Setup). slice_set (view c).turns (owner_in k.infos n) (2 * rank_in k.infos n + 2)) (sym made)

  -- the soft interrupts were done
  pub drained-by : IsSameSeat c c' → IsServed (view c) (view c') → (view c').place.raised ≡ false → Does sh.infos.now (first_account (setup sh)) (served sh.infos.now) (solo (view c)) (solo (view c'))
      → DoesInterrupts (setup sh) (known c) (known c') → Drains (seat_seen c) (seat_seen c')
  drained-by same was low alone does = record {
    is = λ i. record (seat_seen c') {
      table = same.0 i;
      made = (was.kept.share i).about;
      shares = (was.kept.share i).shares;
      owners = (was.kept.share i).owners;
      first = was.kept.first i;
      raised = low i;
      turns = was.kept.turns i;
      trail = was.trail i;
      origin = (was.control i).origin;
      gone = (was.control i).gone;
      told = was.kept.told i;
    };
    by = call-made DoesInterrupts same.0 does;
    alone = does-here (λ k. served k.infos) alone;
  }

  -- the queues were woken
  pub woken-by : (one_opened : Bool) → IsCallKept c c' → IsStill (view c) (view c') → LooksAtStops one_opened (setup sh) (known c) (known c')
      → Does sh.infos.now (first_account (setup sh)) opened (solo (view c)) (solo (view c')) → WakesQueues one_opened (seat_seen c) (seat_seen c')
  woken-by one_opened kept still looks alone = record {
    is = λ i. record (seat_seen c') {
      table = kept.seat.0 i;
      made = (kept.share i).about;
      shares = (kept.share i).shares;
      owners = (kept.share i).owners;
      first = (kept.control i).first;
      turns = still.turns i;
      trail = still.trail i;
      origin = (kept.control i).origin;
      gone = (kept.control i).gone;
      told = kept.told i;
    };
    by = call-made (LooksAtStops one_opened) kept.seat.0 looks;
    none = λ none. λ i. let same = none_opened (setup sh) (setup sh).queues (known c) (known c') (subst (λ (o : Bool). WakesBelow (setup sh) (setup sh).queues o (known c) (known c')) none looks) in
        seat_state (kept.seat.0 i) (record { view = same i; steps = (known c').steps });
    alone = does-here (λ k. opened) alone;
  }

  pub changed-by : (plan : Plan) (event : ℕ) (kind : EventKind) → IsSameSeat c c' → IsKeptByControl (view c) (view c') → KeepsDevice (view c) (view c') → (view c').trail ≡ with_control plan event kind (view c).trail
      → Does sh.infos.now (first_account (setup sh)) (changed plan event kind) (solo (view c)) (solo (view c')) → ControlsBy event kind (setup sh) (known c) (known c')
      → Changes plan event kind (seat_seen c) (seat_seen c')
  changed-by plan event kind same kept device trail alone controls = record {
    is = λ i. record (seat_seen c') {
      table = same.0 i;
      made = (kept.share i).about;
      shares = (kept.share i).shares;
      owners = (kept.share i).owners;
      first = kept.first i;
      turns = kept.turns i;
      trail = trail i;
      origin = device.origin i;
      gone = device.gone i;
      told = kept.told i;
    };
    by = call-made (ControlsBy event kind) same.0 controls;
    alone = does-here (λ k. changed plan event kind) alone;
  }

  pub swapped-drained : (plan : Plan) (event : ℕ) (params : Params) (came went : DeviceState) (s : SeatState) → IsSameSeat c c' → IsKeptByControl (view c) (view c')
      → (view c').trail ≡ with_control plan event (kind.Swap params) (view c).trail → SwapsFor came went (view c) (view c')
      → (came.told ≡ Some (new_device params) → Does sh.infos.now (first_account (setup sh)) (changed plan event (kind.Swap params)) (solo (view c)) (solo (view c')))
      → SwapsBy event came went (setup sh) (known c) (known c') → Drains (seat_seen c') s → DoesSwap plan event params came went (seat_seen c) s
  swapped-drained plan event params came went s same kept trail devices alone swaps drains = record {
    is = drains.is ∙ (λ i. record (seat_seen c) {
      table = same.0 i;
      made = (kept.share i).about;
      shares = (kept.share i).shares;
      owners = (kept.share i).owners;
      first = kept.first i;
      raised = false;
      turns = kept.turns i;
      trail = trail i;
      origin = devices.origin i;
      gone = devices.gone i;
      told = kept.told i;
      whole = s.whole;
      steps = s.steps;
    });
    by = (seat_seen c', ap (λ x. x.about) kept.share, call-made (SwapsBy event came went) same.0 swaps, drains.by);
    has_served = devices.has_served;
    alone = λ tells. drained-on (λ k. changed plan event (kind.Swap params)) (seat_seen c) (seat_seen c') s (ap (λ x. x.about) kept.share) (does-here (λ k. changed plan event (kind.Swap params)) (alone tells)) drains;
  }

-- a seat that owes no soft interrupt is as doing them would leave it
pub drained-none : {D : Type 0} (sh : Shared D) (c : Cpu D) → (view c).share.about ≡ setup sh → (view c).place.raised ≡ false → Drains (seat_seen c) (seat_seen c)
drained-none sh c made low = drained-by sh c c made (refl, refl) (served_none (view c) (view c) refl) low
    (λ alone. (alone, sym (rests_served sh.infos.now (first_account (setup sh)) (solo (view c)) alone low))) (standing c, [], (NoneYet, low), refl, refl, refl, refl, tt)

-- BETWEEN TWO CALLS

-- a call that kept what the invariant speaks of left the seat between two calls
pub between-kept : {D : Type 0} (c c' : Cpu D) → position c' ≡ Idle → IsReadyToSend c' → (view c').share ≡ (view c).share
    → (view c').control ≡ (view c).control → (view c').trail ≡ (view c).trail → IsSeatBetween c → IsSeatBetween c'
between-kept c c' at ready share control trail was = record {
  live = subst (λ (s : SharePart). 0 < s.shares) (sym share) was.live;
  at = at;
  ready = ready;
  phase = λ first. let before = was.phase (sym (ap (λ x. x.first) control) ∙ first) in
      (ap (λ x. x.phase) control ∙ (before.0 ∙ ap phase_of (sym trail)), ap (λ x. x.purge) control ∙ before.1);
  units = λ first. let before = was.units (sym (ap (λ x. x.first) control) ∙ first) in
      subst (λ (s : SharePart). AreUnitsSmall s.about.station (units_of (view c').trail)) (sym share)
      (subst (λ us. AreUnitsSmall (view c).share.about.station us) (ap units_of (sym trail)) before);
  made = subst (λ (s : SharePart). IsWellMade s.about) (sym share) was.made;
}

-- EVENTS

-- an event of the plan, and the soft interrupts after it
pub changed-drained : (plan : Plan) (event : ℕ) (kind : EventKind) (old mid new : SeatState) → Changes plan event kind old mid → Drains mid new → DoesEvent plan event kind old new
changed-drained plan event kind old mid new changes drains = record {
  is = drains.is ∙ ap (λ (x : SeatState). record x { raised = false; whole = new.whole; steps = new.steps }) changes.is;
  by = (mid, ap (λ (x : SeatState). x.made) changes.is, changes.by, drains.by);
  alone = drained-on (λ k. changed plan event kind) old mid new (ap (λ (x : SeatState). x.made) changes.is) changes.alone drains;
}

pub one-unit-more : (station unit : ℕ) (units : List ℕ) → unit < 256 → AreUnitsSmall station units → AreUnitsSmall station (unit ∷ units)
one-unit-more station unit units small were = record {
  first = were.first;
  later = λ u h. elim (cons-in unit units u h) [ inl same ↦ subst (λ x. x < 256) same small | inr was ↦ were.later u was ];
}

-- THE END

-- a station all of whose packets were sent gets at most the purge of what a hung device left
pub ends-trail : {D : Type 0} (k : Setup) (purged : ℕ) (c c' : Cpu D) → AreAllDone k (view c).turns → ComesToEnd k purged (view c) (view c') → EndsTrail (seat_seen c) (seat_seen c')
ends-trail k purged c c' done ends = ⊎_elim (λ same. inl same.0) (λ purges. inr purges) (ends.purges done)

-- what a purge of a hung station doesn't touch on the trail is as it was
pub ends-keeps : {X : Type 0} (f : List Event → X) → ((unit : ℕ) (trail : List Event) → f (Purge (cause.Hung unit) ∷ trail) ≡ f trail) → (old new : SeatState) → EndsTrail old new
    → f new.trail ≡ f old.trail
ends-keeps f keeps old new ends = ⊎_elim (λ same. ap f same) (λ more. ap f more ∙ keeps (seat_account new).unit old.trail) ends
