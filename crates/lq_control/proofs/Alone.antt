-- What control's calls leave of a station with one sender.
use Rattle.std.proofs.Common.{◌≡◌, ℕ, zero, suc, Bool, true, false, not, [], ◌∷◌, ◌++◌, List, Option, Some, IsSome, map, drop, take, option_to_list, refl, sym, ap, ap₂, ◌∙◌, subst, arith, inl, ◌<◌, ◌≤◌}
use Rattle.std.specs.Prelude.{is_some, slice_index}
use Rattle.std.proofs.lemmas.Bool.{true≢false}
use Rattle.std.proofs.lemmas.List.{length-map}
use Rattle.lq_account_laws.proofs.Purges.{purge_empties}
use Rattle.lq_model.specs.Account.{Account, Event, Down, Purge, Resize, Swap, Up, after, held, held_in}
use Rattle.lq_model.specs.Alone.{RunningStation, changed, new_device}
use Rattle.lq_model.specs.Device.{DeviceState, Telling}
use Rattle.lq_model.specs.Plan.{Plan, unit_of_swap}
use Rattle.lq_model.specs.declared.device.Params.{Params}
use Rattle.lq_model.specs.declared.fate.Cause.TheVariants as cause
use Rattle.lq_model.specs.declared.fate.Info.{Info}
use Rattle.lq_model.specs.declared.plan.EventKind.TheVariants as kind
use Rattle.lq_run.specs.Runs.{ended}
use Rattle.lq_table.specs.Views.{View, Setup, SharePart, first_account, no_packets}
use Rattle.lq_table.specs.Sees.{Solo, IsSole, account_of, device_to, heard, solo}
use Rattle.lq_table.specs.Locks.{locked_to}
use Rattle.lq_table.specs.States.{clear_sched_alone}
use Rattle.lq_table.specs.Inside.{enter_view}
use Rattle.lq_table.specs.Moves.{is_set}
use Rattle.lq_qdisc.proofs.ViewRelations.{Interrupts}
use Rattle.lq_qdisc.specs.Alone.{HasAll, IsAlone, account_in, running, telling_of}
use Rattle.lq_qdisc.proofs.AloneCalls.{entering_solo}
use Rattle.lq_qdisc.proofs.AloneSteps.{account_at}
use Rattle.lq_control.specs.Alone.{unmarked}
use Rattle.lq_control.specs.Control.{deactivated_solo}

-- it is alone, and its station is just as after a step
abbrev pub IsStepped : List Info → Account → (RunningStation → RunningStation) → Solo → Solo → Type 0
IsStepped infos start step old new = IsAlone infos start new × (running start new ≡ step (running start old))

-- ACTIVATION

pub up_alone : (infos : List Info) (start : Account) (event : ℕ) (plan : Plan) (v : Solo) → IsAlone infos start v → IsStepped infos start (changed plan event kind.Up) v (heard Up v)
up_alone infos start event plan v h = (
  record {
    sender = record {
      sole = h.sender.sole;
      tells = h.sender.tells;
      station = record { queues = h.sender.station.queues; known = h.sender.station.known; hand = h.sender.station.hand; busies = h.sender.station.busies };
    };
    rests = record {
      unlocked = h.rests.unlocked;
      scheduled = h.rests.scheduled;
      missed = h.rests.missed;
      empty = h.rests.empty;
      waits = h.rests.waits;
      shut = h.rests.shut;
      off = λ e. absurd (true≢false (sym e));
    };
  },
  refl,
)

-- DEACTIVATION

-- purged under DEACTIVATED, with both bits clear, and the seat isn't raised
abbrev pub downed : ℕ → Solo → Solo
downed event v = unmarked (deactivated_solo event v)

pub down_alone : (infos : List Info) (start : Account) (event : ℕ) (plan : Plan) (v : Solo) → IsAlone infos start v → IsStepped infos start (changed plan event kind.Down) v (downed event v)
down_alone infos start event plan v h = (
  record {
    sender = record {
      sole = h.sender.sole;
      tells = h.sender.tells;
      station = record { queues = h.sender.station.queues; known = h.sender.station.known; hand = h.sender.station.hand; busies = h.sender.station.busies };
    };
    rests = record {
      unlocked = refl;
      scheduled = refl;
      missed = λ e. absurd (true≢false (sym e));
      empty = λ _. purge_empties (cause.Event event) (after (Down event) (account_in start v));
      waits = λ _ e. absurd (true≢false e);
      shut = λ e. absurd (true≢false (sym e));
      off = λ _. refl;
    };
  },
  refl,
)

-- a soft interrupt of a deactivated station changes nothing but the raised mark and SCHED
pub off_served : (infos : List Info) (old before new : View) → IsSole old → IsSome (account_of old).down → old.packets ≡ no_packets → Interrupts infos (enter_view old) before → solo new ≡ solo before → unmarked (solo new) ≡ unmarked (solo old)
off_served infos old before new sole down packets i same =
    let seen : is_set 2 i.begins.first ≡ true = (i.begins.sees sole).down ∙ down in
    let d = i.begins.deactivated seen in
    let left : before ≡ i.cleared = i.leaves (d.1 ∙ ap not (d.4 sole ∙ down)) in
    ap unmarked (same ∙ (ap solo left ∙ (d.3 ∙ ap clear_sched_alone (entering_solo old packets))))

-- so it stays deactivated
pub down_kept : (k : Setup) (v w : View) → v.share.about ≡ k → w.share.about ≡ k → unmarked (solo w) ≡ unmarked (solo v) → IsSome (account_of v).down → IsSome (account_of w).down
down_kept k v w about about' same down =
    let past : account_in (first_account k) (solo w) ≡ account_in (first_account k) (solo v) = ap (account_in (first_account k)) same in
    ap (λ (a : Account). is_some a.down) (sym (account_at k w about') ∙ (past ∙ account_at k v about)) ∙ down

pub down_deactivated : (k : Setup) (event : ℕ) (s : Solo) (w : View) → w.share.about ≡ k → solo w ≡ deactivated_solo event s → IsSome (account_of w).down
down_deactivated k event s w about e = ap (λ (a : Account). is_some a.down) (sym (account_at k w about) ∙ ap (account_in (first_account k)) e)

-- after a deactivation, and the wait behind it
pub downed_at : (k : Setup) (event : ℕ) (old v w : View) → v.share ≡ old.share → old.share.about ≡ k → IsSole old → solo v ≡ deactivated_solo event (solo old) → (IsSole v → IsSome (account_of v).down → solo w ≡ unmarked (solo v)) → solo w ≡ downed event (solo old)
downed_at k event old v w share about sole e waits =
    waits (subst HasAll (sym e) sole) (down_deactivated k event (solo old) v (ap (λ (s : SharePart). s.about) share ∙ about) e) ∙ ap unmarked e

pub marks_clear : (s t : Solo) → unmarked s ≡ unmarked t → s.raised ≡ false → s.whole.scheduled ≡ false → s ≡ unmarked t
marks_clear s t same low free = (λ j. record s { raised = low j; whole = record s.whole { scheduled = free j } }) ∙ same

-- RESIZES

none_parts : (xs ys : List ℕ) → xs ++ ys ≡ [] → (xs ≡ []) × (ys ≡ [])
none_parts [] ys none = (refl, none)
none_parts (x ∷ xs) ys none = cc

none_kept : (len : ℕ) (xs : List ℕ) → xs ≡ [] → drop 0 (take len xs) ≡ []
none_kept zero xs none = refl
none_kept (suc len) [] none = refl
none_kept (suc len) (x ∷ xs) none = cc

resize_empty : (len event : ℕ) (a : Account) → held a ≡ [] → held (after (Resize len event) a) ≡ []
resize_empty len event a none =
    let first = none_parts (option_to_list a.slot) _ none in
    let second = none_parts (held_in a 0) _ first.1 in
    let third = none_parts (held_in a 1) _ second.1 in
    ap₂ (λ (xs ys : List ℕ). xs ++ ys) first.0
    (ap₂ (λ (xs ys : List ℕ). xs ++ ys) (none_kept len (held_in a 0) second.0)
    (ap₂ (λ (xs ys : List ℕ). xs ++ ys) (none_kept len (held_in a 1) third.0) (none_kept len (held_in a 2) third.1)))

pub resize_alone : (infos : List Info) (start : Account) (len event : ℕ) (plan : Plan) (v : Solo) → IsAlone infos start v → IsStepped infos start (changed plan event (kind.Resize len)) v (heard (Resize len event) v)
resize_alone infos start len event plan v h = (
  record {
    sender = record {
      sole = h.sender.sole;
      tells = h.sender.tells;
      station = record { queues = h.sender.station.queues; known = h.sender.station.known; hand = h.sender.station.hand; busies = h.sender.station.busies };
    };
    rests = record {
      unlocked = h.rests.unlocked;
      scheduled = h.rests.scheduled;
      missed = h.rests.missed;
      empty = λ e. resize_empty len event (account_in start v) (h.rests.empty e);
      waits = h.rests.waits;
      shut = h.rests.shut;
      off = h.rests.off;
    };
  },
  refl,
)

abbrev bits : Solo → Bool → Bool → Bool → Bool → Solo
bits s r m c l = record s { raised = r; whole = record s.whole { missed = m; scheduled = c; locked = l } }

resized_bits : (s : Solo) (e : Event) (r m c l : Bool) → l ≡ false → c ≡ r → (m ≡ true → r ≡ true) → ended (heard e (locked_to true (bits s r m c l))) ≡ heard e (bits s r m c l)
resized_bits s e r m c true free same up = absurd (true≢false free)
resized_bits s e r false c false free same up = refl
resized_bits s e true true true false free same up = refl
resized_bits s e true true false false free same up = absurd (true≢false (sym same))
resized_bits s e false true c false free same up = absurd (true≢false (sym (up refl)))

-- the end of a resize leaves the bits of a seat alone as they were
pub resized_same : (infos : List Info) (start : Account) (e : Event) (s : Solo) → IsAlone infos start s → ended (heard e (locked_to true s)) ≡ heard e s
resized_same infos start e s h = resized_bits s e s.raised s.whole.missed s.whole.scheduled s.whole.locked h.rests.unlocked h.rests.scheduled h.rests.missed

-- a change of the length in a deactivation
pub relength_alone : (infos : List Info) (start : Account) (len event : ℕ) (plan : Plan) (v : Solo) → IsAlone infos start v → IsStepped infos start (changed plan event (kind.TxQueueLen len)) v (heard Up (heard (Resize len event) (downed event v)))
relength_alone infos start len event plan v h =
    let down = down_alone infos start event plan v h in
    let resize = resize_alone infos start len event plan (downed event v) down.0 in
    (((up_alone infos start event plan (heard (Resize len event) (downed event v)) resize.0).0), refl)

-- SWAPS

pub swap_alone : (infos : List Info) (start : Account) (event unit : ℕ) (device : DeviceState) (v : Solo) → (plan : Plan) (params : Params) → unit_of_swap plan event ≡ unit → device.told ≡ Some (new_device params)
    → IsAlone infos start v → IsStepped infos start (changed plan event (kind.Swap params)) v (heard Up (device_to device (heard (Swap unit) (downed event v))))
swap_alone infos start event unit device v plan params is_unit told h = (
  record {
    sender = record {
      sole = h.sender.sole;
      tells = ap (λ (o : Option Telling). is_some o) told;
      station = record {
        queues = subst (λ (n : ℕ). 0 < n) (sym (length-map (account_in start v).stops (λ (_ : ℕ). 0))) h.sender.station.queues;
        known = inl (zeros (account_in start v).stops);
        hand = h.sender.station.hand;
        busies = subst (λ (o : Option Telling). (telling_of o).busies ≤ (telling_of o).params.busy_limit) (sym told) (omega arith);
      };
    };
    rests = record {
      unlocked = refl;
      scheduled = refl;
      missed = λ e. absurd (true≢false (sym e));
      empty = λ _. purge_empties (cause.Event event) (after (Down event) (account_in start v));
      waits = λ _ e. absurd (true≢false e);
      shut = λ e. absurd (true≢false (sym e));
      off = λ _. refl;
    };
  },
  λ j. record (changed plan event (kind.Swap params) (running start v)) { account = after Up (after (Swap (sym is_unit j)) (after (Purge (cause.Event event)) (after (Down event) (account_in start v)))); device = telling_of (told j) },
)
  where
    zeros : (xs : List ℕ) (queue : ℕ) → slice_index (map (λ (_ : ℕ). 0) xs) queue ≤ 1
    zeros [] queue = omega arith
    zeros (x ∷ xs) zero = omega arith
    zeros (x ∷ xs) (suc queue) = zeros xs queue

-- AT A CALL'S END

pub stepped_at : (infos : List Info) (start : Account) (step : RunningStation → RunningStation) (old via new : Solo) → new ≡ via → IsStepped infos start step old via → IsStepped infos start step old new
stepped_at infos start step old via new e h = subst (λ (v : Solo). IsStepped infos start step old v) (sym e) h
