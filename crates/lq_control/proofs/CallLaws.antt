-- What the steps of control's calls come to: what is kept, which events came, which fates were stored, and how many.
use Rattle.std.proofs.Common.{◌≡◌, ◌<◌, ◌-◌, ℕ, zero, suc, Bool, drop, true, false, List, [], ◌∷◌, ◌++◌, length, Option, Some, None, refl, sym, ap, ◌∙◌, subst, arith}
use Rattle.std.proofs.lemmas.Bool.{false≢true}
use Rattle.std.proofs.lemmas.List.{append_assoc}
use Rattle.std.specs.Prelude.{if◌then◌else◌, ◌==◌}
use Rattle.std.specs.Option.{option_map, option_to_list}
use Rattle.lq_model.specs.Account.{Account, Event, Down, Purge as PurgeEvent, Resize, Swap, Up, held, held_in}
use Rattle.lq_model.specs.Band.{Band, held_of}
use Rattle.lq_model.specs.Control.{is_control}
use Rattle.lq_model.specs.Device.{DeviceState}
use Rattle.lq_model.specs.declared.fate.Cause.{Cause}
use Rattle.lq_model.specs.declared.fate.Cause.TheVariants as cause
use Rattle.lq_model.specs.declared.fate.Fate.{Fate}
use Rattle.lq_model.specs.declared.fate.Fate.TheVariants as fate
use Rattle.lq_band_laws.specs.Three.{Three, at}
use Rattle.lq_run.specs.Steps.{End, Got, Held, Lost, NoneMissed, Schedules, TryRunLock}
use Rattle.lq_ring.specs.Fates.{fates_onto}
use Rattle.lq_ring.specs.Resized.{IsKnownHeld, all_lost, having_resized}
use Rattle.lq_device.specs.Station.{with_device}
use Rattle.lq_table.specs.Controls.{GoesAway, begin_control_view, clear_deactivated_view, end_control_view, open_xoff_view, set_deactivated_view}
use Rattle.lq_table.specs.Purges.{AreKnown, begin_purge_view, first_purge, reset_draining_view, reset_missed_view}
use Rattle.lq_table.specs.Rule.{HasServed, account, latest_unit, units_of, shown}
use Rattle.lq_table.specs.Sees.{IsAccounts, IsSole, account_of}
use Rattle.lq_table.specs.Moves.{and_settled}
use Rattle.lq_table.specs.Locks.{look_lock_view, try_lock_view, try_lock_view_in_call, try_lock_view_in_control, unlock_view, unlock_view_in_call, unlock_view_in_control}
use Rattle.lq_table.specs.Step.{BeginControl, BeginPurge, ClearDeactivated, EndControl, MoveStation, OpenXoff, ResetDraining, ResetMissed, SetDeactivated, SetStation, Standing, Step, SwapDevice, Unlock, step_leaves, steps_leave, steps_tell}
use Rattle.lq_table.specs.States.{load_state_view, set_sched_view}
use Rattle.lq_table.specs.Fates.{settle_view_owed}
use Rattle.lq_table.specs.Views.{FirstPart, HolderPart, Left, PacketPart, Setup, SharePart, View, no_packets, Known}
use Rattle.lq_qdisc.specs.Calls.{KeepsFates}
use Rattle.lq_qdisc.specs.StepLists.{LeadsBy, Then}
use Rattle.lq_ring.specs.StepLists.{PurgeBand}
use Rattle.lq_control.specs.Control.{IsKeptByControl, IsPurgeDone, IsPurged, IsServed, KeepsDevice, OwesNoInterrupt, all_purged}
use Rattle.lq_control.specs.Comes.{LeavesPurged, Shrinks, SwapsFor}
use Rattle.lq_control.specs.Steps.{Again, CallInside, ChangeDevice, ChangeTxQueueLen, Clear, Deactivate, DevDeactivate, DevDeactivateMany, DevResetQueue, Finding, LockHeld, LookClear, LookInside, Looks, NoCall, NotClear, NotYet, OnceMore, Only, PfifoFastReset, QdiscReset, Reactivate, Relength, ResetSlot, ResizeLive, ResizeRings, Scheduled, ServeOrLook, Serves, SwapAt, TakeLock, Taken, Wait, WaitUntilClear, open_steps}
use Rattle.lq_ring.proofs.ListLemmas.{resize_told}
use Rattle.lq_ring.proofs.StepsThen.{leave_then}
use Rattle.lq_table.proofs.StepsThen.{tell_first, tell_last}
use Rattle.lq_control.proofs.StepLemmas.{apart, came_by, found_leaves, led, only_leaves}
use Rattle.lq_control.proofs.Purge.{IsEmptied, count_all, emptied, left1, purge1, purge2, left2, purged_of}
use Rattle.lq_control.proofs.Served.{served_none, served_then}

-- LINKS

-- what a wait, and the run lock's steps, leave as it was
pub record IsCalmly (v w : View) : Type 0 where
  pub share : w.share ≡ v.share
  pub packets : w.packets ≡ v.packets
  pub turns : w.turns ≡ v.turns
  pub first : w.control.first ≡ v.control.first
  pub origin : w.control.origin ≡ v.control.origin
  pub gone : w.control.gone ≡ v.control.gone
  pub told : w.whole.told ≡ v.whole.told
  pub state : w.whole.state ≡ v.whole.state
  pub settled : w.settled ≡ v.settled
  pub trail : w.trail ≡ v.trail

calm_same : (v : View) → IsCalmly v v
calm_same v = record { share = refl; packets = refl; turns = refl; first = refl; origin = refl; gone = refl; told = refl; state = refl; settled = refl; trail = refl }

calm_then : (v w x : View) → IsCalmly v w → IsCalmly w x → IsCalmly v x
calm_then v w x a b = record {
  share = b.share ∙ a.share;
  packets = b.packets ∙ a.packets;
  turns = b.turns ∙ a.turns;
  first = b.first ∙ a.first;
  origin = b.origin ∙ a.origin;
  gone = b.gone ∙ a.gone;
  told = b.told ∙ a.told;
  state = b.state ∙ a.state;
  settled = b.settled ∙ a.settled;
  trail = b.trail ∙ a.trail;
}

-- a step after which the seat knows this
calm_by : (v to w : View) → IsCalmly v to → w ≡ to → IsCalmly v w
calm_by v to w calm e = subst (IsCalmly v) (sym e) calm

calm_if : (b : Bool) (v x y : View) → IsCalmly v x → IsCalmly v y → IsCalmly v (if b then x else y)
calm_if true v x y one other = one
calm_if false v x y one other = other

-- what of this list is such keeps, its steps keep of a seat that carries anything
of_calm : {such : List Step → Type 0} (old new : Known) → ((xs : List Step) → such xs → (s : Standing) → IsCalmly s.view (steps_leave xs s).view) → LeadsBy (λ s. such) old new → IsCalmly old.view new.view
of_calm old new calm h = subst (λ (z : View × View). IsCalmly z.0 z.1) (λ j. (h.3 j, sym h.5 j)) (calm h.1 h.2 h.0)

wait_calm : {look : Bool → List Step → Type 0} → ((answer : Bool) (xs : List Step) → look answer xs → (s : Standing) → IsCalmly s.view (steps_leave xs s).view)
    → (answer : Bool) (xs : List Step) → Wait look answer xs → (s : Standing) → IsCalmly s.view (steps_leave xs s).view
wait_calm calm answer xs NotYet s = calm_same s.view
wait_calm calm got xs (Again {answer} {before} {last} w l) s =
    let m : Standing = steps_leave before s in
    subst (λ (z : Standing). IsCalmly s.view z.view) (sym (leave_then before last s)) (calm_then s.view m.view (steps_leave last m).view (wait_calm calm false before w s) (calm answer last l m))

inside_calm : (answer : Bool) (xs : List Step) → LookInside answer xs → (s : Standing) → IsCalmly s.view (steps_leave xs s).view
inside_calm answer xs (CallInside {found} some) s = record { share = refl; packets = refl; turns = refl; first = refl; origin = refl; gone = refl; told = refl; state = refl; settled = refl; trail = refl }
inside_calm answer xs NoCall s = record { share = refl; packets = refl; turns = refl; first = refl; origin = refl; gone = refl; told = refl; state = refl; settled = refl; trail = refl }

held_calm : (v : View) → IsCalmly v (look_lock_view v)
held_calm v = record { share = refl; packets = refl; turns = refl; first = refl; origin = refl; gone = refl; told = refl; state = refl; settled = refl; trail = refl }

got_calm : (d : HolderPart) (v : View) → IsCalmly v (try_lock_view d v)
got_calm d v = calm_if (is_control v.place.position) v (try_lock_view_in_control d v) (try_lock_view_in_call d v)
    (record { share = refl; packets = refl; turns = refl; first = refl; origin = refl; gone = refl; told = refl; state = refl; settled = refl; trail = refl })
    (record { share = refl; packets = refl; turns = refl; first = refl; origin = refl; gone = refl; told = refl; state = refl; settled = refl; trail = refl })

try_calm : (answer : Bool) (xs : List Step) → TryRunLock answer xs → (s : Standing) → IsCalmly s.view (steps_leave xs s).view
try_calm answer xs (Held {found} some) s = calm_if (found == 0) s.view s.view (look_lock_view s.view) (calm_same s.view) (held_calm s.view)
try_calm answer xs Lost s = held_calm s.view
try_calm answer xs (Got {d}) s = got_calm d s.view

take_calm : (xs : List Step) → TakeLock xs → (s : Standing) → IsCalmly s.view (steps_leave xs s).view
take_calm xs (Taken {tries} w) s = subst (λ (z : Standing). IsCalmly s.view z.view) (sym (leave_then tries (MoveStation ∷ []) s)) (wait_calm try_calm true tries w s)

waits_calm : (old new : Known) → LeadsBy (λ s. Wait LookInside true) old new → IsCalmly old.view new.view
waits_calm old new = of_calm old new (wait_calm inside_calm true)

pub takes_calm : (old new : Known) → LeadsBy (λ s. TakeLock) old new → IsCalmly old.view new.view
takes_calm old new = of_calm old new take_calm

sole_calm : (v w : View) → IsCalmly v w → IsSole v → IsSole w
sole_calm v w c sole = (ap (λ (s : SharePart). s.shares) c.share ∙ sole.0, c.told ∙ sole.1)

-- who gets the lock finds the units that its trail tells, where it is the first seat, and what its account says, where it has the table alone
abbrev FindsTold : View → View → Type 0
FindsTold v w = (v.control.first ≡ true → w.holder.units ≡ units_of v.trail) × (IsSole v → IsAccounts w)

holder_if : (b : Bool) (d : HolderPart) (x y : View) → x.holder ≡ d → y.holder ≡ d → (if b then x else y).holder ≡ d
holder_if true d x y one other = one
holder_if false d x y one other = other

try_told : (answer : Bool) (xs : List Step) → answer ≡ true → TryRunLock answer xs → (s : Standing) → steps_tell xs s → FindsTold s.view (steps_leave xs s).view
try_told answer xs is (Held some) s t = absurd (false≢true is)
try_told answer xs is Lost s t = absurd (false≢true is)
try_told answer xs is (Got {d}) s t =
    let v : View = s.view in let h = holder_if (is_control v.place.position) d (try_lock_view_in_control d v) (try_lock_view_in_call d v) refl refl in
    let tells = t.1.0 in (λ first. ap (λ (x : HolderPart). x.units) h ∙ tells.6 first, λ sole. (tells.7 sole).2)

wait_told : (answer : Bool) (xs : List Step) → answer ≡ true → Wait TryRunLock answer xs → (s : Standing) → steps_tell xs s → FindsTold s.view (steps_leave xs s).view
wait_told answer xs is NotYet s t = absurd (false≢true is)
wait_told got xs is (Again {answer} {before} {last} w l) s t =
    let m : Standing = steps_leave before s in let calm = wait_calm try_calm false before w s in let told = try_told answer last is l m (tell_last before last s t) in
    subst (λ (z : Standing). FindsTold s.view z.view) (sym (leave_then before last s)) (λ first. told.0 (calm.first ∙ first) ∙ ap units_of calm.trail, λ sole. told.1 (sole_calm s.view m.view calm sole))

take_told : (xs : List Step) → TakeLock xs → (s : Standing) → steps_tell xs s → FindsTold s.view (steps_leave xs s).view
take_told xs (Taken {tries} w) s t =
    let move : List Step = MoveStation ∷ [] in
    subst (λ (z : Standing). FindsTold s.view z.view) (sym (leave_then tries move s)) (wait_told true tries refl w s (tell_first tries move s t))

takes_told : (old new : Known) → LeadsBy (λ s. TakeLock) old new → FindsTold old.view new.view
takes_told old new h = subst (λ (z : View × View). FindsTold z.0 z.1) (λ j. (h.3 j, sym h.5 j)) (take_told h.1 h.2 h.0 h.7)

released_calm : (v w : View) → w ≡ (if is_control v.place.position then unlock_view_in_control v else unlock_view_in_call v) → IsCalmly v w
released_calm v w e = calm_by v _ w (calm_if (is_control v.place.position) v (unlock_view_in_control v) (unlock_view_in_call v)
    (record { share = refl; packets = refl; turns = refl; first = refl; origin = refl; gone = refl; told = refl; state = refl; settled = refl; trail = refl })
    (record { share = refl; packets = refl; turns = refl; first = refl; origin = refl; gone = refl; told = refl; state = refl; settled = refl; trail = refl })) e

-- SOFT INTERRUPTS

look_served : (k : Setup) (answer : Bool) (s : Standing) (xs : List Step) → ServeOrLook k s answer xs → IsServed s.view (steps_leave xs s).view
look_served k answer s zs (Serves found {xs} raised one) =
    let m : Standing = steps_leave xs s in
    subst (λ (z : Standing). IsServed s.view z.view) (sym (leave_then xs (BeginControl found ∷ []) s)) (served_then s.view m.view (begin_control_view m.view) one.came
    (record { kept = record { share = refl; turns = refl; first = refl; told = refl }; control = refl; trail = refl; fates = ([], refl) }))
look_served k answer s zs (Looks low looks) = served_none s.view (steps_leave zs s).view looks.came

clears_served : (k : Setup) (s : Standing) (answer : Bool) (xs : List Step) → WaitUntilClear k s answer xs → IsServed s.view (steps_leave xs s).view
clears_served k s answer zs NotClear = served_none s.view s.view refl
clears_served k s got zs (OnceMore {answer} {xs} {ys} w l) =
    let m : Standing = steps_leave xs s in
    subst (λ (z : Standing). IsServed s.view z.view) (sym (leave_then xs ys s)) (served_then s.view m.view (steps_leave ys m).view (clears_served k s false xs w) (look_served k answer m ys l))

waits_served : (k : Setup) (old new : Known) → LeadsBy (λ s. WaitUntilClear k s true) old new → IsServed old.view new.view
waits_served k old new h = led IsServed (λ s. WaitUntilClear k s true) old new h (clears_served k h.0 true h.1 h.2)

-- PURGES

paid : (by : Cause) (s : Option ℕ) (old new : Known) → old.view.packets.owed ≡ option_map (λ n. (n, fate.Purged by)) s → LeadsBy (ResetSlot by s) old new
    → new.view ≡ record old.view { packets = record old.view.packets { owed = None }; settled = fates_onto (fate.Purged by) (option_to_list s) old.view.settled }
paid by None old new owed h = only_leaves [] (λ (v : View). v) (λ s. refl) old new h ∙ (λ j. record old.view { packets = record old.view.packets { owed = owed j } })
paid by (Some n) old new owed h =
    h.5 ∙ (ap (λ (xs : List Step). (steps_leave xs h.0).view) h.2 ∙ (ap settle_view_owed h.3 ∙ (λ j. record (settle_view_owed old.view) { settled = and_settled (owed j) old.view.settled })))

resets_done : (by : Cause) (bands : Three Band) (slot : Option ℕ) (count : ℕ) (old new : Known) → old.view.packets.owed ≡ option_map (λ n. (n, fate.Purged by)) slot → old.view.control.purge ≡ Some first_purge
    → old.view.holder.left ≡ Some (record { cause = by; bands = bands }) → LeadsBy (QdiscReset by slot count) old new → IsPurgeDone by (all_purged slot bands) old.view new.view × (count ≡ length (all_purged slot bands))
resets_done by bands slot count old new owed purge left (s, xs, (n_low, n_mid, n_high, counted, t), v_is, m_is, v_now, m_now, told) =
    let l : Left = record { cause = by; bands = bands } in
    let bits : Standing → List Step → Type 0 = Only (ResetMissed ∷ ResetDraining ∷ []) in let last = PfifoFastReset by 2 n_high in let third = Then last bits in
    let next = PfifoFastReset by 1 n_mid in let second = Then next third in let first = PfifoFastReset by 0 n_low in
    let a = apart (ResetSlot by slot) (Then first second) old new (s, xs, t, v_is, m_is, v_now, m_now, told) in let b = apart first second a.0 new a.2 in let c = apart next third b.0 new b.2 in let d = apart last bits c.0 new c.2 in
    let e = paid by slot old a.0 owed a.1 in
    let low = came_by (IsEmptied 0 n_low) (λ z. PurgeBand 0 by z n_low) a.0 b.0 b.1 first_purge l (ap (λ (x : View). x.control.purge) e ∙ purge) (ap (λ (x : View). x.holder.left) e ∙ left) in
    let mid = came_by (IsEmptied 1 n_mid) (λ z. PurgeBand 1 by z n_mid) b.0 c.0 c.1 purge1 (left1 l) (ap (λ (x : View). x.control.purge) low.0.is) (ap (λ (x : View). x.holder.left) low.0.is) in
    let high = came_by (IsEmptied 2 n_high) (λ z. PurgeBand 2 by z n_high) c.0 d.0 d.1 purge2 (left2 l) (ap (λ (x : View). x.control.purge) mid.0.is) (ap (λ (x : View). x.holder.left) mid.0.is) in
    let n = count_all slot l in let n1 = low.1 in let n2 = mid.1 in let n3 = high.1 in (
      emptied by slot l old.view a.0.view b.0.view c.0.view d.0.view (reset_missed_view d.0.view) new.view refl e low.0 mid.0 high.0 refl
          (only_leaves (ResetMissed ∷ ResetDraining ∷ []) (λ (v : View). reset_draining_view (reset_missed_view v)) (λ z. refl) d.0 new d.2),
      omega arith,
    )

-- by an event: the bands are those that the seat was told of as the purge began
record IsAllPurged (event count : ℕ) (v w : View) : Type 0 where
  pub bands : Three Band
  pub knows : AreKnown v bands
  pub is : IsPurged (cause.Event event) (all_purged v.holder.slot bands) v w
  pub counted : count ≡ length (all_purged v.holder.slot bands)

resets_all : (event count : ℕ) (old new : Known) → old.view.packets.owed ≡ None → LeadsBy (DevResetQueue (BeginPurge event) (cause.Event event) count) old new → IsAllPurged event count old.view new.view
resets_all event count old new none_owed (s, xs, (bands, state, t), v_is, m_is, v_now, m_now, tells) =
    let by : Cause = cause.Event event in let begin : List Step = BeginPurge event bands state ∷ [] in
    let a = apart (Only begin) (QdiscReset by s.view.holder.slot count) old new (s, xs, t, v_is, m_is, v_now, m_now, tells) in
    let same : s.view.holder.slot ≡ old.view.holder.slot = ap (λ (v : View). v.holder.slot) v_is in
    let begun = only_leaves begin (begin_purge_view by bands) (λ z. refl) old a.0 a.1 in
    let rest = subst (λ (o : Option ℕ). LeadsBy (QdiscReset by o count) a.0 new) same a.2 in
    let done = resets_done by bands old.view.holder.slot count a.0 new (ap (λ (v : View). v.packets.owed) begun) (ap (λ (v : View). v.control.purge) begun) (ap (λ (v : View). v.holder.left) begun) rest in record {
      bands = bands;
      knows = let told = subst (λ (ys : List Step). steps_tell ys a.1.0) a.1.2 a.1.7 in subst (λ (v : View). AreKnown v bands) a.1.3 told.0.3;
      is = purged_of by bands (all_purged old.view.holder.slot bands) old.view a.0.view new.view none_owed begun done.0;
      counted = done.1;
    }

-- DEACTIVATIONS

-- more came, and no fate but those that soft interrupts store
leaves_more : (more events : List Event) (event count : ℕ) (v w x : View) → LeavesPurged events event count v w → IsKeptByControl w x → x.trail ≡ more ++ w.trail → KeepsFates w x → LeavesPurged (more ++ events) event count v x
leaves_more more events event count v w x l k trail fates = record {
  kept = record { share = k.share ∙ l.kept.share; turns = k.turns ∙ l.kept.turns; first = k.first ∙ l.kept.first; told = k.told ∙ l.kept.told };
  trail = trail ∙ (ap (λ (es : List Event). more ++ es) l.trail ∙ sym (append_assoc more events v.trail));
  lost = l.lost;
  stores = (fates.0 ++ l.stores.0, fates.1 ∙ (ap (λ (fs : List (ℕ × Fate)). fates.0 ++ fs) l.stores.1 ∙ sym (append_assoc fates.0 l.stores.0 (fates_onto (fate.Purged (cause.Event event)) l.lost v.settled))));
  counted = l.counted;
  all = l.all;
}

account_calm : (v w : View) → IsCalmly v w → account_of w ≡ account_of v
account_calm v w c = λ j. account (c.share j).about (c.state j)

all_held : (slot : Option ℕ) (bands : Three Band) (a : Account) → slot ≡ a.slot → ((b : ℕ) → b < 3 → at b bands ≡ a.bands b) → all_purged slot bands ≡ held a
all_held slot bands a same each = λ j. option_to_list (same j) ++ (held_of (each 0 (omega arith) j) ++ (held_of (each 1 (omega arith) j) ++ held_of (each 2 (omega arith) j)))

module _ (event count : ℕ) (old new : Known) (bare : old.view.packets ≡ no_packets) (d : LeadsBy (Deactivate event count) old new) where
  abbrev ends : Standing → List Step → Type 0
  ends = Only (MoveStation ∷ Unlock ∷ [])

  abbrev resets : Standing → List Step → Type 0
  resets = DevResetQueue (BeginPurge event) (cause.Event event) count

  -- DEACTIVATED is set, no call is inside, the lock is got, and the purge is done
  set : (mid : Known) × LeadsBy (Finding (SetDeactivated event)) old mid × LeadsBy (Then (λ s. Wait LookInside true) (Then (λ s. TakeLock) (Then resets ends))) mid new
  set = apart (Finding (SetDeactivated event)) (Then (λ s. Wait LookInside true) (Then (λ s. TakeLock) (Then resets ends))) old new d

  quiet : (mid : Known) × LeadsBy (λ s. Wait LookInside true) set.0 mid × LeadsBy (Then (λ s. TakeLock) (Then resets ends)) mid new
  quiet = apart (λ s. Wait LookInside true) (Then (λ s. TakeLock) (Then resets ends)) set.0 new set.2

  locked : (mid : Known) × LeadsBy (λ s. TakeLock) quiet.0 mid × LeadsBy (Then resets ends) mid new
  locked = apart (λ s. TakeLock) (Then resets ends) quiet.0 new quiet.2

  purged : (mid : Known) × LeadsBy resets locked.0 mid × LeadsBy ends mid new
  purged = apart resets ends locked.0 new locked.2

  abbrev begun : View
  begun = set_deactivated_view event old.view

  set_is : set.0.view ≡ begun
  set_is = found_leaves (SetDeactivated event) (set_deactivated_view event) (λ was s. refl) old set.0 set.1

  waited : IsCalmly begun quiet.0.view
  waited = subst (λ (v : View). IsCalmly v quiet.0.view) set_is (waits_calm set.0 quiet.0 quiet.1)

  taken : IsCalmly begun locked.0.view
  taken = calm_then begun quiet.0.view locked.0.view waited (takes_calm quiet.0 locked.0 locked.1)

  all : IsAllPurged event count locked.0.view purged.0.view
  all = resets_all event count locked.0 purged.0 (ap (λ (p : PacketPart). p.owed) (taken.packets ∙ bare)) purged.1

  abbrev lost : List ℕ
  lost = all_purged locked.0.view.holder.slot all.bands

  over : IsCalmly purged.0.view new.view
  over = released_calm purged.0.view new.view (only_leaves (MoveStation ∷ Unlock ∷ []) unlock_view (λ s. refl) purged.0 new purged.2)

  is_all : IsSole old.view → lost ≡ held (account_of old.view)
  is_all sole =
      let now = account_calm begun locked.0.view taken in let known : IsAccounts locked.0.view = (takes_told quiet.0 locked.0 locked.1).1 (sole_calm begun quiet.0.view waited sole) in
      all_held locked.0.view.holder.slot all.bands (account_of begun) (ap (λ (h : HolderPart). h.slot) known ∙ ap (λ (a : Account). a.slot) now)
      (λ b below. all.knows (sole_calm begun locked.0.view taken sole) b below ∙ ap (λ (a : Account). a.bands b) now)

  pub deactivates_leaves : LeavesPurged (PurgeEvent (cause.Event event) ∷ Down event ∷ []) event count old.view new.view
  deactivates_leaves = let is = all.is.is in record {
    kept = record {
      share = over.share ∙ (ap (λ (x : View). x.share) is ∙ taken.share);
      turns = over.turns ∙ (ap (λ (x : View). x.turns) is ∙ taken.turns);
      first = over.first ∙ (ap (λ (x : View). x.control.first) is ∙ taken.first);
      told = over.told ∙ (ap (λ (x : View). x.whole.told) is ∙ (all.is.told ∙ taken.told));
    };
    trail = over.trail ∙ (ap (λ (x : View). x.trail) is ∙ ap (λ (es : List Event). PurgeEvent (cause.Event event) ∷ es) taken.trail);
    lost = lost;
    stores = ([], over.settled ∙ (ap (λ (x : View). x.settled) is ∙ ap (λ (fs : List (ℕ × Fate)). fates_onto (fate.Purged (cause.Event event)) lost fs) taken.settled));
    counted = all.counted;
    all = is_all;
  }

  pub deactivates_device : KeepsDevice old.view new.view
  deactivates_device = let is = all.is.is in record {
    origin = over.origin ∙ (ap (λ (x : View). x.control.origin) is ∙ taken.origin);
    gone = over.gone ∙ (ap (λ (x : View). x.control.gone) is ∙ taken.gone);
  }

whole_leaves : (k : Setup) (event count : ℕ) (old new : Known) → old.view.packets ≡ no_packets → LeadsBy (DevDeactivateMany k event count) old new → LeavesPurged (PurgeEvent (cause.Event event) ∷ Down event ∷ []) event count old.view new.view × KeepsDevice old.view new.view
whole_leaves k event count old new bare h =
    let d = apart (Deactivate event count) (λ s. WaitUntilClear k s true) old new h in let free : Known = d.0 in
    let s = waits_served k free new d.2 in let v = deactivates_device event count old free bare d.1 in (
      leaves_more [] (PurgeEvent (cause.Event event) ∷ Down event ∷ []) event count old.view free.view new.view (deactivates_leaves event count old free bare d.1) s.kept s.trail s.fates,
      record { origin = ap (λ (c : FirstPart). c.origin) s.control ∙ v.origin; gone = ap (λ (c : FirstPart). c.gone) s.control ∙ v.gone },
    )

-- DEACTIVATED is cleared, and the call ends
reactivated_is : (old new : Known) → LeadsBy Reactivate old new → new.view ≡ end_control_view (clear_deactivated_view old.view)
reactivated_is old new h =
    let a = apart (Only (ClearDeactivated ∷ [])) (Finding EndControl) old new h in
    found_leaves EndControl end_control_view (λ found s. refl) a.0 new a.2 ∙ ap end_control_view (only_leaves (ClearDeactivated ∷ []) clear_deactivated_view (λ s. refl) old a.0 a.1)

-- THE CALLS

pub downs_leaves : (k : Setup) (event count : ℕ) (old new : Known) → old.view.packets ≡ no_packets → LeadsBy (DevDeactivate k event count) old new → LeavesPurged (PurgeEvent (cause.Event event) ∷ Down event ∷ []) event count old.view new.view × KeepsDevice old.view new.view
downs_leaves k event count old new bare h =
    let d = apart (DevDeactivateMany k event count) (Finding EndControl) old new h in let clear : Known = d.0 in
    let l = whole_leaves k event count old clear bare d.1 in let is = found_leaves EndControl end_control_view (λ found s. refl) clear new d.2 in (
      leaves_more [] (PurgeEvent (cause.Event event) ∷ Down event ∷ []) event count old.view clear.view new.view l.0
          (record { share = ap (λ (x : View). x.share) is; turns = ap (λ (x : View). x.turns) is; first = ap (λ (x : View). x.control.first) is; told = ap (λ (x : View). x.whole.told) is })
          (ap (λ (x : View). x.trail) is) ([], ap (λ (x : View). x.settled) is),
      record { origin = ap (λ (x : View). x.control.origin) is ∙ l.1.origin; gone = ap (λ (x : View). x.control.gone) is ∙ l.1.gone },
    )

clear_told : (answer : Bool) (xs : List Step) → answer ≡ true → LookClear answer xs → (s : Standing) → steps_tell xs s → IsSole s.view → s.view.whole.qdisc.sched ≡ false
clear_told answer xs is (LockHeld some) s t sole = absurd (false≢true is)
clear_told answer xs is (Scheduled set) s t sole = absurd (false≢true is)
clear_told answer xs is (Clear clear) s t sole = let tells = t.1.0 in sym (tells.1 sole).scheduled ∙ clear

look_owes : (k : Setup) (answer : Bool) (s : Standing) (xs : List Step) → answer ≡ true → ServeOrLook k s answer xs → steps_tell xs s → OwesNoInterrupt (steps_leave xs s).view
look_owes k answer s xs is (Serves found raised one) t = absurd (false≢true is)
look_owes k answer s xs is (Looks low looks) t =
    let same = looks.came in
    (ap (λ (v : View). v.place.raised) same ∙ low, λ sole. ap (λ (v : View). v.whole.qdisc.sched) same ∙ clear_told answer xs is looks.by s t (subst IsSole same sole))

clears_owe : (k : Setup) (answer : Bool) (s : Standing) (xs : List Step) → answer ≡ true → WaitUntilClear k s answer xs → steps_tell xs s → OwesNoInterrupt (steps_leave xs s).view
clears_owe k answer s xs is NotClear t = absurd (false≢true is)
clears_owe k got s zs is (OnceMore {answer} {xs} {ys} w l) t =
    subst (λ (z : Standing). OwesNoInterrupt z.view) (sym (leave_then xs ys s)) (look_owes k answer (steps_leave xs s) ys is l (tell_last xs ys s t))

-- the seat isn't raised after it, and one that has the table alone found SCHED clear
pub downs_clear : (k : Setup) (event count : ℕ) (old new : Known) → LeadsBy (DevDeactivate k event count) old new → OwesNoInterrupt new.view
downs_clear k event count old new h =
    let d = apart (DevDeactivateMany k event count) (Finding EndControl) old new h in let w = (apart (Deactivate event count) (λ s. WaitUntilClear k s true) old d.0 d.1).2 in
    let owes = subst OwesNoInterrupt (sym w.5) (clears_owe k true w.0 w.1 refl w.2 w.7) in let is = found_leaves EndControl end_control_view (λ found s. refl) d.0 new d.2 in
    (ap (λ (x : View). x.place.raised) is ∙ owes.0, λ sole. ap (λ (x : View). x.whole.qdisc.sched) is ∙ owes.1 (subst IsSole is sole))

-- a length is changed

end_calm : {xs : List Step} → End xs → (s : Standing) → IsCalmly s.view (steps_leave xs s).view
end_calm (NoneMissed {state} clear) s =
    let u : View = unlock_view s.view in
    let look : IsCalmly u (load_state_view state u) = record { share = refl; packets = refl; turns = refl; first = refl; origin = refl; gone = refl; told = refl; state = refl; settled = refl; trail = refl } in
    calm_then s.view u _ (released_calm s.view u refl) look
end_calm (Schedules {state} {was} is) s =
    let u : View = unlock_view s.view in let l : View = load_state_view state u in
    let look : IsCalmly u (set_sched_view was l) = record { share = refl; packets = refl; turns = refl; first = refl; origin = refl; gone = refl; told = refl; state = refl; settled = refl; trail = refl } in
    calm_then s.view u _ (released_calm s.view u refl) look

module _ (len event count : ℕ) (old new : Known) (h : LeadsBy (ResizeRings len event count) old new) where
  abbrev rings : ℕ → List ℕ
  rings = h.2.0

  rings_came : (new.view ≡ having_resized len event (all_lost len rings) old.view) × IsKnownHeld old.view rings
  rings_came = (
    led (λ v w. w ≡ having_resized len event (all_lost len rings) v) (ResizeRings len event count) old new h h.2.2.came,
    subst (λ (v : View). IsKnownHeld v rings) h.3 (resize_told len event rings h.1 h.2.2.by h.0 h.7).1,
  )

pub resizes_shrinks : (event len count : ℕ) (old new : Known) → LeadsBy (ResizeLive event len count) old new → Shrinks len event count old.view new.view
resizes_shrinks event len count old new h =
    let lock : Standing → List Step → Type 0 = λ s. TakeLock in let turn = ResizeRings len event count in let ends : Standing → List Step → Type 0 = λ s. End in
    let one = apart (Finding BeginControl) (Then lock (Then turn ends)) old new h in let two = apart lock (Then turn ends) one.0 new one.2 in let three = apart turn ends two.0 new two.2 in
    let begun : View = begin_control_view old.view in let taken_at : Known = two.0 in let resized : Known = three.0 in
    let begun_is = found_leaves BeginControl begin_control_view (λ found s. refl) old one.0 one.1 in
    let a : IsCalmly begun taken_at.view = subst (λ (v : View). IsCalmly v taken_at.view) begun_is (takes_calm one.0 taken_at two.1) in
    let lost = rings len event count taken_at resized three.1 in let r = rings_came len event count taken_at resized three.1 in
    let e = three.2 in let z = led IsCalmly ends resized new e (end_calm e.2 e.0) in
    let band = λ (sole : IsSole old.view) (b : ℕ) (below : b < 3). r.1.1 (sole_calm begun taken_at.view a sole) b below ∙ ap (λ (x : Account). held_in x b) (account_calm begun taken_at.view a) in record {
      kept = record {
        share = z.share ∙ (ap (λ (x : View). x.share) r.0 ∙ a.share);
        turns = z.turns ∙ (ap (λ (x : View). x.turns) r.0 ∙ a.turns);
        first = z.first ∙ (ap (λ (x : View). x.control.first) r.0 ∙ a.first);
        told = z.told ∙ (ap (λ (x : View). x.whole.told) r.0 ∙ a.told);
      };
      device = record {
        origin = z.origin ∙ (ap (λ (x : View). x.control.origin) r.0 ∙ a.origin);
        gone = z.gone ∙ (ap (λ (x : View). x.control.gone) r.0 ∙ a.gone);
      };
      trail = z.trail ∙ (ap (λ (x : View). x.trail) r.0 ∙ ap (λ (es : List Event). Resize len event ∷ es) a.trail);
      lost = all_lost len lost;
      settled = z.settled ∙ (ap (λ (x : View). x.settled) r.0 ∙ ap (λ (fs : List (ℕ × Fate)). fates_onto (fate.Shrunk event) (all_lost len lost) fs) a.settled);
      counted = three.1.2.1;
      all = λ sole. (λ j. drop len (band sole 0 (omega arith) j) ++ (drop len (band sole 1 (omega arith) j) ++ drop len (band sole 2 (omega arith) j)));
    }

no_element : (xs : List ℕ) → 0 ≡ length xs → xs ≡ []
no_element [] none = refl
no_element (x ∷ xs) none = absurd (omega arith)

pub changes_leaves : (k : Setup) (event len count : ℕ) (old new : Known) → old.view.packets ≡ no_packets → LeadsBy (ChangeTxQueueLen k event len count) old new
    → LeavesPurged (Up ∷ Resize len event ∷ PurgeEvent (cause.Event event) ∷ Down event ∷ []) event count old.view new.view × KeepsDevice old.view new.view
changes_leaves k event len count old new bare h =
    let lock : Standing → List Step → Type 0 = λ s. TakeLock in let turn = ResizeRings len event 0 in let free = Only (MoveStation ∷ Unlock ∷ []) in
    let one = apart (DevDeactivateMany k event count) (Then (Relength event len) Reactivate) old new h in let two = apart (Relength event len) Reactivate one.0 new one.2 in
    let three = apart lock (Then turn free) one.0 two.0 two.1 in let four = apart turn free three.0 two.0 three.2 in
    let clear : Known = one.0 in let changed : Known = two.0 in let taken_at : Known = three.0 in let resized : Known = four.0 in
    let r = rings_came len event 0 taken_at resized four.1 in let lost = rings len event 0 taken_at resized four.1 in
    let l = whole_leaves k event count old clear bare one.1 in let a = takes_calm clear taken_at three.1 in
    let z = released_calm resized.view changed.view (only_leaves (MoveStation ∷ Unlock ∷ []) unlock_view (λ s. refl) resized changed four.2) in let is = reactivated_is changed new two.2 in
    let none : fates_onto (fate.Shrunk event) (all_lost len lost) taken_at.view.settled ≡ taken_at.view.settled = ap (λ (xs : List ℕ). fates_onto (fate.Shrunk event) xs taken_at.view.settled) (no_element (all_lost len lost) four.1.2.1) in (
      leaves_more (Up ∷ Resize len event ∷ []) (PurgeEvent (cause.Event event) ∷ Down event ∷ []) event count old.view clear.view new.view l.0
          (record {
            share = ap (λ (x : View). x.share) is ∙ (z.share ∙ (ap (λ (x : View). x.share) r.0 ∙ a.share));
            turns = ap (λ (x : View). x.turns) is ∙ (z.turns ∙ (ap (λ (x : View). x.turns) r.0 ∙ a.turns));
            first = ap (λ (x : View). x.control.first) is ∙ (z.first ∙ (ap (λ (x : View). x.control.first) r.0 ∙ a.first));
            told = ap (λ (x : View). x.whole.told) is ∙ (z.told ∙ (ap (λ (x : View). x.whole.told) r.0 ∙ a.told));
          })
          (ap (λ (x : View). x.trail) is ∙ ap (λ (es : List Event). Up ∷ es) (z.trail ∙ (ap (λ (x : View). x.trail) r.0 ∙ ap (λ (es : List Event). Resize len event ∷ es) a.trail)))
          ([], ap (λ (x : View). x.settled) is ∙ (z.settled ∙ (ap (λ (x : View). x.settled) r.0 ∙ (none ∙ a.settled)))),
      record {
        origin = ap (λ (x : View). x.control.origin) is ∙ (z.origin ∙ (ap (λ (x : View). x.control.origin) r.0 ∙ (a.origin ∙ l.1.origin)));
        gone = ap (λ (x : View). x.control.gone) is ∙ (z.gone ∙ (ap (λ (x : View). x.control.gone) r.0 ∙ (a.gone ∙ l.1.gone)));
      },
    )

-- the device is swapped

opened_part : {X : Type 0} (part : View → X) → ((n : ℕ) (v : View) → part (open_xoff_view n v) ≡ part v) → (more : ℕ) (s : Standing) → part (steps_leave (open_steps more) s).view ≡ part s.view
opened_part part kept zero s = refl
opened_part part kept (suc more) s =
    ap (λ (z : Standing). part z.view) (leave_then (open_steps more) (OpenXoff (suc more) ∷ []) s) ∙ (kept (suc more) (steps_leave (open_steps more) s).view ∙ opened_part part kept more s)

module _ (k : Setup) (unit : ℕ) (came went : DeviceState) (old new : Known) (x : LeadsBy (ChangeDevice k unit came went) old new) where
  abbrev swapping : Standing → List Step → Type 0
  swapping = λ before xs. (went ≡ before.view.holder.station.device)
      × (xs ≡ SetStation (with_device (shown before.view.holder) unit came) ∷ SwapDevice ∷ open_steps (k.queues - 1) ++ MoveStation ∷ Unlock ∷ [])

  locks : (mid : Known) × LeadsBy (λ s. TakeLock) old mid × LeadsBy swapping mid new
  locks = apart (λ s. TakeLock) swapping old new x

  abbrev got : Known
  got = locks.0

  abbrev from : Standing
  from = locks.2.0

  abbrev made : List Step
  made = locks.2.1

  listed : made ≡ SetStation (with_device (shown from.view.holder) unit came) ∷ SwapDevice ∷ open_steps (k.queues - 1) ++ MoveStation ∷ Unlock ∷ []
  listed = locks.2.2.1

  goes : went ≡ got.view.holder.station.device
  goes = locks.2.2.0 ∙ ap (λ (v : View). v.holder.station.device) locks.2.3

  abbrev more : ℕ
  more = k.queues - 1

  abbrev last : List Step
  last = MoveStation ∷ Unlock ∷ []

  -- what the seat has with the device that came
  abbrev changed : Standing
  changed = step_leaves (SetStation (with_device (shown from.view.holder) unit came)) from

  abbrev placed : Standing
  placed = step_leaves SwapDevice changed

  abbrev opened : Standing
  opened = steps_leave (open_steps more) placed

  -- the lock is got, and released
  had : {X : Type 0} (part : View → X) → part got.view ≡ part old.view → part changed.view ≡ part old.view
  had part e = ap part locks.2.3 ∙ e

  calm : IsCalmly old.view got.view
  calm = takes_calm old got locks.1

  given : IsCalmly opened.view new.view
  given = released_calm opened.view new.view (locks.2.5
      ∙ (ap (λ (xs : List Step). (steps_leave xs from).view) listed ∙ ap (λ (z : Standing). z.view) (leave_then (open_steps more) last placed)))

  away : GoesAway changed.view
  away = (subst (λ (xs : List Step). steps_tell xs from) listed locks.2.7).1.0

  swap_keeps : IsKeptByControl old.view new.view
  swap_keeps = record {
    share = given.share ∙ (opened_part (λ v. v.share) (λ n v. refl) more placed ∙ had (λ v. v.share) calm.share);
    turns = given.turns ∙ (opened_part (λ v. v.turns) (λ n v. refl) more placed ∙ had (λ v. v.turns) calm.turns);
    first = given.first ∙ (opened_part (λ v. v.control.first) (λ n v. refl) more placed ∙ had (λ v. v.control.first) calm.first);
    told = given.told ∙ (opened_part (λ v. v.whole.told) (λ n v. refl) more placed ∙ had (λ v. v.whole.told) calm.told);
  }

  swap_trail : new.view.trail ≡ Swap unit ∷ old.view.trail
  swap_trail = given.trail ∙ (opened_part (λ v. v.trail) (λ n v. refl) more placed
      ∙ ap (λ (es : List Event). Swap unit ∷ es) (had (λ v. v.trail) calm.trail))

  swap_settled : new.view.settled ≡ old.view.settled
  swap_settled = given.settled ∙ (opened_part (λ v. v.settled) (λ n v. refl) more placed ∙ had (λ v. v.settled) calm.settled)

  swap_came : new.view.control.origin ≡ came
  swap_came = given.origin ∙ opened_part (λ v. v.control.origin) (λ n v. refl) more placed

  -- as it was when the lock was got
  holder : changed.view.holder ≡ got.view.holder
  holder = ap (λ (v : View). v.holder) locks.2.3

  swap_gone : old.view.control.first ≡ true → new.view.control.gone ≡ (latest_unit old.view.share.about.station (units_of old.view.trail), went.accepted) ∷ old.view.control.gone
  swap_gone first = given.gone ∙ (opened_part (λ v. v.control.gone) (λ n v. refl) more placed
      ∙ (λ j. (
        (away.1 ∙ (λ i. latest_unit (had (λ v. v.share) calm.share i).about.station ((ap (λ (h : HolderPart). h.units) holder ∙ (takes_told old got locks.1).0 first) i))) j,
        ((ap (λ (h : HolderPart). h.station.device) holder ∙ sym goes) j).accepted,
      ) ∷ had (λ v. v.control.gone) calm.gone j))

  swap_served : HasServed old.view.share.about.infos old.view.share.about.station old.view.control.origin went
  swap_served = subst (λ (z : SharePart × DeviceState × DeviceState). HasServed z.0.about.infos z.0.about.station z.1 z.2)
      (λ j. (had (λ v. v.share) calm.share j, had (λ v. v.control.origin) calm.origin j, (ap (λ (h : HolderPart). h.station.device) holder ∙ sym goes) j)) away.0

-- a swap, after the deactivation and before the activation
record SwapParts (k : Setup) (event unit : ℕ) (came went : DeviceState) (old new : Known) : Type 0 where
  pub count : ℕ
  pub clear : Known
  pub changed : Known
  pub whole : LeadsBy (DevDeactivateMany k event count) old clear
  pub swaps : LeadsBy (ChangeDevice k unit came went) clear changed
  pub is : new.view ≡ end_control_view (clear_deactivated_view changed.view)

swap_parts : (k : Setup) (event unit : ℕ) (came went : DeviceState) (old new : Known) → LeadsBy (SwapAt k event unit came went) old new → SwapParts k event unit came went old new
swap_parts k event unit came went old new (s, xs, (count, t), v_is, m_is, v_now, m_now, told) =
    let change = ChangeDevice k unit came went in let one = apart (DevDeactivateMany k event count) (Then change Reactivate) old new (s, xs, t, v_is, m_is, v_now, m_now, told) in let two = apart change Reactivate one.0 new one.2 in
    record { count = count; clear = one.0; changed = two.0; whole = one.1; swaps = two.1; is = reactivated_is two.0 new two.2 }

pub swaps_leaves : (k : Setup) (event unit : ℕ) (came went : DeviceState) (old new : Known) → old.view.packets ≡ no_packets → LeadsBy (SwapAt k event unit came went) old new
    → (count : ℕ) × LeavesPurged (Up ∷ Swap unit ∷ PurgeEvent (cause.Event event) ∷ Down event ∷ []) event count old.view new.view
swaps_leaves k event unit came went old new bare h =
    let p = swap_parts k event unit came went old new h in let clear : Known = p.clear in let changed : Known = p.changed in let x = p.swaps in let count : ℕ = p.count in
    let l = whole_leaves k event count old clear bare p.whole in let is = p.is in let kept = swap_keeps k unit came went clear changed x in (
      count,
      leaves_more (Up ∷ Swap unit ∷ []) (PurgeEvent (cause.Event event) ∷ Down event ∷ []) event count old.view clear.view new.view l.0
          (record {
            share = ap (λ (y : View). y.share) is ∙ kept.share;
            turns = ap (λ (y : View). y.turns) is ∙ kept.turns;
            first = ap (λ (y : View). y.control.first) is ∙ kept.first;
            told = ap (λ (y : View). y.whole.told) is ∙ kept.told;
          })
          (ap (λ (y : View). y.trail) is ∙ ap (λ (es : List Event). Up ∷ es) (swap_trail k unit came went clear changed x))
          ([], ap (λ (y : View). y.settled) is ∙ swap_settled k unit came went clear changed x),
    )

pub swaps_devices : (k : Setup) (event unit : ℕ) (came went : DeviceState) (old new : Known) → old.view.packets ≡ no_packets → old.view.control.first ≡ true → LeadsBy (SwapAt k event unit came went) old new → SwapsFor came went old.view new.view
swaps_devices k event unit came went old new bare first h =
    let p = swap_parts k event unit came went old new h in let clear : Known = p.clear in let changed : Known = p.changed in let x = p.swaps in
    let l = whole_leaves k event p.count old clear bare p.whole in let is = p.is in let units : units_of clear.view.trail ≡ units_of old.view.trail = ap units_of l.0.trail in record {
      origin = ap (λ (y : View). y.control.origin) is ∙ swap_came k unit came went clear changed x;
      gone = ap (λ (y : View). y.control.gone) is ∙ (swap_gone k unit came went clear changed x (l.0.kept.first ∙ first)
          ∙ (λ j. (latest_unit (l.0.kept.share j).about.station (units j), went.accepted) ∷ l.1.gone j));
      has_served = subst (λ (z : SharePart × DeviceState). HasServed z.0.about.infos z.0.about.station z.1 went) (λ j. (l.0.kept.share j, l.1.origin j)) (swap_served k unit came went clear changed x);
    }
