-- What the lists of the calls leave of a seat, and what they tell of it.
use Rattle.std.proofs.Common.{◌≡◌, ◌≢◌, Bool, true, false, Option, Some, slice_get, ne_eqb, arith, ℕ, ◌+◌, ◌-◌, List, [], ◌∷◌, Result, refl, sym, ap, ◌∙◌, ◌++◌, subst}
use Rattle.std.specs.Prelude.{MatchResult, Ok, Err, if◌then◌else◌}
use Rattle.lq_model.specs.declared.fate.Fate.TheVariants as fate
use Rattle.lq_ring_core.specs.declared.ring.Full.{Full}
use Rattle.lq_band_laws.specs.Ring.{Ends, IsAtRest, locked_at, taken_on, Lock}
use Rattle.lq_band_laws.specs.Three.{Three, at, put}
use Rattle.lq_table.specs.Fates.{settle_view_owed}
use Rattle.lq_table.specs.Producers.{SeesEnd, with_lock_at, load_size_view}
use Rattle.lq_table.specs.Step.{PurgeSlot, Settle, Standing, Step, purge_left, purge_of, step_leaves, steps_leave, steps_tell, LoadProducer, LoadSize, SetEnds, TakeProducer}
use Rattle.lq_table.specs.Views.{Left, no_left, View}
use Rattle.lq_ring.specs.Put.{dropping_full, putting}
use Rattle.lq_ring.specs.Resized.{HoldOwnPackets, IsKnownHeld}
use Rattle.lq_ring.specs.StepLists.{FindsNone, PurgeOne, PurgesNext, DroppedFull, Joined, ProduceLocked, TurnAll, TurnsThree, discard_steps, Gets, LockAll, LockProducer, LocksThree, Loses, ResizeAll, ResizesThree, Waits, unlock_steps}
use Rattle.lq_ring.proofs.TakeSteps.{taken_batch, takes_end}
use Rattle.lq_ring.proofs.ZeroSteps.{discard_leaves}
use Rattle.std.specs.Option.{unwrap_or}
use Rattle.lq_model.specs.Machine.{Purge}
use Rattle.lq_ring.proofs.PurgeSteps.{purging_one}
use Rattle.lq_model.specs.Band.{held_of}
use Rattle.lq_model.specs.declared.fate.Cause.{Cause}
use Rattle.lq_band_laws.proofs.Three.{at_put_same}
use Rattle.lq_table.specs.Purges.{first_purge, purge_slot_view, purge_slot_view_empty}
use Rattle.lq_table.proofs.StepsThen.{leave_then, tell_first, tell_last}

-- A PUT

pub put_keeps : {band index n : ℕ} (answer : Result (Unit {0}) Full) (rest : List Step) → ProduceLocked band index n answer rest → (s : Standing) → ((steps_leave rest s).station ≡ s.station) × ((steps_leave rest s).slot ≡ s.slot)
put_keeps _ _ (Joined {size}) s = (refl, refl)
put_keeps _ _ (DroppedFull {size} {full}) s = (refl, refl)

pub put_told : {band index n : ℕ} (answer : Result (Unit {0}) Full) (rest : List Step) → ProduceLocked band index n answer rest → (s : Standing) → steps_tell rest s
    → MatchResult answer (λ _. SeesEnd band s.view 0) (λ full. SeesEnd band s.view (full.seen + 1))
put_told _ _ (Joined {size}) s t = t.1.0.1
put_told _ _ (DroppedFull {size} {full}) s t = t.1.0.1

-- what the seat knows after a put, before which it has got the lock
pub put_knows : (answer : Result (Unit {0}) Full) (b n i : ℕ) (v m w : View) → m ≡ with_lock_at b (locked_at i) v → MatchResult answer (λ _. w ≡ putting b n m) (λ full. w ≡ dropping_full n full.seen m)
    → MatchResult answer (λ _. w ≡ putting b n v) (λ full. w ≡ dropping_full n full.seen v)
put_knows (Ok x) b n i v m w l e = e ∙ ap (putting b n) l
put_knows (Err full) b n i v m w l e = e ∙ ap (dropping_full n full.seen) l

-- A BAND IS TURNED

-- what it found of the bands
all_told : (len event : ℕ) (held : ℕ → List ℕ) (low mid high : ℕ) (xs : List Step) → TurnAll len event held low mid high xs → (s : Standing) → steps_tell xs s → HoldOwnPackets s.view.share.about.infos held × IsKnownHeld s.view held
all_told len event held low mid high _ (TurnsThree {slots} {begun} {one} {two} {three} a b c) s t = (t.0.1, (t.0.2, t.0.3))

-- the wait for a producer lock
pub lock_leaves : {band index : ℕ} {xs : List Step} → LockProducer band index xs → (s : Standing) → (steps_leave xs s).view ≡ with_lock_at band (locked_at index) s.view
lock_leaves {band} (Waits {seen} odd h) s = lock_leaves h (step_leaves (LoadProducer band seen) s)
lock_leaves {band} (Loses {seen} even h) s = lock_leaves h (step_leaves (TakeProducer band seen false) (step_leaves (LoadProducer band seen) s))
lock_leaves {band} (Gets even is) s = ap (λ (i : ℕ). with_lock_at band (locked_at i) s.view) (sym is)

all_locked : (xs : List Step) → LockAll xs → (s : Standing) → (locks : Three Lock) × ((steps_leave xs s).view ≡ record s.view { locks = locks })
all_locked _ (LocksThree {low} {mid} {high} {one} {two} {three} a b c) s =
    let s1 = steps_leave one s in let s2 = steps_leave two s1 in (
      put 2 (locked_at high) (put 1 (locked_at mid) (put 0 (locked_at low) s.view.locks)),
      ap (λ (x : Standing). x.view) (leave_then (one ++ two) three s ∙ ap (steps_leave three) (leave_then one two s))
          ∙ (lock_leaves c s2
          ∙ ap (with_lock_at 2 (locked_at high)) (lock_leaves b s1 ∙ ap (with_lock_at 1 (locked_at mid)) (lock_leaves a s))),
    )

-- What the bands held is of the capture, and nothing where the station is deactivated and purged; a seat that has the table alone finds what
-- its account says.
pub resize_told : (len event : ℕ) (held : ℕ → List ℕ) (xs : List Step) → ResizeAll len event held xs → (s : Standing) → steps_tell xs s → HoldOwnPackets s.view.share.about.infos held × IsKnownHeld s.view held
resize_told len event held _ (ResizesThree {low} {mid} {high} {locked} {turned} size stored locks turns) s t =
    let all = all_locked locked locks s in let s1 = steps_leave locked s in let s2 = step_leaves (LoadSize size) s1 in
    let until : List Step = locked ++ LoadSize size ∷ turned in let unlocked = unlock_steps stored low mid high in
    let after = tell_last locked (LoadSize size ∷ turned) s (tell_first until unlocked s (tell_first (until ++ unlocked) (SetEnds 0 0 0 ∷ SetEnds 1 0 0 ∷ SetEnds 2 0 0 ∷ []) s t)) in
    subst (λ (x : View). HoldOwnPackets x.share.about.infos held × IsKnownHeld x held) (ap (load_size_view size) all.1) (all_told len event held low mid high turned turns s2 after.1)

-- A PURGE

-- The first packet that the band held is purged, and the slots that were taken are emptied as after a take.
pub purge_leaves : (band size : ℕ) (cause : Cause) (s : Standing) (l : Left) (xs : List Step) → PurgeOne band size cause s true xs → steps_tell xs s → s.view.holder.left ≡ Some l
    → IsAtRest size (at band s.view.holder.ends) → s.view.holder.size ≡ size → (n : ℕ) × (slice_get (held_of (at band l.bands)) 0 ≡ Some n) × ((steps_leave xs s).view ≡ purging_one band n l s.view)
purge_leaves band size cause s l _ (PurgesNext {n}) t left rest same =
    let own : Ends = at band s.view.holder.ends in let some_ : n + 1 ≢ 0 = λ e. (let q : n + 1 ≡ 0 = e in absurd (omega arith)) in let back : n + 1 - 1 ≡ n = omega arith in
    let y : View = purge_slot_view band n l s.view in
    let looked : (step_leaves (PurgeSlot band (n + 1)) s).view ≡ y =
    ap (λ (x : Bool). if x then purge_slot_view_empty (purge_of s.view) s.view else purge_slot_view band (n + 1 - 1) (purge_left s.view) s.view) (ne_eqb (n + 1) 0 some_)
    ∙ (λ j. purge_slot_view band (back j) (unwrap_or (left j) no_left) s.view) in
    let two : Standing = step_leaves (Settle n (fate.Purged cause)) (step_leaves (PurgeSlot band (n + 1)) s) in
    let took : two.view ≡ settle_view_owed y = ap settle_view_owed looked in
    let ends : at band two.view.holder.ends ≡ taken_on own = ap (λ (x : View). at band x.holder.ends) took ∙ at_put_same band (taken_on own) s.view.holder.ends in
    let batch = taken_batch size size own (taken_on own) refl rest refl in
    let leaves = discard_leaves band size (taken_on own) two ends (ap (λ (x : View). x.holder.size) took ∙ same) batch.0 batch.1 in (
      n,
      sym (ap (λ (o : Option Left). slice_get (held_of (at band (unwrap_or o no_left).bands)) 0) left) ∙ (t.0.2 some_ ∙ ap (λ (m : ℕ). Some m) back),
      takes_end band size s.view.holder.size own (at band s.view.whole.state.ends) (settle_view_owed y) two.view (steps_leave (discard_steps band size (taken_on own)) two).view (sym same) took
          (at_put_same band _ s.view.holder.ends) (at_put_same band _ s.view.whole.state.ends) (ap (λ (x : Standing). x.view) leaves),
    )

-- Where the band holds none the slot at the head is loaded as 0, and the purge goes on with the next band.
pub pass_leaves : (band size : ℕ) (cause : Cause) (s : Standing) (u : Purge) (l : Left) (xs : List Step) → PurgeOne band size cause s false xs → steps_tell xs s → s.view.control.purge ≡ Some u → s.view.holder.left ≡ Some l
    → (held_of (at band l.bands) ≡ []) × ((steps_leave xs s).view ≡ purge_slot_view_empty u s.view)
pass_leaves band size cause s u l _ FindsNone t purge left = (
  sym (ap (λ (o : Option Left). held_of (at band (unwrap_or o no_left).bands)) left) ∙ t.0.1 refl,
  ap (λ (o : Option Purge). purge_slot_view_empty (unwrap_or o first_purge) s.view) purge,
)

pub passes : (band size : ℕ) (cause : Cause) (s : Standing) (xs : List Step) → PurgeOne band size cause s false xs → xs ≡ PurgeSlot band 0 ∷ []
passes band size cause s _ FindsNone = refl
