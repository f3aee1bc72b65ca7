-- What a look at the words tells, and what the purge of a hung station leaves.
use Rattle.std.proofs.Common.{◌≡◌, inl, inr, ⊎_elim, ℕ, ◌+◌, ◌*◌, ◌<◌, ◌≤◌, Bool, true, false, true≢false, List, [], ◌++◌, length, Option, Some, None, refl, sym, ap, ◌∙◌, subst, arith, slice_index, slice_get}
use Rattle.std.specs.Prelude.{is_some, if◌then◌else◌}
use Rattle.std.specs.Option.{option_map_or, option_to_list}
use Rattle.std.proofs.lemmas.Option.{slice_get_cases}
use Rattle.lq_account_laws.proofs.Lists.{none-in, fates-cases}
use Rattle.lq_account_laws.proofs.Purges.{purge_empties, with_fates_in}
use Rattle.lq_model.specs.Account.{Account, Purge, after, after_all, held}
use Rattle.lq_model.specs.Machine.{is_closed}
use Rattle.lq_model.specs.Plan.{owner_in, station_in, rank_in}
use Rattle.lq_model.specs.declared.fate.Cause.{Cause}
use Rattle.lq_model.specs.declared.fate.Fate.{Fate}
use Rattle.lq_model.specs.declared.fate.Fate.TheVariants as fate
use Rattle.lq_model.specs.declared.fate.Info.{Info}
use Rattle.lq_model.specs.declared.machine.Phase.TheVariants.{Active, Purged}
use Rattle.lq_model.specs.Control.{after_purge}
use Rattle.lq_table.specs.Views.{View, Setup, HolderPart, FirstPart, SharePart, State, first_account}
use Rattle.lq_table.specs.Controls.{end_control_view, begin_control_view}
use Rattle.lq_table.specs.Rule.{times}
use Rattle.lq_table.specs.AtRest.{KnowsRest}
use Rattle.lq_table.specs.States.{SeesState, set_sched_alone, load_state_view, missed_to, draining_to}
use Rattle.lq_table.specs.Moves.{is_set}
use Rattle.lq_table.specs.Locks.{try_lock_view_in_control, locked_to}
use Rattle.lq_table.specs.Sees.{view, IsElseSame, Solo, IsSole, IsAccounts, solo, account_of, heard}
use Rattle.lq_table.specs.declared.shared.Cpu.{Cpu}
use Rattle.lq_qdisc.specs.Alone.{account_in}
use Rattle.lq_qdisc.specs.Sends.{IsReadyToSend}
use Rattle.lq_qdisc.proofs.AloneSteps.{account_at}
use Rattle.lq_model.specs.declared.machine.Position.TheVariants.{Control}
use Rattle.lq_run.specs.Runs.{ended}
use Rattle.lq_model.specs.Band.{Band, held_of}
use Rattle.lq_band_laws.specs.Three.{Three}
use Rattle.lq_table.specs.Purges.{AreKnown}
use Rattle.lq_control.specs.Control.{IsIn, IsPurged, IsServed, all_purged}
use Rattle.lq_control.specs.Finish.{AreFor, AreAllDone, AreKept, AreAllStops, IsOver, Hangs, IsLook, IsActiveOrPurged, IsFinished}
use Rattle.lq_control.proofs.FinishLemmas.{not_left}

-- LOOKS

pub kept_of : (k : Setup) (v : View) → v.share.about ≡ k → KnowsRest v → AreKept k v
kept_of k v about r = subst (λ (s : Setup). AreKept s v) about (record { hand_empty = r.hand_empty; kept = r.kept })

pub look_none : (v w : View) → w ≡ v → IsLook v w
look_none v w e = (v.whole.qdisc.phase, e)

closed_purged : (v : View) → IsActiveOrPurged v → is_closed v.control.phase ≡ true → IsIn Purged v
closed_purged v (inl active) closed = absurd (true≢false (sym closed ∙ ap is_closed active.0))
closed_purged v (inr purged) closed = purged

open_active : (v : View) → IsActiveOrPurged v → is_closed v.control.phase ≡ false → IsIn Active v
open_active v (inl active) open_ = active
open_active v (inr purged) open_ = absurd (true≢false (sym (ap is_closed purged.0) ∙ open_))

none_some : (o : Option ℕ) → is_some o ≡ false → o ≡ None
none_some None e = refl
none_some (Some n) e = absurd (true≢false e)

-- DEACTIVATED was loaded
nothing_down : (v : View) (state : ℕ) → v.control.first ≡ true → IsActiveOrPurged v → KnowsRest v → SeesState v state → is_set 2 state ≡ true → held (account_of v) ≡ []
nothing_down v state first settled r s down = let p = closed_purged v settled (sym (r.down first) ∙ (sym s.down ∙ down)) in r.purged first p.0 p.1

active_up : (v : View) (state : ℕ) → v.control.first ≡ true → IsActiveOrPurged v → KnowsRest v → SeesState v state → is_set 2 state ≡ false → IsIn Active v
active_up v state first settled r s up = open_active v settled (sym (r.down first) ∙ (sym s.down ∙ up))

pub over_down : (v : View) (state : ℕ) → v.control.first ≡ true → IsActiveOrPurged v → KnowsRest v → SeesState v state → is_set 2 state ≡ true → IsOver v
over_down v state first settled r s down = record { nothing_held = nothing_down v state first settled r s down; over = inl (sym s.down ∙ down) }

pub hangs : (v : View) (state : ℕ) → v.control.first ≡ true → IsActiveOrPurged v → KnowsRest v → SeesState v state → is_set 2 state ≡ false → 0 < v.share.about.queues → AreAllStops 2 v → Hangs v
hangs v state first settled r s up some stops = record {
  active = active_up v state first settled r s up;
  up = none_some _ (sym s.down ∙ up);
  stops = stops;
  hung = r.hung 0 (stops 0 some);
  unit = r.unit;
}

pub is_up : (v : View) (state : ℕ) → SeesState v state → is_set 2 state ≡ false → (account_of v).down ≡ None
is_up v state s up = none_some _ (sym s.down ∙ up)

-- THE END

pub made_kept : (k : Setup) (v w : View) → w.share ≡ v.share → AreFor k v → AreFor k w
made_kept k v w share made = record { infos = made.infos; ranks = made.ranks; owners = λ o l. subst (λ (x : SharePart). 0 < times o x.owners) (sym share) (made.owners o l) }

module _ (k : Setup) (v : View) (made : AreFor k v) (done : AreAllDone k v.turns) where
  taken : (n : ℕ) → n < length k.infos → station_in k.infos n ≡ k.station → 2 * rank_in k.infos n + 1 ≤ slice_index v.turns (owner_in k.infos n)
  taken n inside own = ⊎_elim
      (λ (t : (x : Info) × (n < length k.infos) × (slice_get k.infos n ≡ Some x) × _). let info : Info = t.0 in let here : slice_get k.infos n ≡ Some info = t.2 in
      let owner : owner_in k.infos n ≡ info.owner = ap (λ (o : Option Info). option_map_or (λ (i : Info). i.owner) o 0) here in
      let rank : rank_in k.infos n ≡ info.rank = ap (λ (o : Option Info). option_map_or (λ (i : Info). i.rank) o 0) here in
      let station : station_in k.infos n ≡ info.station = ap (λ (o : Option Info). option_map_or (λ (i : Info). i.station) o 0) here in
      let left = not_left k n info here (sym station ∙ own) (made.ranks n info here) (subst (λ (o : ℕ). o < k.senders) owner (made.infos.owners n inside)) v.turns done in
      let words : slice_index v.turns (owner_in k.infos n) ≡ slice_index v.turns info.owner = ap (slice_index v.turns) owner in omega arith)
      (λ t. absurd (let z = t.0 in omega arith))
      (slice_get_cases k.infos n).1

  owned : (n : ℕ) → n < length k.infos → 0 < times (owner_in k.infos n) v.share.owners
  owned n inside = made.owners (owner_in k.infos n) (made.infos.owners n inside)

  -- nothing was held at the last look
  pub finished : AreKept k v → held (account_of v) ≡ [] → IsFinished k v
  finished a none = record {
    nothing_held = none;
    hand_empty = a.hand_empty;
    decided = λ n inside own. ⊎_elim (λ fate. fate) (λ is_held. absurd (none-in (held (account_of v)) n none is_held)) (a.kept n inside own (owned n inside) (taken n inside own));
  }

  -- or all that was held was purged
  pub finished_purged : (c : Cause) (w : View) → AreKept k v → account_of w ≡ after (Purge c) (account_of v) → IsFinished k w
  finished_purged c w a is = let b : Account = account_of v in record {
    nothing_held = ap held is ∙ purge_empties c b;
    hand_empty = ap (λ (x : Account). x.hand) is ∙ a.hand_empty;
    decided = λ n inside own. subst (λ (x : Account). (f : Fate) × (x.fates n ≡ Some f)) (sym is)
        (⊎_elim
        (λ (has : (f : Fate) × (b.fates n ≡ Some f)). fates-cases (λ (o : Option Fate). (f : Fate) × (o ≡ Some f)) (held b) n (fate.Purged c) b.fates (λ _. (fate.Purged c, refl)) (λ _. has))
        (λ is_held. (fate.Purged c, with_fates_in (held b) n (fate.Purged c) b.fates is_held))
        (a.kept n inside own (owned n inside) (taken n inside own)));
  }

-- THE PURGE

calm_raised : (s : Solo) → s.whole.missed ≡ false → (ended s).raised ≡ s.raised
calm_raised s calm = ap (λ (b : Bool). (if b then set_sched_alone s.whole.scheduled (locked_to false s) else locked_to false s).raised) calm

-- What the purge of a hung station comes to, from the last look before the lock was taken to the end of the run: its event was
-- heard, and what was taken is what the account held.
pub record IsRunPurged (c : Cause) (v0 v2 v5 : View) : Type 0 where
  pub step : solo v5 ≡ locked_to false (missed_to false (draining_to false (heard (Purge c) (solo v0))))
  pub account : account_of v5 ≡ after (Purge c) (account_of v0)
  pub lost : (bands : Three Band) → AreKnown v2 bands → all_purged v2.holder.slot bands ≡ held (account_of v0)
  pub device : v5.whole.state.station.device ≡ v0.whole.state.station.device
  pub raised : v5.place.raised ≡ v0.place.raised

-- from the last look before the lock was taken to the end of the run
module _ (c : Cause) (lost : List ℕ) (d : HolderPart) (v0 v1 v2 v4 v5 : View) (look : IsLook v0 v1) (got : v2 ≡ try_lock_view_in_control d v1) (locks : solo v2 ≡ locked_to true (solo v1)) (known : IsAccounts v2) (purged : IsPurged c lost v2 v4)
    (state : v5.whole.state ≡ v4.whole.state) (share : v5.share ≡ v4.share) (ends : IsSole v4 → solo v5 ≡ ended (solo v4)) (sole : IsSole v0) where
  solo_four : solo v4 ≡ missed_to false (draining_to false (heard (Purge c) (solo v2)))
  solo_four = ap solo purged.is ∙ purged.alone

  pub state_two : v2.whole.state ≡ v0.whole.state
  state_two = ap (λ (x : View). x.whole.state) got ∙ ap (λ (x : View). x.whole.state) look.1

  share_two : v2.share ≡ v0.share
  share_two = ap (λ (x : View). x.share) got ∙ ap (λ (x : View). x.share) look.1

  share_four : v4.share ≡ v2.share
  share_four = ap (λ (x : View). x.share) purged.is

  pub sole_four : IsSole v4
  sole_four = (ap (λ (s : _). s.shares) (share_four ∙ share_two) ∙ sole.0, ap (λ (x : View). x.whole.told) purged.is ∙ (purged.told ∙ (ap (λ (x : View). x.whole.told) got ∙ (ap (λ (x : View). x.whole.told) look.1 ∙ sole.1))))

  pub solo_five : solo v5 ≡ locked_to false (missed_to false (draining_to false (heard (Purge c) (solo v0))))
  solo_five = ends sole_four ∙ ap ended (solo_four ∙ ap (λ (s : Solo). missed_to false (draining_to false (heard (Purge c) s))) (locks ∙ ap (λ (x : View). locked_to true (solo x)) look.1))

  pub account_five : account_of v5 ≡ after (Purge c) (account_of v0)
  account_five = let k : Setup = v0.share.about in
      sym (account_at k v5 (ap (λ (s : SharePart). s.about) (share ∙ (share_four ∙ share_two))))
      ∙ (ap (λ (s : Solo). account_in (first_account k) s) solo_five ∙ ap (after (Purge c)) (account_at k v0 refl))

  -- what was taken is what the account held
  pub lost_is : (bands : Three Band) → AreKnown v2 bands → all_purged v2.holder.slot bands ≡ held (account_of v0)
  lost_is bands bands_are =
      let sole2 : IsSole v2 = (ap (λ (s : SharePart). s.shares) share_two ∙ sole.0, ap (λ (x : View). x.whole.told) got ∙ (ap (λ (x : View). x.whole.told) look.1 ∙ sole.1)) in
      let same : account_of v2 ≡ account_of v0 = λ j. after_all (first_account (share_two j).about) (state_two j).past in
      let band = λ (b : ℕ) (h : b < 3). bands_are sole2 b h ∙ ap (λ (a : Account). a.bands b) same in
      let slot : v2.holder.slot ≡ (account_of v0).slot = ap (λ (h : HolderPart). h.slot) known ∙ ap (λ (a : Account). a.slot) same in
      λ j. option_to_list (slot j) ++ (held_of (band 0 (omega arith) j) ++ (held_of (band 1 (omega arith) j) ++ held_of (band 2 (omega arith) j)))

  pub device_five : v5.whole.state.station.device ≡ v0.whole.state.station.device
  device_five = ap (λ (s : State). s.station.device) state ∙ (ap (λ (s : Solo). s.whole.device) solo_four ∙ ap (λ (s : State). s.station.device) state_two)

  pub raised_five : v5.place.raised ≡ v0.place.raised
  raised_five = ap (λ (s : Solo). s.raised) (ends sole_four) ∙ (calm_raised (solo v4) (ap (λ (s : Solo). s.whole.missed) solo_four) ∙ (ap (λ (x : View). x.place.raised) purged.is ∙ (ap (λ (x : View). x.place.raised) got ∙ ap (λ (x : View). x.place.raised) look.1)))

  pub run_purged : IsRunPurged c v0 v2 v5
  run_purged = record { step = solo_five; account = account_five; lost = lost_is; device = device_five; raised = raised_five }

-- control is as before the purge of an active station
pub control_kept : (b c : FirstPart) → b.phase ≡ Active → b.purge ≡ None → c ≡ record b { phase = after_purge b.phase; purge = None } → c ≡ b
control_kept b c active none e = let q : after_purge b.phase ≡ b.phase = ap after_purge active ∙ sym active in e ∙ (λ j. record b { phase = q j; purge = sym none j })

-- the holder's device is the station's
pub station_known : (d : HolderPart) (v0 v1 v2 : View) → IsLook v0 v1 → v2 ≡ try_lock_view_in_control d v1 → IsAccounts v2 → v2.holder.station ≡ v0.whole.state.station
station_known d v0 v1 v2 look got known = ap (λ (h : HolderPart). h.station) known ∙ (ap (λ (x : View). x.whole.state.station) got ∙ ap (λ (x : View). x.whole.state.station) look.1)

-- STEPS OF CONTROL

-- a look in a call of control changes nothing of what the seat knows alone
pub solo_looked : (v w x : View) → w ≡ begin_control_view v → IsLook w x → solo x ≡ solo v
solo_looked v w x e (p, f) = ap solo f ∙ ap solo e

pub control_at : (h : Bool) (v : View) → v.place.position ≡ Control h → (f : View → View) → f (record v { place = record v.place { position = Control h } }) ≡ record v { place = record v.place { position = Control h } } → f v ≡ v
control_at h v e f same = (λ j. f (record v { place = record v.place { position = e j } })) ∙ (same ∙ (λ j. record v { place = record v.place { position = sym e j } }))

pub control_looked : (n : ℕ) (h : Bool) (v : View) → v.place.position ≡ Control h → load_state_view n v ≡ v
control_looked n h v e = control_at h v e (load_state_view n) refl

pub served_begun : (v w : View) → w ≡ begin_control_view v → IsServed v w
served_begun v w e = record {
  kept = record { share = ap (λ (x : View). x.share) e; turns = ap (λ (x : View). x.turns) e; first = ap (λ (x : View). x.control.first) e; told = ap (λ (x : View). x.whole.told) e };
  control = ap (λ (x : View). x.control) e;
  trail = ap (λ (x : View). x.trail) e;
  fates = ([], ap (λ (x : View). x.settled) e);
}

pub served_returned : (v w : View) → w ≡ end_control_view v → IsServed v w
served_returned v w e = record {
  kept = record { share = ap (λ (x : View). x.share) e; turns = ap (λ (x : View). x.turns) e; first = ap (λ (x : View). x.control.first) e; told = ap (λ (x : View). x.whole.told) e };
  control = ap (λ (x : View). x.control) e;
  trail = ap (λ (x : View). x.trail) e;
  fates = ([], ap (λ (x : View). x.settled) e);
}

pub served_looked : (v w : View) → IsLook v w → IsServed v w
served_looked v w (p, e) = record {
  kept = record { share = ap (λ (x : View). x.share) e; turns = ap (λ (x : View). x.turns) e; first = ap (λ (x : View). x.control.first) e; told = ap (λ (x : View). x.whole.told) e };
  control = ap (λ (x : View). x.control) e;
  trail = ap (λ (x : View). x.trail) e;
  fates = ([], ap (λ (x : View). x.settled) e);
}

pub sole_kept : (v w : View) → w.share ≡ v.share → w.whole.told ≡ v.whole.told → IsSole v → IsSole w
sole_kept v w share told sole = (ap (λ (s : SharePart). s.shares) share ∙ sole.0, told ∙ sole.1)

module _ {D : Type 0} where
  pub ready_kept : (b a : Cpu D) → IsElseSame b a → (view a).packets ≡ (view b).packets → (view a).locks ≡ (view b).locks → (view a).holder.resizing ≡ (view b).holder.resizing → IsReadyToSend b → IsReadyToSend a
  ready_kept b a same packets locks resizing ready = ((same.3 ∙ ready.0.0, same.1 ∙ ready.0.1), packets ∙ ready.1, locks ∙ ready.2, resizing ∙ ready.3)
