use Rattle.std.proofs.Common.{rules, ◌≡◌, ◌<◌, ℕ, true, List, [], ◌∷◌, length, None, Some, refl, sym, ap, ◌∙◌, subst}
use Rattle.std.specs.Prelude.{IfSome}
use Rattle.std.proofs.lemmas.Option.{same_Some}
use Rattle.lq_device.specs.Station.{StationState}
use Rattle.lq_model.specs.Account.{Purge, after}
use Rattle.lq_model.specs.declared.fate.Cause.{Cause}
use Rattle.lq_model.specs.declared.fate.Cause.TheVariants as cause
use Rattle.lq_model.specs.declared.fate.Fate.TheVariants as fate
use Rattle.lq_table.specs.Views.{View, Setup, PacketPart, HolderPart, FirstPart, Left}
use Rattle.lq_table.specs.Rule.{shown, IsResting}
use Rattle.lq_table.specs.Purges.{begin_purge_view, HoldsAtMost, HoldPackets}
use Rattle.lq_table.specs.Sees.{view, known, IsSameSeat, IsAccounts, account_of, solo}
use Rattle.lq_run.specs.Steps.{End}
use Rattle.lq_ring.specs.StepLists.{MakesStepsFrom}
use Rattle.lq_qdisc.specs.StepLists.{Then}
use Rattle.lq_control.specs.EndSteps.{LookLeft}
use Rattle.lq_control.specs.Steps.{DevResetQueue, Only, QdiscReset, TakeLock, Wait}
use Rattle.lq_table.specs.Step.{BeginHungPurge, Standing, Step}
use Rattle.lq_control.proofs.StepLemmas.{and_then, coming, only}
use Rattle.lq_ring.proofs.Seats.{seat_on}
use Rattle.lq_ring.specs.Fates.{fates_onto}
use Rattle.lq_run.proofs.Ends.{kept_ended, sole_ended}
use Rattle.lq_table.specs.Locks.{try_lock_view_in_control, locked_to}
use Rattle.lq_control.specs.Control.{IsPurgeDone, IsPurged, all_purged}
use Rattle.lq_control.specs.Ending.{purged_as_hung}
use Rattle.lq_control.specs.Finish.{IsLook, PurgesHung}
use Rattle.lq_control.proofs.Purge.{purged_of, slot_within}
use Rattle.lq_control.proofs.FinishSteps.{IsRunPurged, control_kept, run_purged, sole_kept, station_known}
use Rattle.lq_control.proofs.finishes.purge_hung.Given as given
use Rattle.lq_control.proofs.finishes.purge_hung.Goals as goal

-- What is known once the purge has begun: only a look was done before the run lock was got, and the purge is by the station's unit.
module _ (g : given.Over) (c : goal.After-purge_held-arg-1 g) where
  abbrev v0 : View
  v0 = view c.args.cpu.now

  abbrev v1 : View
  v1 = view c.wait_until_left.new.cpu

  abbrev v2 : View
  v2 = view c.take_lock.new.cpu

  abbrev by : Cause
  by = cause.Hung c.unit-unit.result

  look : IsLook v0 v1
  look = c.wait_until_left.ensures.same.1

  abbrev got_from : View → View
  got_from v =
      let qdisc = record v.whole.qdisc { phase = look.0 } in
      try_lock_view_in_control c.take_lock.ensures.got.0 (record v { whole = record v.whole { qdisc = qdisc } })

  got : v2 ≡ got_from v0
  got = c.take_lock.ensures.got.1 ∙ ap (try_lock_view_in_control c.take_lock.ensures.got.0) look.1

  of_unit : v2.holder.station.unit ≡ c.unit-unit.result
  of_unit =
      let same = same_Some _ _ (sym c.station.ensures ∙ c.take_lock.ensures.station.1) in
      sym (c.unit-unit.ensures ∙ ap (λ (s : StationState). s.unit) same)

  begun : view c.begin_hung_purge.new.cpu ≡ begin_purge_view by c.begin_hung_purge.ensures.makes.0 v2
  begun =
      let b = c.begin_hung_purge.ensures.makes in b.2.knows ∙ ap (λ (m : ℕ). begin_purge_view (cause.Hung m) b.0 v2) of_unit

pub purge_held-purged-requires-clause-slot : goal.purge_held-purged-requires-clause-slot
purge_held-purged-requires-clause-slot g c _ _ =
    let d = c.take_lock.ensures.got.0 in let s = (v2 g c).holder.slot in let e = begun g c in
    let at_ = c.take_lock.ensures.station.1 ∙ ap (λ (x : View). Some (shown (record x.holder { slot = s }))) (sym e) in
    let about = ap (λ (x : View). x.share.about) (look g c).1 ∙ c.requires.seat.2 in
    let known_ = slot_within (v1 g c).share.about d.slot c.take_lock.ensures.got.7 in
    let within = subst (λ (k : Setup). IfSome d.slot (λ n. n < length k.infos)) about known_ in
    let infos = c.args.shared.now.infos.now in (
      s,
      c.begin_hung_purge.ensures.makes.2.carries ∙ at_,
      ap (λ (x : View). x.packets.owed) e,
      ap (λ (x : View). x.holder.slot) e,
      subst (λ (x : View). IfSome x.holder.slot (λ n. n < length infos)) (sym (got g c)) within,
    )

pub purge_held-purged-requires-clause-bands : goal.purge_held-purged-requires-clause-bands
purge_held-purged-requires-clause-bands g c _ _ =
    let b = c.begin_hung_purge.ensures.makes in let e = begun g c in (
      record { cause = by g c; bands = b.0 },
      ap (λ (x : View). x.holder.left) e,
      refl,
      subst (λ (n : ℕ). HoldsAtMost n b.0) (sym (ap (λ (x : View). x.holder.size) e)) b.2.told.0.0,
      subst (λ (k : Setup). HoldPackets k.infos b.0) (ap (λ (x : View). x.share.about) (got g c) ∙ c.requires.seat.2) b.2.told.0.1,
    )

-- What is known after the purge: all that was held was taken, and but for that and the run lock the station is as before the call.
module _ (g : given.Over) (c : goal.After-end_resize-arg-1 g) where
  abbrev begin : goal.After-purge_held-arg-1 g
  begin = c.before.before

  abbrev v4 : View
  v4 = view c.purge_held-purged.new.cpu

  abbrev lost : List ℕ
  lost = all_purged (v2 g begin).holder.slot c.begin_hung_purge.ensures.makes.0

  emptied : IsPurgeDone (by g begin) lost (view c.begin_hung_purge.new.cpu) v4 × (c.purge_held-purged.result ≡ length lost)
  emptied =
      let e = begun g begin in let l : Left = record { cause = by g begin; bands = c.begin_hung_purge.ensures.makes.0 } in
      let owed = ap (λ (x : View). x.packets.owed) e in
      c.purge_held-purged.ensures.purged (v2 g begin).holder.slot l owed (ap (λ (x : View). x.holder.left) e)

  purged : IsPurged (by g begin) lost (v2 g begin) v4
  purged =
      let none_owed = ap (λ (x : View). x.packets.owed) (got g begin) ∙ ap (λ (p : PacketPart). p.owed) c.requires.at.2.1 in
      purged_of (by g begin) c.begin_hung_purge.ensures.makes.0 lost (v2 g begin) (view c.begin_hung_purge.new.cpu) v4 none_owed
      (begun g begin) emptied.0

  -- in the terms of what was known before the call
  left : IsPurged (by g begin) lost (got_from g begin (v0 g begin)) v4
  left = subst (λ (x : View). IsPurged (by g begin) lost x v4) (got g begin) purged

  seat : IsSameSeat c.args.cpu.now c.purge_held-purged.new.cpu
  seat =
      let a = c.wait_until_left.ensures.same.0.0 in let b = c.take_lock.ensures.same.0 in let d = c.begin_hung_purge.ensures.makes.2.seat in
      let e = c.purge_held-purged.ensures.same.0 in (e.0 ∙ (d.0 ∙ (b.0 ∙ a.0)), e.1 ∙ (d.1 ∙ (b.1 ∙ a.1)))

  control : v4.control ≡ (v0 g begin).control
  control =
      let active = c.requires.hung.active in
      control_kept (v0 g begin).control v4.control active.0 active.1 (ap (λ (x : View). x.control) left.is)

  resizing : v4.holder.resizing ≡ None
  resizing = ap (λ (x : View). x.holder.resizing) left.is ∙ c.take_lock.ensures.got.5

pub end_resize-requires-clause-seat : goal.end_resize-requires-clause-seat
end_resize-requires-clause-seat g c _ _ =
    let share = ap (λ (x : View). x.share) (left g c).is in
    seat_on c.args.shared.now c.args.cpu.now c.purge_held-purged.new.cpu c.requires.seat (seat g c) share

pub end_resize-requires-clause-may : goal.end_resize-requires-clause-may
end_resize-requires-clause-may g c _ _ = record {
  at =
      let is = (left g c).is in let active = c.requires.hung.active in (
        ap (λ (x : View). x.place.position) is,
        ap (λ (b : FirstPart). b.phase) (control g c) ∙ active.0,
        ap (λ (b : FirstPart). b.purge) (control g c) ∙ active.1,
        ap (λ (x : View). x.holder.shut) is ∙ c.take_lock.ensures.got.6,
      );
  rests =
      let holder = ap (λ (x : View). x.holder) (purged g c).is in
      (subst (λ (h : HolderPart). IsResting h.size h.ends) (sym holder) (purged g c).rests, resizing g c);
  back = search rules;
}

-- What the calls come to, up to the end of the run.
module _ (g : given.Over) (c : goal.After-end_resize g) where
  abbrev begun_at : goal.After-purge_held-arg-1 g
  begun_at = c.before.before.before

  locked : (solo (v2 g begun_at) ≡ locked_to true (solo (v1 g begun_at))) × IsAccounts (v2 g begun_at)
  locked =
      let e = (look g begun_at).1 in let share = ap (λ (x : View). x.share) e in let told = ap (λ (x : View). x.whole.told) e in
      c.take_lock.ensures.sole (sole_kept (v0 g begun_at) (v1 g begun_at) share told c.requires.sole)

  whole : IsRunPurged (by g begun_at) (v0 g begun_at) (v2 g begun_at) (view c.end_resize.new.cpu)
  whole =
      let kept = (kept_ended c.end_resize.ensures.makes) in
      run_purged (by g begun_at) (lost g c.before) c.take_lock.ensures.got.0 (v0 g begun_at) (v1 g begun_at) (v2 g begun_at) (v4 g c.before)
      (view c.end_resize.new.cpu) (look g begun_at) c.take_lock.ensures.got.1 locked.0 locked.1 (purged g c.before) kept.1 kept.0.1
      (sole_ended c.end_resize.ensures.makes) c.requires.sole

  -- the unit is the station's
  of_station : c.unit-unit.result ≡ (v0 g begun_at).whole.state.station.unit
  of_station =
      let got = c.take_lock.ensures.got in
      let is = station_known got.0 (v0 g begun_at) (v1 g begun_at) (v2 g begun_at) (look g begun_at) got.1 locked.1 in
      sym (of_unit g begun_at) ∙ ap (λ (s : StationState). s.unit) is

comes_to : (g : given.Over) (c : goal.After-end_resize g)
    → PurgesHung c.purge_held-purged.result (view c.args.cpu.now) (view c.end_resize.new.cpu)
comes_to g c =
    let w = of_station g c in let is = (left g c.before).is in let kept = (kept_ended c.end_resize.ensures.makes).0 in
    let v = view c.args.cpu.now in let p = whole g c in let b = c.begin_hung_purge.ensures.makes in let all = p.lost b.0 b.2.told.0.2 in record {
      hung = c.requires.hung.hung;
      unit = c.requires.hung.unit;
      trail = kept.9 ∙ (ap (λ (x : View). x.trail) is ∙ (λ j. Purge (cause.Hung (w j)) ∷ v.trail));
      account = p.account ∙ (λ j. after (Purge (cause.Hung (w j))) (account_of v));
      settled = kept.8 ∙ (ap (λ (x : View). x.settled) is ∙ (λ j. fates_onto (fate.Purged (cause.Hung (w j))) (all j) v.settled));
      counted = (emptied g c.before).1 ∙ ap length all;
      turns = kept.7 ∙ ap (λ (x : View). x.turns) is;
      device = p.device;
      step = p.step ∙ (λ j. purged_as_hung (w j) (solo v));
    }

pub returns : goal.returns
returns g c = record {
  kept = let kept = (kept_ended c.end_resize.ensures.makes).0 in let s = seat g c.before in let l = left g c.before in record {
    seat = (kept.0.0 ∙ s.0, kept.0.1 ∙ s.1);
    share = kept.1 ∙ ap (λ (x : View). x.share) l.is;
    control = kept.4 ∙ control g c.before;
    told = kept.5 ∙ (ap (λ (x : View). x.whole.told) l.is ∙ l.told);
  };
  at =
      let kept = (kept_ended c.end_resize.ensures.makes).0 in let at = c.end_resize.ensures.at in let is = (left g c.before).is in
      let control5 = kept.4 ∙ control g c.before in let active = c.requires.hung.active in (
        at.0,
        (
          at.1,
          kept.2 ∙ (ap (λ (x : View). x.packets) is ∙ c.requires.at.2.1),
          kept.3 ∙ (ap (λ (x : View). x.locks) is ∙ c.requires.at.2.2),
          ap (λ (h : HolderPart). h.resizing) at.2 ∙ resizing g c.before,
        ),
        (ap (λ (b : FirstPart). b.phase) control5 ∙ active.0, ap (λ (b : FirstPart). b.purge) control5 ∙ active.1),
      );
  raised = (whole g c).raised;
  makes =
      let b = c.begin_hung_purge.ensures in let e = c.end_resize.ensures.makes in let begun_ = c.begin_hung_purge.new.cpu in let new = c.purge_held-purged.new.cpu in
      let got_ = view c.take_lock.new.cpu in let count = c.purge_held-purged.result in let slot = got_.holder.slot in let m = b.makes in
      let held_ = subst (λ (n : ℕ). MakesStepsFrom (QdiscReset (cause.Hung n) slot count) begun_ new) (sym (of_unit g c.before.before.before))
      (c.purge_held-purged.ensures.makes slot (ap (λ (x : View). x.packets.owed) (begun g c.before.before.before))) in
      let t = and_then (Only (BeginHungPurge m.0 m.1 ∷ [])) (QdiscReset (cause.Hung got_.holder.station.unit) slot count) (only m.2) held_ in
      let resets : Standing → List Step → Type 0 = λ before. DevResetQueue BeginHungPurge (cause.Hung before.view.holder.station.unit) count before in
      let ends : Standing → List Step → Type 0 = λ s. End in
      coming (PurgesHung count) (Then (λ s. Wait LookLeft true) (Then (λ s. TakeLock) (Then resets ends)))
      (and_then (λ s. Wait LookLeft true) (Then (λ s. TakeLock) (Then resets ends)) c.wait_until_left.ensures.makes
      (and_then (λ s. TakeLock) (Then resets ends) c.take_lock.ensures.makes (and_then resets ends (t.0, (m.0, m.1, t.1), t.2) e)))
      (comes_to g c);
}
