use Rattle.std.proofs.Common.{◌≡◌, true, List, [], sym, ap, ◌∙◌, subst, ℕ, ◌∷◌}
use Rattle.std.proofs.lemmas.Option.{same_Some}
use Rattle.lq_account_laws.specs.Trail.{down_of}
use Rattle.lq_model.specs.Account.{Purge}
use Rattle.lq_model.specs.Control.{after_purge}
use Rattle.lq_model.specs.declared.fate.Cause.TheVariants as cause
use Rattle.lq_table.specs.Views.{View}
use Rattle.lq_table.specs.Controls.{set_deactivated_view}
use Rattle.lq_table.specs.Sees.{view, IsSole}
use Rattle.lq_ring.specs.StepLists.{MakesStepsFrom}
use Rattle.lq_qdisc.specs.StepLists.{Then}
use Rattle.lq_control.specs.Steps.{DevResetQueue, Finding, LookInside, Only, TakeLock, Wait}
use Rattle.lq_table.specs.Step.{BeginPurge, MoveStation, SetDeactivated, Standing, Step, Unlock}
use Rattle.lq_control.proofs.Keeps.{keeps_closed, keeps_freed, keeps_purged, keeps_then, seat_then}
use Rattle.lq_control.proofs.StepLemmas.{and_then, finds, only}
use Rattle.lq_table.specs.Locks.{try_lock_view_in_control}
use Rattle.lq_control.specs.Control.{all_purged, phased}
use Rattle.lq_control.proofs.Sole.{deactivated_is}
use Rattle.lq_control.proofs.activates.deactivate.Goals as goal

pub returns : goal.returns
returns g c = record {
  same =
      let v = view c.args.cpu.now in let v3 = view c.take_lock.new.cpu in let v4 = view c.purge_all-purged.new.cpu in let v5 = view c.release.new.cpu in
      let event = c.args.event in let q = c.wait_for_calls.ensures.quiet in let got = c.take_lock.ensures.got in let p = c.purge_all-purged.ensures.purged in let free = c.release.ensures.released in
      let e3 : v3 ≡ try_lock_view_in_control got.0 (phased _ q.0 (set_deactivated_view event v)) = got.1 ∙ ap (try_lock_view_in_control got.0) (q.1 ∙ ap (phased _ q.0) c.set_deactivated.ensures.makes.1.knows) in
      let c1 = c.set_deactivated.new.cpu in let c2 = c.wait_for_calls.new.cpu in let c3 = c.take_lock.new.cpu in let c4 = c.purge_all-purged.new.cpu in let c5 = c.release.new.cpu in
      let to_lock = seat_then c.args.cpu.now c1 c3 c.set_deactivated.ensures.makes.1.seat (seat_then c1 c2 c3 c.wait_for_calls.ensures.same.0 c.take_lock.ensures.same.0) in
      let keeps = keeps_then v v3 v4 (keeps_closed event q.0 got.0 v v3 e3) (keeps_purged (cause.Event p.0) (all_purged v3.holder.slot p.1) v3 v4 p.3) in let all = keeps_then v v4 v5 keeps (keeps_freed v4 v5 free) in
      (seat_then c.args.cpu.now c3 c5 to_lock (seat_then c3 c4 c5 c.purge_all-purged.ensures.same.0 c.release.ensures.same.0), all.0, all.1);
  at =
      let v = view c.args.cpu.now in let v3 = view c.take_lock.new.cpu in let v4 = view c.purge_all-purged.new.cpu in let v5 = view c.release.new.cpu in
      let event = c.args.event in let q = c.wait_for_calls.ensures.quiet in let got = c.take_lock.ensures.got in let p = c.purge_all-purged.ensures.purged in let free = c.release.ensures.released in
      let e3 : v3 ≡ try_lock_view_in_control got.0 (phased _ q.0 (set_deactivated_view event v)) = got.1 ∙ ap (try_lock_view_in_control got.0) (q.1 ∙ ap (phased _ q.0) c.set_deactivated.ensures.makes.1.knows) in
      let is = p.3.is in let ready = c.requires.may.at.2 in (
        ap (λ (x : View). x.place.position) free,
        (
          c.release.ensures.empty,
          ap (λ (x : View). x.packets) free ∙ (ap (λ (x : View). x.packets) is ∙ (ap (λ (x : View). x.packets) e3 ∙ ready.1)),
          ap (λ (x : View). x.locks) free ∙ (ap (λ (x : View). x.locks) is ∙ (ap (λ (x : View). x.locks) e3 ∙ ready.2)),
          ap (λ (x : View). x.holder.resizing) free ∙ (ap (λ (x : View). x.holder.resizing) is ∙ (ap (λ (x : View). x.holder.resizing) e3 ∙ got.5)),
        ),
        (ap (λ (x : View). x.control.phase) free ∙ (ap (λ (x : View). x.control.phase) is ∙ ap (λ (x : View). after_purge x.control.phase) e3), ap (λ (x : View). x.control.purge) free ∙ ap (λ (x : View). x.control.purge) is),
      );
  trail =
      let v = view c.args.cpu.now in let v3 = view c.take_lock.new.cpu in let v4 = view c.purge_all-purged.new.cpu in let v5 = view c.release.new.cpu in
      let event = c.args.event in let q = c.wait_for_calls.ensures.quiet in let got = c.take_lock.ensures.got in let p = c.purge_all-purged.ensures.purged in let free = c.release.ensures.released in
      let e3 : v3 ≡ try_lock_view_in_control got.0 (phased _ q.0 (set_deactivated_view event v)) = got.1 ∙ ap (try_lock_view_in_control got.0) (q.1 ∙ ap (phased _ q.0) c.set_deactivated.ensures.makes.1.knows) in
      let same : p.0 ≡ event = same_Some _ _ (sym p.2 ∙ ap (λ (x : View). down_of x.trail) e3) in
      ap (λ (x : View). x.trail) free ∙ (ap (λ (x : View). x.trail) p.3.is ∙ (λ j. Purge (cause.Event (same j)) ∷ ap (λ (x : View). x.trail) e3 j));
  makes =
      let v = view c.args.cpu.now in let event = c.args.event in let q = c.wait_for_calls.ensures.quiet in let got = c.take_lock.ensures.got in let v3 = view c.take_lock.new.cpu in
      let e3 : v3 ≡ try_lock_view_in_control got.0 (phased _ q.0 (set_deactivated_view event v)) = got.1 ∙ ap (try_lock_view_in_control got.0) (q.1 ∙ ap (phased _ q.0) c.set_deactivated.ensures.makes.1.knows) in
      let p = c.purge_all-purged.ensures.makes in let count = c.purge_all-purged.result in
      let same : p.0 ≡ event = same_Some _ _ (sym p.1 ∙ ap (λ (x : View). down_of x.trail) e3) in
      let resets = subst (λ (e : ℕ). MakesStepsFrom (DevResetQueue (BeginPurge e) (cause.Event e) count) c.take_lock.new.cpu c.purge_all-purged.new.cpu) same p.2 in
      let reset : Standing → List Step → Type 0 = DevResetQueue (BeginPurge event) (cause.Event event) count in let ends : Standing → List Step → Type 0 = Only (MoveStation ∷ Unlock ∷ []) in
      and_then (Finding (SetDeactivated event)) (Then (λ s. Wait LookInside true) (Then (λ s. TakeLock) (Then reset ends))) (finds (SetDeactivated event) c.set_deactivated.ensures.makes)
      (and_then (λ s. Wait LookInside true) (Then (λ s. TakeLock) (Then reset ends)) c.wait_for_calls.ensures.makes
      (and_then (λ s. TakeLock) (Then reset ends) c.take_lock.ensures.makes (and_then reset ends resets (only c.release.ensures.makes))));
  alone = λ sole. let v = view c.args.cpu.now in let event = c.args.event in let q = c.wait_for_calls.ensures.quiet in let got = c.take_lock.ensures.got in let v3 = view c.take_lock.new.cpu in
      let e2 : view c.wait_for_calls.new.cpu ≡ phased _ q.0 (set_deactivated_view event v) = q.1 ∙ ap (phased _ q.0) c.set_deactivated.ensures.makes.1.knows in
      let e3 : v3 ≡ try_lock_view_in_control got.0 (phased _ q.0 (set_deactivated_view event v)) = got.1 ∙ ap (try_lock_view_in_control got.0) e2 in
      let p = c.purge_all-purged.ensures.purged in
      let same : p.0 ≡ event = same_Some _ _ (sym p.2 ∙ ap (λ (x : View). down_of x.trail) e3) in
      deactivated_is event p.0 q.0 (all_purged v3.holder.slot p.1) v (view c.wait_for_calls.new.cpu) v3 (view c.purge_all-purged.new.cpu) (view c.release.new.cpu) same e2 (c.take_lock.ensures.sole (subst IsSole (sym e2) sole)).0 p.3 c.release.ensures.released;
}
