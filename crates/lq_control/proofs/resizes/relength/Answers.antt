use Rattle.std.proofs.Common.{rules, ◌≡◌, ℕ, false, List, [], ◌∷◌, ap, ◌∙◌, subst}
use Rattle.lq_model.specs.Account.{Resize}
use Rattle.lq_table.specs.Locks.{locked_to}
use Rattle.lq_table.specs.Sees.{view, Solo, heard, solo}
use Rattle.lq_model.specs.declared.machine.Phase.TheVariants.{Purged}
use Rattle.lq_ring.specs.StepLists.{MakesStepsFrom}
use Rattle.lq_qdisc.specs.StepLists.{Then}
use Rattle.lq_table.specs.Step.{MoveStation, Standing, Step, Unlock}
use Rattle.lq_control.specs.Steps.{Only, ResizeRings, TakeLock}
use Rattle.lq_ring.specs.Resized.{all_lost}
use Rattle.lq_table.specs.Views.{View}
use Rattle.lq_control.proofs.Keeps.{keeps_freed, keeps_resized, keeps_then, resized_from, seat_then}
use Rattle.lq_control.proofs.StepLemmas.{IsTurned, and_then, none_of, only, resized, turned_by}
use Rattle.lq_control.proofs.resizes.relength.Given as given
use Rattle.lq_control.proofs.resizes.relength.Goals as goal

-- what the resize does of what the seat knows
turned : (g : given.Over) (c : goal.After-release g) → IsTurned c.args.len c.args.event c.resize_all.result c.take_lock.new.cpu c.resize_all.new.cpu
turned g c = turned_by c.resize_all.ensures.resizes

pub returns : goal.returns
returns g c = record {
  same =
      let v = view c.args.cpu.now in let v1 = view c.take_lock.new.cpu in let v2 = view c.resize_all.new.cpu in let v3 = view c.release.new.cpu in let got = c.take_lock.ensures.got in
      let r = turned g c in let len = c.args.len in let event = c.args.event in let lost = all_lost len r.held in let e = c.release.ensures in
      let t = c.take_lock.ensures.same.0 in let s = c.resize_all.ensures.same.0 in let l = e.same.0 in
      let all = keeps_then v v2 v3 (keeps_resized len event lost got.0 v v1 v2 got.1 r.is) (keeps_freed v2 v3 e.released) in
      (seat_then c.args.cpu.now c.take_lock.new.cpu c.release.new.cpu t (seat_then c.take_lock.new.cpu c.resize_all.new.cpu c.release.new.cpu s l), all.0, all.1);
  at =
      let v = view c.args.cpu.now in let v1 = view c.take_lock.new.cpu in let v2 = view c.resize_all.new.cpu in let v3 = view c.release.new.cpu in let got = c.take_lock.ensures.got in
      let r = turned g c in let len = c.args.len in let event = c.args.event in let lost = all_lost len r.held in let e = c.release.ensures in
      let turned = resized_from len event lost got.0 v v1 v2 got.1 r.is in let free = e.released in let ready = c.requires.at.1 in (
        ap (λ (x : View). x.place.position) free,
        (
          e.empty,
          ap (λ (x : View). x.packets) free ∙ (ap (λ (x : View). x.packets) turned ∙ ready.1),
          ap (λ (x : View). x.locks) free ∙ (ap (λ (x : View). x.locks) turned ∙ ready.2),
          ap (λ (x : View). x.holder.resizing) free ∙ ap (λ (x : View). x.holder.resizing) turned,
        ),
        (
          ap (λ (x : View). x.control.phase) free ∙ (ap (λ (x : View). x.control.phase) turned ∙ c.requires.purged.0),
          ap (λ (x : View). x.control.purge) free ∙ (ap (λ (x : View). x.control.purge) turned ∙ c.requires.purged.1),
        ),
      );
  trail = search rules;
  makes =
      let r = turned g c in let len = c.args.len in let event = c.args.event in let lock = c.take_lock.new.cpu in let new = c.resize_all.new.cpu in
      let phase : (view lock).control.phase ≡ Purged = ap (λ (x : View). x.control.phase) c.take_lock.ensures.got.1 ∙ c.requires.purged.0 in
      let none : c.resize_all.result ≡ 0 = r.counted ∙ none_of len r.held (r.is_known.0 phase) in
      let turn : Standing → List Step → Type 0 = ResizeRings len event 0 in let ends : Standing → List Step → Type 0 = Only (MoveStation ∷ Unlock ∷ []) in
      and_then (λ s. TakeLock) (Then turn ends) c.take_lock.ensures.makes
      (and_then turn ends (subst (λ (n : ℕ). MakesStepsFrom (ResizeRings len event n) lock new) none (resized r)) (only c.release.ensures.makes));
  alone = λ sole.
      ap solo c.release.ensures.released
      ∙ (ap (λ v. locked_to false (solo v)) (turned g c).is ∙ ap (λ (s : Solo). locked_to false (heard (Resize c.args.len c.args.event) s)) (c.take_lock.ensures.sole sole).0);
}
