use Rattle.std.proofs.Common.{rules, ◌≡◌, ℕ, ◌<◌, true, List, ◌∷◌, None, refl, sym, ap, ◌∙◌, subst, arith}
use Rattle.lq_model.specs.Account.{Resize}
use Rattle.lq_model.specs.Alone.{changed}
use Rattle.lq_model.specs.declared.plan.EventKind.TheVariants as kind
use Rattle.lq_table.specs.Views.{View, FirstPart, HolderPart, first_account}
use Rattle.std.proofs.lemmas.Bool.Decides.{nat_tests}
use Rattle.lq_band_laws.specs.Ring.{IsAtRest, at_start}
use Rattle.lq_table.specs.Controls.{begin_control_view}
use Rattle.lq_table.specs.Rule.{IsResting}
use Rattle.lq_table.specs.Sees.{view, setup, IsSole, solo, heard}
use Rattle.lq_table.specs.Locks.{try_lock_view_in_control, locked_to}
use Rattle.lq_run.specs.Runs.{ended}
use Rattle.lq_run.proofs.Ends.{kept_ended, sole_ended}
use Rattle.lq_ring.specs.Resized.{all_lost, having_resized}
use Rattle.lq_run.specs.Steps.{End}
use Rattle.lq_qdisc.specs.StepLists.{Then}
use Rattle.lq_control.proofs.Alone.{resize_alone, resized_same, stepped_at}
use Rattle.lq_table.specs.Step.{BeginControl, Standing, Step}
use Rattle.lq_control.specs.Steps.{Finding, ResizeRings, TakeLock}
use Rattle.lq_control.proofs.Keeps.{keeps_begun, keeps_ended, keeps_resized, keeps_then, resized_from, seat_then}
use Rattle.lq_control.proofs.StepLemmas.{IsTurned, and_then, finds, resized, turned_by}
use Rattle.lq_control.proofs.resizes.resize.Given as given
use Rattle.lq_control.proofs.resizes.resize.Goals as goal

-- what the resize does of what the seat knows
turned : (g : given.Over) (c : goal.After-end_resize g) → IsTurned c.args.len c.args.event c.resize_all-shrunk.result c.take_lock.new.cpu c.resize_all-shrunk.new.cpu
turned g c = turned_by c.resize_all-shrunk.ensures.resizes

pub returns : goal.returns
returns g c =
    let alone_ : IsSole (view c.args.cpu.now) → solo (view c.end_resize.new.cpu) ≡ ended (heard (Resize c.args.len c.args.event) (locked_to true (solo (view c.args.cpu.now)))) = λ sole.
    let v = view c.args.cpu.now in let got = c.take_lock.ensures.got in let v2 = view c.take_lock.new.cpu in
    let e2 : v2 ≡ try_lock_view_in_control got.0 (begin_control_view v) = got.1 ∙ ap (try_lock_view_in_control got.0) c.begin_control.ensures.makes.1.knows in
    let r = turned g c in let s1 : solo (view c.begin_control.new.cpu) ≡ solo v = ap solo c.begin_control.ensures.makes.1.knows in
    let s2 = (c.take_lock.ensures.sole (subst IsSole (sym c.begin_control.ensures.makes.1.knows) sole)).0 ∙ ap (locked_to true) s1 in
    sole_ended c.end_resize.ensures.makes (subst IsSole (sym (r.is ∙ ap (having_resized c.args.len c.args.event (all_lost c.args.len r.held)) e2)) sole) ∙ ap ended (ap solo r.is ∙ ap (heard (Resize c.args.len c.args.event)) s2) in record {
      same =
          let v1 = view c.begin_control.new.cpu in let v2 = view c.take_lock.new.cpu in let v3 = view c.resize_all-shrunk.new.cpu in let got = c.take_lock.ensures.got in
          let r = turned g c in let len = c.args.len in let event = c.args.event in let lost = all_lost len r.held in
          let b = c.begin_control.ensures in let t = c.take_lock.ensures.same.0 in let s = c.resize_all-shrunk.ensures.same.0 in let e = (kept_ended c.end_resize.ensures.makes).0 in
          let v = view c.args.cpu.now in let last = view c.end_resize.new.cpu in
          let k = keeps_then v v1 v3 (keeps_begun v v1 b.makes.1.knows) (keeps_resized len event lost got.0 v1 v2 v3 got.1 r.is) in
          let all = keeps_then v v3 last k (keeps_ended c.resize_all-shrunk.new.cpu c.end_resize.new.cpu e) in
          let c1 = c.begin_control.new.cpu in let c2 = c.take_lock.new.cpu in let c3 = c.resize_all-shrunk.new.cpu in
          (seat_then c.args.cpu.now c1 c.end_resize.new.cpu b.makes.1.seat (seat_then c1 c2 c.end_resize.new.cpu t (seat_then c2 c3 c.end_resize.new.cpu s e.0)), all.0, all.1);
      at =
          let v1 = view c.begin_control.new.cpu in let v2 = view c.take_lock.new.cpu in let v3 = view c.resize_all-shrunk.new.cpu in let got = c.take_lock.ensures.got in
          let r = turned g c in let len = c.args.len in let event = c.args.event in let lost = all_lost len r.held in
          let e = c.end_resize.ensures in let k = (kept_ended e.makes).0 in let at = e.at in
          let ready = c.requires.may.at.2 in let first = c.begin_control.ensures.makes.1.knows in let turned = resized_from len event lost got.0 v1 v2 v3 got.1 r.is in
          let control : (view c.end_resize.new.cpu).control ≡ (view c.args.cpu.now).control = k.4 ∙ (ap (λ (x : View). x.control) turned ∙ ap (λ (x : View). x.control) first) in (
            at.0,
            (
              at.1,
              k.2 ∙ (ap (λ (x : View). x.packets) turned ∙ (ap (λ (x : View). x.packets) first ∙ ready.1)),
              k.3 ∙ (ap (λ (x : View). x.locks) turned ∙ (ap (λ (x : View). x.locks) first ∙ ready.2)),
              ap (λ (x : HolderPart). x.resizing) at.2 ∙ ap (λ (x : View). x.holder.resizing) turned,
            ),
            (ap (λ (x : FirstPart). x.phase) control ∙ c.requires.may.in_phase.0, ap (λ (x : FirstPart). x.purge) control ∙ c.requires.may.in_phase.1),
          );
      trail =
          let got = c.take_lock.ensures.got in let r = turned g c in let len = c.args.len in let event = c.args.event in
          let is = resized_from len event (all_lost len r.held) got.0 (view c.begin_control.new.cpu) (view c.take_lock.new.cpu) (view c.resize_all-shrunk.new.cpu) got.1 r.is in
          (kept_ended c.end_resize.ensures.makes).0.9 ∙ (ap (λ (x : View). x.trail) is ∙ ap (λ (x : View). Resize len event ∷ x.trail) c.begin_control.ensures.makes.1.knows);
      makes =
          let turn : Standing → List Step → Type 0 = ResizeRings c.args.len c.args.event c.resize_all-shrunk.result in let ends : Standing → List Step → Type 0 = λ s. End in
          and_then (Finding BeginControl) (Then (λ s. TakeLock) (Then turn ends)) (finds BeginControl c.begin_control.ensures.makes)
          (and_then (λ s. TakeLock) (Then turn ends) c.take_lock.ensures.makes (and_then turn ends (resized (turned g c)) c.end_resize.ensures.makes));
      alone = (
        alone_,
        λ plan h.
            let infos = c.args.shared.now.infos.now in let start = first_account (setup c.args.shared.now) in let v = solo (view c.args.cpu.now) in let len = c.args.len in let event = c.args.event in
            stepped_at infos start (changed plan event (kind.Resize len)) v (heard (Resize len event) v) (solo (view c.end_resize.new.cpu))
            (alone_ h.sender.sole ∙ resized_same infos start (Resize len event) v h) (resize_alone infos start len event plan v h),
      );
    }

-- the consumer of an empty ring at its start rests
empty-rests : (len : ℕ) → 0 < len → IsAtRest len at_start
empty-rests len positive = (omega arith, positive, refl, grind (arith, nat_tests))

pub end_resize-requires-clause-may : goal.end_resize-requires-clause-may
end_resize-requires-clause-may g c _ _ = record {
  at = search rules;
  rests =
      let empty = empty-rests c.args.len c.requires.len.0 in
      subst (λ (h : HolderPart). IsResting h.size h.ends × (h.resizing ≡ None))
      (sym (ap (λ (x : View). x.holder) c.resize_all-shrunk.ensures.resizes.2)) ((empty, empty, empty), refl);
  back = search rules;
}
