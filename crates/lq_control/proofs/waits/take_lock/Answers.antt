use Rattle.std.proofs.Common.{get_or, ◌≡◌, rules, true, false, ℕ, List, [], ◌∷◌, ◌++◌, Option, Some, None, refl, sym, ap, ◌∙◌, subst}
use Rattle.lq_device.specs.Station.{StationState}
use Rattle.lq_model.specs.declared.machine.Position.{Position}
use Rattle.lq_model.specs.declared.machine.Position.TheVariants.{Control}
use Rattle.lq_ring.proofs.Seats.{seat_on}
use Rattle.lq_table.proofs.StepsThen.{makes_then}
use Rattle.lq_run.proofs.Tried.{tries}
use Rattle.lq_table.specs.Rule.{shown, units_of}
use Rattle.lq_table.specs.Sees.{view, IsAccounts, IsSole, solo}
use Rattle.lq_table.specs.Moves.{IsKnownSlot}
use Rattle.lq_table.specs.Locks.{look_lock_view, try_lock_view, try_lock_view_in_control, locked_to}
use Rattle.lq_table.specs.Step.{MoveStation}
use Rattle.lq_table.specs.Views.{View, HolderPart}
use Rattle.lq_control.specs.Steps.{Taken}
use Rattle.lq_control.proofs.FinishSteps.{control_at}
use Rattle.lq_control.proofs.Keeps.{seat_then}
use Rattle.lq_control.proofs.StepLemmas.{look_again, no_look}
use Rattle.lq_control.proofs.waits.take_lock.Goals as goal

-- what the slot holds
abbrev station_in : List (ℕ × Option StationState) → Option StationState
station_in s = (get_or s 0 (0, None)).1

got_control : (d : HolderPart) (v w x : View) → w ≡ v → v.place.position ≡ Control false → x ≡ try_lock_view d w → x ≡ try_lock_view_in_control d v
got_control d v w x same at e = e ∙ (ap (try_lock_view d) same ∙ ap (λ (p : Position). try_lock_view d (record v { place = record v.place { position = p } })) at)

pub loop-init : goal.loop-init
loop-init g c = record { can = (search rules); ends = (search rules); seat = c.requires.seat; still = ((refl, refl), refl, refl, refl); same = refl; makes = no_look }

pub loop-preserved : goal.loop-preserved
loop-preserved g c =
    let i = c.loop.invariant in let t = tries c.try_run_lock.ensures.makes in let a = c.args.cpu.now in let b = c.loop.cpu in let w = c.try_run_lock.new.cpu in let h = t.held c.if-try_run_lock.false in
    let same : view w ≡ view a = h.0 ∙ (control_at false (view b) (ap (λ (x : View). x.place.position) i.same ∙ c.requires.at) look_lock_view refl ∙ i.same) in record {
      can = (search rules);
      ends = (search rules);
      seat = seat_on c.args.shared.now b w i.seat t.seat.0 (ap (λ (x : View). x.share) (same ∙ sym i.same));
      still = (seat_then a b w i.still.0 t.seat.0, t.seat.1 ∙ i.still.1, t.seat.2 ∙ i.still.2, h.1 ∙ i.still.3);
      same = same;
      makes = look_again i.makes c.if-try_run_lock.ensures.makes;
    }

pub returns-then-try_run_lock : goal.returns-then-try_run_lock
returns-then-try_run_lock g c =
    let i = c.loop.invariant in let t = tries c.try_run_lock.ensures.makes in let m = c.move_station.ensures in let yes_ = c.if-try_run_lock.true in let h = t.got yes_ in
    let a = c.args.cpu.now in let b = c.loop.cpu in let w = c.try_run_lock.new.cpu in let x = c.move_station.new.cpu in
    let e : view x ≡ try_lock_view_in_control h.0 (view a) = m.makes.knows ∙ got_control h.0 (view a) (view b) (view w) i.same c.requires.at h.1 in
    let units = λ (first : (view a).control.first ≡ true). ap (λ (y : View). y.holder.units) e ∙ (h.9 (ap (λ (y : View). y.control.first) i.same ∙ first) ∙ ap (λ (y : View). units_of y.trail) i.same) in
    let accounts = λ (sole : IsSole (view a)). subst IsAccounts (sym m.makes.knows) ((t.sole (subst IsSole (sym i.same) sole)).2 yes_) in record {
      same = (seat_then a b x i.still.0 (seat_then b w x t.seat.0 m.makes.seat), m.makes.places ∙ (t.seat.2 ∙ i.still.2));
      got = (h.0, e, h.3, h.4, h.5, h.6, h.7, subst (λ (y : View). IsKnownSlot y.share.about h.0.slot) i.same h.8);
      units = units;
      station = (
        m.makes.has ∙ ap (λ (s : Option StationState). (0, s) ∷ []) (t.seat.1 ∙ (i.still.1 ∙ c.requires.empty.1)),
        m.makes.carries ∙ (ap station_in h.2 ∙ ap (λ (y : View). Some (shown y.holder)) (sym e)),
      );
      makes = let w = look_again i.makes c.if-try_run_lock.ensures.makes in (w.0 ++ MoveStation ∷ [], Taken w.1, makes_then w.2 m.makes);
      sole = λ sole. (ap solo m.makes.knows ∙ ((t.sole (subst IsSole (sym i.same) sole)).0 ∙ ap (λ (y : View). locked_to true (solo y)) i.same), accounts sole);
    }
