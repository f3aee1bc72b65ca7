-- The kinds of steps of control.
use Rattle.std.proofs.Common.{◌≡◌, ℕ, ◌-◌, Bool, true, false, eqb, List, refl, sym, ap, ◌∙◌}
use Rattle.std.proofs.lemmas.Bool.{eqb-false, eqb-true, false≢true}
use Rattle.std.specs.Prelude.{if◌then◌else◌}
use Rattle.lq_band_laws.specs.Three.{Three, at}
use Rattle.lq_model.specs.Band.{Band}
use Rattle.lq_model.specs.Control.{is_control}
use Rattle.lq_model.specs.declared.fate.Cause.TheVariants as cause
use Rattle.lq_model.specs.declared.machine.Position.{Position}
use Rattle.lq_model.specs.declared.machine.Position.TheVariants as position
use Rattle.lq_table.specs.Moves.{at_rest}
use Rattle.lq_table.specs.Places.{size_place, slot_word, state_place, xoff_word}
use Rattle.lq_table.specs.Purges.{purge_slot_view, purge_slot_view_empty}
use Rattle.lq_table.specs.Rule.{is_live}
use Rattle.lq_table.specs.Step.{BeginControl, BeginHungPurge, BeginPurge, BeginResize, ClearDeactivated, EndControl, OpenXoff, PurgeSlot, ResetDraining, ResetMissed, SetDeactivated, Standing, SwapDevice, carried_station, purge_left, purge_of}
use Rattle.lq_table.specs.Views.{View}
use Rattle.lq_table_laws.specs.Stepped.{Leads, machine_after, machine_before, of_control}
use Rattle.lq_table_laws.proofs.AnyStep.{MovesAt, here, live, logs, one_of_control}
use Rattle.lq_table_laws.proofs.CallSteps.{state_small}
use Rattle.lq_table_laws.proofs.Controls.{activate_move, begin_move, deactivate_move, deactivate_moves, reset_draining_live, reset_draining_move, reset_missed_live, reset_missed_move, return_move}
use Rattle.lq_table_laws.proofs.Purges.{open_move, purge_begins, purge_passes, purge_takes_move, swap_move}
use Rattle.lq_table_laws.proofs.Resizes.{resize_begins}

-- A PURGE

pub begin_purge : (event : ℕ) (bands : Three Band) (seen : ℕ) (s : Standing) → MovesAt (BeginPurge event bands seen) s state_place
begin_purge event bands seen s t m = let may = m.may in
    purge_begins _ t.old t.rule state_place t.stored t.seat s.view t.after t.homes t.rule_after (here m) (live m) (ap is_live m.knows ∙ live m) m.station may.position (cause.Event event) bands m.knows (logs m).2
    may.calm may.alone

pub begin_hung_purge : (bands : Three Band) (seen : ℕ) (s : Standing) → MovesAt (BeginHungPurge bands seen) s state_place
begin_hung_purge bands seen s t m = let may = m.may in
    purge_begins _ t.old t.rule state_place t.stored t.seat s.view t.after t.homes t.rule_after (here m) (live m) (ap is_live m.knows ∙ live m) m.station may.position (cause.Hung s.view.holder.station.unit) bands
    m.knows (logs m).2 may.calm may.alone

pub purge_slot : (band seen : ℕ) (s : Standing) → MovesAt (PurgeSlot band seen) s (slot_word s.view.share.about band (at band s.view.holder.ends).head)
purge_slot band seen s t m = by (eqb seen 0) refl m.knows
  where
    v : View
    v = s.view

    by : (b : Bool) → eqb seen 0 ≡ b → t.after ≡ (if b then purge_slot_view_empty (purge_of v) v else purge_slot_view band (seen - 1) (purge_left v) v) → Leads one_of_control (machine_before t) (machine_after t)
    by true e is = let p = m.may in
        purge_passes _ t.old t.rule band _ t.stored t.seat v t.after t.homes t.rule_after (here m) (live m) (ap is_live is ∙ live m) m.station p.position (purge_of v) (logs m).2 p.band_within p.slot_within p.under_way
        p.band_is p.calm p.rests refl is ((logs m).1 ∙ eqb-true seen 0 e)
    by false e is = let p = m.may in
        purge_takes_move _ t.old t.rule band _ t.stored t.seat v t.after t.homes t.rule_after (here m) (live m) (ap is_live is ∙ live m) m.station p.position (purge_of v) (logs m).2 p.band_within p.slot_within p.under_way
        p.band_is p.calm p.rests refl (purge_left v) (is ∙ ap (λ (z : ℕ). purge_slot_view band (z - 1) (purge_left v) v) (sym (logs m).1)) (λ z. eqb-false seen 0 e (sym (logs m).1 ∙ z))

pub reset_missed : (s : Standing) → MovesAt ResetMissed s state_place
reset_missed s t m = let passed = m.may.1 in
    reset_missed_move _ t.old t.rule t.stored t.seat s.view t.after t.homes t.rule_after (here m) (live m) (ap is_live m.knows ∙ (reset_missed_live s.view.control.purge s.view ∙ live m)) m.station
    passed.0 m.knows (logs m).1 (state_small t) m.may.0 passed.2 passed.3

pub reset_draining : (s : Standing) → MovesAt ResetDraining s state_place
reset_draining s t m = let passed = m.may.1 in
    reset_draining_move _ t.old t.rule t.stored t.seat s.view t.after t.homes t.rule_after (here m) (live m) (ap is_live m.knows ∙ (reset_draining_live s.view.control.purge s.view ∙ live m)) m.station
    passed.0 m.knows (logs m).1 (state_small t) m.may.0 passed.2 passed.3

-- A RESIZE

pub begin_resize : (len event : ℕ) (held : ℕ → List ℕ) (slots : Three (List ℕ)) (seen : ℕ) (s : Standing) → MovesAt (BeginResize len event held slots seen) s size_place
begin_resize len event held slots seen s t m = let b = m.may.1 in
    resize_begins _ t.old t.rule size_place t.stored t.seat s.view t.after t.homes t.rule_after (here m) (live m) (ap is_live m.knows ∙ live m) m.station m.may.0 len event held slots m.knows (logs m).2
    b.position b.no_purge b.calm b.told

-- A CALL OF CONTROL

pub begin_control : (seen : ℕ) (s : Standing) → MovesAt (BeginControl seen) s 0
begin_control seen s t m = begin_move _ t.old t.rule 0 t.stored t.seat s.view t.after t.homes t.rule_after (here m) (live m) (ap is_live m.knows ∙ live m) m.knows m.station (logs m).2 m.may

pub end_control : (seen : ℕ) (s : Standing) → MovesAt (EndControl seen) s 0
end_control seen s t m = return_move _ t.old t.rule 0 t.stored t.seat s.view t.after t.homes t.rule_after (here m) (live m) (ap is_live m.knows ∙ live m) m.knows m.station (logs m).2 m.may

pub set_deactivated : (event : ℕ) (was : Bool) (s : Standing) → MovesAt (SetDeactivated event was) s state_place
set_deactivated event was s t m = by v.place.position refl m.may.0
  where
    v : View
    v = s.view

    by : (p : Position) → v.place.position ≡ p → at_rest p ≡ true → Leads (if is_control p then one_of_control else of_control 2 19) (machine_before t) (machine_after t)
    by position.Idle e h = deactivate_moves _ t.old t.rule t.stored t.seat v t.after t.homes t.rule_after (here m) (live m) (ap is_live m.knows ∙ live m) m.station event m.knows (logs m).2 m.may.1 e
    by (position.Control false) e h = deactivate_move _ t.old t.rule t.stored t.seat v t.after t.homes t.rule_after (here m) (live m) (ap is_live m.knows ∙ live m) m.station event m.knows (logs m).2 m.may.1 e
    by (position.Control true) e h = absurd (false≢true h)
    by _ e h = absurd (false≢true h)

pub clear_deactivated : (s : Standing) → MovesAt ClearDeactivated s state_place
clear_deactivated s t m = let may = m.may in
    activate_move _ t.old t.rule t.stored t.seat s.view t.after t.homes t.rule_after (here m) (live m) (ap is_live m.knows ∙ live m) m.station m.knows (logs m).1 may.0 may.1 may.2

pub swap_device : (s : Standing) → MovesAt SwapDevice s (xoff_word s.view.share.about 0)
swap_device s t m = let may = m.may.1 in
    swap_move _ t.old t.rule (xoff_word s.view.share.about 0) t.stored t.seat s.view t.after t.homes t.rule_after (here m) (live m) (ap is_live m.knows ∙ live m) m.station may.position (carried_station s) m.knows refl
    m.may.0 (logs m).1 may.purged may.calm

pub open_xoff : (queue : ℕ) (s : Standing) → MovesAt (OpenXoff queue) s (xoff_word s.view.share.about queue)
open_xoff queue s t m = let may = m.may.1 in
    open_move _ t.old t.rule (xoff_word s.view.share.about queue) t.stored t.seat s.view t.after t.homes t.rule_after (here m) (live m) (ap is_live m.knows ∙ live m) m.station may.position queue m.knows refl
    m.may.0 (logs m).1 may.purged may.calm
