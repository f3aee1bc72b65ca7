-- What steps of control keep of what the first seat knows, one after another.
use Rattle.std.proofs.Common.{◌≡◌, ℕ, false, List, ◌∷◌, ap, ◌∙◌}
use Rattle.lq_model.specs.Account.{Up}
use Rattle.lq_model.specs.declared.fate.Cause.{Cause}
use Rattle.lq_model.specs.declared.machine.Phase.{Phase}
use Rattle.lq_model.specs.declared.machine.Phase.TheVariants.{Active, Purged, Quiet}
use Rattle.lq_model.specs.declared.machine.Position.TheVariants.{Control, Idle}
use Rattle.lq_table.specs.Controls.{begin_control_view, set_deactivated_view, clear_deactivated_view, end_control_view}
use Rattle.lq_table.specs.Sees.{view, IsElseSame, IsSameSeat}
use Rattle.lq_table.specs.Locks.{try_lock_view_in_control}
use Rattle.lq_table.specs.Views.{View, FirstPart, HolderPart}
use Rattle.lq_table.specs.declared.shared.Cpu.{Cpu}
use Rattle.lq_ring.specs.Resized.{having_resized}
use Rattle.lq_run.proofs.Keeps.{IsElseKept}
use Rattle.lq_control.specs.Control.{IsKeptByControl, IsPurged, IsServed, KeepsDevice, phased, with_lock_free}
use Rattle.lq_control.specs.Seats.{IsReadyAt}
use Rattle.lq_control.proofs.FinishSteps.{ready_kept}

pub seat_then : {D : Type 0} (a b c : Cpu D) → IsSameSeat a b → IsSameSeat b c → IsSameSeat a c
seat_then a b c x y = (y.0 ∙ x.0, y.1 ∙ x.1)

abbrev pub Keeps : View → View → Type 0
Keeps v w = IsKeptByControl v w × KeepsDevice v w

pub keeps_then : (v w x : View) → Keeps v w → Keeps w x → Keeps v x
keeps_then v w x a b = let k = a.0 in let l = b.0 in let d = a.1 in let e = b.1 in (
  record { share = l.share ∙ k.share; turns = l.turns ∙ k.turns; first = l.first ∙ k.first; told = l.told ∙ k.told },
  record { origin = e.origin ∙ d.origin; gone = e.gone ∙ d.gone },
)

-- a call of control begins
pub keeps_begun : (v w : View) → w ≡ begin_control_view v → Keeps v w
keeps_begun v w e = (
  record { share = ap (λ (y : View). y.share) e; turns = ap (λ (y : View). y.turns) e; first = ap (λ (y : View). y.control.first) e; told = ap (λ (y : View). y.whole.told) e },
  record { origin = ap (λ (y : View). y.control.origin) e; gone = ap (λ (y : View). y.control.gone) e },
)

-- the run ends
pub keeps_ended : {D : Type 0} (b a : Cpu D) → IsElseKept b a → Keeps (view b) (view a)
keeps_ended b a e = (
  record { share = e.1; turns = e.7; first = ap (λ (c : FirstPart). c.first) e.4; told = e.5 },
  record { origin = ap (λ (c : FirstPart). c.origin) e.4; gone = ap (λ (c : FirstPart). c.gone) e.4 },
)

-- the run lock is got, and the rings are resized
module _ (len event : ℕ) (lost : List ℕ) (d : HolderPart) (v w x : View) (got : w ≡ try_lock_view_in_control d v) (turned : x ≡ having_resized len event lost w) where
  pub resized_from : x ≡ having_resized len event lost (try_lock_view_in_control d v)
  resized_from = turned ∙ ap (having_resized len event lost) got

  pub keeps_resized : Keeps v x
  keeps_resized = let e = resized_from in (
    record { share = ap (λ (y : View). y.share) e; turns = ap (λ (y : View). y.turns) e; first = ap (λ (y : View). y.control.first) e; told = ap (λ (y : View). y.whole.told) e },
    record { origin = ap (λ (y : View). y.control.origin) e; gone = ap (λ (y : View). y.control.gone) e },
  )

-- the run lock of a deactivated station is released
pub keeps_freed : (v w : View) → w ≡ with_lock_free v → Keeps v w
keeps_freed v w e = (
  record { share = ap (λ (y : View). y.share) e; turns = ap (λ (y : View). y.turns) e; first = ap (λ (y : View). y.control.first) e; told = ap (λ (y : View). y.whole.told) e },
  record { origin = ap (λ (y : View). y.control.origin) e; gone = ap (λ (y : View). y.control.gone) e },
)

-- a purge
pub keeps_purged : (c : Cause) (purged : List ℕ) (v w : View) → IsPurged c purged v w → Keeps v w
keeps_purged c purged v w p = let e = p.is in (
  record { share = ap (λ (y : View). y.share) e; turns = ap (λ (y : View). y.turns) e; first = ap (λ (y : View). y.control.first) e; told = ap (λ (y : View). y.whole.told) e ∙ p.told },
  record { origin = ap (λ (y : View). y.control.origin) e; gone = ap (λ (y : View). y.control.gone) e },
)

-- the station is deactivated, and the run lock got once no call is inside
pub keeps_closed : (event : ℕ) (p : Phase) (d : HolderPart) (v w : View) → w ≡ try_lock_view_in_control d (phased Quiet p (set_deactivated_view event v)) → Keeps v w
keeps_closed event p d v w e = (
  record { share = ap (λ (y : View). y.share) e; turns = ap (λ (y : View). y.turns) e; first = ap (λ (y : View). y.control.first) e; told = ap (λ (y : View). y.whole.told) e },
  record { origin = ap (λ (y : View). y.control.origin) e; gone = ap (λ (y : View). y.control.gone) e },
)

-- soft interrupts were done
pub keeps_served : (v w : View) → IsServed v w → Keeps v w
keeps_served v w s = (s.kept, record { origin = ap (λ (c : FirstPart). c.origin) s.control; gone = ap (λ (c : FirstPart). c.gone) s.control })

-- DEACTIVATED is cleared, and the call of control ends
module _ (v w x : View) (opened : w ≡ clear_deactivated_view v) (ends : x ≡ end_control_view w) where
  reopened_is : x ≡ end_control_view (clear_deactivated_view v)
  reopened_is = ends ∙ ap end_control_view opened

  pub keeps_reopened : Keeps v x
  keeps_reopened = let e = reopened_is in (
    record { share = ap (λ (y : View). y.share) e; turns = ap (λ (y : View). y.turns) e; first = ap (λ (y : View). y.control.first) e; told = ap (λ (y : View). y.whole.told) e },
    record { origin = ap (λ (y : View). y.control.origin) e; gone = ap (λ (y : View). y.control.gone) e },
  )

  pub reopened_trail : x.trail ≡ Up ∷ v.trail
  reopened_trail = ap (λ (y : View). y.trail) reopened_is

pub reopened_at : {D : Type 0} (b m a : Cpu D) → IsReadyAt (Control false) Purged b → IsElseSame b m → view m ≡ clear_deactivated_view (view b) → IsElseSame m a → view a ≡ end_control_view (view m) → IsReadyAt Idle Active a
reopened_at b m a at same opened same2 ends = let e = ends ∙ ap end_control_view opened in (
  ap (λ (y : View). y.place.position) e,
  ready_kept m a same2 (ap (λ (y : View). y.packets) ends) (ap (λ (y : View). y.locks) ends) (ap (λ (y : View). y.holder.resizing) ends)
      (ready_kept b m same (ap (λ (y : View). y.packets) opened) (ap (λ (y : View). y.locks) opened) (ap (λ (y : View). y.holder.resizing) opened) at.1),
  (ap (λ (y : View). y.control.phase) e, ap (λ (y : View). y.control.purge) e ∙ at.2.1),
)
