-- The steps on the run lock.
use Rattle.std.specs.Prelude.{Bool, ℕ, true, ◌≡◌, ◌∷◌, Option, false, not, if◌then◌else◌, ◌<◌, Some, None, is_none, ◌&&◌}
use Rattle.lq_log.specs.Made.{Made, load, exchange, store}
use Rattle.lq_model.specs.Control.{is_control}
use Rattle.lq_model.specs.Machine.{Qdisc, bit, Purge, is_closed}
use Rattle.lq_model.specs.declared.machine.Answer.TheVariants.{Plain}
use Rattle.lq_model.specs.declared.machine.Position.TheVariants.{Control, Try1, Try2, Unlock, Tail}
use Rattle.lq_model.specs.declared.machine.Position.{Position}
use Rattle.lq_table.specs.Moves.{seen_by, stepped, moved, IsKnownSlot}
use Rattle.lq_table.specs.Places.{lock_place}
use Rattle.lq_table.specs.Rule.{shown, units_of, IsResting}
use Rattle.lq_table.specs.Sees.{view, slot, Solo, solo, IsAccounts}
use Rattle.lq_table.specs.Views.{View, HolderPart}
use Rattle.lq_table.specs.declared.shared.Cpu.{Cpu}

-- what a seat that has the table alone knows, with the lock so
abbrev pub locked_to : Bool → Solo → Solo
locked_to bit v = record v { whole = record v.whole { locked = bit } }

-- the machine as an exchange of the lock shows it
abbrev pub seen_lock : Qdisc → Bool → Qdisc
seen_lock base locked = record base { locked = locked }

-- look_lock, load_lock: the lock is loaded. Before a try that is the failed try where it is held, and nothing where it is free.

abbrev pub load_lock_log : ℕ → Made
load_lock_log found = load lock_place found

abbrev pub look_lock_view : View → View
look_lock_view v = stepped Plain (seen_lock (seen_by v) true) v

-- try_lock: the lock is got with the station that lies in the table's slot, by a call or by control; or it was held.

abbrev pub try_lock_log : Bool → Made
try_lock_log got = exchange lock_place 0 1 got

abbrev pub try_lock_at : Position → Bool
try_lock_at (Try1 attempt) = true
try_lock_at (Try2 attempt) = true
try_lock_at (Control holds) = not holds
try_lock_at _ = false

-- a call has got the lock
abbrev pub try_lock_view_in_call : HolderPart → View → View
try_lock_view_in_call d v = moved Plain (seen_lock (seen_by (record v { holder = d })) false) (λ _. d) (λ g. g) v

-- control has got it
abbrev pub try_lock_view_in_control : HolderPart → View → View
try_lock_view_in_control d v = record v {
  place = record v.place { position = Control true };
  holder = d;
  whole = record v.whole { qdisc = record v.whole.qdisc { locked = true } };
}

-- the lock is got, and with it the station, as this says
abbrev pub try_lock_view : HolderPart → View → View
try_lock_view d v = if is_control v.place.position then try_lock_view_in_control d v else try_lock_view_in_call d v

-- a try of the run lock gets it just where it was free, and after it the lock is held; what the holder has is the account's
abbrev pub SeesTry : Bool → View → View → Type 0
SeesTry gets v w = (solo w ≡ locked_to true (solo v)) × (gets ≡ not v.whole.qdisc.locked) × (gets ≡ true → IsAccounts w)

module _ {D : Type 0} where
  -- The run lock is got, and with it the slot, in which the station lies: the rings rest, nothing is in hand, no resize and no swap is
  -- half done, a packet in the requeue slot is one of the capture, and the first seat knows the units.
  abbrev pub GetsRunLock : Cpu D → Cpu D → Type 0
  GetsRunLock b a = (d : HolderPart) × (view a ≡ try_lock_view d (view b)) × (slot a ≡ (0, Some (shown d)) ∷ slot b) × IsResting d.size d.ends × (0 < d.size) × (d.hand ≡ None) × (d.resizing ≡ None)
      × (d.shut ≡ None) × IsKnownSlot (view b).share.about d.slot × ((view b).control.first ≡ true → d.units ≡ units_of (view b).trail)

-- unlock: the lock is released, after a run or by control, and the station is given back.

abbrev pub unlock_log : Made
unlock_log = store lock_place 0

-- the lock may be released: after a run, or by control with no purge and no swap half done
abbrev pub unlock_at : Position → Option Purge → Option ℕ → Bool
unlock_at Unlock purge shut = true
unlock_at (Control holds) purge shut = holds && (is_none purge && is_none shut)
unlock_at _ purge shut = false

abbrev pub unlock_view_in_call : View → View
unlock_view_in_call v = stepped Plain (seen_lock (seen_by v) false) v

-- control that released it looks at the state as after a run, unless the station is deactivated
abbrev pub after_release : Bool → Position
after_release deactivated = if deactivated then Control false else Tail false

abbrev pub unlock_view_in_control : View → View
unlock_view_in_control v = record v {
  place = record v.place { position = after_release (is_closed v.control.phase) };
  whole = record v.whole { qdisc = record v.whole.qdisc { locked = false } };
}

abbrev pub unlock_view : View → View
unlock_view v = if is_control v.place.position then unlock_view_in_control v else unlock_view_in_call v
