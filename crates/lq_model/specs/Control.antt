-- The steps of control: deactivation with its purge, activation, resize and the swap of the device.
use Rattle.std.specs.Prelude.{◌≡◌, ℕ, ◌+◌, Bool, true, false, ◌||◌, ◌&&◌, not, nat_lt, ◌==◌, if◌then◌else◌, List, [], ◌∷◌, map, take, length, slice_index, slice_set, Option, Some, None, is_none}
use Rattle.lq_model.specs.declared.machine.Packet.{Packet}
use Rattle.lq_model.specs.declared.machine.Phase.{Phase}
use Rattle.lq_model.specs.declared.machine.Phase.TheVariants.{Active, Closing, Quiet, Purged}
use Rattle.lq_model.specs.declared.machine.ControlStep.{ControlStep}
use Rattle.lq_model.specs.declared.machine.ControlStep.TheVariants.{Return, GetLock, RunEnd, Release, SetDeactivated, ClearDeactivated, LoadInside, PurgeSlot, PurgeBand, PurgeMissed, PurgeDraining, Resize, StoreOpen, OpenQueue}
use Rattle.lq_model.specs.declared.machine.Position.{Position}
use Rattle.lq_model.specs.declared.machine.Position.TheVariants.{Idle, Tail, Control}
use Rattle.lq_model.specs.declared.machine.Seat.{Seat}
use Rattle.lq_model.specs.Machine.{Qdisc, Machine, Purge, seat_at, band_at}
use Rattle.lq_model.specs.Steps.{After, goes_to, with_seat}

-- DEACTIVATION

-- the calls inside were loaded as 0 since DEACTIVATED was set
abbrev pub is_quiet : Phase → Bool
is_quiet Quiet = true
is_quiet Purged = true
is_quiet _ = false

abbrev pub is_purged_phase : Phase → Bool
is_purged_phase Purged = true
is_purged_phase _ = false

abbrev pub found_inside : ℕ → Phase → Phase
found_inside inside Closing = if inside == 0 then Quiet else Closing
found_inside inside phase = phase

abbrev pub after_purge : Phase → Phase
after_purge Quiet = Purged
after_purge phase = phase

-- PURGE

-- it waits for its next band, or for the bits after the last
abbrev pub looks_at_bands : Option Purge → Bool
looks_at_bands (Some u) = nat_lt u.band 3
looks_at_bands None = false

abbrev pub is_after_bands : Option Purge → Bool
is_after_bands (Some u) = not (nat_lt u.band 3)
is_after_bands None = false

abbrev pub band_purged : List Packet → Purge → Qdisc → Qdisc
band_purged [] u q = record q { purge = Some (record u { band = u.band + 1 }) }
band_purged (p ∷ rest) u q = record q { bands = slice_set q.bands u.band rest }

abbrev pub purge_band : Option Purge → Qdisc → Qdisc
purge_band (Some u) q = band_purged (band_at q u.band) u q
purge_band None q = q

-- the purge ends where both bits were cleared
abbrev pub purge_goes_on : Purge → Qdisc → Qdisc
purge_goes_on u q = if u.missed && u.draining then record q { purge = None; phase = after_purge q.phase } else record q { purge = Some u }

abbrev pub purge_missed : Option Purge → Qdisc → Qdisc
purge_missed (Some u) q = purge_goes_on (record u { missed = true }) (record q { missed = false })
purge_missed None q = q

abbrev pub purge_draining : Option Purge → Qdisc → Qdisc
purge_draining (Some u) q = purge_goes_on (record u { draining = true }) (record q { draining = false })
purge_draining None q = q

-- THE STEPS

abbrev pub queue_opened : ℕ → Qdisc → Seat → After
queue_opened queue q s =
    record { qdisc = record q { xoff = slice_set q.xoff queue 0; sched = true }; seat = record s { position = Control true; raised = s.raised || not q.sched } }

-- what a step of control leaves, where its seat holds the run lock or doesn't
abbrev pub control_at : ControlStep → Bool → Qdisc → Seat → After
control_at Return holds q s = goes_to q s Idle
control_at GetLock holds q s = goes_to (record q { locked = true }) s (Control true)
control_at RunEnd holds q s = goes_to (record q { locked = false }) s (Tail false)
control_at Release holds q s = goes_to (record q { locked = false }) s (Control false)
control_at SetDeactivated holds q s = goes_to (record q { deactivated = true; phase = Closing }) s (Control holds)
control_at ClearDeactivated holds q s = goes_to (record q { deactivated = false; phase = Active }) s (Control holds)
control_at LoadInside holds q s = goes_to (record q { phase = found_inside q.inside q.phase }) s (Control holds)
control_at PurgeSlot holds q s = goes_to (record q { slot = None; purge = Some (record { band = 0; missed = false; draining = false }) }) s (Control holds)
control_at PurgeBand holds q s = goes_to (purge_band q.purge q) s (Control holds)
control_at PurgeMissed holds q s = goes_to (purge_missed q.purge q) s (Control holds)
control_at PurgeDraining holds q s = goes_to (purge_draining q.purge q) s (Control holds)
control_at (Resize len) holds q s = goes_to (record q { bands = map (λ band. take len band) q.bands; len = len }) s (Control holds)
control_at (StoreOpen queue) holds q s = goes_to (record q { xoff = slice_set q.xoff queue 0 }) s (Control holds)
control_at (OpenQueue queue) holds q s = queue_opened queue q s

-- where it may come; a sole seat is the machine's only one
abbrev pub may_control : ControlStep → Bool → Bool → Qdisc → Bool
may_control Return sole holds q = not holds
may_control GetLock sole holds q = not holds && not q.locked
may_control RunEnd sole holds q = holds && is_none q.purge
may_control Release sole holds q = holds && is_none q.purge && q.deactivated
may_control SetDeactivated sole holds q = not q.deactivated && is_none q.purge
may_control ClearDeactivated sole holds q = not holds && is_none q.purge && is_purged_phase q.phase
may_control LoadInside sole holds q = true
may_control PurgeSlot sole holds q = holds && is_none q.purge && (is_quiet q.phase || sole)
may_control PurgeBand sole holds q = holds && looks_at_bands q.purge
may_control PurgeMissed sole holds q = holds && is_after_bands q.purge
may_control PurgeDraining sole holds q = holds && is_after_bands q.purge
may_control (Resize len) sole holds q = holds && is_none q.purge
may_control (StoreOpen queue) sole holds q = holds && is_none q.purge && is_purged_phase q.phase
may_control (OpenQueue queue) sole holds q = holds && is_none q.purge && (slice_index q.xoff queue == 1)

abbrev pub is_control : Position → Bool
is_control (Control holds) = true
is_control _ = false

abbrev pub holds_as_control : Position → Bool
holds_as_control (Control holds) = holds
holds_as_control _ = false

abbrev pub is_sole : Machine → Bool
is_sole m = length m.seats == 1

-- what a step of control on seat i leaves, where it can do one
abbrev pub control_of : Machine → ℕ → ControlStep → Option Machine
control_of m i step =
    if nat_lt i (length m.seats) && is_control (seat_at m i).position && may_control step (is_sole m) (holds_as_control (seat_at m i).position) m.qdisc
    then Some (with_seat m i (control_at step (holds_as_control (seat_at m i).position) m.qdisc (seat_at m i))) else None

abbrev pub Controls : Machine → ℕ → ControlStep → Machine → Type 0
Controls m i step m' = control_of m i step ≡ Some m'
