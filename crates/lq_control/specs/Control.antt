-- What the calls of control make of what the first seat knows.
use Rattle.std.specs.Prelude.{◌≡◌, ◌<◌, ℕ, true, false, List, ◌∷◌, ◌++◌, Option, None, Contains}
use Rattle.std.specs.Option.{option_map, option_to_list}
use Rattle.lq_model.specs.Account.{Event, Down, Purge as PurgeEvent}
use Rattle.lq_model.specs.Band.{Band, held_of}
use Rattle.lq_model.specs.Control.{after_purge}
use Rattle.lq_model.specs.declared.fate.Cause.{Cause}
use Rattle.lq_model.specs.declared.fate.Cause.TheVariants as cause
use Rattle.lq_model.specs.declared.fate.Fate.{Fate}
use Rattle.lq_model.specs.declared.fate.Fate.TheVariants as fate
use Rattle.lq_model.specs.declared.machine.Phase.{Phase}
use Rattle.lq_model.specs.declared.machine.Position.TheVariants.{Control}
use Rattle.lq_band_laws.specs.Three.{Three}
use Rattle.lq_band_laws.specs.Ring.{Ends}
use Rattle.lq_table.specs.Views.{View, WholePart}
use Rattle.lq_table.specs.Rule.{IsResting, units_of}
use Rattle.lq_table.specs.Locks.{locked_to}
use Rattle.lq_table.specs.Sees.{Solo, IsSole, solo, heard}
use Rattle.lq_table.specs.States.{missed_to, draining_to}
use Rattle.lq_qdisc.specs.Calls.{KeepsFates}
use Rattle.lq_ring.specs.Fates.{fates_onto}

-- what each call of control leaves as it was
pub record IsKeptByControl (v w : View) : Type 0 where
  pub share : w.share ≡ v.share
  pub turns : w.turns ≡ v.turns
  pub first : w.control.first ≡ v.control.first
  pub told : w.whole.told ≡ v.whole.told

-- the device that came, and those that swaps took away, are as they were
pub record KeepsDevice (v w : View) : Type 0 where
  pub origin : w.control.origin ≡ v.control.origin
  pub gone : w.control.gone ≡ v.control.gone

-- what soft interrupts leave as it was; the fates that they store come before those stored before
pub record IsServed (v w : View) : Type 0 where
  pub kept : IsKeptByControl v w
  pub control : w.control ≡ v.control
  pub trail : w.trail ≡ v.trail
  pub fates : KeepsFates v w

-- The fate of each of these packets was stored, in order; fates that soft interrupts store come before those.
abbrev pub Stores : Fate → List ℕ → View → View → Type 0
Stores f ns v w = (more : List (ℕ × Fate)) × (w.settled ≡ more ++ fates_onto f ns v.settled)

-- the seat knows that the station is in this phase, and no purge is half done
abbrev pub IsIn : Phase → View → Type 0
IsIn phase v = (v.control.phase ≡ phase) × (v.control.purge ≡ None)

-- PHASES

-- the first seat knows this phase, and the whole state tells that one
abbrev pub phased : Phase → Phase → View → View
phased own known v = record v { control = record v.control { phase = own }; whole = record v.whole { qdisc = record v.whole.qdisc { phase = known } } }

-- control has released the run lock of a deactivated station
abbrev pub with_lock_free : View → View
with_lock_free v = record v { place = record v.place { position = Control false }; whole = record v.whole { qdisc = record v.whole.qdisc { locked = false } } }

-- WHAT A SEAT KNOWS THAT HAS THE TABLE ALONE

-- the seat isn't raised, and one that has the table alone knows SCHED as clear
abbrev pub OwesNoInterrupt : View → Type 0
OwesNoInterrupt v = (v.place.raised ≡ false) × (IsSole v → v.whole.qdisc.sched ≡ false)

-- the station was deactivated and purged
abbrev pub deactivated_solo : ℕ → Solo → Solo
deactivated_solo event s = locked_to false (missed_to false (draining_to false (heard (PurgeEvent (cause.Event event)) (locked_to true (heard (Down event) s)))))

-- SWAPS

-- the unit is above every one that the station had
pub record IsAfterUnits (station : ℕ) (trail : List Event) (unit : ℕ) : Type 0 where
  pub first : station < unit
  pub later : (u : ℕ) → Contains (units_of trail) u → u < unit

-- a swap of the device has stored the stop words as this says
abbrev pub all_opened : Option ℕ → WholePart → View → View
all_opened shut whole v = record v { holder = record v.holder { shut = shut }; whole = whole }

-- PURGES

-- what a purge takes: the packet in the requeue slot, and those of bands 0, 1 and 2 in order
abbrev pub all_purged : Option ℕ → Three Band → List ℕ
all_purged slot bands = option_to_list slot ++ (held_of bands.low ++ (held_of bands.mid ++ held_of bands.high))

-- a purge by this cause owes its fate to the packet that lay in the requeue slot, if there was one
abbrev pub OwesPurged : Cause → Option ℕ → View → Type 0
OwesPurged cause s v = v.packets.owed ≡ option_map (λ n. (n, fate.Purged cause)) s

-- A purge is done, whose event came before: each of these packets has Purged as its fate, which is stored, and MISSED and
-- DRAINING are clear.
pub record IsPurgeDone (cause : Cause) (purged : List ℕ) (v w : View) : Type 0 where
  pub ends : Three Ends
  pub whole : WholePart
  pub is : w ≡ record v {
    packets = record v.packets { owed = None };
    holder = record v.holder { ends = ends; left = None };
    control = record v.control { phase = after_purge v.control.phase; purge = None };
    whole = whole;
    settled = fates_onto (fate.Purged cause) purged v.settled;
  }
  pub rests : IsResting v.holder.size ends
  pub told : whole.told ≡ v.whole.told
  pub alone : solo (record v { whole = whole }) ≡ missed_to false (draining_to false (solo v))

-- a whole purge, with its event
pub record IsPurged (cause : Cause) (purged : List ℕ) (v w : View) : Type 0 where
  pub ends : Three Ends
  pub whole : WholePart
  pub is : w ≡ record v {
    holder = record v.holder { slot = None; ends = ends; left = None };
    control = record v.control { phase = after_purge v.control.phase; purge = None };
    whole = whole;
    settled = fates_onto (fate.Purged cause) purged v.settled;
    trail = PurgeEvent cause ∷ v.trail;
  }
  pub rests : IsResting v.holder.size ends
  pub told : whole.told ≡ v.whole.told
  pub alone : solo (record v { whole = whole }) ≡ missed_to false (draining_to false (heard (PurgeEvent cause) (solo v)))
