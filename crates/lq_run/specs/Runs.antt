-- How a seat stands before a call of the run lock and after it, and what a seat knows after an end that has the table alone.
use Rattle.std.specs.Prelude.{◌≡◌, ◌<◌, ℕ, true, false, if◌then◌else◌, [], ◌∷◌, Some, None}
use Rattle.lq_model.specs.declared.machine.Attempt.TheVariants.{Queued, Direct, Interrupt}
use Rattle.lq_model.specs.declared.machine.Position.{Position}
use Rattle.lq_model.specs.declared.machine.Phase.TheVariants.{Active}
use Rattle.lq_model.specs.declared.machine.Position.TheVariants.{Control, Idle, Try1, Recheck, Leave, Put, Unlock}
use Rattle.lq_model.specs.Steps.{dequeue_begins}
use Rattle.lq_table.specs.Views.{View}
use Rattle.lq_table.specs.Rule.{shown, IsResting}
use Rattle.lq_table.specs.Moves.{seen_by, IsKnownSlot}
use Rattle.lq_table.specs.States.{set_sched_alone}
use Rattle.lq_table.specs.Locks.{locked_to}
use Rattle.lq_table.specs.Sees.{view, position, slot, Solo}
use Rattle.lq_table.specs.declared.shared.Cpu.{Cpu}

-- where a dequeue begins
abbrev pub begins : View → Position
begins v = dequeue_begins (seen_by v)

-- after a try that got the lock
abbrev pub after_got : View → Position → Position
after_got v (Try1 (Direct p)) = Recheck p
after_got v (Try1 (Queued p)) = begins v
after_got v (Try1 Interrupt) = begins v
after_got v position = position

-- after two that didn't
abbrev pub after_missed : Position → Position
after_missed (Try1 (Direct p)) = Put p false
after_missed (Try1 (Queued p)) = Leave
after_missed (Try1 Interrupt) = Leave
after_missed position = position

-- after a release: a run is at the end of its call, and control in no call
abbrev pub released_to : Position → Position
released_to Unlock = Leave
released_to position = Idle

-- how many packets the run has sent after a try that got the lock: a run begins with none, and a packet that goes past the bands
-- is counted before that
abbrev pub run_got : ℕ → Position → ℕ
run_got run (Try1 (Queued p)) = 0
run_got run (Try1 Interrupt) = 0
run_got run position = run

-- a seat that has the table alone, after the end of a run: the lock is free, and the table scheduled where MISSED is set
abbrev pub ended : Solo → Solo
ended s = if s.whole.missed then set_sched_alone s.whole.scheduled (locked_to false s) else locked_to false s

module _ {D : Type 0} where
  -- the seat carries the station as it is due at its next step, and has nothing else of the table's slot
  abbrev pub HasStation : Cpu D → Type 0
  HasStation c = (slot c ≡ (0, None) ∷ []) × (c.station ≡ Some (shown (view c).holder))

  abbrev pub HasNone : Cpu D → Type 0
  HasNone c = (slot c ≡ []) × (c.station ≡ None)

  -- no take or resize is half done
  abbrev pub Rests : Cpu D → Type 0
  Rests c = IsResting (view c).holder.size (view c).holder.ends × ((view c).holder.resizing ≡ None)

  -- the seat has the run lock and goes on from there: it carries the station, with nothing in hand, no take, resize or swap is half
  -- done, and a packet in the requeue slot is one of the capture
  abbrev pub BeginsAsHolder : Cpu D → Cpu D → Type 0
  BeginsAsHolder b a = (position a ≡ after_got (view a) (position b)) × HasStation a × Rests a × (0 < (view a).holder.size) × ((view a).holder.hand ≡ None) × ((view a).holder.shut ≡ None)
      × IsKnownSlot (view a).share.about (view a).holder.slot × ((view a).place.run ≡ run_got (view b).place.run (position b))

  -- it stands here, carries no station, and knows of the station what it knew
  abbrev pub StandsWithoutStation : Position → Cpu D → Cpu D → Type 0
  StandsWithoutStation at b a = (position a ≡ at) × HasNone a × ((view a).holder ≡ (view b).holder)

  -- the run lock of an active station may be released by control: no purge and no swap is half done
  abbrev pub MayReleaseActive : Cpu D → Type 0
  MayReleaseActive c = (position c ≡ Control true) × ((view c).control.phase ≡ Active) × ((view c).control.purge ≡ None) × ((view c).holder.shut ≡ None)

  -- The run lock may be released where the seat stands so. It carries the station, and no take or resize is half done.
  pub record MayReleaseRunLock (here : Cpu D → Type 0) (c : Cpu D) : Type 0 where
    pub at : here c
    pub rests : Rests c
    pub back : HasStation c
