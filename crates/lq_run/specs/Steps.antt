-- The calls of the run lock, each with the lists of steps that it may make.
use Rattle.std.specs.Prelude.{◌≡◌, ◌≢◌, ℕ, Bool, true, false, List, [], ◌∷◌, ◌++◌, Some, None}
use Rattle.lq_table.specs.Moves.{is_set}
use Rattle.lq_table.specs.Step.{LoadState, LookLock, LookMissed, MakesSteps, Miss, MoveStation, SetSched, Step, TryLock, Unlock}
use Rattle.lq_table.specs.Views.{HolderPart}
use Rattle.lq_table.specs.declared.shared.Cpu.{Cpu}

-- `queued_spin_trylock` of include/asm-generic/qspinlock.h: the lock is looked at; where it is held that is a failed try, and where it
-- is free it is tried.
pub data TryRunLock : Bool → List Step → Type 0 where
  Held : {found : ℕ} → found ≢ 0 → TryRunLock false (LookLock found ∷ [])
  Lost : TryRunLock false (LookLock 0 ∷ TryLock None ∷ [])
  Got : {d : HolderPart} → TryRunLock true (LookLock 0 ∷ TryLock (Some d) ∷ [])

-- The state is looked at: where it has MISSED nothing is left to set. Else MISSED is set, and perhaps was set meanwhile.
pub data NoteMissed : Bool → List Step → Type 0 where
  Seen : {state : ℕ} → is_set 4 state ≡ true → NoteMissed true (LookMissed state ∷ [])
  Set : {state : ℕ} {was : Bool} → is_set 4 state ≡ false → NoteMissed was (LookMissed state ∷ Miss was ∷ [])

-- `qdisc_run_begin` of include/net/sch_generic.h: the lock is tried. Where it was held MISSED is set: where it was set before, the answer
-- is no; else the lock is tried once more, which gives the answer. Who gets the lock takes the station out of the table's slot.
pub data Begin : Bool → List Step → Type 0 where
  AtOnce : {first : List Step} → TryRunLock true first → Begin true (first ++ MoveStation ∷ [])
  MissedBefore : {first noted : List Step} → TryRunLock false first → NoteMissed true noted → Begin false (first ++ noted)
  InTheEnd : {first noted again : List Step} → TryRunLock false first → NoteMissed false noted → TryRunLock true again → Begin true (first ++ noted ++ again ++ MoveStation ∷ [])
  Missed : {first noted again : List Step} → TryRunLock false first → NoteMissed false noted → TryRunLock false again → Begin false (first ++ noted ++ again)

-- `qdisc_run_end` of include/net/sch_generic.h: the station is laid back, the lock released, the state loaded, and SCHED set where that
-- has MISSED.
pub data End : List Step → Type 0 where
  NoneMissed : {state : ℕ} → is_set 4 state ≡ false → End (MoveStation ∷ Unlock ∷ LoadState state ∷ [])
  Schedules : {state : ℕ} {was : Bool} → is_set 4 state ≡ true → End (MoveStation ∷ Unlock ∷ LoadState state ∷ SetSched was ∷ [])

module _ {D : Type 0} where
  -- the seat makes the steps of a list that is such
  abbrev pub MakesStepsOf : (List Step → Type 0) → Cpu D → Cpu D → Type 0
  MakesStepsOf such b a = (xs : List Step) × such xs × MakesSteps xs b a
