-- The calls on the rings, each with the lists of steps that it may make, the first step first. Where these depend on how the seat stands
-- before the call, that is a Standing.
use Rattle.std.specs.Prelude.{◌≡◌, ◌≢◌, ℕ, zero, suc, ◌+◌, ◌-◌, ◌/◌, ◌%◌, Bool, true, false, if◌then◌else◌, List, [], ◌∷◌, ◌++◌, Option, Some, None, Result, Ok, Err}
use Rattle.lq_model.specs.declared.fate.Cause.{Cause}
use Rattle.lq_model.specs.declared.fate.Fate.{Fate}
use Rattle.lq_model.specs.declared.fate.Fate.TheVariants as fate
use Rattle.lq_ring_core.specs.Ring.{next_place}
use Rattle.lq_ring_core.specs.declared.ring.Full.{Full}
use Rattle.lq_band_laws.specs.Ring.{Ends, all_empty, is_emptying, taken_on}
use Rattle.lq_band_laws.specs.Three.{Three, at}
use Rattle.lq_table.specs.Step.{MakesSteps, Standing, Step, standing, step_leaves, steps_leave}
use Rattle.lq_table.specs.Step.{BeginResize, ClearSlot, FillSlot, GiveProducer, HeadSlot, LoadProducer, LoadSize, ProducerSlot, PurgeSlot, SetEnds, SetProducer, Settle, StoreSize, StoreSlot, TakeProducer, ZeroSlot}
use Rattle.lq_table.specs.declared.shared.Cpu.{Cpu}

module _ {D : Type 0} where
  -- the seat makes the steps of a list that is such from where it stands
  abbrev pub MakesStepsFrom : (Standing → List Step → Type 0) → Cpu D → Cpu D → Type 0
  MakesStepsFrom such b a = (xs : List Step) × such (standing b) xs × MakesSteps xs b a

-- PUTS

-- The producer lock is waited for: its word is loaded, and where it is free the lock is tried, until it is got with this index.
pub data LockProducer (band index : ℕ) : List Step → Type 0 where
  Waits : {seen : ℕ} {rest : List Step} → seen % 2 ≢ 0 → LockProducer band index rest
      → LockProducer band index (LoadProducer band seen ∷ rest)
  Loses : {seen : ℕ} {rest : List Step} → seen % 2 ≡ 0 → LockProducer band index rest
      → LockProducer band index (LoadProducer band seen ∷ TakeProducer band seen false ∷ rest)
  Gets : {seen : ℕ} → seen % 2 ≡ 0 → index ≡ seen / 2
      → LockProducer band index (LoadProducer band seen ∷ TakeProducer band seen true ∷ [])

-- Under the lock the size and the slot at the index are loaded. Where the slot is empty the packet is stored there, and the lock given back
-- with the next index; else it is given back with this one, and the packet is dropped as full.
pub data ProduceLocked (band index n : ℕ) : Result (Unit {0}) Full → List Step → Type 0 where
  Joined : {size : ℕ}
      → ProduceLocked band index n (Ok tt) (LoadSize size ∷ ProducerSlot band 0 ∷ StoreSlot band n ∷ GiveProducer band (next_place size index) ∷ [])
  DroppedFull : {size : ℕ} {full : Full}
      → ProduceLocked band index n (Err full) (LoadSize size ∷ ProducerSlot band (full.seen + 1) ∷ GiveProducer band index ∷ [])

-- `ptr_ring_produce` of include/linux/ptr_ring.h
pub data Produce (band n : ℕ) : Result (Unit {0}) Full → List Step → Type 0 where
  Produces : {index : ℕ} {answer : Result (Unit {0}) Full} {locked rest : List Step} → LockProducer band index locked
      → ProduceLocked band index n answer rest → Produce band n answer (locked ++ rest)

-- TAKES

-- so many slots below head are emptied, the highest first
abbrev pub zero_steps : ℕ → ℕ → ℕ → List Step
zero_steps band head zero = []
zero_steps band head (suc n) = ZeroSlot band (head - 1) ∷ zero_steps band (head - 1) n

-- `__ptr_ring_discard_one` of include/linux/ptr_ring.h, where these are the ends after the packet at the head was taken: where a batch was
-- taken, or the last slot, the slots that were taken are emptied, up to the head. Then the station has the new ends.
abbrev pub discard_steps : ℕ → ℕ → Ends → List Step
discard_steps band size c = if is_emptying size c
    then zero_steps band c.head (c.head - c.tail) ++ SetEnds band (all_empty size c).head (all_empty size c).tail ∷ []
    else SetEnds band c.head c.tail ∷ []

-- `__ptr_ring_consume` of include/linux/ptr_ring.h: the slot at the head is loaded as 0, or with a packet, which is taken
pub data Consume (band : ℕ) (before : Standing) : Option ℕ → List Step → Type 0 where
  FindsEmpty : {size : ℕ} → Consume band before None (LoadSize size ∷ HeadSlot band 0 ∷ [])
  TakesFirst : {size n : ℕ} → Consume band before (Some n)
      (LoadSize size ∷ HeadSlot band (n + 1) ∷ discard_steps band size (taken_on (at band before.view.holder.ends)))

-- PURGES

-- In rings of this size: the slot at the head is loaded as 0; or its packet is taken, and its fate stored.
pub data PurgeOne (band size : ℕ) (cause : Cause) (before : Standing) : Bool → List Step → Type 0 where
  FindsNone : PurgeOne band size cause before false (PurgeSlot band 0 ∷ [])
  PurgesNext : {n : ℕ} → PurgeOne band size cause before true
      (PurgeSlot band (n + 1) ∷ Settle n (fate.Purged cause) ∷ discard_steps band size (taken_on (at band before.view.holder.ends)))

-- so many packets are purged, one after another
pub data PurgeEach (band size : ℕ) (cause : Cause) (before : Standing) : ℕ → List Step → Type 0 where
  NoneYet : PurgeEach band size cause before 0 []
  OneMore : {count : ℕ} {first next : List Step} → PurgeEach band size cause before count first
      → PurgeOne band size cause (steps_leave first before) true next → PurgeEach band size cause before (count + 1) (first ++ next)

-- `pfifo_fast_reset` of net/sched/sch_generic.c, at the band that a purge has come to: the size is loaded, so many packets are purged, and
-- then the slot at the head is loaded as 0
pub data PurgeBand (band : ℕ) (cause : Cause) (before : Standing) : ℕ → List Step → Type 0 where
  EmptiesBand : {size count : ℕ} {each : List Step} → PurgeEach band size cause (step_leaves (LoadSize size) before) count each
      → PurgeBand band cause before count (LoadSize size ∷ each ++ PurgeSlot band 0 ∷ [])

-- A RESIZE

-- A band is turned: its slots are exchanged for 0 and stored, and fates of packets that it drops are stored.
pub data TurnRing (band : ℕ) : List Step → Type 0 where
  Turned : TurnRing band []
  Clears : {i found : ℕ} {rest : List Step} → TurnRing band rest → TurnRing band (ClearSlot band i found ∷ rest)
  Fills : {i n : ℕ} {rest : List Step} → TurnRing band rest → TurnRing band (FillSlot band i n ∷ rest)
  Settles : {n : ℕ} {fate : Fate} {rest : List Step} → TurnRing band rest → TurnRing band (Settle n fate ∷ rest)

-- and then its producer is set, whose lock stays taken
pub data TurnAt (band index : ℕ) : List Step → Type 0 where
  Sets : {turned : List Step} → TurnRing band turned → TurnAt band index (turned ++ SetProducer band index ∷ [])

-- The size is loaded, with which the resize begins, where the bands hold these packets; the bands are turned, and the new size is stored.
pub data TurnAll (len event : ℕ) (held : ℕ → List ℕ) (low mid high : ℕ) : List Step → Type 0 where
  TurnsThree : {slots : Three (List ℕ)} {begun : ℕ} {one two three : List Step} → TurnAt 0 low one → TurnAt 1 mid two
      → TurnAt 2 high three
      → TurnAll len event held low mid high (BeginResize len event held slots begun ∷ one ++ two ++ three ++ StoreSize len ∷ [])

-- the producer locks of bands 0, 1 and 2, in this order
pub data LockAll : List Step → Type 0 where
  LocksThree : {low mid high : ℕ} {one two three : List Step} → LockProducer 0 low one → LockProducer 1 mid two → LockProducer 2 high three
      → LockAll (one ++ two ++ three)

-- they are given back in the same order, after a load of the size
abbrev pub unlock_steps : ℕ → ℕ → ℕ → ℕ → List Step
unlock_steps stored low mid high = LoadSize stored ∷ GiveProducer 0 low ∷ GiveProducer 1 mid ∷ GiveProducer 2 high ∷ []

-- `ptr_ring_resize_multiple` of include/linux/ptr_ring.h, where the bands hold these packets: the three producer locks are taken, the size
-- is loaded, the bands are turned, the locks are given back, and in the station that the seat carries the rings start again
pub data ResizeAll (len event : ℕ) (held : ℕ → List ℕ) : List Step → Type 0 where
  ResizesThree : {low mid high : ℕ} {locked turned : List Step} (size stored : ℕ) → LockAll locked
      → TurnAll len event held low mid high turned
      → ResizeAll len event held
      (locked ++ LoadSize size ∷ turned ++ unlock_steps stored low mid high ++ SetEnds 0 0 0 ∷ SetEnds 1 0 0 ∷ SetEnds 2 0 0 ∷ [])
