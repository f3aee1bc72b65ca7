-- The calls and their parts: what each requires of the seat (`May..`), and what each ensures of it.
use Rattle.std.specs.Prelude.{◌≡◌, ℕ, List, None, Bool, Some}
use Rattle.lq_model.specs.declared.fate.Info.{Info}
use Rattle.lq_model.specs.declared.machine.Position.{Position}
use Rattle.lq_model.specs.declared.machine.Position.TheVariants.{Idle, Leave, Gate}
use Rattle.lq_run.specs.Runs.{HasNone}
use Rattle.lq_ring.specs.Put.{no_locks}
use Rattle.lq_table.specs.Sees.{view, setup, position, slot, packet_at, Solo, solo, IsElseSame}
use Rattle.lq_table.specs.Moves.{IsKnownSlot, IsPacketOf}
use Rattle.lq_table.specs.Views.{View}
use Rattle.lq_table.specs.Step.{Standing, Step, MakesSteps}
use Rattle.lq_ring.specs.StepLists.{MakesStepsFrom}
use Rattle.lq_table.specs.declared.shared.Cpu.{Cpu}
use Rattle.lq_table.specs.declared.shared.Shared.{Shared}
use Rattle.lq_qdisc.specs.Calls.{IsServing, KeepsFates, IsKeptInRun, IsSettledSame, IsTakenOf, after_dequeue}
use Rattle.lq_qdisc.specs.Direct.{StaysAt, hearing_stops, run_after, sent_leads, stopped_by}
use Rattle.lq_qdisc.specs.Sends.{HasCome, IsBringing, IsCallKept, IsReadyToSend, IsStill}
use Rattle.lq_qdisc.specs.declared.answers.Sending.{Sending}
use Rattle.lq_qdisc.specs.declared.answers.Through.{Through}
use Rattle.lq_qdisc.specs.declared.answers.Through.TheVariants.{Yes}
use Rattle.lq_qdisc.specs.declared.answers.Taken.{Taken}
use Rattle.lq_model.specs.declared.device.Tx.{Tx}
use Rattle.lq_qdisc.specs.Seats.{GoesOnFrom}
use Rattle.lq_qdisc.specs.StepLists.{stop_steps}

-- WHAT THEY REQUIRE

module _ {D : Type 0} where
  -- between the two steps on the calls inside: no producer lock and no station, and no resize is half done
  abbrev pub IsFreeInside : Cpu D → Type 0
  IsFreeInside c = HasNone c × ((view c).locks ≡ no_locks) × ((view c).holder.resizing ≡ None)

  -- The seat has the run lock and the station, and no packet in hand.
  pub record MayServe (t : Shared D) (c : Cpu D) : Type 0 where
    pub serving : IsServing c
    pub hand : (view c).holder.hand ≡ None
    pub slot : IsKnownSlot (setup t) (view c).holder.slot

  -- Packet n, which the holder has in hand, may be handed to the device: past the bands (`direct`) or out of them.
  pub record MayXmit (t : Shared D) (n : ℕ) (direct : Bool) (c : Cpu D) : Type 0 where
    pub packet : IsPacketOf (setup t) n
    pub at : position c ≡ Gate (packet_at t n) direct
    pub serving : IsServing c
    pub hand : (view c).holder.hand ≡ Some n

  -- The seat brings packet n, stands here in its call, and has the run lock or is without it as this says.
  pub record MayBring (t : Shared D) (n : ℕ) (here : Position) (has : Cpu D → Type 0) (c : Cpu D) : Type 0 where
    pub at : position c ≡ here
    pub brings : IsBringing t n c
    pub packet : IsPacketOf (setup t) n
    pub holds : has c

-- WHAT A RUN AND ITS PARTS ENSURE

module _ {D : Type 0} where
  -- A dequeue answered this, by such steps; it came to this, and the run goes on from there.
  pub record DequeuesAs (t : Shared D) (answer : Taken) (comes : View → View → Type 0) (such : Standing → List Step → Type 0) (b a : Cpu D) : Type 0 where
    pub kept : IsKeptInRun b a
    pub run : (view a).place.run ≡ (view b).place.run
    pub serving : IsServing a
    pub at : position a ≡ after_dequeue answer t.infos.now
    pub fates : IsSettledSame b a
    pub packet : IsTakenOf (setup t) answer
    pub came : comes (view b) (view a)
    pub makes : MakesStepsFrom such b a

  -- After a scan that found nothing the seat goes on to this position, by these steps. A seat that has the table alone knows this.
  pub record TakesNothing (next : Position) (told : Solo → Solo) (by : Cpu D → Cpu D → Type 0) (b a : Cpu D) : Type 0 where
    pub kept : IsKeptInRun b a
    pub run : (view a).place.run ≡ (view b).place.run
    pub station : (a.station ≡ b.station) × (slot a ≡ slot b)
    pub at : position a ≡ next
    pub fates : IsSettledSame b a
    pub same : ((view a).holder ≡ (view b).holder) × ((view a).whole.state ≡ (view b).whole.state) × (solo (view a) ≡ told (solo (view b)))
    pub makes : by b a

  -- From this position the holder handed the packet in hand to the device with this result, by such steps; it came to this.
  pub record XmitsBy (from : Bool → Position) (result : Through) (comes : View → View → Type 0) (such : Standing → List Step → Type 0) (b a : Cpu D) : Type 0 where
    pub kept : IsKeptInRun b a
    pub serving : IsServing a
    pub at : GoesOnFrom from result b a
    pub run : (view a).place.run ≡ run_after result (view b).place.run
    pub empty : result ≡ Yes → ((view a).holder.hand ≡ None) × ((view a).holder.slot ≡ None)
    pub trail : (view a).trail ≡ (view b).trail
    pub came : comes (view b) (view a)
    pub makes : MakesStepsFrom such b a

  -- The stop words that follow this answer of the device to a packet of the queue were stored.
  pub record StoresStops (t : Shared D) (queue : ℕ) (answer : Tx) (b a : Cpu D) : Type 0 where
    pub same : IsElseSame b a
    pub at : GoesOnFrom (λ direct. sent_leads answer queue direct (view b)) Yes b a
    pub stays : StaysAt (view b) (view a)
    pub past : (view a).whole.state.past ≡ stopped_by answer queue t.queues (view b).whole.state.past
    pub step : solo (view a) ≡ hearing_stops answer queue t.queues (solo (view b))
    pub makes : MakesSteps (stop_steps answer queue t.queues) b a

-- WHAT A TRANSMIT, THE INTERRUPTS AND THEIR PARTS ENSURE

module _ {D : Type 0} where
  -- The seat is at the end of its call, without the run lock, by such steps; this came of what it knew.
  pub record LeavesBy (comes : View → View → Type 0) (such : Standing → List Step → Type 0) (b a : Cpu D) : Type 0 where
    pub kept : IsCallKept b a
    pub fates : KeepsFates (view b) (view a)
    pub at : position a ≡ Leave
    pub free : IsFreeInside a
    pub came : comes (view b) (view a)
    pub makes : MakesStepsFrom such b a

  -- so it is where it tried to run the bands
  abbrev pub EndsCallBy : (Standing → List Step → Type 0) → Cpu D → Cpu D → Type 0
  EndsCallBy such b a = LeavesBy IsStill such b a

  -- and where it brought packet n with this answer
  abbrev pub BringsBy : List Info → ℕ → Sending → (Standing → List Step → Type 0) → Cpu D → Cpu D → Type 0
  BringsBy infos n answer such b a = LeavesBy (HasCome infos n answer) such b a

  -- An interrupt was done by such steps, with these fates stored: the seat is in no call, and has nothing in hand. A seat that has the table
  -- alone knows this.
  pub record InterruptsAs (stored : View → View → Type 0) (such : Standing → List Step → Type 0) (told : Cpu D → Cpu D → Type 0) (b a : Cpu D) : Type 0 where
    pub kept : IsCallKept b a
    pub fates : stored (view b) (view a)
    pub at : position a ≡ Idle
    pub ready : IsReadyToSend a
    pub still : IsStill (view b) (view a)
    pub makes : MakesStepsFrom such b a
    pub alone : told b a
