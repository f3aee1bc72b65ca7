-- What a transmit and a soft interrupt leave of what a seat knows.
use Rattle.std.specs.Prelude.{◌≡◌, ℕ, ◌<◌, Bool, true, false, is_some, length, List, Option, Some, None}
use Rattle.lq_model.specs.Account.{Event, Join, Full, Refuse, Direct}
use Rattle.lq_model.specs.Plan.{band_in}
use Rattle.lq_model.specs.declared.fate.Info.{Info}
use Rattle.lq_model.specs.declared.machine.Attempt.{Attempt}
use Rattle.lq_model.specs.declared.machine.Attempt.TheVariants as attempt
use Rattle.lq_run.specs.Runs.{HasNone}
use Rattle.lq_ring.specs.Put.{no_locks}
use Rattle.lq_table.specs.Views.{View, Setup, no_packets, Known}
use Rattle.lq_table.specs.Moves.{on_trail}
use Rattle.lq_table.specs.Sees.{view, IsSameSeat}
use Rattle.lq_table.specs.declared.shared.Cpu.{Cpu}
use Rattle.lq_table.specs.declared.shared.Shared.{Shared}
use Rattle.lq_qdisc.specs.declared.answers.Sending.{Sending}
use Rattle.lq_qdisc.specs.declared.answers.Sending.TheVariants as sending
use Rattle.lq_qdisc.specs.StepLists.{LeadsBy, WakeEach}

module _ {D : Type 0} where
  -- it has no packet, no producer lock and no station, and no resize is half done
  abbrev pub IsReadyToSend : Cpu D → Type 0
  IsReadyToSend c = HasNone c × ((view c).packets ≡ no_packets) × ((view c).locks ≡ no_locks) × ((view c).holder.resizing ≡ None)

  -- what every call leaves as it was
  pub record IsCallKept (b a : Cpu D) : Type 0 where
    pub seat : IsSameSeat b a
    pub share : (view a).share ≡ (view b).share
    pub control : (view a).control ≡ (view b).control
    pub told : (view a).whole.told ≡ (view b).whole.told

  -- the seat brings the packet n, which has no fate and no place yet
  abbrev pub IsBringing : Shared D → ℕ → Cpu D → Type 0
  IsBringing t n c = (n < length t.infos.now) × (band_in t.infos.now n < 3) × ((view c).packets.fresh ≡ Some n) × ((view c).packets.owed ≡ None)

-- how the packet n came to its station
abbrev pub came_as : List Info → ℕ → Sending → Option Event
came_as infos n sending.Direct = Some (Direct n)
came_as infos n sending.Queued = Some (Join n (band_in infos n))
came_as infos n (sending.FullSeen seen) = Some (Full n seen)
came_as infos n (sending.Refused event) = Some (Refuse n event)
came_as infos n (sending.OutOfTurn found) = None

-- the trail with how it came
abbrev pub trail_with : Option Event → View → List Event
trail_with None v = v.trail
trail_with (Some event) v = on_trail event v

-- The packet n came so: it has a place or a fate, and that fate is stored where it was decided as it came.
pub record HasCome (infos : List Info) (n : ℕ) (answer : Sending) (old new : View) : Type 0 where
  pub came : is_some (came_as infos n answer) ≡ true
  pub packets : new.packets ≡ record old.packets { fresh = None; owed = None }
  pub turns : new.turns ≡ old.turns
  pub trail : new.trail ≡ trail_with (came_as infos n answer) old

-- THE RUN LOCK

-- an attempt to serve the bands, and not to go past them
abbrev pub serves_bands : Attempt → Bool
serves_bands (attempt.Queued p) = true
serves_bands attempt.Interrupt = true
serves_bands (attempt.Direct p) = false

-- SOFT INTERRUPTS AND WAKES

-- the packets, turns and trail that a seat knows are as they were
pub record IsStill (old new : View) : Type 0 where
  pub share : new.share ≡ old.share
  pub packets : new.packets ≡ old.packets
  pub turns : new.turns ≡ old.turns
  pub trail : new.trail ≡ old.trail

-- the first so many queues were looked at, and those that were stopped opened; the truth value says whether one was
abbrev pub WakesBelow : Setup → ℕ → Bool → Known → Known → Type 0
WakesBelow k queues opened old new = LeadsBy (λ _. WakeEach queues opened) old new
