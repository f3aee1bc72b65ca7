-- The last part of the headline, of the words of a station's table between any two atomic steps of any threads.
use Rattle.std.specs.Prelude.{◌≡◌, ◌<◌, ◌≤◌, ◌+◌, ◌*◌, ℕ, Bool, true, List, [], ◌∷◌, length, slice_index, Option, Some, None}
use mathlib.Core.Option.{some}
use mathlib.Core.Option as maybe
use Rattle.lq_band_laws.specs.Seats.{Each}
use Rattle.lq_band_laws.specs.Three.{at}
use Rattle.lq_device.specs.Station.{StationState}
use Rattle.lq_model.specs.Plan.{owner_in, rank_in, station_in}
use Rattle.lq_model.specs.Words.{IsWordOf}
use Rattle.lq_model.specs.declared.fate.Fate.{Fate}
use Rattle.lq_model.specs.declared.fate.Info.{Info}
use Rattle.lq_model.specs.declared.machine.Packet.{Packet}
use Rattle.lq_model.specs.declared.machine.Position.TheVariants.{Xmit}
use Rattle.lq_table.specs.Closes.{AreSlotsEmpty}
use Rattle.lq_table.specs.Rule.{Words, is_live}
use Rattle.lq_table.specs.Views.{View}

-- a table holds no packet: neither in its words nor in its station, which lies in the table's slot while nobody runs
pub record HoldsNoPacket (w : Words) (slot : List (maybe.Option (Option StationState))) : Type 0 where
  -- nobody runs, and no call is inside
  pub no_run : w.lock ≡ 0
  pub no_call : w.inside ≡ 0
  -- the station is there, with an empty requeue slot
  pub station : StationState
  pub there : slot ≡ some (Some station) ∷ []
  pub none_requeued : station.slot ≡ None
  -- and in the ring of each band the words are 0 from the consumer's head on
  pub none_in_bands : (band : ℕ) → band < 3 → AreSlotsEmpty w.size (at band w.slots) (slice_index station.heads band) (slice_index station.tails band)

-- each packet of the station whose transmit has begun (its turn was taken) has a fate in its fate word
abbrev pub AllHaveFates : List Info → ℕ → Words → Type 0
AllHaveFates infos station w = (n : ℕ) → n < length infos → station_in infos n ≡ station
    → 2 * rank_in infos n + 1 ≤ slice_index w.turns (owner_in infos n) → (fate : Fate) × IsWordOf fate (slice_index w.fates n)

-- where a seat is about to hand a packet to the device (its next step is Xmit), the stop word of the packet's queue is 0
abbrev pub AreOpenAtXmit : Words → List View → Type 0
AreOpenAtXmit w views = Each (λ v. is_live v ≡ true → (p : Packet) (direct : Bool) → v.place.position ≡ Xmit p direct
    → slice_index w.xoff p.queue ≡ 0) views
