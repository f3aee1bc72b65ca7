-- What the calls on the rings ask of a seat, and what they leave of it.
use Rattle.std.specs.Prelude.{◌≡◌, ℕ, ◌<◌, ◌≤◌, Bool, true, Some, None, if◌then◌else◌, length, Contains}
use Rattle.lq_model.specs.Band.{held_of}
use Rattle.lq_model.specs.Machine.{Purge}
use Rattle.lq_model.specs.Steps.{dequeue_begins}
use Rattle.lq_model.specs.declared.machine.Attempt.TheVariants.{Queued}
use Rattle.lq_model.specs.declared.fate.Cause.{Cause}
use Rattle.lq_model.specs.declared.machine.Position.TheVariants.{Control, Put, Try1}
use Rattle.lq_band_laws.specs.Three.{at}
use Rattle.lq_table.specs.Views.{Left, View}
use Rattle.lq_table.specs.Moves.{seen_by}
use Rattle.lq_table.specs.Resizes.{may_resize}
use Rattle.lq_table.specs.Sees.{view, position, packet_at, IsElseSame}
use Rattle.lq_table.specs.declared.shared.Cpu.{Cpu}
use Rattle.lq_table.specs.declared.shared.Shared.{Shared}

module _ {D : Type 0} where
  -- only what the seat knows changes, in this way
  abbrev pub ChangesView : (View → View) → Cpu D → Cpu D → Type 0
  ChangesView change b a = IsElseSame b a × (view a ≡ change (view b))

-- PUTS

module _ {D : Type 0} where
  -- from the put of the packet n a seat that has the run lock goes on to dequeue, another to a try of that lock
  abbrev pub GoesOnFromPut : Shared D → ℕ → Cpu D → Cpu D → Type 0
  GoesOnFromPut t n b a = (holds : Bool) → position b ≡ Put (packet_at t n) holds
      → position a ≡ (if holds then dequeue_begins (seen_by (view b)) else Try1 (Queued (packet_at t n)))

-- PURGES

module _ {D : Type 0} where
  -- a purge by this cause has come to this band, whose packets are of the capture and no more than the ring has slots
  abbrev pub HasRingToPurge : Shared D → ℕ → Cause → Cpu D → Type 0
  HasRingToPurge t band cause c = (u : Purge) × (l : Left) × (position c ≡ Control true) × ((view c).control.purge ≡ Some u) × (u.band ≡ band)
      × ((view c).holder.left ≡ Some l) × (l.cause ≡ cause) × ((n : ℕ) → Contains (held_of (at band l.bands)) n → n < length t.infos.now)
      × (length (held_of (at band l.bands)) ≤ (view c).holder.size)

-- RESIZES

module _ {D : Type 0} where
  -- control may resize the rings: under the run lock, with no purge half done, in a phase in which it may
  abbrev pub MayResize : Cpu D → Type 0
  MayResize c = (position c ≡ Control true) × ((view c).control.purge ≡ None) × (may_resize (view c).control.phase ≡ true)
