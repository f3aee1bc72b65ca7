-- What a clause says of a tap and its seats.
use Rattle.std.specs.Prelude.{◌≡◌, ℕ, ◌+◌, ◌<◌, true, false, List, [], ◌∷◌}
use Rattle.lq_ring_core.specs.Ring.{place_before}
use Rattle.lq_band_laws.specs.Ring.{unlocked, IsAtRest}
use Rattle.lq_tap.specs.Views.{View, Setup}
use Rattle.lq_tap.specs.Made.{Made, ◌⊳◌, did_load_ended}
use Rattle.lq_tap.specs.Told.{having_seen_ended, with_consumer}
use Rattle.lq_tap.specs.Rule.{consumer_of}
use Rattle.lq_tap.specs.declared.view.Consumer.{Consumer}
use Rattle.lq_tap.specs.declared.view.Purpose.{Purpose}
use Rattle.lq_tap.specs.declared.shared.Tap.{Tap}
use Rattle.lq_tap.specs.declared.shared.TapSeat.{TapSeat}

-- what the seat knows
abbrev pub view : TapSeat → View
view c = c.seat.me.0.view

-- the steps that it made, the latest first
abbrev pub steps : TapSeat → List Made
steps c = c.seat.me.0.steps

-- a new seat, which made no step, and was cut off this one
abbrev pub IsCutOff : TapSeat → TapSeat → Type 0
IsCutOff from c = (steps c ≡ []) × (c.seat.me.0.depth ≡ from.seat.me.0.depth + 1)

-- the slot that has the consumer's ends, where it has the consumer lock
abbrev pub slot : TapSeat → List (ℕ × Consumer)
slot c = c.seat.me.1

-- what the tap was made for
abbrev pub setup : Tap → Setup
setup t = record { packets = t.packets; len = t.len; senders = t.senders }

-- it is one seat, before and after
abbrev pub IsSameSeat : TapSeat → TapSeat → Type 0
IsSameSeat b a = (a.seat.table_id ≡ b.seat.table_id) × (a.seat.id ≡ b.seat.id)

-- only what the seat knows changes
abbrev pub IsElseSame : TapSeat → TapSeat → Type 0
IsElseSame b a = IsSameSeat b a × (slot a ≡ slot b)

-- what it knows and its steps become this, and nothing else changes
pub record Makes (knows : View → View) (made : List Made → List Made) (b a : TapSeat) : Type 0 where
  pub same : IsElseSame b a
  pub view_is : view a ≡ knows (view b)
  pub steps_are : steps a ≡ made (steps b)

-- the seat is one of this tap
abbrev pub IsSeatOf : Tap → TapSeat → Type 0
IsSeatOf t c = (c.seat.table_id ≡ t.table.kit.shared.table_id) × ((view c).about ≡ setup t)

-- it is the reader's, and between two calls
abbrev pub IsReaderOf : Tap → TapSeat → Type 0
IsReaderOf t c =
    IsSeatOf t c × ((view c).reader.reads ≡ true) × ((view c).reader.holds ≡ false) × ((view c).lock ≡ unlocked) × (slot c ≡ [])

-- it is a sender's, and between two calls
abbrev pub IsSenderOf : Tap → TapSeat → Type 0
IsSenderOf t c = IsSeatOf t c × ((view c).sender.sends ≡ true) × ((view c).lock ≡ unlocked) × (slot c ≡ [])

-- the tap was made for this
abbrev pub IsMadeFor : ℕ → ℕ → ℕ → Tap → Type 0
IsMadeFor packets len senders t = (t.packets ≡ packets) × (t.len ≡ len) × (t.senders ≡ senders)

-- a sender's seat between two calls, whose next packet is n
abbrev pub IsSenderBefore : Tap → ℕ → TapSeat → Type 0
IsSenderBefore t n c = IsSenderOf t c × ((view c).sender.going ≡ true) × ((view c).sender.next ≡ n)

-- so many senders were found to have ended
abbrev pub SeesEnded : ℕ → TapSeat → TapSeat → Type 0
SeesEnded found b a = (view a ≡ having_seen_ended found (view b)) × (steps a ≡ steps b ⊳ did_load_ended found)

-- THE PRODUCER LOCK

-- It has a packet to put, and the producer lock, and has stored nothing under it. This is the index, a place of the ring.
pub record MayPutAt (t : Tap) (index : ℕ) (c : TapSeat) : Type 0 where
  pub seat : IsSeatOf t c
  pub packet : ((view c).sender.going ≡ true) × ((view c).sender.next < t.packets)
  pub lock : ((view c).lock.holds ≡ true) × ((view c).lock.stored ≡ false)
  pub is : (index ≡ (view c).lock.index) × (index < t.len)

-- THE CONSUMER LOCK

-- it got the consumer lock for this, and the slot with the consumer's ends, which rest
abbrev pub GetsConsumer : Tap → Purpose → TapSeat → TapSeat → Type 0
GetsConsumer t p b a =
    (view a ≡ with_consumer p true (view b)) × (slot a ≡ (0, consumer_of (view b).reader.ends) ∷ slot b)
    × IsAtRest t.len (view b).reader.ends

-- it is the reader's, and has the consumer lock
abbrev pub HasConsumer : Tap → TapSeat → Type 0
HasConsumer t c = IsSeatOf t c × ((view c).reader.reads ≡ true) × ((view c).reader.holds ≡ true)

-- GIVING BACK

-- It has both locks, has stored nothing under the producer lock, and the slots of all packets that it took are empty. This is the place
-- before its head.
pub record MayReturnAt (t : Tap) (place : ℕ) (c : TapSeat) : Type 0 where
  pub seat : HasConsumer t c
  pub lock : ((view c).lock.holds ≡ true) × ((view c).lock.stored ≡ false)
  pub clear : ((view c).reader.ends.tail ≡ (view c).reader.ends.head) × ((view c).reader.ends.edge ≡ (view c).reader.ends.head)
  pub is : (place ≡ place_before t.len (view c).reader.ends.head 1) × (place < t.len)
