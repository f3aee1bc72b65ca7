-- The steps on the producer words, the size and the slots, of a seat that brings a packet.
use Rattle.std.specs.Prelude.{ℕ, ◌%◌, length, ◌≡◌, ◌*◌, false, Bool, ◌+◌, ◌==◌, ◌<◌, Some, true, None, ◌↔◌}
use Rattle.lq_band_laws.specs.Ring.{Lock, index_given, sized_if, is_emptying, having_stored}
use Rattle.lq_band_laws.specs.Three.{put, at}
use Rattle.lq_log.specs.Made.{Made, load, exchange, store}
use Rattle.lq_model.specs.Account.{Full, Join}
use Rattle.lq_model.specs.Alone.{seen_in}
use Rattle.lq_model.specs.Band.{IsOccupied}
use Rattle.lq_model.specs.Positions.{holds_lock}
use Rattle.lq_model.specs.declared.fate.Fate.TheVariants as fate
use Rattle.lq_model.specs.declared.machine.Answer.TheVariants.{FullSlot, Plain}
use Rattle.lq_model.specs.declared.machine.Position.TheVariants.{Put}
use Rattle.lq_table.specs.Moves.{seen_by, moved, past_with, on_trail}
use Rattle.lq_table.specs.Places.{producer_place, size_place, slot_word}
use Rattle.lq_table.specs.Sees.{view, lock_at, HasProducer, position, packet_at, Brings, account_of, IsSole}
use Rattle.lq_table.specs.Views.{View, Setup}
use Rattle.lq_table.specs.declared.shared.Cpu.{Cpu}
use Rattle.lq_table.specs.declared.shared.Shared.{Shared}

-- the seat knows this of the producer lock of a band
abbrev pub with_lock_at : ℕ → Lock → View → View
with_lock_at b l v = record v { locks = put b l v.locks }

-- The index in the ring at which the next packet joins the band: how many joined it since the last resize, those that it kept among
-- them, modulo the length. So the account has it.
abbrev pub producer_index : ℕ → View → ℕ
producer_index b v = length ((account_of v).bands b).line % (account_of v).len

-- a producer lock that the seat doesn't have is free, so the word is twice the index
abbrev pub SeesProducer : ℕ → View → ℕ → Type 0
SeesProducer b v found = IsSole v → (at b v.locks).holds ≡ false → found ≡ 2 * producer_index b v

-- load_producer: the producer word is loaded.

abbrev pub load_producer_log : ℕ → ℕ → Made
load_producer_log band found = load (producer_place band) found

-- take_producer: the producer lock is got, with the index that the word has, or the word isn't as the seat had seen it.

abbrev pub take_producer_log : ℕ → ℕ → Bool → Made
take_producer_log band seen got = exchange (producer_place band) seen (seen + 1) got

-- the lock is taken exactly where the word that was asked for is that one
abbrev pub TakesProducer : ℕ → View → ℕ → Bool → Type 0
TakesProducer b v seen taken = IsSole v → taken ≡ (seen == 2 * producer_index b v)

-- give_producer: the lock is given back, with the next index.

abbrev pub give_producer_log : ℕ → ℕ → Made
give_producer_log band index = store (producer_place band) (2 * index)

-- this is the index with which the lock is given back, by the size that was loaded under it
abbrev pub IsIndexGiven : ℕ → Lock → Type 0
IsIndexGiven index l = (size : ℕ) × (l.size ≡ Some size) × (index ≡ index_given size l)

-- load_size: the size is loaded. It serves under each producer lock that the seat has.

abbrev pub load_size_log : ℕ → Made
load_size_log found = load size_place found

abbrev pub load_size_view : ℕ → View → View
load_size_view size v = record v { locks = record { low = sized_if size v.locks.low; mid = sized_if size v.locks.mid; high = sized_if size v.locks.high } }

-- producer_slot: the slot at the index is loaded. The packet is dropped as full unless it is empty.

-- the load of any slot
abbrev pub load_slot_log : Setup → ℕ → ℕ → ℕ → Made
load_slot_log k band i found = load (slot_word k band i) found

-- the packet was dropped as full, where it saw that other one
abbrev pub producer_slot_view_full : ℕ → ℕ → View → View
producer_slot_view_full n seen v = record (moved FullSlot (seen_by v) (λ h. h) (past_with (Full n seen)) v) { packets = record v.packets { fresh = None; owed = Some (n, fate.Full seen) }; trail = on_trail (Full n seen) v }

-- Where no batch is being emptied the slot is occupied exactly where the account says that the band is full; and then by the packet
-- that the account says.
abbrev pub SeesEnd : ℕ → View → ℕ → Type 0
SeesEnd b v found =
    IsSole v → (holds_lock v.place.position ≡ true → is_emptying v.holder.size (at b v.holder.ends) ≡ false)
    → ((0 < found) ↔ IsOccupied (account_of v).len ((account_of v).bands b)) × (0 < found → found ≡ seen_in (account_of v).len ((account_of v).bands b) + 1)

-- store_slot: the packet joins the band.

module _ {D : Type 0} where
  -- the seat has the band's producer lock, found the slot empty under it, and stored nothing
  abbrev pub HasProducerWithRoom : Shared D → ℕ → Cpu D → Type 0
  HasProducerWithRoom t band c = HasProducer t band c × ((lock_at band c).stored ≡ false) × ((lock_at band c).room ≡ true)

  -- the seat brings a packet of this band, which it is due to put there, and owes no fate
  abbrev pub IsPutting : Shared D → ℕ → Cpu D → Type 0
  IsPutting t band c = (n : ℕ) × (holds : Bool) × (position c ≡ Put (packet_at t n) holds) × Brings t n band c × ((view c).packets.owed ≡ None)

-- the store of any slot
abbrev pub store_slot_log : Setup → ℕ → ℕ → ℕ → Made
store_slot_log k band i v = store (slot_word k band i) v

-- the packet joined the band
abbrev pub store_slot_view : ℕ → ℕ → View → View
store_slot_view b n v = record (moved Plain (seen_by v) (λ h. h) (past_with (Join n b)) v) { packets = record v.packets { fresh = None }; locks = put b (having_stored (at b v.locks)) v.locks; trail = on_trail (Join n b) v }
