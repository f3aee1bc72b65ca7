-- What the reader has read.
use Rattle.std.specs.Prelude.{◌≡◌, ◌<◌, ◌≤◌, ℕ, true, List, length, vec_capacity, vec_len}
use Rattle.lq_tap.specs.Sees.{IsReaderOf, view}
use Rattle.lq_tap.specs.declared.shared.Tap.{Tap}
use Rattle.lq_tap.specs.declared.shared.TapSeat.{TapSeat}
use Rattle.lq_tap_run.specs.Rounds.{ReadsToEnd}
use Rattle.lq_tap_run.specs.declared.reader.Reader.{Reader}

-- the packets that it took and has not given back since are those that it read, and no more were destroyed
pub record HasRead (tap : Tap) (seat : TapSeat) (read : List ℕ) : Type 0 where
  pub reader : IsReaderOf tap seat
  pub taken : (view seat).reader.taken ≡ read
  pub few : length (view seat).reader.destroyed ≤ length read

-- its part of the view alone changed, but for the seats that are out
pub record ReadsOn (old new : TapSeat) : Type 0 where
  pub sender : (view new).sender ≡ (view old).sender
  pub out : (view new).reader.out ≡ (view old).reader.out

-- nothing is left in the ring
abbrev pub IsReaderDone : TapSeat → Type 0
IsReaderDone seat = (view seat).reader.drained ≡ true

-- the packets that it took, and those that were destroyed, are the same
abbrev pub KeepsReads : TapSeat → TapSeat → Type 0
KeepsReads b a = ((view a).reader.taken ≡ (view b).reader.taken) × ((view a).reader.destroyed ≡ (view b).reader.destroyed)

-- the reader has read so far, with room for all packets and for a batch
abbrev pub CanRead : Tap → Reader → Type 0
CanRead tap reader = HasRead tap reader.seat reader.read.items × ((view reader.seat).about.packets ≤ vec_capacity reader.read)
    × (0 < vec_len reader.batch) × (vec_len reader.batch ≤ 64)

-- it has read on from this seat, round by round with batches of up to so many packets, until nothing was left in the ring
abbrev pub HasReadAll : Tap → ℕ → ℕ → TapSeat → Reader → Type 0
HasReadAll tap senders asked before reader = HasRead tap reader.seat reader.read.items × IsReaderDone reader.seat × ReadsOn before reader.seat
    × ReadsToEnd tap.len senders asked before reader.seat
