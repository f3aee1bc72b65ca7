-- The seats of a run, split before it and joined after it.
use Rattle.std.specs.Prelude.{◌≡◌, ℕ, ◌-◌, ◌%◌, ◌&&◌, nat_le, nat_lt, List, []}
use Rattle.lq_tap.specs.Sees.{IsReaderOf, view}
use Rattle.lq_tap.specs.Views.{counting}
use Rattle.lq_tap.specs.declared.shared.Tap.{Tap}
use Rattle.lq_tap.specs.declared.shared.TapSeat.{TapSeat}
use Rattle.lq_tap.specs.Settled.{IsSettled}
use Rattle.lq_fates.specs.declared.tap_fate.TapFate.{TapFate}
use Rattle.lq_tap_run.specs.Lanes.{brought_by_lane, one_where}
use Rattle.lq_tap_run.specs.Marks.{AreMarked}

-- the reader's seat, from which so many senders' seats are out, and which knows nothing of what they do
pub record AreSplit (tap : Tap) (senders out : ℕ) (seat : TapSeat) : Type 0 where
  pub reader : IsReaderOf tap seat
  pub out_is : (view seat).reader.out ≡ out
  pub puts : (view seat).sender.puts ≡ []
  pub fulls : (view seat).sender.fulls ≡ []

-- the same while the seats are made, in ascending order
pub record IsSplittingTap (tap : Tap) (senders sender : ℕ) (seat : TapSeat) : Type 0 where
  pub split : AreSplit tap senders sender seat
  pub seatless_is : (view seat).reader.seatless ≡ counting sender (senders - sender)
  pub taken : (view seat).reader.taken ≡ []
  pub destroyed : (view seat).reader.destroyed ≡ []

-- the seats of the senders from this one on are joined, and so many are out
pub record HasJoined (tap : Tap) (packets senders first : ℕ) (seat : TapSeat) : Type 0 where
  pub reader : IsReaderOf tap seat
  pub out_is : (view seat).reader.out ≡ first
  pub once : (m : ℕ) → brought_by_lane m (view seat) ≡ one_where (nat_le first (m % senders) && nat_lt m packets)

-- The seat is one of a ring for so many packets, senders and slots, all of whose seats are joined into it, and these are the fates of that ring's packets:
-- a full one was found so by a sender of the ring, and one that was read was taken by this seat.
pub record IsReaderOfFates (packets senders len : ℕ) (fates : List TapFate) (seat : TapSeat) : Type 0 where
  pub about : (view seat).about ≡ record { packets = packets; len = len; senders = senders }
  pub settled : IsSettled (view seat)
  pub marked : AreMarked packets (view seat).sender.fulls (view seat).reader.taken fates
