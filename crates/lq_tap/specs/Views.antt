-- What a seat of a tap knows, a record for each part of the rule.
use Rattle.std.specs.Prelude.{ℕ, zero, suc, ◌+◌, ◌≤◌, Bool, true, false, List, [], ◌∷◌, length}
use Rattle.lq_band_laws.specs.Ring.{Ends, at_start, Lock, unlocked}

-- what the tap was made for: how many packets there are, how many slots its ring has, and how many senders put packets
pub record Setup : Type 0 where
  pub packets : ℕ
  pub len : ℕ
  pub senders : ℕ

-- a sender's seat
pub record SenderPart : Type 0 where
  -- whether it is a sender's seat, and whether that sender has not ended
  pub sends : Bool
  pub going : Bool
  -- the packet that comes next, where the sender has not ended
  pub next : ℕ
  -- The packets that were put, in order, and those that were found full, each with the packet that it saw. After a join the
  -- reader's seat has those of the seats joined into it.
  pub puts : List ℕ
  pub fulls : List (ℕ × ℕ)

-- the reader's seat
pub record ReaderPart : Type 0 where
  pub reads : Bool
  -- the senders whose seat was not made yet, and how many seats were made and are not joined yet
  pub seatless : List ℕ
  pub out : ℕ
  -- whether it has the consumer lock, and how far the consumer is
  pub holds : Bool
  pub ends : Ends
  -- the packets that it took and has not given back since, in order; those of the last batch among them; and those destroyed
  pub taken : List ℕ
  pub batch : List ℕ
  pub destroyed : List ℕ
  -- whether all senders were once found to have ended, and whether a batch that came later was empty
  pub ended : Bool
  pub drained : Bool

pub record View : Type 0 where
  pub about : Setup
  pub sender : SenderPart
  pub reader : ReaderPart
  -- what it knows of the producer lock
  pub lock : Lock

-- the reader has taken, or destroyed, no more packets than there are
abbrev pub AreFew : View → Type 0
AreFew v = length v.reader.taken + length v.reader.destroyed ≤ v.about.packets

abbrev pub no_sender : SenderPart
no_sender = record { sends = false; going = false; next = 0; puts = []; fulls = [] }

abbrev pub no_reader : ReaderPart
no_reader = record {
  reads = false;
  seatless = [];
  out = 0;
  holds = false;
  ends = at_start;
  taken = [];
  batch = [];
  destroyed = [];
  ended = false;
  drained = false;
}

-- a seat that was joined into another one
abbrev pub spent_view : View
spent_view = record { about = record { packets = 0; len = 0; senders = 0 }; sender = no_sender; reader = no_reader; lock = unlocked }

-- so many numbers, from one on
abbrev pub counting : ℕ → ℕ → List ℕ
counting first zero = []
counting first (suc n) = first ∷ counting (first + 1) n

-- the reader's seat of a new tap
abbrev pub first_view : Setup → View
first_view k = record {
  about = k;
  sender = no_sender;
  reader = record no_reader { reads = true; seatless = counting 0 k.senders };
  lock = unlocked;
}

-- the seat of a sender that has put nothing
abbrev pub sender_view : Setup → ℕ → View
sender_view k sender = record {
  about = k;
  sender = record no_sender { sends = true; going = true; next = sender };
  reader = no_reader;
  lock = unlocked;
}
