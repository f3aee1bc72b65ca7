-- What each call, and each step in it, makes of a seat's view.
use Rattle.std.specs.Prelude.{ℕ, zero, suc, ◌+◌, ◌-◌, Bool, true, false, ◌==◌, ◌&&◌, ◌||◌, eqb, if◌then◌else◌}
use Rattle.std.specs.Prelude.{List, [], ◌∷◌, ◌++◌, length, take, drop}
use Rattle.lq_ring_core.specs.Ring.{place_before}
use Rattle.lq_band_laws.specs.Ring.{Ends, Lock, with_room, without_room, after_take, cleared_at, taken_on}
use Rattle.lq_tap.specs.Views.{View}
use Rattle.lq_tap.specs.declared.view.Consumer.{Consumer}
use Rattle.lq_tap.specs.declared.view.Purpose.{Purpose}
use Rattle.lq_tap.specs.declared.view.Purpose.TheVariants.{Batch, Return}

-- SENDERS

-- the packet n is put
abbrev pub having_put : ℕ → View → View
having_put n v = record v { sender = record v.sender { next = v.sender.next + v.about.senders; puts = v.sender.puts ++ n ∷ [] } }

-- it is found full, with this one in its slot
abbrev pub having_found_full : ℕ → ℕ → View → View
having_found_full n seen v = record v {
  sender = record v.sender { next = v.sender.next + v.about.senders; fulls = v.sender.fulls ++ (n, seen) ∷ [] };
}

abbrev pub having_ended : View → View
having_ended v = record v { sender = record v.sender { going = false } }

-- SEATS

-- a list without the first place that has this number
abbrev pub omitting : ℕ → List ℕ → List ℕ
omitting x [] = []
omitting x (y ∷ ys) = if eqb x y then ys else y ∷ omitting x ys

-- a sender's seat was made
abbrev pub having_split : ℕ → View → View
having_split sender v = record v { reader = record v.reader { seatless = omitting sender v.reader.seatless; out = v.reader.out + 1 } }

-- a sender's seat was joined
abbrev pub having_joined : View → View → View
having_joined from v = record v {
  sender = record v.sender { puts = v.sender.puts ++ from.sender.puts; fulls = v.sender.fulls ++ from.sender.fulls };
  reader = record v.reader { out = v.reader.out - 1 };
}

-- THE READER

-- the ends after so many takes, each with the emptying that it asks
abbrev pub after_takes : ℕ → ℕ → Ends → Ends
after_takes size zero c = c
after_takes size (suc n) c = after_take size (after_takes size n c)

-- these were taken as a batch
abbrev pub having_taken : List ℕ → View → View
having_taken batch v = record v {
  reader = record v.reader {
    ends = after_takes v.about.len (length batch) v.reader.ends;
    taken = v.reader.taken ++ batch;
    batch = batch;
    drained = v.reader.ended && (length batch == 0);
  };
}

-- the place so many slots before another, round the ring
abbrev pub place_back : ℕ → ℕ → ℕ → ℕ
place_back size place zero = place
place_back size place (suc n) = place_before size (place_back size place n) 1

-- a list without so many of its last ones
abbrev pub without_last : ℕ → List ℕ → List ℕ
without_last n xs = take (length xs - n) xs

-- These were given back, the first so many of which were destroyed: the head stands at the first of the others. Nothing of the batch
-- is left to be given back then.
abbrev pub having_given_back : List ℕ → ℕ → View → View
having_given_back given lost v = record v {
  reader = record v.reader {
    ends = cleared_at (place_back v.about.len v.reader.ends.head (length given - lost));
    taken = without_last (length given) v.reader.taken;
    batch = [];
    destroyed = v.reader.destroyed ++ take lost given;
  };
}

-- so many senders were found to have ended
abbrev pub having_seen_ended : ℕ → View → View
having_seen_ended found v = record v { reader = record v.reader { ended = v.reader.ended || (found == v.about.senders) } }

-- STEP BY STEP

-- this is what it knows of the producer lock
abbrev pub with_lock : Lock → View → View
with_lock l v = record v { lock = l }

-- The batch once the lock is taken, or given back, for this. A new batch begins with no packet, and none is left of one that was
-- given back.
abbrev pub batch_kept : Purpose → Bool → List ℕ → List ℕ
batch_kept Batch true batch = []
batch_kept Batch false batch = batch
batch_kept Return true batch = batch
batch_kept Return false batch = []

-- it has the consumer lock, or has given it back
abbrev pub with_consumer : Purpose → Bool → View → View
with_consumer p holds v = record v { reader = record v.reader { holds = holds; batch = batch_kept p holds v.reader.batch } }

-- the packet at the head is taken
abbrev pub taking : ℕ → View → View
taking n v = record v {
  reader = record v.reader {
    ends = taken_on v.reader.ends;
    taken = v.reader.taken ++ n ∷ [];
    batch = v.reader.batch ++ n ∷ [];
    drained = false;
  };
}

-- the slot that was loaded is empty, so that a packet may be stored there
abbrev pub finding_room : View → View
finding_room v = with_lock (with_room v.lock) v

-- the slot at the head is empty
abbrev pub finding_none : View → View
finding_none v = record v { reader = record v.reader { drained = v.reader.ended && (length v.reader.batch == 0) } }

-- this is how far the consumer is
abbrev pub with_ends : Ends → View → View
with_ends ends v = record v { reader = record v.reader { ends = ends } }

-- the ends between two calls, as the reader reads them
abbrev pub rest_at : Consumer → Ends
rest_at c = record { head = c.head; tail = c.tail; edge = c.head }

-- so many packets of the batch, its last ones, find no slot
abbrev pub destroying : ℕ → View → View
destroying left v = record v {
  reader = record v.reader {
    taken = without_last left v.reader.taken;
    batch = [];
    destroyed = v.reader.destroyed ++ drop (length v.reader.batch - left) v.reader.batch;
  };
}

-- the last packet of the batch is put before the head
abbrev pub putting_back : View → View
putting_back v = record v {
  lock = without_room v.lock;
  reader = record v.reader {
    ends = cleared_at (place_before v.about.len v.reader.ends.head 1);
    taken = without_last 1 v.reader.taken;
    batch = without_last 1 v.reader.batch;
  };
}

-- the batch is over
abbrev pub without_batch : View → View
without_batch v = record v { reader = record v.reader { batch = [] } }
