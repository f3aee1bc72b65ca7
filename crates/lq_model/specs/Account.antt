-- The account of a station: what became of its packets, in lists, with no slots, locks or bits.
use Rattle.std.specs.Prelude.{ℕ, Bool, nat_lt, ◌==◌, if◌then◌else◌, List, [], ◌∷◌, ◌++◌, length, map, drop, replicate, slice_get, slice_index, slice_set, Option, Some, None, option_to_list}
use Rattle.std.specs.List.{list_all}
use Rattle.lq_model.specs.Band.{Band, empty_band, held_of, joined, taken_by, resized}
use Rattle.lq_model.specs.declared.fate.Cause.{Cause}
use Rattle.lq_model.specs.declared.fate.Fate.{Fate}
use Rattle.lq_model.specs.declared.fate.Fate.TheVariants as fate

-- ACCOUNTS

-- the fate of each packet that has one
abbrev pub Fates : Type 0
Fates = ℕ → Option Fate

pub record Account : Type 0 where
  -- how many packets each band may hold
  pub len : ℕ
  -- the bands 0, 1 and 2
  pub bands : ℕ → Band
  -- the requeue slot, and the packet that whoever holds the run lock has in hand
  pub slot : Option ℕ
  pub hand : Option ℕ
  -- the present unit, and the packets that each unit sent, in order of serial
  pub unit : ℕ
  pub sent : ℕ → List ℕ
  pub fates : Fates
  -- the stop value of each queue: 0 open, 1 stopped, 2 hung; there is at least one queue
  pub stops : List ℕ
  -- the event that deactivated it; None while it is active
  pub down : Option ℕ

abbrev pub new_account : ℕ → ℕ → ℕ → Account
new_account len unit queues = record {
  len = len;
  bands = λ _. empty_band;
  slot = None;
  hand = None;
  unit = unit;
  sent = λ _. [];
  fates = λ _. None;
  stops = replicate queues 0;
  down = None;
}

-- WHAT IS HELD

abbrev pub held_in : Account → ℕ → List ℕ
held_in a band = held_of (a.bands band)

-- the packets that the requeue slot and the bands hold, in the order in which a purge takes them
abbrev pub held : Account → List ℕ
held a = option_to_list a.slot ++ (held_in a 0 ++ (held_in a 1 ++ held_in a 2))

abbrev pub is_open : Account → ℕ → Bool
is_open a queue = slice_index a.stops queue == 0

-- every queue is hung
abbrev pub is_hung : Account → Bool
is_hung a = list_all (λ stop. stop == 2) a.stops

-- every queue is open
abbrev pub is_all_open : Account → Bool
is_all_open a = list_all (λ stop. stop == 0) a.stops

-- several queues share the bands
abbrev pub is_shared : Account → Bool
is_shared a = nat_lt 1 (length a.stops)

-- CHANGES OF A PART

-- the value at one number, and the others as they were
abbrev pub with_at : {X : Type 0} → ℕ → X → (ℕ → X) → ℕ → X
with_at n x f = λ k. if k == n then x else f k

-- each of these packets has this fate
abbrev pub with_fates : List ℕ → Fate → Fates → Fates
with_fates [] f fates = fates
with_fates (n ∷ ns) f fates = with_fates ns f (with_at n (Some f) fates)

-- EVENTS

-- What happens to an account. The packet that a sender brings joins a band, is dropped as full or refused, or comes
-- into the hand at once; the holder of the run lock finds a band empty, takes from a band or the requeue slot, hands
-- the packet in hand to the device or lays it back, and stops queues; queues are woken; and control resizes the bands,
-- deactivates, purges, swaps the device and activates.
pub data Event : Type 0 where
  Join : ℕ → ℕ → Event  -- a packet and its band
  Full : ℕ → ℕ → Event  -- a packet, and the one in its slot
  Refuse : ℕ → ℕ → Event  -- a packet, and the event that deactivated the station
  Empty : ℕ → Event  -- a band
  Take : ℕ → Event  -- a band
  Pick : Event
  Direct : ℕ → Event  -- a packet
  Send : Event
  Back : Event
  Stop : ℕ → ℕ → Event  -- a queue and its stop value
  Wake : ℕ → Event  -- a queue
  Resize : ℕ → ℕ → Event  -- a length, and the plan's event
  Down : ℕ → Event  -- the plan's event
  Purge : Cause → Event
  Swap : ℕ → Event  -- the new unit
  Up : Event

-- the packet in hand is sent: it stands behind what the unit sent
abbrev pub sent_from_hand : Option ℕ → Account → Account
sent_from_hand None a = a
sent_from_hand (Some n) a =
    record a {
      hand = None;
      sent = with_at a.unit (a.sent a.unit ++ n ∷ []) a.sent;
      fates = with_at n (Some (fate.Sent a.unit (length (a.sent a.unit)))) a.fates;
    }

-- what a resize to a length drops of a band
abbrev pub dropped_in : ℕ → Account → ℕ → List ℕ
dropped_in len a band = drop len (held_in a band)

-- all that a band holds was taken
abbrev pub emptied : Band → Band
emptied band = record { line = band.line; taken = length band.line }

abbrev pub after : Event → Account → Account
after (Join n band) a = record a { bands = with_at band (joined (a.bands band) n) a.bands }
after (Full n seen) a = record a { fates = with_at n (Some (fate.Full seen)) a.fates }
after (Refuse n event) a = record a { fates = with_at n (Some (fate.Refused event)) a.fates }
after (Empty band) a = a
after (Take band) a = record a { bands = with_at band (taken_by (a.bands band) 1) a.bands; hand = slice_get (held_in a band) 0 }
after Pick a = record a { slot = None; hand = a.slot }
after (Direct n) a = record a { hand = Some n }
after Send a = sent_from_hand a.hand a
after Back a = record a { slot = a.hand; hand = None }
after (Stop queue value) a = record a { stops = slice_set a.stops queue value }
after (Wake queue) a = record a { stops = slice_set a.stops queue 0 }
after (Resize len event) a =
    record a {
      len = len;
      bands = λ band. resized (a.bands band) len;
      fates = with_fates (dropped_in len a 0 ++ (dropped_in len a 1 ++ dropped_in len a 2)) (fate.Shrunk event) a.fates;
    }
after (Down event) a = record a { down = Some event }
after (Purge cause) a =
    record a {
      bands = λ band. emptied (a.bands band);
      slot = None;
      fates = with_fates (held a) (fate.Purged cause) a.fates;
    }
after (Swap unit) a = record a { unit = unit; stops = map (λ _. 0) a.stops }
after Up a = record a { down = None }

-- after a list of events, the latest first
abbrev pub after_all : Account → List Event → Account
after_all start [] = start
after_all start (event ∷ past) = after event (after_all start past)
