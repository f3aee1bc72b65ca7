-- The steps of each call, in the order in which they are made.
use Rattle.std.specs.Prelude.{◌≡◌, ◌≢◌, ◌⊎◌, ℕ, zero, suc, ◌+◌, ◌-◌, ◌/◌, ◌%◌, ◌<◌, true, false, List, [], ◌∷◌, length, if◌then◌else◌}
use Rattle.lq_ring_core.specs.Ring.{next_place}
use Rattle.lq_band_laws.specs.Ring.{Ends, is_emptying, taken_on, after_take}
use Rattle.lq_tap.specs.Told.{after_takes, place_back}
use Rattle.lq_tap.specs.Made.{Made, ◌⊳◌, did_load_producer, did_take_producer, did_give_producer}
use Rattle.lq_tap.specs.Made.{did_take_consumer, did_give_consumer, did_load_slot, did_store_slot}

-- THE LOCKS

-- The producer lock is waited for: its word is loaded, and tried where it is even, which says that the lock is free, without success.
pub data ProducerTries (old : List Made) : List Made → Type 0 where
  not_yet : ProducerTries old old
  busy : (steps : List Made) (seen : ℕ) → seen % 2 ≢ 0 → ProducerTries old steps → ProducerTries old (steps ⊳ did_load_producer seen)
  failed : (steps : List Made) (seen : ℕ) → seen % 2 ≡ 0 → ProducerTries old steps
      → ProducerTries old (steps ⊳ did_load_producer seen ⊳ did_take_producer seen false)

-- and then it is got, with this index
abbrev pub LocksProducer : ℕ → List Made → List Made → Type 0
LocksProducer index old new =
    (before : List Made) × (seen : ℕ) × ProducerTries old before × (seen % 2 ≡ 0) × (index ≡ seen / 2)
    × (new ≡ before ⊳ did_load_producer seen ⊳ did_take_producer seen true)

-- the consumer lock is tried so often without success
abbrev pub consumer_tries : ℕ → List Made → List Made
consumer_tries zero steps = steps
consumer_tries (suc n) steps = consumer_tries n steps ⊳ did_take_consumer false

-- and then it is got
abbrev pub LocksConsumer : List Made → List Made → Type 0
LocksConsumer old new = (tries : ℕ) × (new ≡ consumer_tries tries old ⊳ did_take_consumer true)

-- PUTS

-- Under the producer lock the slot at the index is loaded. Where it is empty the packet is stored there, and the lock given back
-- with the next index;
abbrev pub Puts : ℕ → ℕ → List Made → List Made → Type 0
Puts len n old new =
    (index : ℕ) × (locked : List Made) × LocksProducer index old locked
    × (new ≡ locked ⊳ did_load_slot index 0 ⊳ did_store_slot index (n + 1) ⊳ did_give_producer (next_place len index))

-- else with this one
abbrev pub FindsFull : ℕ → List Made → List Made → Type 0
FindsFull seen old new =
    (index : ℕ) × (locked : List Made) × LocksProducer index old locked
    × (new ≡ locked ⊳ did_load_slot index (seen + 1) ⊳ did_give_producer index)

-- TAKES

-- so many slots below a place are emptied, the highest first
abbrev pub emptied_below : ℕ → ℕ → List Made → List Made
emptied_below place zero steps = steps
emptied_below place (suc n) steps = emptied_below place n steps ⊳ did_store_slot (place - 1 - n) 0

-- how many slots a take empties: where its batch is whole then, or its slot is the last one, those from it down to the tail
abbrev pub emptied_after : ℕ → Ends → ℕ
emptied_after len ends = if is_emptying len (taken_on ends) then ends.head + 1 - ends.tail else 0

-- the slot at the head is loaded with this packet, and so many slots are emptied
abbrev pub took : ℕ → Ends → ℕ → List Made → List Made
took len ends n steps = emptied_below (ends.head + 1) (emptied_after len ends) (steps ⊳ did_load_slot ends.head (n + 1))

-- these packets were taken, one after the other, from these ends on
abbrev pub took_all : ℕ → Ends → List ℕ → List Made → List Made
took_all len ends [] steps = steps
took_all len ends (n ∷ ns) steps = took_all len (after_take len ends) ns (took len ends n steps)

-- Fewer than asked come only where the slot at the head behind them is then loaded as 0.
abbrev pub TakesAll : ℕ → Ends → List ℕ → ℕ → List Made → List Made → Type 0
TakesAll len ends batch asked old new =
    (length batch ≡ asked) × (new ≡ took_all len ends batch old)
    ⊎ (length batch < asked) × (new ≡ took_all len ends batch old ⊳ did_load_slot (after_takes len (length batch) ends).head 0)

-- under the consumer lock
abbrev pub GetsBatch : ℕ → Ends → List ℕ → ℕ → List Made → List Made → Type 0
GetsBatch len ends batch asked old new =
    (locked : List Made) × (last : List Made) × LocksConsumer old locked
    × TakesAll len ends batch asked locked last × (new ≡ last ⊳ did_give_consumer)

-- GIVING BACK

-- The last of these packets is put before the head, once the slot there is loaded as 0, then the one before it, and so on.
abbrev pub put_back : ℕ → ℕ → List ℕ → List Made → List Made
put_back len head [] steps = steps
put_back len head (n ∷ ns) steps =
    let place = place_back len head (suc (length ns)) in put_back len head ns steps ⊳ did_load_slot place 0 ⊳ did_store_slot place (n + 1)

-- Where some are destroyed, the slot before the head is loaded then and isn't empty.
abbrev pub PutsBack : ℕ → ℕ → List ℕ → ℕ → List Made → List Made → Type 0
PutsBack len head kept lost old new =
    (lost ≡ 0) × (new ≡ put_back len head kept old)
    ⊎ (0 < lost) × ((found : ℕ) × (found ≢ 0)
    × (new ≡ put_back len head kept old ⊳ did_load_slot (place_back len head (suc (length kept))) found))

-- Under the consumer lock and then the producer lock the slots below the head are emptied down to the tail, and these packets put
-- back.
abbrev pub GivesBack : ℕ → Ends → List ℕ → ℕ → List Made → List Made → Type 0
GivesBack len ends kept lost old new =
    (outer : List Made) × (index : ℕ) × (locked : List Made) × (last : List Made)
    × LocksConsumer old outer × LocksProducer index outer locked
    × PutsBack len ends.head kept lost (emptied_below ends.head (ends.head - ends.tail) locked) last
    × (new ≡ last ⊳ did_give_producer index ⊳ did_give_consumer)
