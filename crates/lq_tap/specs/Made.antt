-- The steps of a seat on the tap's words, by name.
use Rattle.std.specs.Prelude.{ℕ, ◌+◌, ◌*◌, Bool}
use Rattle.lq_log.specs.Made.{load, store, exchange, rise}
pub use Rattle.lq_log.specs.Made.{Made, ◌⊳◌, cut, with_join}

-- THE WORDS, which stand so far apart that no two of these share a cache line of 64 bytes with each other or with a slot

-- twice the producer index, plus 1 while the producer lock is held
abbrev pub producer_word : ℕ
producer_word = 8

-- 1 while the consumer lock is held
abbrev pub consumer_word : ℕ
consumer_word = 16

-- how many senders have ended
abbrev pub ended_word : ℕ
ended_word = 24

-- the slot at a place: 0, or one more than the packet that it has
abbrev pub slot_word : ℕ → ℕ
slot_word place = 32 + place

-- THE STEPS BY NAME

abbrev pub did_load_producer : ℕ → Made
did_load_producer found = load producer_word found

abbrev pub did_take_producer : ℕ → Bool → Made
did_take_producer seen got = exchange producer_word seen (seen + 1) got

abbrev pub did_give_producer : ℕ → Made
did_give_producer index = store producer_word (2 * index)

abbrev pub did_take_consumer : Bool → Made
did_take_consumer got = exchange consumer_word 0 1 got

abbrev pub did_give_consumer : Made
did_give_consumer = store consumer_word 0

abbrev pub did_load_slot : ℕ → ℕ → Made
did_load_slot place found = load (slot_word place) found

abbrev pub did_store_slot : ℕ → ℕ → Made
did_store_slot place word = store (slot_word place) word

abbrev pub did_load_ended : ℕ → Made
did_load_ended found = load ended_word found

abbrev pub did_end : Made
did_end = rise ended_word 1

-- the load of word 0 that follows a join, by which the reader learns what is so then
abbrev pub did_load_base : ℕ → Made
did_load_base found = load 0 found
