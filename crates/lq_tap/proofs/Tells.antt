-- What each step on a word tells: of a step, the seat before, the number found (at a store, the number stored) and the seat after.
use Rattle.std.proofs.Common.{◌≡◌, ◌≢◌, ℕ, ◌-◌, ◌/◌, ◌<◌, ◌≤◌, true, false, [], ◌∷◌}
use Rattle.atomic_table.specs.Table.{Step, Me}
use Rattle.lq_band_laws.specs.Ring.{locked_at, with_room, having_stored, emptied_on, IsAtRest}
use Rattle.lq_tap.specs.Views.{View, AreFew}
use Rattle.lq_tap.specs.Told.{having_put, having_found_full, with_lock, with_consumer, taking, finding_none, destroying}
use Rattle.lq_tap.specs.Settled.{IsSettled}
use Rattle.lq_tap.specs.Rule.{consumer_of}
use Rattle.lq_tap.specs.declared.view.Consumer.{Consumer}
use Rattle.lq_tap.specs.declared.view.Purpose.{Purpose}

-- a seat without its steps: what it knows, and the slot that it has
abbrev pub Sat : Type 0
Sat = Me Consumer View

-- THE PRODUCER LOCK

abbrev pub producer_seen : Step Consumer → Sat → ℕ → Sat → Type 0
producer_seen _ m found m' = m' ≡ m

abbrev pub producer_taken : Step Consumer → Sat → ℕ → Sat → Type 0
producer_taken s m found m' =
    (found ≡ s.first → (m' ≡ (with_lock (locked_at (s.first / 2)) m.0, m.1)) × (s.first / 2 < m.0.about.len))
    × (found ≢ s.first → m' ≡ m)

-- PUTS

-- the slot at the index is loaded: there is room, or the next packet is full
abbrev pub producer_slot_seen : Step Consumer → Sat → ℕ → Sat → Type 0
producer_slot_seen _ m found m' =
    (found ≡ 0 → m' ≡ (with_lock (with_room m.0.lock) m.0, m.1))
    × (found ≢ 0 → (m' ≡ (having_found_full m.0.sender.next (found - 1) m.0, m.1))
    × (found - 1 ≢ m.0.sender.next) × (found ≤ m.0.about.packets))

abbrev pub producer_slot_stored : Step Consumer → Sat → ℕ → Sat → Type 0
producer_slot_stored _ m found m' = m' ≡ (with_lock (having_stored m.0.lock) (having_put m.0.sender.next m.0), m.1)

-- THE CONSUMER LOCK

abbrev pub consumer_taken : Purpose → Step Consumer → Sat → ℕ → Sat → Type 0
consumer_taken p _ m found m' =
    (found ≡ 0 → (m' ≡ (with_consumer p true m.0, (0, consumer_of m.0.reader.ends) ∷ m.1)) × IsAtRest m.0.about.len m.0.reader.ends)
    × (found ≢ 0 → m' ≡ m)

abbrev pub consumer_given : Purpose → Step Consumer → Sat → ℕ → Sat → Type 0
consumer_given p _ m found m' = m' ≡ (with_consumer p false m.0, [])

-- TAKES

abbrev pub head_slot_seen : Step Consumer → Sat → ℕ → Sat → Type 0
head_slot_seen _ m found m' =
    (found ≡ 0 → m' ≡ (finding_none m.0, m.1))
    × (found ≢ 0 → (m' ≡ (taking (found - 1) m.0, m.1)) × (found ≤ m.0.about.packets)) × AreFew m'.0

-- the slot below the edge is emptied
abbrev pub emptying : View → View
emptying v = record v { reader = record v.reader { ends = emptied_on v.about.len v.reader.ends } }

-- GIVING BACK

abbrev pub slot_before_seen : ℕ → Step Consumer → Sat → ℕ → Sat → Type 0
slot_before_seen left _ m found m' =
    (found ≡ 0 → m' ≡ (with_lock (with_room m.0.lock) m.0, m.1)) × (found ≢ 0 → m' ≡ (destroying left m.0, m.1))

-- ALL SEATS ARE JOINED, and nothing was left in the ring
abbrev pub learned : Step Consumer → Sat → ℕ → Sat → Type 0
learned _ m found m' = (m' ≡ m) × (m.0.reader.out ≡ 0 → m.0.reader.drained ≡ true → IsSettled m.0)
