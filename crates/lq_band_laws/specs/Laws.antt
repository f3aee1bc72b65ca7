-- The sentences of the crate's laws, on rings with any slots, producer word, seats, band and consumer.
use Rattle.std.specs.Prelude.{◌≡◌, ◌≢◌, ◌↔◌, ◌+◌, ◌-◌, ◌*◌, ◌%◌, ◌<◌, ◌≤◌, ℕ, true, false, List, [], ◌∷◌, ◌++◌, drop, length, Option, Some, None, slice_index, slice_set, Contains}
use Rattle.std.specs.List.{slice_get}
use mathlib.Core.Option.{some}
use lib.ListN.{get_elem?}
use Rattle.lq_model.specs.Band.{Band, held_of, joined, taken_by, resized, MayBeFull, IsOccupied}
use Rattle.lq_model.specs.Words.{word_of}
use Rattle.lq_model.specs.declared.fate.Fate.{Fate}
use Rattle.lq_ring_core.specs.Ring.{place_before}
use Rattle.lq_ring_core.specs.Slots.{round}
use Rattle.lq_band_laws.specs.Ring.{Ends, at_start, Lock, unlocked, locked_at, sized_if, with_room, without_room, having_stored, cleared_at, given_back_one, HoldsBand, IsRing, index_behind, index_given, is_emptying, taken_on, emptied_on, stored_count, word_at}
use Rattle.lq_band_laws.specs.Seats.{total, Each}
use Rattle.lq_band_laws.specs.Stored.{FateWords, word_or}
use Rattle.lq_band_laws.specs.Times.{times}
use Rattle.lq_band_laws.specs.HalfResized.{IsHalfResized, IsDistinct, IsRefilled}

-- WHAT SLOTS TELL

-- where the slot at a seat's index, under the producer lock, has a packet before the seat stores one, the band may be full at it
abbrev pub BandsMayBeFullAtPacketsFound : Type 0
BandsMayBeFullAtPacketsFound = (size : ℕ) (slots : List ℕ) (word : ℕ) (seats : List Lock) (band : Band) (c : Ends) (id : ℕ) (l : Lock)
    → IsRing size slots word seats band c → get_elem? seats id ≡ some l → l.holds ≡ true → l.stored ≡ false
    → 0 < slice_index slots l.index → MayBeFull size band (slice_index slots l.index - 1)

-- where no batch is being emptied and the slot at the head is empty, the band holds no packet
abbrev pub EmptySlotAtHeadMeansNoneHeld : Type 0
EmptySlotAtHeadMeansNoneHeld = (size : ℕ) (slots : List ℕ) (word : ℕ) (seats : List Lock) (band : Band) (c : Ends)
    → IsRing size slots word seats band c → is_emptying size c ≡ false → slice_index slots c.head ≡ 0 → held_of band ≡ []

-- where no batch is being emptied, the packet in the slot at the head is the first that the band holds
abbrev pub PacketAtHeadIsFirstHeld : Type 0
PacketAtHeadIsFirstHeld = (size : ℕ) (slots : List ℕ) (word : ℕ) (seats : List Lock) (band : Band) (c : Ends)
    → IsRing size slots word seats band c → is_emptying size c ≡ false
    → 0 < slice_index slots c.head → slice_get (held_of band) 0 ≡ Some (slice_index slots c.head - 1)

-- WHAT WORDS STAND FOR

-- the index is the place of the line's end round the ring; between a store and the index given back, it is the one before
abbrev pub IndexIsPlaceOfLineEnd : Type 0
IndexIsPlaceOfLineEnd = (size : ℕ) (slots : List ℕ) (word : ℕ) (seats : List Lock) (band : Band) (c : Ends)
    → (r : IsRing size slots word seats band c) → index_behind size (total stored_count seats) r.index ≡ length band.line % size

-- where no batch is being emptied, the head is the place round the ring of what is taken next
abbrev pub HeadIsPlaceOfNextTake : Type 0
HeadIsPlaceOfNextTake = (size : ℕ) (slots : List ℕ) (word : ℕ) (seats : List Lock) (band : Band) (c : Ends)
    → IsRing size slots word seats band c → is_emptying size c ≡ false → c.head ≡ band.taken % size

-- each packet that the band holds stands in the slot of its place round the ring
abbrev pub HeldPacketsStandAtTheirPlaces : Type 0
HeldPacketsStandAtTheirPlaces = (size : ℕ) (slots : List ℕ) (word : ℕ) (seats : List Lock) (band : Band) (c : Ends)
    → IsRing size slots word seats band c
    → (i : ℕ) → band.taken ≤ i → i < length band.line → slice_index slots (i % size) ≡ word_at band.line i

-- where no batch is being emptied, the slot at the line's end has a packet exactly where the band says that it is occupied
abbrev pub SlotAtLineEndTellsWhetherOccupied : Type 0
SlotAtLineEndTellsWhetherOccupied = (size : ℕ) (slots : List ℕ) (word : ℕ) (seats : List Lock) (band : Band) (c : Ends)
    → IsRing size slots word seats band c → is_emptying size c ≡ false
    → (0 < slice_index slots (length band.line % size)) ↔ IsOccupied size band

-- THE STEPS OF A SENDER

-- a seat takes the free producer lock, and knows the index that was in the word
abbrev pub LockingKeepsRings : Type 0
LockingKeepsRings = (size : ℕ) (slots : List ℕ) (word : ℕ) (seats : List Lock) (band : Band) (c : Ends) (id i : ℕ) (l : Lock)
    → IsRing size slots word seats band c → get_elem? seats id ≡ some l → l.holds ≡ false → word ≡ 2 * i
    → IsRing size slots (word + 1) (slice_set seats id (locked_at i)) band c

-- a seat loads the size, and knows it where it has the lock
abbrev pub LoadingSizeKeepsRings : Type 0
LoadingSizeKeepsRings = (size : ℕ) (slots : List ℕ) (word : ℕ) (seats : List Lock) (band : Band) (c : Ends) (id : ℕ) (l : Lock)
    → IsRing size slots word seats band c → get_elem? seats id ≡ some l
    → IsRing size slots word (slice_set seats id (sized_if size l)) band c

-- a seat with the lock finds the slot at the index empty, and knows that there is room
abbrev pub FindingRoomKeepsRings : Type 0
FindingRoomKeepsRings = (size : ℕ) (slots : List ℕ) (word : ℕ) (seats : List Lock) (band : Band) (c : Ends) (id : ℕ) (l : Lock)
    → IsRing size slots word seats band c → get_elem? seats id ≡ some l → l.holds ≡ true → l.stored ≡ false
    → slice_index slots l.index ≡ 0 → IsRing size slots word (slice_set seats id (with_room l)) band c

-- a seat that found room stores a packet at the index: it joins the band, which held fewer packets than there are slots
abbrev pub StoringKeepsRingsAndHadRoom : Type 0
StoringKeepsRingsAndHadRoom = (size : ℕ) (slots : List ℕ) (word : ℕ) (seats : List Lock) (band : Band) (c : Ends) (id n : ℕ) (l : Lock)
    → IsRing size slots word seats band c → get_elem? seats id ≡ some l → l.holds ≡ true → l.stored ≡ false → l.room ≡ true
    → IsRing size (slice_set slots l.index (n + 1)) word (slice_set seats id (having_stored l)) (joined band n) c × (length (held_of band) < size)

-- a seat gives the lock back, with the index for the next
abbrev pub UnlockingKeepsRings : Type 0
UnlockingKeepsRings = (size : ℕ) (slots : List ℕ) (word : ℕ) (seats : List Lock) (band : Band) (c : Ends) (id : ℕ) (l : Lock)
    → IsRing size slots word seats band c → get_elem? seats id ≡ some l → l.holds ≡ true
    → IsRing size slots (2 * index_given size l) (slice_set seats id unlocked) band c

-- THE STEPS OF THE CONSUMER

-- where no batch is being emptied, the consumer takes the first held packet from the slot at the head
abbrev pub TakingKeepsRings : Type 0
TakingKeepsRings = (size : ℕ) (slots : List ℕ) (word : ℕ) (seats : List Lock) (band : Band) (c : Ends)
    → IsRing size slots word seats band c → is_emptying size c ≡ false
    → 0 < slice_index slots c.head → IsRing size slots word seats (taken_by band 1) (taken_on c)

-- where a batch is being emptied, the consumer empties the slot below the edge
abbrev pub EmptyingKeepsRings : Type 0
EmptyingKeepsRings = (size : ℕ) (slots : List ℕ) (word : ℕ) (seats : List Lock) (band : Band) (c : Ends)
    → IsRing size slots word seats band c → is_emptying size c ≡ true
    → IsRing size (slice_set slots (c.edge - 1) 0) word seats band (emptied_on size c)

-- GIVING PACKETS BACK

-- a ring whose consumer only takes holds its band
abbrev pub RingsHoldBands : Type 0
RingsHoldBands = (size : ℕ) (slots : List ℕ) (word : ℕ) (seats : List Lock) (band : Band) (c : Ends)
    → IsRing size slots word seats band c → HoldsBand size slots word seats band c

-- a consumer that hasn't emptied all slots before its head empties the one below the edge
abbrev pub EmptyingKeepsBands : Type 0
EmptyingKeepsBands = (size : ℕ) (slots : List ℕ) (word : ℕ) (seats : List Lock) (band : Band) (c : Ends)
    → HoldsBand size slots word seats band c → c.tail < c.edge
    → HoldsBand size (slice_set slots (c.edge - 1) 0) word seats band (emptied_on size c)

-- once all are empty, a seat with the producer lock finds the slot before the head empty, and knows that there is room
abbrev pub FindingRoomBeforeHeadKeepsBands : Type 0
FindingRoomBeforeHeadKeepsBands = (size : ℕ) (slots : List ℕ) (word : ℕ) (seats : List Lock) (band : Band) (c : Ends) (id : ℕ) (l : Lock)
    → HoldsBand size slots word seats band c → get_elem? seats id ≡ some l → l.holds ≡ true → l.stored ≡ false
    → c.tail ≡ c.head → c.edge ≡ c.head → slice_index slots (place_before size c.head 1) ≡ 0
    → HoldsBand size slots word (slice_set seats id (with_room l)) band c

-- once all are empty, a packet in the slot before the head means that the band holds as many packets as there are slots
abbrev pub PacketBeforeHeadMeansFullBand : Type 0
PacketBeforeHeadMeansFullBand = (size : ℕ) (slots : List ℕ) (word : ℕ) (seats : List Lock) (band : Band) (c : Ends)
    → HoldsBand size slots word seats band c → c.tail ≡ c.head → c.edge ≡ c.head
    → 0 < slice_index slots (place_before size c.head 1) → length (held_of band) ≡ size

-- a seat that found room there puts the packet back that was taken last, and the head is at its slot
abbrev pub PuttingBackKeepsBands : Type 0
PuttingBackKeepsBands = (size : ℕ) (slots : List ℕ) (word : ℕ) (seats : List Lock) (band : Band) (c : Ends) (id n : ℕ) (l : Lock)
    → HoldsBand size slots word seats band c → get_elem? seats id ≡ some l → l.holds ≡ true → l.stored ≡ false → l.room ≡ true
    → c.head < size → c.tail ≡ c.head → c.edge ≡ c.head → 0 < band.taken → word_at band.line (band.taken - 1) ≡ n + 1
    → HoldsBand size (slice_set slots (place_before size c.head 1) (n + 1)) word (slice_set seats id (without_room l))
    (given_back_one band) (cleared_at (place_before size c.head 1))

-- THE STEPS OF A RESIZE

-- where no take is under way and control has the producer lock, a resize begins: the band keeps packets in its line, and the others wait
abbrev pub BeginningHalfResizesRings : Type 0
BeginningHalfResizesRings = (size : ℕ) (slots : List ℕ) (word : ℕ) (seats : List Lock) (band : Band) (c : Ends) (id : ℕ) (l : Lock) (len : ℕ)
    → IsRing size slots word seats band c → get_elem? seats id ≡ some l → l.holds ≡ true → l.stored ≡ false
    → c.edge ≡ c.head → IsDistinct band.line
    → IsHalfResized slots word seats (resized band len) (drop len (held_of band)) slots []

-- a slot is emptied into control's hand
abbrev pub EmptyingKeepsHalfResized : Type 0
EmptyingKeepsHalfResized = (slots : List ℕ) (word : ℕ) (seats : List Lock) (band : Band) (waiting known hand : List ℕ) (i m : ℕ)
    → IsHalfResized slots word seats band waiting known hand
    → i < length slots → slice_index slots i ≡ m + 1 → Contains (band.line ++ waiting) m
    → IsHalfResized (slice_set slots i 0) word seats band waiting (slice_set known i 0) (m ∷ hand)

-- an empty slot is filled from it
abbrev pub FillingKeepsHalfResized : Type 0
FillingKeepsHalfResized = (slots : List ℕ) (word : ℕ) (seats : List Lock) (band : Band) (waiting known hand : List ℕ) (i m : ℕ)
    → IsHalfResized slots word seats band waiting known (m ∷ hand)
    → i < length slots → slice_index slots i ≡ 0
    → IsHalfResized (slice_set slots i (m + 1)) word seats band waiting (slice_set known i (m + 1)) hand

-- the fate of the first packet that waits is stored: it waits no longer, and leaves the hand
abbrev pub StoringFateKeepsHalfResized : Type 0
StoringFateKeepsHalfResized = (slots : List ℕ) (word : ℕ) (seats : List Lock) (band : Band) (waiting known hand : List ℕ) (m : ℕ)
    → IsHalfResized slots word seats band (m ∷ waiting) known (m ∷ hand) → (Contains (band.line ++ waiting) m → ⊥)
    → IsHalfResized slots word seats band waiting known hand

-- the producer word is set to any index, under the lock
abbrev pub SettingWordKeepsHalfResized : Type 0
SettingWordKeepsHalfResized = (slots : List ℕ) (word : ℕ) (seats : List Lock) (band : Band) (waiting known hand : List ℕ) (id i : ℕ) (l : Lock)
    → IsHalfResized slots word seats band waiting known hand → get_elem? seats id ≡ some l → l.holds ≡ true
    → IsHalfResized slots (2 * i + 1) (slice_set seats id (locked_at i)) band waiting known hand

-- where the slots have the kept packets from slot 0 on, and the index is at the line's end, it is a ring of the new length
abbrev pub RefilledSlotsAreRings : Type 0
RefilledSlotsAreRings = (len : ℕ) (slots : List ℕ) (word : ℕ) (seats : List Lock) (band : Band) (waiting known hand : List ℕ)
    → (r : IsHalfResized slots word seats band waiting known hand) → 0 < len → IsRefilled slots band.line len
    → r.index ≡ round len (length band.line) → Each (λ l. l.holds ≡ true → (l.size ≡ None) × (l.room ≡ false)) seats
    → IsRing len slots word seats band at_start

-- FATE WORDS

-- where nobody has yet to store a packet's fate, its word is that of its fate, or 0 where it has none
abbrev pub StoredWordsAreOfFates : Type 0
StoredWordsAreOfFates = (count : ℕ) (words : List ℕ) (u : ℕ → ℕ) (fates : ℕ → Option Fate)
    → FateWords count words u fates → (n : ℕ) → u n ≡ 0 → slice_index words n ≡ word_or (fates n)

-- the fates of some packets that have none are decided, each once, before their words are stored
abbrev pub DecidingFatesKeepsWords : Type 0
DecidingFatesKeepsWords = (count : ℕ) (words : List ℕ) (u u' : ℕ → ℕ) (fates fates' : ℕ → Option Fate) (ns : List ℕ)
    → FateWords count words u fates → ((n : ℕ) → u' n ≡ u n + times n ns) → ((n : ℕ) → times n ns ≤ 1)
    → ((n : ℕ) → Contains ns n → (fates n ≡ None) × ((f : Fate) × (fates' n ≡ Some f)))
    → ((n : ℕ) → (Contains ns n → ⊥) → fates' n ≡ fates n) → FateWords count words u' fates'

-- the word of a fate that was decided before is stored
abbrev pub StoringDecidedFateKeepsWords : Type 0
StoringDecidedFateKeepsWords = (count : ℕ) (words : List ℕ) (u u' : ℕ → ℕ) (fates : ℕ → Option Fate) (n : ℕ) (f : Fate)
    → FateWords count words u fates → n < count → fates n ≡ Some f → u' n + 1 ≡ u n
    → ((m : ℕ) → m ≢ n → u' m ≡ u m) → FateWords count (slice_set words n (word_of f)) u' fates

-- a fate is decided and its word stored at once
abbrev pub DecidingAndStoringFateKeepsWords : Type 0
DecidingAndStoringFateKeepsWords = (count : ℕ) (words : List ℕ) (u u' : ℕ → ℕ) (fates fates' : ℕ → Option Fate) (n : ℕ) (f : Fate)
    → FateWords count words u fates → n < count → fates n ≡ None → fates' n ≡ Some f
    → ((m : ℕ) → u' m ≡ u m) → ((m : ℕ) → m ≢ n → fates' m ≡ fates m)
    → FateWords count (slice_set words n (word_of f)) u' fates'
