-- The rule of a tap's table, in parts.
use Rattle.std.specs.Prelude.{◌≡◌, ◌≢◌, ℕ, ◌+◌, ◌%◌, ◌<◌, ◌≤◌, Bool, true, false, if◌then◌else◌}
use Rattle.std.specs.Prelude.{List, [], ◌∷◌, ◌++◌, map, length, take, drop, slice_index, Contains}
use mathlib.Core.Option.{some, none}
use mathlib.Core.Option as maybe
use Rattle.atomic_table.specs.Table as table
use Rattle.lq_model.specs.Band.{Band}
use Rattle.lq_band_laws.specs.Seats.{total, Each}
use Rattle.lq_band_laws.specs.Times.{times}
use Rattle.lq_band_laws.specs.Ring.{Ends, Lock, unlocked, IsAtRest, HoldsBand}
use Rattle.lq_tap.specs.Views.{View, Setup, SenderPart, ReaderPart, no_reader}
use Rattle.lq_tap.specs.Made.{producer_word, consumer_word, ended_word, slot_word}
use Rattle.lq_tap.specs.Settled.{ComesBefore}
use Rattle.lq_tap.specs.declared.view.Consumer.{Consumer}

-- THE WORDS BY NAME

pub record Words : Type 0 where
  pub producer : ℕ
  pub consumer : ℕ
  pub ended : ℕ
  pub slots : List ℕ

abbrev pub words_of : List ℕ → Words
words_of ws = record {
  producer = slice_index ws producer_word;
  consumer = slice_index ws consumer_word;
  ended = slice_index ws ended_word;
  slots = drop (slot_word 0) ws;
}

-- WHAT IS SO BETWEEN TWO STEPS, beside the words: all packets that were put, in order, those that were found full, how many of the
-- line the reader has passed, and how far the consumer is.
pub record TapState : Type 0 where
  pub line : List ℕ
  pub full : List ℕ
  pub passed : ℕ
  pub ends : Ends

abbrev pub band_of : TapState → Band
band_of g = record { line = g.line; taken = g.passed }

pub record IsWithin (k : Setup) : Type 0 where
  pub packets : k.packets ≤ 1000000
  pub some_slot : 0 < k.len
  pub len : k.len ≤ 4096
  pub some_sender : 0 < k.senders
  pub senders : k.senders ≤ 8

-- SEATS

abbrev pub one_if : Bool → ℕ
one_if b = if b then 1 else 0

abbrev pub reading : View → ℕ
reading v = one_if v.reader.reads

abbrev pub sending : View → ℕ
sending v = one_if v.sender.sends

-- the senders of the seat that have not ended
abbrev pub open_in : ℕ → View → List ℕ
open_in senders v = if v.sender.going then (v.sender.next % senders) ∷ v.reader.seatless else v.reader.seatless

pub record IsSeat (k : Setup) (about : Setup) (s : SenderPart) (r : ReaderPart) (l : Lock) : Type 0 where
  pub reader_about : r.reads ≡ true → about ≡ k
  pub sender_about : s.sends ≡ true → about ≡ k
  pub sender : s.sends ≡ true → r ≡ no_reader
  pub going : s.going ≡ true → s.sends ≡ true
  -- a seat that was joined into another has nothing, no lock either, and is of no tap
  pub nothing : r.reads ≡ false → s.sends ≡ false → (s.puts ≡ []) × (s.fulls ≡ []) × (l ≡ unlocked) × (about.len ≡ 0)

-- one seat is the reader's and knows how many others there are; each sender that has not ended is one seat's
pub record Seats (k : Setup) (ended : ℕ) (views : List View) : Type 0 where
  pub one_reader : total reading views ≡ 1
  pub out_is : Each (λ v. v.reader.reads ≡ true → v.reader.out ≡ total sending views) views
  pub ended_is : ended + total (λ v. length (open_in k.senders v)) views ≡ k.senders
  pub once : (o : ℕ) → total (λ v. times o (open_in k.senders v)) views ≤ 1
  pub known : Each (λ v. IsSeat k v.about v.sender v.reader v.lock) views

-- PUTS

-- how often a packet has come: it was put or found full
abbrev pub came : List ℕ → List ℕ → ℕ → ℕ
came line full n = times n line + times n full

pub record KnowsPuts (k : Setup) (line full : List ℕ) (s : SenderPart) (seatless : List ℕ) : Type 0 where
  pub saw : (n seen : ℕ) → Contains s.fulls (n, seen) → (0 < times seen line) × (0 < times n full) × (k.len ≤ length line)
  -- of its own sender nothing came from the next packet on, and of those without a seat nothing at all
  pub next : s.going ≡ true → (n : ℕ) → 0 < came line full n → n % k.senders ≡ s.next % k.senders → n < s.next
  pub fresh : (o : ℕ) → 0 < times o seatless → (n : ℕ) → 0 < came line full n → n % k.senders ≢ o

pub record ArePuts (k : Setup) (line full : List ℕ) (views : List View) : Type 0 where
  pub put_once : (n : ℕ) → total (λ v. times n v.sender.puts) views ≡ times n line
  pub count : total (λ v. length v.sender.puts) views ≡ length line
  pub within : (n : ℕ) → 0 < came line full n → n < k.packets
  pub one : (n : ℕ) → came line full n ≤ 1
  pub knows : Each (λ v. KnowsPuts k line full v.sender v.reader.seatless) views

-- THE READER

-- each packet comes before all later ones of its sender
abbrev pub Ordered : ℕ → List ℕ → Type 0
Ordered senders [] = Unit {0}
Ordered senders (n ∷ ns) = ((m : ℕ) → 0 < times m ns → ComesBefore senders n m) × Ordered senders ns

pub record KnowsReads (k : Setup) (ended : ℕ) (line : List ℕ) (passed : ℕ) (ends : Ends) (r : ReaderPart) : Type 0 where
  pub ends_are : r.ends ≡ ends
  pub counts : (n : ℕ) → times n r.taken + times n r.destroyed + times n (drop passed line) ≡ times n line
  -- the last batch ends what the reader has passed and what it took
  pub earlier : List ℕ
  pub batch : take passed line ≡ earlier ++ r.batch
  pub kept : List ℕ
  pub taken : r.taken ≡ kept ++ r.batch
  pub in_order : Ordered k.senders (r.taken ++ drop passed line)
  pub lost : 0 < length r.destroyed → k.len < length line
  pub ended_is : r.ended ≡ true → ended ≡ k.senders
  pub drained : r.drained ≡ true → (r.ended ≡ true) × (drop passed line ≡ []) × (r.batch ≡ [])

abbrev pub ReadsKnown : Setup → ℕ → List ℕ → ℕ → Ends → List View → Type 0
ReadsKnown k ended line passed ends views = Each (λ v. v.reader.reads ≡ true → KnowsReads k ended line passed ends v.reader) views

-- THE RING

abbrev pub locks_of : List View → List Lock
locks_of views = map (λ (v : View). v.lock) views

abbrev pub RingHolds : Setup → List ℕ → ℕ → List View → TapState → Type 0
RingHolds k slots producer views g = HoldsBand k.len slots producer (locks_of views) (band_of g) g.ends

-- THE CONSUMER LOCK

abbrev pub consumer_of : Ends → Consumer
consumer_of c = record { head = c.head; tail = c.tail }

abbrev pub holding : View → ℕ
holding v = one_if v.reader.holds

-- the ends are at home where nobody has the consumer lock
pub record Lends (len consumer : ℕ) (home : maybe.Option Consumer) (ends : Ends) (views : List View) : Type 0 where
  pub held : consumer ≡ total holding views
  pub readers : Each (λ v. v.reader.holds ≡ true → v.reader.reads ≡ true) views
  pub there : consumer ≡ 0 → (home ≡ some (consumer_of ends)) × IsAtRest len ends
  pub away : 0 < consumer → home ≡ none

-- THE RULE

pub record Parts (k : Setup) (w : Words) (home : maybe.Option Consumer) (views : List View) (g : TapState) : Type 0 where
  pub seats : Seats k w.ended views
  pub puts : ArePuts k g.line g.full views
  pub reads : ReadsKnown k w.ended g.line g.passed g.ends views
  pub ring : RingHolds k w.slots w.producer views g
  pub lends : Lends k.len w.consumer home g.ends views

pub record Rule (k : Setup) (s : table.State Consumer View) : Type 0 where
  pub home : maybe.Option Consumer
  pub state : TapState
  pub limits : IsWithin k
  pub wide : length s.words ≡ slot_word 0 + k.len
  pub deep : s.homes ≡ home ∷ []
  pub parts : Parts k (words_of s.words) home s.views state
