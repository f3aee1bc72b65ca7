-- What the words and the station say when a table is closed.
use Rattle.std.specs.Prelude.{◌≡◌, ℕ, ◌+◌, ◌*◌, ◌<◌, ◌≤◌, true, false, ◌⊎◌, List, [], length, slice_index, slice_get, Option, Some, None, Contains, ◌∷◌}
use Rattle.lq_account_laws.specs.Trail.{IsOrderly, trail_of}
use Rattle.lq_band_laws.specs.Ring.{unlocked}
use Rattle.lq_band_laws.specs.Seats.{Each}
use Rattle.lq_band_laws.specs.Stored.{FateWords}
use Rattle.lq_band_laws.specs.Three.{at, all_three}
use Rattle.lq_device.specs.Station.{StationState}
use Rattle.lq_device.specs.declared.device.TxDevice.{Ghosts}
use Rattle.lq_model.specs.Account.{Account, Event, held}
use Rattle.lq_model.specs.Device.{DeviceState}
use Rattle.lq_model.specs.Machine.{Qdisc}
use Rattle.lq_model.specs.Numbers.{greatest}
use Rattle.lq_model.specs.Plan.{owner_in, station_in, rank_in}
use Rattle.lq_model.specs.Words.{IsWordOf, word_of}
use Rattle.lq_model.specs.declared.fate.Fate.{Fate}
use Rattle.lq_model.specs.declared.fate.Info.{Info}
use Rattle.lq_ring_core.specs.Slots.{round, slot_at}
use Rattle.lq_table.specs.Moves.{is_set}
use Rattle.lq_table.specs.Rule.{Words, words_of, holders, shown, waits, bands_now, AreHung, HasServed, IsDevice, Accounted, Rings, IsPresentUnit, Stands, Ties, account}
use Rattle.lq_table.specs.Sees.{view, setup, closed_words, closed_stops, closed_fates, closed_home}
use Rattle.lq_table.specs.Views.{View, Setup, State, FirstPart, first_account}
use Rattle.lq_table.specs.declared.ended.Closed.{Closed}
use Rattle.lq_table.specs.declared.shared.Cpu.{Cpu}
use Rattle.lq_table.specs.declared.shared.Shared.{Shared}

-- SCHED and DEACTIVATED are clear, and the greatest stop word is 0: each queue is open
pub record AreQuiet (w : Words) : Type 0 where
  pub unscheduled : is_set 1 w.state ≡ false
  pub active : is_set 2 w.state ≡ false
  pub queues_open : greatest w.xoff ≡ 0

-- Of a ring of so many slots, with the consumer's head and tail: each slot from the head on is 0, once round up to those behind the head
-- that aren't emptied yet.
abbrev pub AreSlotsEmpty : ℕ → List ℕ → ℕ → ℕ → Type 0
AreSlotsEmpty size slots head tail = (place : ℕ) → head ≤ place → place < tail + size → slot_at slots size place ≡ 0

-- An empty ring: so are its slots, and the producer index is at the head, with no producer lock.
pub record IsEmptyRing (size : ℕ) (slots : List ℕ) (producer head tail : ℕ) : Type 0 where
  pub slots_empty : AreSlotsEmpty size slots head tail
  pub producer_is : producer ≡ 2 * round size head

-- Nothing is left: the requeue slot is empty, each band's ring is, and each packet of the station whose turn was taken has a fate.
pub record IsEmptied (k : Setup) (w : Words) (st : StationState) : Type 0 where
  pub slot_empty : st.slot ≡ None
  pub rings_empty : (b : ℕ) → b < 3 → IsEmptyRing w.size (at b w.slots) (at b w.producers) (slice_index st.heads b) (slice_index st.tails b)
  pub decided : (n : ℕ) → n < length k.infos → station_in k.infos n ≡ k.station → 2 * rank_in k.infos n + 1 ≤ slice_index w.turns (owner_in k.infos n) → (f : Fate) × IsWordOf f (slice_index w.fates n)

-- where the words are quiet nothing is left
abbrev pub EmptiedIfQuiet : Setup → List ℕ → List (Option StationState) → Type 0
EmptiedIfQuiet k words slots = AreQuiet (words_of k words) → (st : StationState) × (slice_get slots 0 ≡ Some (Some st)) × IsEmptied k (words_of k words) st

-- each of these settled fates stands in its packet's fate word, and each fate word is 0 or a fate's
abbrev pub FatesStand : Setup → List ℕ → List (ℕ × Fate) → Type 0
FatesStand k words settled = ((n : ℕ) (f : Fate) → Contains settled (n, f) → slice_index (words_of k words).fates n ≡ word_of f)
    × ((n : ℕ) → (slice_index (words_of k words).fates n ≡ 0) ⊎ ((f : Fate) × IsWordOf f (slice_index (words_of k words).fates n)))

-- the station is at home, and its device accepted what the account's unit sent
abbrev pub HasAccepted : Account → Option StationState → Type 0
HasAccepted a home = (st : StationState) × (home ≡ Some st) × (st.unit ≡ a.unit) × (st.device.accepted ≡ a.sent a.unit)

-- the station is at home, and the device that came as `origin` has served it
abbrev pub IsServedBy : List Info → ℕ → DeviceState → Option StationState → Type 0
IsServedBy infos station origin home = (st : StationState) × (home ≡ Some st) × HasServed infos station origin st.device

-- each unit that a swap took away has sent what it had sent then
abbrev pub HaveSent : Account → List (ℕ × List ℕ) → Type 0
HaveSent a gone = (unit : ℕ) (sent : List ℕ) → Contains gone (unit, sent) → a.sent unit ≡ sent

-- What the words and the slot say at the end, where one seat alone is left, which is in no call: the machine and the state are
-- q and g, and what the seat knows of control and the trail are these, if it is first.
pub record Ending (k : Setup) (words : List ℕ) (slots : List (Option StationState)) (q : Qdisc) (g : State) (a : Account) (control : FirstPart) (trail : List Event) : Type 0 where
  pub stands : Stands k (words_of k words) q a.down
  pub ties : Ties k.infos q a (bands_now g.left a.bands)
  pub stops : q.xoff ≡ a.stops
  pub home : slice_get slots 0 ≡ Some (Some (shown (holders g a (words_of k words).size)))
  -- the device is the account's unit: what it accepted is what that sent
  pub sends : IsPresentUnit g.station a
  pub device : IsDevice k.infos k.station (words_of k words).xoff g.origin g.station.device
  pub hung : g.station.device.hung ≡ true → AreHung (words_of k words).xoff
  pub hand_empty : a.hand ≡ None
  pub calm : g.resizing ≡ None
  pub account : Accounted k g.past a
  -- each event may come where it stands, and a resize of a deactivated station found nothing held
  pub orderly : IsOrderly k.infos k.station (first_account k) g.past
  pub trail_is : control.first ≡ true → trail ≡ trail_of k.infos g.past
  pub origin_is : control.first ≡ true → control.origin ≡ g.origin
  -- the first seat knows of a purge that is half done
  pub none_left : control.first ≡ true → control.purge ≡ None → g.left ≡ None
  -- no packet's fate is owed, but by a purge that is half done
  pub fates : FateWords (length k.infos) (words_of k words).fates (λ n. waits n g.left) a.fates
  -- the rings, where nobody has a producer lock
  pub rings : (views : List View) × Each (λ u. u.locks ≡ all_three unlocked) views × Rings k.max_len (words_of k words).size (words_of k words).producers (words_of k words).slots views a.len (bands_now g.left a.bands) g.ends g.resizing
  -- where the words are quiet nothing is held, and no purge is half done
  pub quiet : AreQuiet (words_of k words) → (held a ≡ []) × (g.left ≡ None)
  -- where nothing is held nothing is left
  pub emptied : held a ≡ [] → g.left ≡ None → IsEmptied k (words_of k words) (shown (holders g a (words_of k words).size))

-- OF A CLOSED TABLE

module _ {D : Type 0} where
  -- the account of the table as the seat knows it
  abbrev pub known_account : Shared D → Cpu D → Account
  known_account t c = account (setup t) (view c).whole.state

module _ {D : Type 0} {g : Ghosts D} where
  -- it names the table's station, its plan and how many packets there are, and has the table's fate words and stop words
  abbrev pub IsClosedOf : Shared D → Closed D g → Type 0
  IsClosedOf t c = (c.ended.number ≡ t.station) × (c.ended.plan ≡ t.plan) × (c.ended.packets ≡ length t.infos.now) × (closed_fates c ≡ (words_of (setup t) (closed_words c)).fates)
      × (closed_stops c ≡ (words_of (setup t) (closed_words c)).xoff)

  -- where its words are quiet nothing is left at its station
  abbrev pub IsEmptiedIfQuiet : Shared D → Closed D g → Type 0
  IsEmptiedIfQuiet t c = EmptiedIfQuiet (setup t) (closed_words c) (closed_home c ∷ [])

  -- the station is at home, and the device that came as `origin` has served it
  abbrev pub EndsServedBy : Shared D → DeviceState → Closed D g → Type 0
  EndsServedBy t origin c = IsServedBy t.infos.now t.station origin (closed_home c)

  -- its words and its station are as this seat knew them
  abbrev pub EndsAsKnown : Shared D → Cpu D → Closed D g → Type 0
  EndsAsKnown t cpu c = Ending (setup t) (closed_words c) (closed_home c ∷ []) (view cpu).whole.qdisc (view cpu).whole.state (known_account t cpu) (view cpu).control (view cpu).trail
