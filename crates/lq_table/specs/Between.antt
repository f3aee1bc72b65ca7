-- What the rule says of a table between any two steps, whatever steps its seats took.
use Rattle.std.specs.Prelude.{◌≡◌, ℕ, ◌+◌, ◌*◌, ◌<◌, ◌≤◌, true, List, [], ◌∷◌, length, slice_index, Contains, Option, Some, None}
use mathlib.Core.Option.{some}
use lib.ListN.{get_elem?}
use mathlib.Core.Option as maybe
use Rattle.lq_device.specs.Station.{StationState}
use Rattle.lq_model.specs.Account.{Event, held}
use Rattle.lq_model.specs.Kept.{IsInductive}
use Rattle.lq_account_laws.specs.Trail.{IsOrderly}
use Rattle.lq_model.specs.Legal.{brought_by}
use Rattle.lq_model.specs.Machine.{Qdisc}
use Rattle.lq_model.specs.Plan.{owner_in, rank_in, station_in}
use Rattle.lq_model.specs.Positions.{own_packet}
use Rattle.lq_model.specs.declared.machine.Packet.{Packet}
use Rattle.lq_band_laws.specs.Seats.{Each}
use Rattle.lq_band_laws.specs.Three.{at, all_three}
use Rattle.lq_band_laws.specs.Ring.{unlocked}
use Rattle.lq_table.specs.Views.{View, Setup, State, first_account, machine_packet, no_packets}
use Rattle.lq_table.specs.Rule.{words_of, machine_of, account, bands_now, holders, is_live, AreStops, FatesStored, IsDevice, Lends, Rings, IsPresentUnit, Stands, Ties}
use Rattle.lq_table.specs.Moves.{at_rest}
use Rattle.lq_table.specs.Closes.{AreQuiet, AreSlotsEmpty, IsEmptied}
use Rattle.atomic_table.specs.Table as table

-- the seat is in a transmit of a packet of this owner
abbrev pub IsTransmitting : ℕ → View → Type 0
IsTransmitting owner v = (is_live v ≡ true) × (p : Packet) × (own_packet v.place.position ≡ Some p) × (p.owner ≡ owner)

-- some seat has the turn of the owner's packet of this rank
pub record IsTakenTurn (k : Setup) (o r : ℕ) (views : List View) : Type 0 where
  pub id : ℕ
  pub view : View
  pub packet : ℕ
  pub at : get_elem? views id ≡ some view
  pub has : (is_live view ≡ true) × (view.packets.busy ≡ Some packet)
  pub owner : owner_in k.infos packet ≡ o
  pub rank : rank_in k.infos packet ≡ r

-- Where a turn word is 2r no seat is in a transmit of one of the owner's packets, and where it is 2r + 1 a seat has the turn of its
-- packet of rank r. A seat in a transmit has the turn of that packet. A packet whose turn is over was brought, and one whose turn
-- wasn't taken was not.
pub record AreTurns (k : Setup) (words : List ℕ) (views : List View) (past : List Event) : Type 0 where
  pub even : (o r : ℕ) → o < k.senders → slice_index words o ≡ 2 * r → Each (λ v. IsTransmitting o v → ⊥) views
  pub odd : (o r : ℕ) → o < k.senders → slice_index words o ≡ 2 * r + 1 → IsTakenTurn k o r views
  pub own : (p : Packet) → Each (λ v. is_live v ≡ true → own_packet v.place.position ≡ Some p → (n : ℕ) × (v.packets.busy ≡ Some n) × (p ≡ machine_packet k.infos n)) views
  pub over : (n : ℕ) → n < length k.infos → station_in k.infos n ≡ k.station → 2 * rank_in k.infos n + 2 ≤ slice_index words (owner_in k.infos n) → Contains (brought_by past) n
  pub later : (n : ℕ) → slice_index words (owner_in k.infos n) ≤ 2 * rank_in k.infos n → Contains (brought_by past) n → ⊥

-- The words stand for a machine that keeps the invariant, and for an account. The machine's seats are the places of the views that
-- aren't spent, and its bands and its requeue slot hold what the account holds (as far as a purge half done has taken them); the
-- account is what a list of events leaves, each of which may come where it stands, and of which a resize of a deactivated station
-- finds nothing held. The turn words say who is in a transmit and which packets were brought. The slots, the station with its requeue
-- slot and its device, and the fate words are those of that same machine and account.
pub record StandsForMachine (k : Setup) (s : table.State (Option StationState) View) : Type 0 where
  pub qdisc : Qdisc
  pub state : State
  -- the station, where it lies in the table's slot
  pub home : maybe.Option (Option StationState)
  pub homes : s.homes ≡ home ∷ []
  pub invariant : IsInductive (machine_of qdisc s.views)
  pub words : Stands k (words_of k s.words) qdisc (account k state).down
  pub packets : Ties k.infos qdisc (account k state) (bands_now state.left (account k state).bands)
  -- the stop values are the account's, unless a swap of the device is half done
  pub stops : AreStops state.shut qdisc.phase qdisc.locked qdisc.xoff (account k state).stops
  pub events : IsOrderly k.infos k.station (first_account k) state.past
  pub turns : AreTurns k (words_of k s.words).turns s.views state.past
  -- the slots hold the bands' packets, and the producer words are their indices
  pub rings : Rings k.max_len (words_of k s.words).size (words_of k s.words).producers (words_of k s.words).slots s.views (account k state).len (bands_now state.left (account k state).bands) state.ends state.resizing
  -- the station lies in the table's slot where the run lock is free, with the account's requeue slot; who has the lock has the station
  pub station : Lends k.infos qdisc.locked (words_of k s.words).xoff home s.views state.past (holders state (account k state) (words_of k s.words).size)
  pub fates : FatesStored k.infos (words_of k s.words).fates s.views (account k state) state.resizing state.left
  -- the device accepted what the account's unit sent, and it is the one that came
  pub sent : IsPresentUnit state.station (account k state)
  pub device : IsDevice k.infos k.station (account k state).stops state.origin state.station.device

-- the seat is in no call
abbrev pub IsInNoCall : View → Type 0
IsInNoCall v = is_live v ≡ true → at_rest v.place.position ≡ true

-- it has no packet of its own and no producer lock
abbrev pub HasNothingOwn : View → Type 0
HasNothingOwn v = is_live v ≡ true → (v.packets ≡ no_packets) × (v.locks ≡ all_three unlocked)

-- Each seat is in no call, SCHED and DEACTIVATED are clear, and each queue is open.
pub record IsTableQuiet (k : Setup) (s : table.State (Option StationState) View) : Type 0 where
  pub seats : Each IsInNoCall s.views
  pub words : AreQuiet (words_of k s.words)

-- Of the machine and the account for which the words stand nothing is held: the run lock is free, no call is inside, and in the station
-- that lies in the table's slot the requeue slot is empty, and in the rings each slot from the consumer's head on. Where no seat has a
-- producer lock or a packet of its own, the producers are at the heads, and each packet whose turn was taken has a fate.
pub record HoldsNothing (k : Setup) (s : table.State (Option StationState) View) (x : StandsForMachine k s) : Type 0 where
  pub account_empty : held (account k x.state) ≡ []
  pub lock : (words_of k s.words).lock ≡ 0
  pub inside : (words_of k s.words).inside ≡ 0
  pub station : StationState
  pub home : x.home ≡ some (Some station)
  pub slot_empty : station.slot ≡ None
  pub slots_empty : (b : ℕ) → b < 3 → AreSlotsEmpty (words_of k s.words).size (at b (words_of k s.words).slots) (slice_index station.heads b) (slice_index station.tails b)
  pub emptied : Each HasNothingOwn s.views → IsEmptied k (words_of k s.words) station

abbrev pub StandsForNothing : Setup → table.State (Option StationState) View → Type 0
StandsForNothing k s = (x : StandsForMachine k s) × HoldsNothing k s x
