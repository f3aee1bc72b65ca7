-- The end of a station: what is left of its packets is sent, and nothing is held afterwards.
use Rattle.std.specs.Prelude.{◌≡◌, ◌⊎◌, ℕ, ◌+◌, ◌*◌, ◌<◌, ◌≤◌, Bool, true, ◌&&◌, ◌==◌, List, [], ◌∷◌, ◌++◌, length, take, count_by, slice_get, slice_index, Contains, Some, None, IsSome}
use Rattle.lq_model.specs.Account.{Event, Purge, after, held}
use Rattle.lq_model.specs.Legal.{brought}
use Rattle.lq_model.specs.Plan.{owner_in, station_in, rank_in}
use Rattle.lq_model.specs.declared.fate.Cause.{Cause}
use Rattle.lq_model.specs.declared.fate.Cause.TheVariants as cause
use Rattle.lq_model.specs.declared.fate.Fate.{Fate}
use Rattle.lq_model.specs.declared.fate.Fate.TheVariants as fate
use Rattle.lq_model.specs.declared.fate.Info.{Info}
use Rattle.lq_model.specs.declared.machine.Phase.{Phase}
use Rattle.lq_model.specs.declared.machine.Phase.TheVariants.{Active, Purged}
use Rattle.lq_table.specs.Views.{View, Setup}
use Rattle.lq_table.specs.Rule.{AreInfos, times}
use Rattle.lq_table.specs.AtRest.{IsFatedOrHeld}
use Rattle.lq_table.specs.Sees.{account_of, solo}
use Rattle.lq_ring.specs.Fates.{fates_onto}
use Rattle.lq_qdisc.specs.Calls.{KeepsFates}
use Rattle.lq_control.specs.Ending.{purged_as_hung}
use Rattle.lq_control.specs.Control.{IsIn}
use Rattle.lq_control.specs.declared.finishes.Seen.{Seen}
use Rattle.lq_control.specs.declared.finishes.Seen.TheVariants as seen

-- PACKETS

abbrev pub is_packet_of : ℕ → ℕ → Info → Bool
is_packet_of owner station info = (info.owner == owner) && (info.station == station)

-- how many packets of this owner and station are among the first n, and among all
abbrev pub count_below : List Info → ℕ → ℕ → ℕ → ℕ
count_below infos owner station n = count_by (is_packet_of owner station) (take n infos)

abbrev pub count_all : List Info → ℕ → ℕ → ℕ
count_all infos owner station = count_by (is_packet_of owner station) infos

-- a rank is the number of lower packets of the same owner and station
abbrev pub AreRanks : List Info → Type 0
AreRanks infos = (n : ℕ) (info : Info) → slice_get infos n ≡ Some info → info.rank ≡ count_below infos info.owner info.station n

-- what a station was made for: its packets are numbered by rank, and the sole seat has every owner
pub record AreFor (k : Setup) (v : View) : Type 0 where
  pub infos : AreInfos k.infos k.station k.senders k.queues
  pub ranks : AreRanks k.infos
  pub owners : (o : ℕ) → o < k.senders → 0 < times o v.share.owners

-- the turn word of an owner is twice a number of its packets that is at least that below n
abbrev pub IsTurn : Setup → ℕ → List ℕ → ℕ → Type 0
IsTurn k n turns o = (r : ℕ) × (slice_index turns o ≡ 2 * r) × (count_below k.infos o k.station n ≤ r) × (r ≤ count_all k.infos o k.station)

-- each owner's packets below n were transmitted, at least
pub record AreTurnsFrom (k : Setup) (n : ℕ) (turns : List ℕ) : Type 0 where
  pub long : length turns ≡ k.senders
  pub words : (o : ℕ) → o < k.senders → IsTurn k n turns o

-- all were
abbrev pub AreAllDone : Setup → List ℕ → Type 0
AreAllDone k turns = (o : ℕ) → o < k.senders → slice_index turns o ≡ 2 * count_all k.infos o k.station

-- THE TRAIL

-- what transmits of the seat put on the trail; fates that were stored stay so
pub record IsSent (k : Setup) (v w : View) : Type 0 where
  pub events : List Event
  pub trail : w.trail ≡ events ++ v.trail
  pub first : (e : Event) → Contains events e → (n : ℕ) × (brought e ≡ Some n) × (owner_in k.infos n ≡ 0)
  pub fates : KeepsFates v w

-- WHAT IS LEFT

-- the hand is empty, and each packet of the station whose turn was taken has a fate or is held
pub record AreKept (k : Setup) (v : View) : Type 0 where
  pub hand_empty : (account_of v).hand ≡ None
  pub kept : (n : ℕ) → n < length k.infos → station_in k.infos n ≡ k.station → 0 < times (owner_in k.infos n) v.share.owners → 2 * rank_in k.infos n + 1 ≤ slice_index v.turns (owner_in k.infos n) → IsFatedOrHeld (account_of v) n

-- by a look nothing changes but what the seat knows of the phase
abbrev pub IsLook : View → View → Type 0
IsLook v w = (p : Phase) × (w ≡ record v { whole = record v.whole { qdisc = record v.whole.qdisc { phase = p } } })

-- the station is active, or was purged
abbrev pub IsActiveOrPurged : View → Type 0
IsActiveOrPurged v = IsIn Active v ⊎ IsIn Purged v

-- each of the first so many queues has this stop value, and each of all
abbrev pub AreStopsBelow : ℕ → ℕ → View → Type 0
AreStopsBelow queues word v = (queue : ℕ) → queue < queues → slice_index (account_of v).stops queue ≡ word

abbrev pub AreAllStops : ℕ → View → Type 0
AreAllStops word v = AreStopsBelow v.share.about.queues word v

-- nothing is held, and the station is deactivated, or all its queues are open
pub record IsOver (v : View) : Type 0 where
  pub nothing_held : held (account_of v) ≡ []
  pub over : IsSome (account_of v).down ⊎ AreAllStops 0 v

-- the station is active, and all its queues are hung, as the device of its present unit is
pub record Hangs (v : View) : Type 0 where
  pub active : IsIn Active v
  pub up : (account_of v).down ≡ None
  pub stops : AreAllStops 2 v
  pub hung : v.whole.state.station.device.hung ≡ true
  pub unit : (account_of v).unit ≡ v.whole.state.station.unit

-- what a look at the words tells
abbrev pub Shows : Seen → View → Type 0
Shows seen.Ended v = IsOver v
Shows seen.Hung v = Hangs v
Shows seen.Going v = (account_of v).down ≡ None

-- Nothing is left: nothing is held, and each packet of the station has a fate.
pub record IsFinished (k : Setup) (v : View) : Type 0 where
  pub nothing_held : held (account_of v) ≡ []
  pub hand_empty : (account_of v).hand ≡ None
  pub decided : (n : ℕ) → n < length k.infos → station_in k.infos n ≡ k.station → (f : Fate) × ((account_of v).fates n ≡ Some f)

-- the cause of a purge where the device of the present unit hangs
abbrev pub hung_cause : View → Cause
hung_cause v = cause.Hung v.whole.state.station.unit

-- The purge of what a hung device left: just what was held has Purged by its unit as its fate, which is stored, and is counted.
pub record PurgesHung (count : ℕ) (v w : View) : Type 0 where
  pub hung : v.whole.state.station.device.hung ≡ true
  pub unit : (account_of v).unit ≡ v.whole.state.station.unit
  pub trail : w.trail ≡ Purge (hung_cause v) ∷ v.trail
  pub account : account_of w ≡ after (Purge (hung_cause v)) (account_of v)
  pub settled : w.settled ≡ fates_onto (fate.Purged (hung_cause v)) (held (account_of v)) v.settled
  pub counted : count ≡ length (held (account_of v))
  pub turns : w.turns ≡ v.turns
  pub device : w.whole.state.station.device ≡ v.whole.state.station.device
  -- so its event is the only one that came after what the seat knew before
  pub step : solo w ≡ purged_as_hung v.whole.state.station.unit (solo v)
