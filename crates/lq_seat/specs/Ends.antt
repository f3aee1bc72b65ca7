-- The end of a station, and what is known of it at the close.
use Rattle.std.specs.Prelude.{◌≡◌, ◌⊎◌, ℕ, ◌<◌, true, List, [], ◌∷◌, length, slice_index, Option, None, Some, Contains, false}
use Rattle.lq_account_laws.specs.Trail.{IsOrderly, trail_of}
use Rattle.lq_control.specs.Finish.{AreAllDone}
use Rattle.lq_device.specs.Station.{StationState}
use Rattle.lq_model.specs.Account.{Account, Event, Purge, held}
use Rattle.lq_model.specs.Alone.{finished}
use Rattle.lq_model.specs.Plan.{station_in}
use Rattle.lq_model.specs.Words.{IsWordOf}
use Rattle.lq_model.specs.declared.fate.Cause.TheVariants as cause
use Rattle.lq_model.specs.declared.fate.Fate.{Fate}
use Rattle.lq_model.specs.declared.fate.Fate.TheVariants as fate
use Rattle.lq_model.specs.declared.fate.Info.{Info}
use Rattle.lq_seat.specs.State.{HasAllOf, HasAlone, HasServed, SeatState, seat_account, running_of, times}
use Rattle.lq_seat.specs.Steps.{EndsStation, Makes}
use Rattle.lq_table.specs.Closes.{HaveSent}

-- THE LAST CALL

-- the seat has all of the table, and all packets of the station were brought
pub record MayFinish (s : SeatState) : Type 0 where
  pub first : s.first ≡ true
  pub sole : HasAllOf s
  pub owners : (o : ℕ) → o < s.made.senders → 0 < times o s.owners
  pub wide : length s.turns ≡ s.made.senders
  pub done : AreAllDone s.made s.turns

-- what a finish adds to the trail: nothing, or the purge of what a hung device left
abbrev pub EndsTrail : SeatState → SeatState → Type 0
EndsTrail old new = (new.trail ≡ old.trail) ⊎ (new.trail ≡ Purge (cause.Hung (seat_account new).unit) ∷ old.trail)

-- no packet was purged as hung before
abbrev pub HasNoHang : List Event → Type 0
HasNoHang trail = (unit : ℕ) → Contains trail (Purge (cause.Hung unit)) → ⊥

-- on the trail packets are purged as hung only where the device hangs, and by its unit
abbrev pub PurgesHungOnly : SeatState → Type 0
PurgesHungOnly s = (unit : ℕ) → Contains s.trail (Purge (cause.Hung unit)) → (unit ≡ (seat_account s).unit) × (s.whole.device.hung ≡ true)

-- the same of the packets' fates
abbrev pub HungOnly : SeatState → Type 0
HungOnly s = (n unit : ℕ) → (seat_account s).fates n ≡ Some (fate.Purged (cause.Hung unit)) → (unit ≡ (seat_account s).unit) × (s.whole.device.hung ≡ true)

-- nothing is held, and each packet of the station has a fate
pub record HasDecidedAll (s : SeatState) : Type 0 where
  pub nothing_held : held (seat_account s) ≡ []
  pub hand_empty : (seat_account s).hand ≡ None
  pub decided : (n : ℕ) → n < length s.made.infos → station_in s.made.infos n ≡ s.made.station → (f : Fate) × ((seat_account s).fates n ≡ Some f)

-- the station was brought to its end
pub record Finishes (old new : SeatState) : Type 0 where
  pub is : new ≡ record old { trail = new.trail; whole = new.whole; steps = new.steps }
  pub by : Makes EndsStation old new
  pub trail : EndsTrail old new
  pub ended : HasDecidedAll new
  pub hung : HasNoHang old.trail → PurgesHungOnly new
  -- for a seat that has the table alone and whose device tells, the fates are those of the run of one sender
  pub alone : HasAlone old → (running_of new).account.fates ≡ (finished old.made.infos (running_of old)).account.fates

-- THE CLOSE

-- a finished station's sole seat, which may be closed
pub record MayCloseBy (s : SeatState) : Type 0 where
  pub first : s.first ≡ true
  pub raised : s.raised ≡ false
  pub sole : HasAllOf s

-- what a sole first seat knows at the close: its events came in order, and the trail is theirs; the device is the one that came,
-- and accepted what its unit sent, as did each that a swap took away
pub record IsSoundAtClose (infos : List Info) (station : ℕ) (start : Account) (s : SeatState) : Type 0 where
  pub orderly : IsOrderly infos station start s.whole.past
  pub trail : trail_of infos s.whole.past ≡ s.trail
  pub sent : (seat_account s).sent (seat_account s).unit ≡ s.whole.device.accepted
  pub device : HasServed infos station s.origin s.whole.device
  pub gone : HaveSent (seat_account s) s.gone
  pub hung : PurgesHungOnly s → HungOnly s

-- the closed table has the fates of the account and its device
pub record IsClosedAs (s : SeatState) (number packets : ℕ) (words : List ℕ) (home : Option StationState) : Type 0 where
  pub number_is : number ≡ s.made.station
  pub packets_are : packets ≡ length s.made.infos
  pub fates : (n : ℕ) (f : Fate) → n < length s.made.infos → station_in s.made.infos n ≡ s.made.station → (seat_account s).fates n ≡ Some f → IsWordOf f (slice_index words n)
  pub at_home : (st : StationState) × (home ≡ Some st) × (st.device ≡ s.whole.device) × (st.unit ≡ (seat_account s).unit)
