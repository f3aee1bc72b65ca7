-- The other senders' seats are joined into the first sender's.
use Rattle.std.specs.Prelude.{◌≡◌, ◌⊎◌, ◌<◌, ◌≤◌, ℕ, ◌+◌, ◌*◌, true, false, List, [], ◌∷◌, length, slice_get, slice_index, Some}
use Rattle.lq_control.specs.Finish.{count_all}
use Rattle.lq_model.specs.Plan.{Plan}
use Rattle.lq_model.specs.declared.fate.Info.{Info}
use Rattle.lq_seat.specs.State.{SeatState, TableState, IsTableOf, IsHere, times}
use Rattle.lq_senders.specs.Senders.{StandsInRun}
use Rattle.lq_senders.specs.Way.{IsOnWay}

-- The senders whose seats are one: the first, and of the others all but so many. (The last sender is taken in first.)
abbrev pub IsTakenIn : Plan → ℕ → ℕ → Type 0
IsTakenIn plan out owner = (owner < plan.senders) × ((owner ≡ 0) ⊎ (out < owner))

-- the first sender's seat at a station after all packets, where so many other seats are still out
pub record Joined (plan : Plan) (infos : List Info) (station out : ℕ) (v : SeatState) : Type 0 where
  pub shares : v.shares + out ≡ 1024
  pub told : v.told ≡ true
  pub first : v.first ≡ true
  pub raised : v.raised ≡ false
  pub wide : length v.turns ≡ plan.senders
  pub owners : (owner : ℕ) → IsTakenIn plan out owner → 0 < times owner v.owners
  pub done : (owner : ℕ) → IsTakenIn plan out owner → slice_index v.turns owner ≡ 2 * count_all infos owner station
  pub way : IsOnWay plan station (length plan.events) v.trail

pub record JoinedAt (plan : Plan) (infos : List Info) (out j : ℕ) (t : TableState) (c : SeatState) : Type 0 where
  pub table : IsTableOf plan infos j t
  pub seat : IsHere t c
  pub joined : Joined plan infos j out c

pub record SenderJoined (plan : Plan) (infos : List Info) (out : ℕ) (tables : List TableState) (seats : List SeatState) : Type 0 where
  pub long : length seats ≡ length tables
  pub all : length tables ≡ length plan.stations
  pub each : (j : ℕ) (t : TableState) (c : SeatState) → slice_get tables j ≡ Some t → slice_get seats j ≡ Some c → JoinedAt plan infos out j t c

-- the first sender's seats, with so many others out, still have these shares and know the whole once they are sole
abbrev pub AreFirst : ℕ → List SeatState → Type 0
AreFirst out seats = (j : ℕ) (c : SeatState) → slice_get seats j ≡ Some c → (c.shares + out ≡ 1024) × (c.told ≡ true)

-- another sender's seat at a station, which was through with all packets
pub record IsOtherDone (plan : Plan) (infos : List Info) (owner j : ℕ) (t : TableState) (c : SeatState) : Type 0 where
  pub seat : IsHere t c
  pub stands : StandsInRun plan infos owner j (length plan.events) (length infos) c
  pub shares : c.shares ≡ 1
  pub owners : c.owners ≡ owner ∷ []
  pub first : c.first ≡ false

-- the seats from `count` on were joined with those of the sender at this place, and those below it are still to be
pub record JoinsDown (plan : Plan) (infos : List Info) (place count : ℕ) (tables : List TableState) (now rest : List SeatState) : Type 0 where
  pub long : length now ≡ length tables
  pub all : length tables ≡ length plan.stations
  pub left : length rest ≡ count
  pub below : count ≤ length tables
  pub joined : (j : ℕ) (t : TableState) (c : SeatState) → count ≤ j → slice_get tables j ≡ Some t → slice_get now j ≡ Some c → JoinedAt plan infos place j t c
  pub ahead : (j : ℕ) (t : TableState) (c : SeatState) → j < count → slice_get tables j ≡ Some t → slice_get now j ≡ Some c → JoinedAt plan infos (place + 1) j t c
  pub others : (j : ℕ) (t : TableState) (c : SeatState) → slice_get tables j ≡ Some t → slice_get rest j ≡ Some c → IsOtherDone plan infos (place + 1) j t c
