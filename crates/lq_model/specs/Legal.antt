-- When an event may come: in the account that the events before it leave, the latest of them first.
use Rattle.std.specs.Prelude.{◌≡◌, ◌⊎◌, ◌<◌, ℕ, ◌-◌, Bool, true, false, ◌&&◌, ◌||◌, ◌==◌, List, [], ◌∷◌, length, Option, Some, None, slice_get, slice_index, Contains, filter, filter_map}
use Rattle.lq_model.specs.Band.{MayBeFull}
use Rattle.lq_model.specs.Account.{Account, Event, Join, Full, Refuse, Empty, Take, Pick, Direct, Send, Back, Stop, Wake, Resize, Down, Purge, Swap, Up, held, held_in, is_hung, after_all}
use Rattle.lq_model.specs.Plan.{Plan, is_at, unit_of_swap, owner_in, station_in, band_in, queue_in}
use Rattle.lq_model.specs.declared.fate.Cause.{Cause}
use Rattle.lq_model.specs.declared.fate.Cause.TheVariants as cause
use Rattle.lq_model.specs.declared.device.Params.{Params}
use Rattle.lq_model.specs.declared.fate.Info.{Info}
use Rattle.lq_model.specs.declared.plan.EventKind.{EventKind}
use Rattle.lq_model.specs.declared.plan.EventKind.TheVariants as kind
use Rattle.lq_model.specs.declared.plan.EventPlan.{EventPlan}

-- WHAT CAME BEFORE

-- Since a packet last came into the hand or was laid back, this band was found to hold nothing.
abbrev pub was_empty : ℕ → List Event → Bool
was_empty band [] = false
was_empty band (Empty k ∷ past) = (k == band) || was_empty band past
was_empty band (Take k ∷ past) = false
was_empty band (Pick ∷ past) = false
was_empty band (Direct n ∷ past) = false
was_empty band (Back ∷ past) = false
was_empty band (event ∷ past) = was_empty band past

-- the events of the holder of the run lock: all but those of senders that bring a packet, of wakes and of control
-- without the lock
abbrev pub is_holders : Event → Bool
is_holders (Join n band) = false
is_holders (Full n seen) = false
is_holders (Refuse n event) = false
is_holders (Wake queue) = false
is_holders (Down event) = false
is_holders Up = false
is_holders event = true

-- the latest of these events is a send
abbrev pub begins_with_send : List Event → Bool
begins_with_send (Send ∷ past) = true
begins_with_send past = false

-- the latest of these events are stops of hung queues, and after them stands a send
abbrev pub begins_with_hang : List Event → Bool
begins_with_hang (Send ∷ past) = true
begins_with_hang (Stop queue value ∷ past) = (value == 2) && begins_with_hang past
begins_with_hang past = false

-- the holder's last event was a send
abbrev pub is_after_send : List Event → Bool
is_after_send past = begins_with_send (filter is_holders past)

-- the holder's events since its last send are stops of hung queues alone
abbrev pub is_hanging_past : List Event → Bool
is_hanging_past past = begins_with_hang (filter is_holders past)

-- the packet that a sender brought
abbrev pub brought : Event → Option ℕ
brought (Join n band) = Some n
brought (Full n seen) = Some n
brought (Refuse n event) = Some n
brought (Direct n) = Some n
brought event = None

abbrev pub brought_by : List Event → List ℕ
brought_by past = filter_map brought past

-- the plan's event that resized, and the one that deactivated
abbrev pub resize_event : Event → Option ℕ
resize_event (Resize len event) = Some event
resize_event event = None

abbrev pub down_event : Event → Option ℕ
down_event (Down event) = Some event
down_event event = None

-- PACKETS

-- the packet is of this station, and has no fate and no place yet
pub record IsNew (infos : List Info) (station : ℕ) (a : Account) (n : ℕ) : Type 0 where
  pub is_packet : n < length infos
  pub of_station : station_in infos n ≡ station
  pub no_fate : a.fates n ≡ None
  pub not_held : Contains (held a) n → ⊥
  pub not_in_hand : a.hand ≡ Some n → ⊥

-- WHEN AN EVENT MAY COME

-- the queue of the packet that was sent last
abbrev pub IsQueueSentOn : List Info → Account → ℕ → Type 0
IsQueueSentOn infos a queue = (n : ℕ) × (slice_get (a.sent a.unit) (length (a.sent a.unit) - 1) ≡ Some n) × (queue_in infos n ≡ queue)

-- a packet may be purged for this cause
abbrev pub MayPurge : Account → Cause → Type 0
MayPurge a (cause.Event event) = a.down ≡ Some event
MayPurge a (cause.Hung unit) = (a.unit ≡ unit) × (is_hung a ≡ true)

-- deactivated, with no packet anywhere
pub record IsEmptyAndDown (a : Account) : Type 0 where
  pub deactivated : (event : ℕ) × (a.down ≡ Some event)
  pub nothing_held : held a ≡ []
  pub hand_empty : a.hand ≡ None

pub record MayJoin (infos : List Info) (station : ℕ) (a : Account) (n band : ℕ) : Type 0 where
  pub new : IsNew infos station a n
  pub band_is : band_in infos n ≡ band
  pub has_room : length (held_in a band) < a.len

pub record MayDrop (infos : List Info) (station : ℕ) (a : Account) (n seen : ℕ) : Type 0 where
  pub new : IsNew infos station a n
  pub full : MayBeFull a.len (a.bands (band_in infos n)) seen

pub record MayTake (past : List Event) (a : Account) (band : ℕ) : Type 0 where
  pub one_of_three : band < 3
  pub hand_empty : a.hand ≡ None
  pub slot_empty : a.slot ≡ None
  pub something : 0 < length (held_in a band)
  pub lower_empty : (b : ℕ) → b < band → was_empty b past ≡ true

pub record MayGoDirect (infos : List Info) (station : ℕ) (a : Account) (n : ℕ) : Type 0 where
  pub new : IsNew infos station a n
  pub hand_empty : a.hand ≡ None
  pub slot_empty : a.slot ≡ None
  pub none_held : (m : ℕ) → Contains (held a) m → owner_in infos m ≡ owner_in infos n → ⊥

abbrev pub MayCome : List Info → ℕ → List Event → Account → Event → Type 0
MayCome infos station past a (Join n band) = MayJoin infos station a n band
MayCome infos station past a (Full n seen) = MayDrop infos station a n seen
MayCome infos station past a (Refuse n event) = IsNew infos station a n × (a.down ≡ Some event)
MayCome infos station past a (Empty band) = held_in a band ≡ []
MayCome infos station past a (Take band) = MayTake past a band
MayCome infos station past a Pick = (a.hand ≡ None) × ((n : ℕ) × (a.slot ≡ Some n))
MayCome infos station past a (Direct n) = MayGoDirect infos station a n
MayCome infos station past a Send = (n : ℕ) × (a.hand ≡ Some n) × (slice_index a.stops (queue_in infos n) ≡ 0)
MayCome infos station past a Back = ((n : ℕ) × (a.hand ≡ Some n)) × (a.slot ≡ None)
MayCome infos station past a (Stop queue value) =
    ((value ≡ 1) × (is_after_send past ≡ true) × IsQueueSentOn infos a queue) ⊎ ((value ≡ 2) × (is_hanging_past past ≡ true))
MayCome infos station past a (Wake queue) = slice_index a.stops queue ≡ 1
MayCome infos station past a (Resize len event) = a.hand ≡ None
MayCome infos station past a (Down event) = a.down ≡ None
MayCome infos station past a (Purge cause) = (a.hand ≡ None) × MayPurge a cause
MayCome infos station past a (Swap unit) = IsEmptyAndDown a
MayCome infos station past a Up = IsEmptyAndDown a

-- WHAT THE PLAN ASKS

-- this event of the plan is of the station, and is of this kind
abbrev pub IsEventAt : Plan → ℕ → ℕ → EventKind → Type 0
IsEventAt plan station event kind = (e : EventPlan) × (slice_get plan.events event ≡ Some e) × (is_at station e ≡ true) × (e.kind ≡ kind)

-- no event of the plan that came before is this one or a later one
pub record IsNext (past : List Event) (event : ℕ) : Type 0 where
  pub after_resizes : (e : ℕ) → Contains (filter_map resize_event past) e → e < event
  pub after_downs : (e : ℕ) → Contains (filter_map down_event past) e → e < event

-- a change of the queue length resizes while it keeps the station deactivated, once, and finds nothing held
pub record IsQueueLengthChange (plan : Plan) (station : ℕ) (past : List Event) (a : Account) (len event : ℕ) : Type 0 where
  pub planned : IsEventAt plan station event (kind.TxQueueLen len)
  pub once : (e : ℕ) → Contains (filter_map resize_event past) e → e < event
  pub deactivated : a.down ≡ Some event
  pub nothing_held : held a ≡ []

-- a resize of the plan, or a change of the queue length
abbrev pub IsPlannedResize : Plan → ℕ → List Event → Account → ℕ → ℕ → Type 0
IsPlannedResize plan station past a len event =
    (IsEventAt plan station event (kind.Resize len) × IsNext past event) ⊎ IsQueueLengthChange plan station past a len event

-- an event of the plan that deactivates: for good, to change the queue length, or to swap the device
abbrev pub IsPlannedDown : Plan → ℕ → ℕ → Type 0
IsPlannedDown plan station event =
    IsEventAt plan station event kind.Down
    ⊎ (((len : ℕ) × IsEventAt plan station event (kind.TxQueueLen len)) ⊎ ((params : Params) × IsEventAt plan station event (kind.Swap params)))

-- the swap that keeps the station deactivated brings its own unit, once
abbrev pub IsPlannedSwap : Plan → ℕ → List Event → Account → ℕ → Type 0
IsPlannedSwap plan station past a unit =
    (event : ℕ) × (a.down ≡ Some event) × ((params : Params) × IsEventAt plan station event (kind.Swap params)) × (unit ≡ unit_of_swap plan event)
    × (Contains past (Swap unit) → ⊥)

-- The plan's events come at most once each, in the plan's order, as the plan has them.
abbrev pub IsPlanned : Plan → ℕ → List Event → Account → Event → Type 0
IsPlanned plan station past a (Resize len event) = IsPlannedResize plan station past a len event
IsPlanned plan station past a (Down event) = IsNext past event × IsPlannedDown plan station event
IsPlanned plan station past a (Swap unit) = IsPlannedSwap plan station past a unit
IsPlanned plan station past a event = Unit {0}

-- The packets of one owner come in ascending number.
abbrev pub IsInTurn : List Info → List Event → Option ℕ → Type 0
IsInTurn infos past None = Unit {0}
IsInTurn infos past (Some n) = (m : ℕ) → Contains (brought_by past) m → owner_in infos m ≡ owner_in infos n → m < n

-- LISTS OF EVENTS

-- the latest first: each may come in the account that those before it leave
abbrev pub Comes : List Info → ℕ → Account → List Event → Type 0
Comes infos station start [] = Unit {0}
Comes infos station start (event ∷ past) =
    Comes infos station start past × (MayCome infos station past (after_all start past) event × IsInTurn infos past (brought event))

-- each is as the plan asks
abbrev pub ArePlanned : Plan → ℕ → Account → List Event → Type 0
ArePlanned plan station start [] = Unit {0}
ArePlanned plan station start (event ∷ past) = ArePlanned plan station start past × IsPlanned plan station past (after_all start past) event

pub record IsLegal (plan : Plan) (infos : List Info) (station : ℕ) (start : Account) (past : List Event) : Type 0 where
  pub comes : Comes infos station start past
  pub planned : ArePlanned plan station start past
