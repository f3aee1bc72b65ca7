-- The run of one sender whose devices tell: the fates are a function of the plan, the packets, and how often queues are opened after each.
use Rattle.std.specs.Prelude.{ℕ, zero, suc, ◌+◌, ◌-◌, Bool, true, false, not, ◌&&◌, ◌||◌, nat_lt, nat_le, ◌==◌, if◌then◌else◌, List, [], ◌∷◌, length, map, filter, slice_get, slice_index, Option, Some, None, is_some, is_none}
use Rattle.std.specs.Option.{option_map_or, option_and_then}
use Rattle.lq_model.specs.Account.{Account, Event, Join, Full, Refuse, Take, Pick, Direct, Send, Back, Stop, Wake, Resize, Down, Purge, Swap, Up, new_account, held, held_in, is_open, is_hung, is_all_open, is_shared, after}
use Rattle.lq_model.specs.Band.{Band, held_of, stale_count}
use Rattle.lq_model.specs.Device.{Telling, answer_of, told_after, is_busy}
use Rattle.lq_model.specs.Numbers.{first_numbers}
use Rattle.lq_model.specs.Plan.{Plan, is_at, unit_of_swap, station_in, band_in, queue_in}
use Rattle.lq_model.specs.declared.device.Params.{Params}
use Rattle.lq_model.specs.declared.device.Tx.{Tx}
use Rattle.lq_model.specs.declared.device.Tx.TheVariants as tx
use Rattle.lq_model.specs.declared.fate.Cause.TheVariants as cause
use Rattle.lq_model.specs.declared.fate.Fate.{Fate}
use Rattle.lq_model.specs.declared.fate.Info.{Info}
use Rattle.lq_model.specs.declared.plan.EventKind.{EventKind}
use Rattle.lq_model.specs.declared.plan.EventKind.TheVariants as kind
use Rattle.lq_model.specs.declared.plan.StationPlan.{StationPlan}

-- STATIONS

-- a station of the run
pub record RunningStation : Type 0 where
  pub account : Account
  -- whether the next packet may go past the bands
  pub clean : Bool
  -- its present device
  pub device : Telling

abbrev pub new_device : Params → Telling
new_device params = record { params = params; busies = 0 }

-- OFFERS TO THE DEVICE

-- each of the first so many queues has the stop value of a device that hangs
abbrev pub hung_up_to : ℕ → Account → Account
hung_up_to zero a = a
hung_up_to (suc queue) a = after (Stop queue 2) (hung_up_to queue a)

-- the account where the device answered so to the packet in hand, which is of this queue
abbrev pub answered : Tx → ℕ → Account → Account
answered tx.Sent queue a = after Send a
answered tx.SentStop queue a = after (Stop queue 1) (after Send a)
answered tx.SentHang queue a = hung_up_to (length a.stops) (after Send a)
answered tx.Busy queue a = after Back a

-- what the device answers next
abbrev pub next_answer : RunningStation → Tx
next_answer s = answer_of s.device (length (s.account.sent s.account.unit))

-- the packet in hand, which is of this queue, was offered to the device
abbrev pub offered : ℕ → RunningStation → RunningStation
offered queue s = record {
  account = answered (next_answer s) queue s.account;
  clean = s.clean;
  device = told_after (next_answer s) s.device;
}

-- SERVING

-- the packet that is served next comes into the hand by this event: that of the requeue slot, or else the first of
-- the lowest band that holds something
abbrev pub holds : Account → ℕ → Bool
holds a band = nat_lt 0 (length (held_in a band))

abbrev pub next_taken : Account → Option Event
next_taken a =
    if is_some a.slot then Some Pick
    else if holds a 0 then Some (Take 0)
    else if holds a 1 then Some (Take 1)
    else if holds a 2 then Some (Take 2) else None

-- A station that is deactivated, or whose one queue isn't open, isn't served.
abbrev pub is_left : Account → Bool
is_left a = is_some a.down || (not (is_shared a) && not (is_open a 0))

abbrev pub queue_in_hand : List Info → Account → ℕ
queue_in_hand infos a = option_map_or (queue_in infos) a.hand 0

-- The packet that came into the hand is offered to the device, and serving goes on; but where its queue isn't open, it
-- is laid into the requeue slot, and serving ends.
abbrev pub hand_served : List Info → (RunningStation → RunningStation) → RunningStation → RunningStation
hand_served infos serve_on s =
    if is_open s.account (queue_in_hand infos s.account) then serve_on (offered (queue_in_hand infos s.account) s)
    else record s { account = after Back s.account }

abbrev pub taken_served : List Info → (RunningStation → RunningStation) → Option Event → RunningStation → RunningStation
taken_served infos serve_on None s = s
taken_served infos serve_on (Some event) s = hand_served infos serve_on (record s { account = after event s.account })

-- so many packets at most are taken, one after the other
abbrev pub served_turns : List Info → ℕ → RunningStation → RunningStation
served_turns infos zero s = s
served_turns infos (suc turns) s =
    if is_left s.account then s else taken_served infos (served_turns infos turns) (next_taken s.account) s

-- so many turns are enough: each sends a packet that is held, or is one more answer Busy
abbrev pub turns_of : RunningStation → ℕ
turns_of s = length (held s.account) + (s.device.params.busy_limit - s.device.busies)

-- after serving, the next packet may go past the bands where the one queue is open; of several queues, where nothing is held
abbrev pub is_clean : Account → Bool
is_clean a = if is_shared a then is_none (next_taken a) else is_open a 0

abbrev pub cleaned : RunningStation → RunningStation
cleaned s = record s { clean = is_clean s.account }

-- the station was served, as long as something is held and the device takes it
abbrev pub served : List Info → RunningStation → RunningStation
served infos s = if is_left s.account then s else cleaned (served_turns infos (turns_of s) s)

-- OFFERS OF A PACKET

-- the slot that the next packet of the band would have isn't empty
abbrev pub is_occupied : ℕ → Band → Bool
is_occupied len band = length (held_of band) + stale_count len band.taken == len

-- the packet in that slot: the one that stands so many places before the end
abbrev pub seen_in : ℕ → Band → ℕ
seen_in len band = slice_index band.line (length band.line - len)

-- packet n joins its band, or is dropped as full
abbrev pub joined_or_full : ℕ → ℕ → Account → Account
joined_or_full n band a =
    if is_occupied a.len (a.bands band) then after (Full n (seen_in a.len (a.bands band))) a else after (Join n band) a

-- packet n goes past the bands: to the device where its queue is open, or else into the requeue slot
abbrev pub gone_direct : List Info → ℕ → RunningStation → RunningStation
gone_direct infos n s =
    if is_open s.account (queue_in infos n)
    then record (offered (queue_in infos n) (record s { account = after (Direct n) s.account })) { clean = not (is_busy (next_answer s)) }
    else record s { account = after Back (after (Direct n) s.account); clean = false }

-- packet n goes through its band, and the station is served
abbrev pub gone_through : List Info → ℕ → RunningStation → RunningStation
gone_through infos n s =
    let t = served infos (record s { account = joined_or_full n (band_in infos n) s.account }) in
    record t { clean = t.clean && (is_shared t.account || is_open t.account 0) }

-- packet n is brought to its station, which may let packets go past the bands
abbrev pub taken_in : List Info → Bool → ℕ → Option ℕ → RunningStation → RunningStation
taken_in infos bypass n (Some event) s = record s { account = after (Refuse n event) s.account }
taken_in infos bypass n None s = if bypass && s.clean then gone_direct infos n s else gone_through infos n s

abbrev pub brought_in : List Info → Bool → ℕ → RunningStation → RunningStation
brought_in infos bypass n s = taken_in infos bypass n s.account.down s

-- OPENINGS

-- each of the first so many queues that is stopped is open
abbrev pub opened_queue : ℕ → Account → Account
opened_queue queue a = if slice_index a.stops queue == 1 then after (Wake queue) a else a

abbrev pub opened_up_to : ℕ → Account → Account
opened_up_to zero a = a
opened_up_to (suc queue) a = opened_queue queue (opened_up_to queue a)

abbrev pub opened : RunningStation → RunningStation
opened s = record s { account = opened_up_to (length s.account.stops) s.account }

-- THE PLAN'S EVENTS

-- deactivated and emptied
abbrev pub deactivated : ℕ → Account → Account
deactivated event a = after (Purge (cause.Event event)) (after (Down event) a)

abbrev pub changed : Plan → ℕ → EventKind → RunningStation → RunningStation
changed plan event kind.Down s = record s { account = deactivated event s.account; clean = true }
changed plan event kind.Up s = record s { account = after Up s.account }
changed plan event (kind.Resize len) s = record s { account = after (Resize len event) s.account }
changed plan event (kind.TxQueueLen len) s = record s { account = after Up (after (Resize len event) (deactivated event s.account)); clean = true }
changed plan event (kind.Swap params) s = record {
  account = after Up (after (Swap (unit_of_swap plan event)) (deactivated event s.account));
  clean = true;
  device = new_device params;
}

-- THE RUN

-- the list where each element whose place passes the test was changed
abbrev pub changed_where : {X : Type 0} → (ℕ → Bool) → (X → X) → List X → List X
changed_where test f [] = []
changed_where test f (x ∷ xs) = (if test 0 then f x else x) ∷ changed_where (λ i. test (suc i)) f xs

-- an event of the plan, after which each of its stations is served
abbrev pub with_event : Plan → List Info → ℕ → List RunningStation → List RunningStation
with_event plan infos event stations =
    option_map_or (λ e. changed_where (λ station. is_at station e) (λ s. served infos (changed plan event e.kind s)) stations) (slice_get plan.events event) stations

abbrev pub with_events : Plan → List Info → List ℕ → List RunningStation → List RunningStation
with_events plan infos [] stations = stations
with_events plan infos (event ∷ events) stations = with_events plan infos events (with_event plan infos event stations)

-- the events that come between packet n and the one before it, and those after all packets
abbrev pub before_of : Plan → ℕ → ℕ
before_of plan event = option_map_or (λ e. e.before) (slice_get plan.events event) 0

abbrev pub events_before : Plan → ℕ → List ℕ
events_before plan n = filter (λ event. before_of plan event == n) (first_numbers (length plan.events))

abbrev pub events_after : Plan → ℕ → List ℕ
events_after plan count = filter (λ event. nat_le count (before_of plan event)) (first_numbers (length plan.events))

abbrev pub bypass_of : Plan → ℕ → Bool
bypass_of plan station = option_map_or (λ s. s.bypass) (slice_get plan.stations station) false

-- packet n is brought to its station, and then the station is served
abbrev pub with_packet : Plan → List Info → ℕ → List RunningStation → List RunningStation
with_packet plan infos n stations =
    changed_where (λ station. station == station_in infos n) (λ s. served infos (brought_in infos (bypass_of plan (station_in infos n)) n s)) stations

-- the stopped queues of all stations are opened so many times, and all stations served after each
abbrev pub opened_and_served : List Info → ℕ → List RunningStation → List RunningStation
opened_and_served infos zero stations = stations
opened_and_served infos (suc times) stations = map (served infos) (map opened (opened_and_served infos times stations))

-- what follows a packet: where the queues aren't opened, all stations are served once
abbrev pub turn_ended : List Info → ℕ → List RunningStation → List RunningStation
turn_ended infos zero stations = map (served infos) stations
turn_ended infos (suc times) stations = opened_and_served infos (suc times) stations

-- the plan's events before packet n, the packet if it is one that is offered, and what follows it; `opens n` is how often the queues are opened then
abbrev pub with_turn : Plan → List Info → (ℕ → ℕ) → (ℕ → Bool) → ℕ → List RunningStation → List RunningStation
with_turn plan infos opens offers n stations =
    let ready = with_events plan infos (events_before plan n) stations in
    turn_ended infos (opens n) (if offers n then with_packet plan infos n ready else ready)

abbrev pub new_station : ℕ → StationPlan → RunningStation
new_station number s = record { account = new_account s.len number s.queues; clean = true; device = new_device s.params }

abbrev pub new_stations : ℕ → List StationPlan → List RunningStation
new_stations number [] = []
new_stations number (s ∷ ss) = new_station number s ∷ new_stations (number + 1) ss

-- the stations after the first so many packets, from these on
abbrev pub after_packets : Plan → List Info → (ℕ → ℕ) → (ℕ → Bool) → List RunningStation → ℕ → List RunningStation
after_packets plan infos opens offers start zero = start
after_packets plan infos opens offers start (suc n) = with_turn plan infos opens offers n (after_packets plan infos opens offers start n)

-- THE END

-- a station is done where it is deactivated, or hung, or open and empty
abbrev pub is_done : Account → Bool
is_done a = is_some a.down || (is_hung a || (is_all_open a && is_none (next_taken a)))

-- the station is woken and served until it is done, so many times at most
abbrev pub finished_rounds : List Info → ℕ → RunningStation → RunningStation
finished_rounds infos zero s = s
finished_rounds infos (suc rounds) s = if is_done s.account then s else finished_rounds infos rounds (served infos (opened s))

-- what a hung station holds is purged
abbrev pub purged_if_hung : Account → Account
purged_if_hung a = if is_hung a then after (Purge (cause.Hung a.unit)) a else a

-- so many rounds are enough: each but the last sends a packet that is held
abbrev pub finished : List Info → RunningStation → RunningStation
finished infos s = let t = finished_rounds infos (length (held s.account) + 1) s in record t { account = purged_if_hung t.account }

-- after all packets come the events that are left, and then each station is finished
abbrev pub after_run : Plan → List Info → (ℕ → ℕ) → (ℕ → Bool) → List RunningStation → List RunningStation
after_run plan infos opens offers start =
    map (finished infos) (with_events plan infos (events_after plan (length infos)) (after_packets plan infos opens offers start (length infos)))

-- THE FATES

abbrev pub fate_in : List RunningStation → List Info → ℕ → Option Fate
fate_in stations infos n = option_and_then (λ s. s.account.fates n) (slice_get stations (station_in infos n))

-- the fate of each packet, in ascending number, where these packets are offered; every other has none
unfoldable pub run_fates : Plan → List Info → (ℕ → ℕ) → (ℕ → Bool) → List (Option Fate)
run_fates plan infos opens offers = map (fate_in (after_run plan infos opens offers (new_stations 0 plan.stations)) infos) (first_numbers (length infos))

abbrev pub alone : Plan → List Info → (ℕ → ℕ) → List (Option Fate)
alone plan infos opens = run_fates plan infos opens (λ n. true)

-- where only the packets of one station are offered: each keeps its number, so that events and openings come where they come in the whole run
abbrev pub alone_at : Plan → List Info → (ℕ → ℕ) → ℕ → List (Option Fate)
alone_at plan infos opens station = run_fates plan infos opens (λ n. station_in infos n == station)
