-- What the fates of a run are, what its devices did, and what stays of its stations.
use Rattle.std.specs.Prelude.{◌≡◌, ◌<◌, ℕ, true, List, All, length, map, Some, slice_get, slice_index, IsSome}
use Rattle.std.specs.Option.{option_map}
use Rattle.lq_account_laws.specs.Accounts.{IsClosed}
use Rattle.lq_model.specs.Account.{Account, Event}
use Rattle.lq_model.specs.Alone.{alone, alone_at}
use Rattle.lq_model.specs.Complete.{IsComplete}
use Rattle.lq_model.specs.Device.{DeviceCall, DeviceState, told_params}
use Rattle.lq_model.specs.Plan.{Plan, queue_in, queues_at, station_in, unit_count}
use Rattle.lq_model.specs.Sent.{sent_of}
use Rattle.lq_model.specs.Settled.{IsConfiguredWith, IsSettled, IsInSenderOrder, IsUnitOf, HangsAfter, HangsAsTold, MeetsEvents}
use Rattle.lq_model.specs.declared.device.Params.{Params}
use Rattle.lq_model.specs.declared.fate.Cause.TheVariants.{Hung}
use Rattle.lq_model.specs.declared.fate.Fate.{Fate}
use Rattle.lq_model.specs.declared.fate.Fate.TheVariants.{Purged}
use Rattle.lq_model.specs.Words.{IsWordOf}
use Rattle.lq_model.specs.declared.fate.Info.{Info}
use Rattle.lq_senders.specs.Way.{EndsAsPlanned}
use Rattle.lq_table.specs.Ended.{EndedState}

-- each of the first so many devices tells its rule
abbrev pub AllTell : ℕ → List DeviceState → Type 0
AllTell units devices = (unit : ℕ) (device : DeviceState) → unit < units → slice_get devices unit ≡ Some device → IsSome device.told

-- which devices stand on a bench, in their order
abbrev pub identities_of : List DeviceState → List ℕ
identities_of devices = map (λ device. device.identity) devices

-- A unit's device was asked to send a packet of the unit's station, on that packet's own queue, which is one of the station's.
pub record IsCallOfUnit (plan : Plan) (infos : List Info) (unit : ℕ) (call : DeviceCall) : Type 0 where
  pub packet : call.packet < length infos
  pub of_station : IsUnitOf plan (station_in infos call.packet) unit
  pub own_queue : call.queue ≡ queue_in infos call.packet
  pub one_of_its : call.queue < queues_at plan.stations (station_in infos call.packet)

-- The fates of a run over the devices of a bench, as they were before it and are after it; unit u is the device at place u.
-- `opens n` is how often the stopped queues are opened after packet n.
pub record AreFatesOf (plan : Plan) (infos : List Info) (opens : ℕ → ℕ) (fates : List Fate) (before after : List DeviceState) : Type 0 where
  -- each packet has exactly one fate, and it is one that the plan allows
  pub settled : IsSettled plan infos fates
  -- where nothing deactivates, hangs, shrinks or fills up, each packet is sent
  pub complete : IsComplete plan infos fates
  -- each owner's packets of one station and band were sent in ascending number
  pub in_order : IsInSenderOrder infos fates
  -- each station's fates can be told by a legal list of events, which leaves nothing held: it has the plan's events for the station,
  -- in their order and no other, and leaves the station as they do
  pub accounts : (station : ℕ) → station < length plan.stations
      → (past : List Event) × (a : Account) × IsClosed plan infos fates station past a × EndsAsPlanned plan station a
  -- the packets of the first sender meet the plan's events where they stand
  pub events : MeetsEvents plan infos fates
  -- each unit's device accepted just the packets that it sent, in order of serial
  pub devices : (unit : ℕ) → unit < unit_count plan → slice_get (map (λ device. device.accepted) after) unit ≡ Some (sent_of fates unit)
  -- and was asked for nothing but packets of its station, each on the packet's own queue
  pub asked : (unit : ℕ) (device : DeviceState) → unit < unit_count plan → slice_get after unit ≡ Some device → All (IsCallOfUnit plan infos unit) device.asked
  -- packets are purged as hung only where the unit's device hangs
  pub hung : (n unit : ℕ) (device : DeviceState) → slice_get fates n ≡ Some (Purged (Hung unit)) → slice_get after unit ≡ Some device → device.hung ≡ true
  -- each unit was configured as its station or its swap says: its device tells these parameters, if it told any before
  pub configured : (unit : ℕ) (params : Params) (old new : DeviceState) → IsConfiguredWith plan unit params → slice_get before unit ≡ Some old → slice_get after unit ≡ Some new
      → told_params new ≡ option_map (λ _. params) old.told
  -- a device that tells hung as it told, whatever the others do
  pub hangs : (unit : ℕ) (params : Params) (old : DeviceState) → IsConfiguredWith plan unit params → slice_get before unit ≡ Some old → IsSome old.told
      → HangsAfter fates unit params
  -- where they all tell, they all did
  pub as_told : AllTell (unit_count plan) before → HangsAsTold plan fates
  -- where they tell and there is one sender, the fates are those of its run
  pub alone : AllTell (unit_count plan) before → plan.senders ≡ 1 → map (λ fate. Some fate) fates ≡ alone plan infos opens
  -- and each packet's fate is that of the run in which only the packets of its station are offered
  pub apart : AllTell (unit_count plan) before → plan.senders ≡ 1 → (n : ℕ) (fate : Fate) → slice_get fates n ≡ Some fate
      → slice_get (alone_at plan infos opens (station_in infos n)) n ≡ Some (Some fate)

-- WHAT STAYS OF A STATION

-- a station of the plan has ended: the fates of its packets are these
pub record IsEndedAs (plan : Plan) (infos : List Info) (fates : List Fate) (station : ℕ) (e : EndedState) : Type 0 where
  pub number_is : e.number ≡ station
  pub plan_is : slice_get plan.stations station ≡ Some e.plan
  pub packets_are : e.packets ≡ length infos
  pub fates_are : (n : ℕ) (fate : Fate) → slice_get fates n ≡ Some fate → station_in infos n ≡ station → IsWordOf fate (slice_index e.words n)

-- each station of the plan has, in ascending order
pub record AreEnded (plan : Plan) (infos : List Info) (fates : List Fate) (ended : List EndedState) : Type 0 where
  pub one_each : length ended ≡ length plan.stations
  pub each : (station : ℕ) (e : EndedState) → slice_get ended station ≡ Some e → IsEndedAs plan infos fates station e
