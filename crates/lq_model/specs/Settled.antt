-- What the fates of a run are, read off a list that has the fate of packet n at place n.
use Rattle.std.specs.Prelude.{◌≡◌, ◌≢◌, ◌⊎◌, ◌↔◌, ◌<◌, ◌≤◌, ℕ, ◌-◌, Bool, true, not, ◌&&◌, ◌||◌, nat_le, ◌==◌, if◌then◌else◌, List, [], ◌∷◌, length, take, count_by, filter, slice_get, Option, Some, None}
use Rattle.std.specs.List.{zip}
use Rattle.lq_model.specs.Band.{batch}
use Rattle.lq_model.specs.Legal.{IsEventAt, IsPlannedDown}
use Rattle.lq_model.specs.Plan.{Plan, after_events, is_at, unit_of_swap, owner_in, station_in, band_in}
use Rattle.lq_model.specs.Texts.{is_full, is_refused, is_sent_by}
use Rattle.lq_model.specs.declared.device.Params.{Params}
use Rattle.lq_model.specs.declared.fate.Cause.TheVariants.{Event, Hung}
use Rattle.lq_model.specs.declared.fate.Fate.{Fate}
use Rattle.lq_model.specs.declared.fate.Fate.TheVariants.{Sent, Full, Shrunk, Purged, Refused}
use Rattle.lq_model.specs.declared.fate.Info.{Info}
use Rattle.lq_model.specs.declared.plan.EventKind.{EventKind}
use Rattle.lq_model.specs.declared.plan.EventKind.TheVariants as kind
use Rattle.lq_model.specs.declared.plan.EventPlan.{EventPlan}
use Rattle.lq_model.specs.declared.plan.StationPlan.{StationPlan}

-- SERIALS

-- the list of packets is what the unit sent, in order of serial
abbrev pub IsSentList : List Fate → ℕ → List ℕ → Type 0
IsSentList fates unit sent = (n serial : ℕ) → (slice_get fates n ≡ Some (Sent unit serial)) ↔ (slice_get sent serial ≡ Some n)

-- a unit's serials are 0 up to the number that it sent, each once
abbrev pub AreSerials : List Fate → ℕ → Type 0
AreSerials fates unit = (sent : List ℕ) × IsSentList fates unit sent

-- WHAT THE PLAN GIVES A STATION

-- the lengths of a station's rings: that of its table, and those of its events
abbrev pub GivesLength : Plan → ℕ → ℕ → Type 0
GivesLength plan station len =
    ((s : StationPlan) × (slice_get plan.stations station ≡ Some s) × (s.len ≡ len))
    ⊎ ((event : ℕ) × (IsEventAt plan station event (kind.Resize len) ⊎ IsEventAt plan station event (kind.TxQueueLen len)))

-- the length after an event of the station, where there is one before it
abbrev pub length_after_event : EventKind → ℕ → ℕ
length_after_event (kind.Resize new) len = new
length_after_event (kind.TxQueueLen new) len = new
length_after_event _ len = len

abbrev pub length_after : List EventPlan → ℕ → ℕ
length_after [] len = len
length_after (event ∷ events) len = length_after events (length_after_event event.kind len)

-- the length of a station's rings before an event of the plan
abbrev pub LengthBefore : Plan → ℕ → ℕ → ℕ → Type 0
LengthBefore plan station event len =
    (s : StationPlan) × (slice_get plan.stations station ≡ Some s) × (len ≡ length_after (filter (is_at station) (take event plan.events)) s.len)

-- the units of a station: its first, and those that its swaps bring
abbrev pub IsUnitOf : Plan → ℕ → ℕ → Type 0
IsUnitOf plan station unit =
    (unit ≡ station) ⊎ ((event : ℕ) × (params : Params) × IsEventAt plan station event (kind.Swap params) × (unit ≡ unit_of_swap plan event))

-- the last of them: no swap of the station comes after
pub record IsLastUnit (plan : Plan) (station unit : ℕ) : Type 0 where
  pub used : IsUnitOf plan station unit
  pub last : (u : ℕ) → IsUnitOf plan station u → u ≤ unit

-- STATIONS

-- whether a packet was let into the band: neither dropped as full nor refused
abbrev pub is_let_in : Fate → Bool
is_let_in fate = not (is_full fate || is_refused fate)

-- how many packets of a station and band were let in
abbrev pub let_in : List Fate → List Info → ℕ → ℕ → ℕ
let_in fates infos station band = count_by (λ p. is_let_in p.0 && ((p.1.station == station) && (p.1.band == band))) (zip fates infos)

-- a packet n of this station and band may be dropped as full where it saw that one: another packet of the station and band
-- that was let in, as were enough of them to fill a ring but for a batch
pub record IsFullFate (plan : Plan) (infos : List Info) (fates : List Fate) (station n seen : ℕ) : Type 0 where
  pub another : seen ≢ n
  pub same_station : station_in infos seen ≡ station
  pub same_band : band_in infos seen ≡ band_in infos n
  pub seen_let_in : (fate : Fate) × (slice_get fates seen ≡ Some fate) × (is_let_in fate ≡ true)
  pub enough : (len : ℕ) × GivesLength plan station len × (len - batch len ≤ let_in fates infos station (band_in infos n))

-- a resize to a shorter length than before
abbrev pub IsShrinking : Plan → ℕ → ℕ → Type 0
IsShrinking plan station event =
    (len : ℕ) × (before : ℕ) × IsEventAt plan station event (kind.Resize len) × LengthBefore plan station event before × (len < before)

-- what the fate of a packet n of a station may be
abbrev pub IsFateAt : Plan → List Info → List Fate → ℕ → ℕ → Fate → Type 0
IsFateAt plan infos fates station n (Sent unit serial) = IsUnitOf plan station unit
IsFateAt plan infos fates station n (Full seen) = IsFullFate plan infos fates station n seen
IsFateAt plan infos fates station n (Shrunk event) = IsShrinking plan station event
IsFateAt plan infos fates station n (Purged (Event event)) = IsPlannedDown plan station event
IsFateAt plan infos fates station n (Purged (Hung unit)) = IsLastUnit plan station unit
IsFateAt plan infos fates station n (Refused event) = IsPlannedDown plan station event

-- SETTLED FATES

pub record IsSettled (plan : Plan) (infos : List Info) (fates : List Fate) : Type 0 where
  -- each packet has one fate
  pub one_each : length fates ≡ length infos
  -- the serials of each unit are 0 up to the number that it sent, each once
  pub serials : (unit : ℕ) → AreSerials fates unit
  -- each fate is one that its station may give
  pub each : (n : ℕ) (fate : Fate) → slice_get fates n ≡ Some fate → IsFateAt plan infos fates (station_in infos n) n fate

-- DEVICES THAT TELL

-- what a unit is configured with
abbrev pub IsConfiguredWith : Plan → ℕ → Params → Type 0
IsConfiguredWith plan unit params =
    ((s : StationPlan) × (slice_get plan.stations unit ≡ Some s) × (s.params ≡ params))
    ⊎ ((station : ℕ) × (event : ℕ) × IsEventAt plan station event (kind.Swap params) × (unit ≡ unit_of_swap plan event))

-- a unit that hangs after so many packets sent no more, and packets are purged because it hangs only where it sent so many
pub record HangsAfter (fates : List Fate) (unit : ℕ) (params : Params) : Type 0 where
  pub at_most : 0 < params.hang_after → count_by (is_sent_by unit) fates ≤ params.hang_after
  pub purged : (n : ℕ) → slice_get fates n ≡ Some (Purged (Hung unit)) → (0 < params.hang_after) × (count_by (is_sent_by unit) fates ≡ params.hang_after)

-- every unit does as it is configured
abbrev pub HangsAsTold : Plan → List Fate → Type 0
HangsAsTold plan fates = (unit : ℕ) (params : Params) → IsConfiguredWith plan unit params → HangsAfter fates unit params

-- THE FIRST SENDER AND THE EVENTS
--
-- The first sender does the plan's events, each before its packets with that number or a higher one.

-- the event that keeps a station deactivated after an event of it, where `down` did before
abbrev pub down_after : EventKind → ℕ → Option ℕ → Option ℕ
down_after kind.Down event down = Some event
down_after kind.Up event down = None
down_after _ event down = down

-- the event that keeps a station deactivated for packet n, after those that stand before it
abbrev pub down_at : Plan → ℕ → ℕ → Option ℕ
down_at plan station n = after_events (λ e event down. if nat_le event.before n then down_after event.kind e down else down) station plan.events 0 None

-- the event stands behind the packet
abbrev pub IsBehind : Plan → ℕ → ℕ → Type 0
IsBehind plan n event = (e : EventPlan) × (slice_get plan.events event ≡ Some e) × (n < e.before)

pub record MeetsEvents (plan : Plan) (infos : List Info) (fates : List Fate) : Type 0 where
  -- a packet of the first sender is refused exactly where an event before it leaves its station deactivated, and then by that one
  pub refused : (n event : ℕ) → n < length infos → owner_in infos n ≡ 0
      → (slice_get fates n ≡ Some (Refused event)) ↔ (down_at plan (station_in infos n) n ≡ Some event)
  -- what drops it from its band stands behind it
  pub shrunk : (n event : ℕ) → owner_in infos n ≡ 0 → slice_get fates n ≡ Some (Shrunk event) → IsBehind plan n event
  pub purged : (n event : ℕ) → owner_in infos n ≡ 0 → slice_get fates n ≡ Some (Purged (Event event)) → IsBehind plan n event

-- SENDER'S ORDER

-- Of two sent packets with the same owner, station and band, the lower number has the lower unit, or the same unit
-- and the lower serial.
abbrev pub IsInSenderOrder : List Info → List Fate → Type 0
IsInSenderOrder infos fates =
    (m n : ℕ) (u v s t : ℕ) → m < n → owner_in infos m ≡ owner_in infos n → station_in infos m ≡ station_in infos n → band_in infos m ≡ band_in infos n
    → slice_get fates m ≡ Some (Sent u s) → slice_get fates n ≡ Some (Sent v t) → (u < v) ⊎ ((u ≡ v) × (s < t))
