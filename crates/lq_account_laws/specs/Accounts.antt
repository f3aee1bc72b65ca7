-- What the laws of accounts ask, and what they give.
use Rattle.std.specs.Prelude.{◌≡◌, ◌⊎◌, ◌↔◌, ◌<◌, ℕ, List, [], ◌∷◌, ◌++◌, length, Some, None, slice_get, Contains}
use Rattle.lq_model.specs.Account.{Account, Event, Purge, Swap, held, after_all}
use Rattle.lq_model.specs.Plan.{Plan, owner_in, station_in, band_in}
use Rattle.lq_model.specs.Settled.{IsFateAt, IsUnitOf}
use Rattle.lq_model.specs.declared.fate.Cause.TheVariants.{Hung}
use Rattle.lq_model.specs.declared.fate.Fate.{Fate}
use Rattle.lq_model.specs.declared.fate.Fate.TheVariants.{Sent}
use Rattle.lq_model.specs.declared.fate.Info.{Info}
use Rattle.lq_account_laws.specs.Controls.{planned_controls, controls_in}
use Rattle.lq_account_laws.specs.Progress.{start_of}
use Rattle.lq_account_laws.specs.Trail.{IsOrderly}

-- THE PLAN'S EVENTS

-- no device is swapped after a purge of a hung one
abbrev pub NoSwapAfterHang : List Event → Type 0
NoSwapAfterHang past = (later : List Event) (before : List Event) (old new : ℕ) → past ≡ later ++ Swap new ∷ before → Contains before (Purge (Hung old)) → ⊥

-- THE PACKETS

-- each is of a station of the plan
abbrev pub AreOfStations : Plan → List Info → Type 0
AreOfStations plan infos = (n : ℕ) → n < length infos → station_in infos n < length plan.stations

-- each of the station has just the fate that the list has
abbrev pub AreDecided : List Info → List Fate → ℕ → Account → Type 0
AreDecided infos fates station a = (n : ℕ) → n < length infos → station_in infos n ≡ station → (fate : Fate) × (slice_get fates n ≡ Some fate) × (a.fates n ≡ Some fate)

-- CLOSED ACCOUNTS

-- A station's account is closed: events that may come where they stand leave nothing held and nothing in hand; what control did
-- is just what all the plan's events ask of the station, in their order; and each packet of the station has just the fate that
-- the list of fates has for it.
pub record IsClosed (plan : Plan) (infos : List Info) (fates : List Fate) (station : ℕ) (past : List Event) (a : Account) : Type 0 where
  pub orderly : IsOrderly infos station (start_of plan station) past
  pub account : a ≡ after_all (start_of plan station) past
  pub nothing_held : held a ≡ []
  pub hand_empty : a.hand ≡ None
  pub events : controls_in past ≡ planned_controls plan station (length plan.events)
  pub no_swap_after_hang : NoSwapAfterHang past
  pub decided : AreDecided infos fates station a

-- each station's account is closed by these events
abbrev pub AreClosed : Plan → List Info → List Fate → (ℕ → List Event) → (ℕ → Account) → Type 0
AreClosed plan infos fates pasts accounts = (station : ℕ) → station < length plan.stations → IsClosed plan infos fates station (pasts station) (accounts station)

-- WHAT FOLLOWS

-- of one station, whose account has what each unit sent
pub record IsSettledStation (plan : Plan) (infos : List Info) (fates : List Fate) (station : ℕ) (a : Account) : Type 0 where
  -- each fate is one that the station may give
  pub each : (n : ℕ) (fate : Fate) → n < length infos → station_in infos n ≡ station → slice_get fates n ≡ Some fate
      → IsFateAt plan infos fates station n fate
  -- a packet of the station is sent by a unit with a serial exactly where it stands at that place of what the unit sent
  pub sent : (n unit serial : ℕ) → n < length infos → station_in infos n ≡ station
      → (slice_get fates n ≡ Some (Sent unit serial)) ↔ (slice_get (a.sent unit) serial ≡ Some n)
  -- what a unit sent are packets of the station, and the unit is one of the station
  pub of_station : (n unit serial : ℕ) → slice_get (a.sent unit) serial ≡ Some n → (n < length infos) × ((station_in infos n ≡ station) × IsUnitOf plan station unit)
  -- each owner's packets of one band were sent in ascending number
  pub in_order : (m n : ℕ) (u v s t : ℕ) → m < n → n < length infos → station_in infos m ≡ station → station_in infos n ≡ station
      → owner_in infos m ≡ owner_in infos n → band_in infos m ≡ band_in infos n
      → slice_get fates m ≡ Some (Sent u s) → slice_get fates n ≡ Some (Sent v t) → (u < v) ⊎ ((u ≡ v) × (s < t))

-- each station of the plan, where each packet is of a station
pub record AreSettledStations (plan : Plan) (infos : List Info) (fates : List Fate) (accounts : ℕ → Account) : Type 0 where
  pub one_each : length fates ≡ length infos
  pub of_plan : AreOfStations plan infos
  pub each : (station : ℕ) → station < length plan.stations → IsSettledStation plan infos fates station (accounts station)
