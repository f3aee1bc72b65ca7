-- Lists of events that many senders make, and what of them the first sender's seat knows while others send.
use Rattle.std.specs.Prelude.{◌≡◌, ◌<◌, ℕ, Bool, true, false, ◌==◌, List, [], ◌∷◌, Option, Some, None, Contains, filter, length}
use Rattle.lq_model.specs.Account.{Account, Event, Join, Full, Refuse, Direct, Resize, Down, Purge, Swap, Up, held, after_all}
use Rattle.lq_model.specs.Legal.{brought_by, Comes}
use Rattle.lq_model.specs.Plan.{Plan, owner_in}
use Rattle.lq_model.specs.Settled.{IsBehind, down_at}
use Rattle.lq_model.specs.declared.fate.Cause.TheVariants as cause
use Rattle.lq_model.specs.declared.fate.Info.{Info}
use Rattle.lq_account_laws.specs.Controls.{planned_controls, controls_in}

-- EVENTS THAT COME IN ORDER

-- a resize of a deactivated station finds nothing held
abbrev pub FindsNothing : Account → Event → Type 0
FindsNothing a (Resize len event) = (e : ℕ) → a.down ≡ Some e → held a ≡ []
FindsNothing a event = Unit {0}

abbrev pub FindNothing : Account → List Event → Type 0
FindNothing start [] = Unit {0}
FindNothing start (event ∷ past) = FindNothing start past × FindsNothing (after_all start past) event

-- the latest first: each event may come where it stands, whatever the plan says
pub record IsOrderly (infos : List Info) (station : ℕ) (start : Account) (past : List Event) : Type 0 where
  pub comes : Comes infos station start past
  pub find_nothing : FindNothing start past

-- THE TRAIL
--
-- What control did at a station, and how the first sender's packets came there, the latest first.

-- control's events, and those that bring packets of the first sender
abbrev pub is_own : List Info → Event → Bool
is_own infos (Join n band) = owner_in infos n == 0
is_own infos (Full n seen) = owner_in infos n == 0
is_own infos (Refuse n event) = owner_in infos n == 0
is_own infos (Direct n) = owner_in infos n == 0
is_own infos (Resize len event) = true
is_own infos (Down event) = true
is_own infos (Purge cause) = true
is_own infos (Swap unit) = true
is_own infos Up = true
is_own infos event = false

abbrev pub trail_of : List Info → List Event → List Event
trail_of infos past = filter (is_own infos) past

-- the event by which the station is deactivated
abbrev pub down_of : List Event → Option ℕ
down_of [] = None
down_of (Down event ∷ trail) = Some event
down_of (Up ∷ trail) = None
down_of (event ∷ trail) = down_of trail

-- WHAT THE PLAN ASKS OF A TRAIL

-- what drops packets stands behind those of the first sender that came before it
abbrev pub IsAhead : Plan → List Event → Event → Type 0
IsAhead plan trail (Resize len event) = (m : ℕ) → Contains (brought_by trail) m → IsBehind plan m event
IsAhead plan trail (Purge (cause.Event event)) = (m : ℕ) → Contains (brought_by trail) m → IsBehind plan m event
IsAhead plan trail event = Unit {0}

-- a packet is refused exactly where the plan has its station deactivated, and by that event
abbrev pub MeetsDown : Plan → ℕ → Event → Type 0
MeetsDown plan station (Join n band) = down_at plan station n ≡ None
MeetsDown plan station (Full n seen) = down_at plan station n ≡ None
MeetsDown plan station (Direct n) = down_at plan station n ≡ None
MeetsDown plan station (Refuse n event) = down_at plan station n ≡ Some event
MeetsDown plan station event = Unit {0}

-- no device is swapped after a purge of a hung one
abbrev pub FindsNoHang : List Event → Event → Type 0
FindsNoHang trail (Swap unit) = (old : ℕ) → Contains trail (Purge (cause.Hung old)) → ⊥
FindsNoHang trail event = Unit {0}

pub record IsTrailNext (plan : Plan) (station : ℕ) (trail : List Event) (event : Event) : Type 0 where
  pub ahead : IsAhead plan trail event
  pub meets_down : MeetsDown plan station event
  pub no_hang : FindsNoHang trail event

-- a trail as the plan asks, the latest first
abbrev pub IsTrail : Plan → ℕ → List Event → Type 0
IsTrail plan station [] = Unit {0}
IsTrail plan station (event ∷ trail) = IsTrail plan station trail × IsTrailNext plan station trail event

-- each station's events have a trail as the plan asks
abbrev pub AreTrails : Plan → List Info → (ℕ → List Event) → Type 0
AreTrails plan infos pasts = (station : ℕ) → station < length plan.stations → IsTrail plan station (trail_of infos (pasts station))

-- what control did is just what the first so many events of the plan ask of the station, in their order
abbrev pub HaveCome : Plan → ℕ → ℕ → List Event → Type 0
HaveCome plan station count trail = controls_in trail ≡ planned_controls plan station count
