-- A station on its way through the packets of a capture.
use Rattle.std.specs.Prelude.{◌≡◌, ◌<◌, ℕ, List, slice_get, Contains}
use Rattle.std.specs.Option.{option_map_or}
use Rattle.lq_model.specs.Account.{Account, Event, new_account, after_all}
use Rattle.lq_model.specs.Legal.{IsLegal, brought_by}
use Rattle.lq_model.specs.Plan.{Plan, queues_at, station_in}
use Rattle.lq_model.specs.declared.fate.Info.{Info}

-- the account that a station begins with: everything is empty, open and active, and its unit has its number
abbrev pub len_of : Plan → ℕ → ℕ
len_of plan station = option_map_or (λ s. s.len) (slice_get plan.stations station) 0

abbrev pub start_of : Plan → ℕ → Account
start_of plan station = new_account (len_of plan station) station (queues_at plan.stations station)

-- A legal list of events leaves this account, and the packets that it brought are just those of the station below n.
pub record IsAt (plan : Plan) (infos : List Info) (station n : ℕ) (a : Account) : Type 0 where
  -- the events, the latest first
  pub past : List Event
  pub legal : IsLegal plan infos station (start_of plan station) past
  pub account : a ≡ after_all (start_of plan station) past
  pub came : (m : ℕ) → m < n → station_in infos m ≡ station → Contains (brought_by past) m
  pub below : (m : ℕ) → Contains (brought_by past) m → m < n
