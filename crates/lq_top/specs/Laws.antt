-- What the laws of the headline's words speak of.
use Rattle.std.specs.Prelude.{ℕ, List}
use Rattle.lq_account_laws.specs.Progress.{start_of}
use Rattle.lq_model.specs.Account.{Account, Event, after_all}
use Rattle.lq_model.specs.Band.{MayBeFull}
use Rattle.lq_model.specs.Legal.{IsLegal}
use Rattle.lq_model.specs.Plan.{Plan, band_in}
use Rattle.lq_model.specs.declared.fate.Info.{Info}

-- a station's account after these events
abbrev pub account_after : Plan → ℕ → List Event → Account
account_after plan station events = after_all (start_of plan station) events

-- When packet n was dropped as full, that other one was in the slot of its band.
pub record SawItsSlot (plan : Plan) (infos : List Info) (station n seen : ℕ) : Type 0 where
  -- what had happened at the station
  pub earlier : List Event
  pub legal : IsLegal plan infos station (start_of plan station) earlier
  pub full : MayBeFull (account_after plan station earlier).len ((account_after plan station earlier).bands (band_in infos n)) seen
