-- What the calls do of a seat that has the table alone, where the device tells its rule: the run of one sender.
use Rattle.std.specs.Prelude.{◌≡◌, Bool, true, false, ◌||◌, not, [], List, Option, Some, None, IsSome}
use Rattle.lq_model.specs.Account.{Account, after_all, held}
use Rattle.lq_model.specs.Alone.{RunningStation, served}
use Rattle.lq_model.specs.Device.{Telling}
use Rattle.lq_model.specs.declared.fate.Info.{Info}
use Rattle.lq_table.specs.Sees.{Solo}
use Rattle.lq_qdisc.specs.Stations.{IsBetweenOffers, dirty, is_waiting, may_take}

-- it has all shares, and was told the state
abbrev pub HasAll : Solo → Type 0
HasAll v = (v.shares ≡ 1024) × (v.told ≡ true)

-- what a device tells; a device that doesn't tell has no params
abbrev pub telling_of : Option Telling → Telling
telling_of (Some t) = t
telling_of None = record { params = record { burst = 0; busy_every = 0; busy_limit = 0; hang_after = 0 }; busies = 0 }

-- the station's account, which was this at the start
abbrev pub account_in : Account → Solo → Account
account_in start v = after_all start v.whole.past

-- neither MISSED nor DRAINING is set
abbrev pub bits_are_clear : Solo → Bool
bits_are_clear v = not (v.whole.missed || v.whole.draining)

-- the station of the run of one sender: the next packet may go past the bands where neither bit is set
abbrev pub running : Account → Solo → RunningStation
running start v = record { account = account_in start v; clean = bits_are_clear v; device = telling_of v.whole.device.told }

-- the seat has the table alone, the device tells its rule, and nothing is in hand
pub record IsOneSender (start : Account) (v : Solo) : Type 0 where
  pub sole : HasAll v
  pub tells : IsSome v.whole.device.told
  pub station : IsBetweenOffers (running start v)

-- what the bits say between two calls
pub record RestsAlone (infos : List Info) (start : Account) (v : Solo) : Type 0 where
  pub unlocked : v.whole.locked ≡ false
  pub scheduled : v.whole.scheduled ≡ v.raised
  pub missed : v.whole.missed ≡ true → v.raised ≡ true
  -- with both bits clear nothing is held
  pub empty : bits_are_clear v ≡ true → held (account_in start v) ≡ []
  -- with one set the next packet waits for a queue, unless the seat is raised
  pub waits : v.raised ≡ false → bits_are_clear v ≡ false → is_waiting infos (account_in start v) ≡ true
  -- a raised seat has a bit set where no packet may be taken
  pub shut : v.raised ≡ true → bits_are_clear v ≡ true → may_take (account_in start v) ≡ true
  pub off : IsSome (account_in start v).down → bits_are_clear v ≡ true

-- a seat alone, between two calls
pub record IsAlone (infos : List Info) (start : Account) (v : Solo) : Type 0 where
  pub sender : IsOneSender start v
  pub rests : RestsAlone infos start v

-- Soft interrupts as long as the seat is raised would leave now what they would have left after this step of the run of one
-- sender.
abbrev pub BringsAlone : List Info → Account → (RunningStation → RunningStation) → Solo → Solo → Type 0
BringsAlone infos start step old new = IsAlone infos start old → IsAlone infos start new × (served infos (running start new) ≡ served infos (step (running start old)))

-- the station is just as after this step
abbrev pub Does : List Info → Account → (RunningStation → RunningStation) → Solo → Solo → Type 0
Does infos start step old new = IsAlone infos start old → IsAlone infos start new × (running start new ≡ step (running start old))

-- RUNS

-- the packets that were sent so far leave what serving goes on to
pub record RunsOn (infos : List Info) (start : Account) (old now : Solo) : Type 0 where
  pub sender : IsOneSender start now
  pub active : (account_in start now).down ≡ None
  pub raised : now.raised ≡ old.raised
  pub scheduled : now.whole.scheduled ≡ old.whole.scheduled
  pub does : served infos (dirty (running start now)) ≡ served infos (dirty (running start old))

-- what the bits say at the end of a run
pub record IsAtEnd (infos : List Info) (start : Account) (v : Solo) : Type 0 where
  pub empty : bits_are_clear v ≡ true → held (account_in start v) ≡ []
  pub shut : bits_are_clear v ≡ true → may_take (account_in start v) ≡ true
  pub waits : v.whole.missed ≡ false → bits_are_clear v ≡ false → is_waiting infos (account_in start v) ≡ true

-- a run serves the station
pub record RunsAlone (infos : List Info) (start : Account) (old new : Solo) : Type 0 where
  pub on : RunsOn infos start old new
  pub at_end : IsAtEnd infos start new
