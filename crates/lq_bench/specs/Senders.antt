-- What is known of the packets that are sent, and of a seat that sends them.
use Rattle.std.specs.Prelude.{◌≡◌, ℕ, ◌<◌, ◌/◌, ◌%◌, true, List, None}
use Rattle.lq_model.specs.Plan.{band_in, owner_in, queue_in, rank_in, station_in}
use Rattle.lq_model.specs.declared.fate.Info.{Info}
use Rattle.lq_model.specs.declared.machine.Phase.TheVariants.{Active}
use Rattle.lq_model.specs.declared.machine.Position.TheVariants.{Idle}
use Rattle.lq_table.specs.Rule.{times}
use Rattle.lq_table.specs.Sees.{view, position, IsSeatOf}
use Rattle.lq_table.specs.declared.shared.Cpu.{Cpu}
use Rattle.lq_table.specs.declared.shared.Shared.{Shared}
use Rattle.lq_qdisc.specs.Sends.{IsReadyToSend}
use Rattle.lq_bench.specs.Ready.{IsWhole}

-- The packets are the four owners' in turn, all at station 0.
pub record AreFourOwners (infos : List Info) (n : ℕ) : Type 0 where
  pub owner : owner_in infos n ≡ n % 4
  pub station : station_in infos n ≡ 0
  pub band : band_in infos n < 3
  pub queue : queue_in infos n ≡ 0
  pub rank : rank_in infos n ≡ n / 4

module _ {D : Type 0} where
  -- the seat is in no call and has nothing in hand
  pub record IsBenchSeatAtRest (t : Shared D) (c : Cpu D) : Type 0 where
    pub seat : IsSeatOf t c
    pub at : position c ≡ Idle
    pub ready : IsReadyToSend c

  -- and has this owner, one of the four
  pub record IsBenchSender (t : Shared D) (owner : ℕ) (c : Cpu D) : Type 0 where
    pub between : IsBenchSeatAtRest t c
    pub owns : 0 < times owner (view c).share.owners
    pub below : owner < 4

  -- the first seat as the sender of owner 0, with the table alone
  pub record IsFirstSender (t : Shared D) (c : Cpu D) : Type 0 where
    pub sender : IsBenchSender t 0 c
    pub whole : IsWhole c

  -- and the station is active
  pub record IsActive (t : Shared D) (c : Cpu D) : Type 0 where
    pub sends : IsFirstSender t c
    pub first : (view c).control.first ≡ true
    pub phase : (view c).control.phase ≡ Active
    pub purge : (view c).control.purge ≡ None
