-- What the tests know of a seat between two calls, and of the packets.
use Rattle.std.specs.Prelude.{◌≡◌, ℕ, ◌<◌, List}
use Rattle.lq_model.specs.Plan.{band_in, owner_in, queue_in, rank_in, station_in}
use Rattle.lq_model.specs.declared.fate.Info.{Info}
use Rattle.lq_model.specs.declared.machine.Position.TheVariants.{Idle}
use Rattle.lq_table.specs.Rule.{times}
use Rattle.lq_table.specs.Sees.{view, position, IsSeatOf}
use Rattle.lq_table.specs.declared.shared.Cpu.{Cpu}
use Rattle.lq_table.specs.declared.shared.Shared.{Shared}
use Rattle.lq_qdisc.specs.Sends.{IsReadyToSend}

-- Packet n is the one of rank n of owner 1 at station 0, and its band and its queue are there.
pub record IsPlainPacket (infos : List Info) (queues n : ℕ) : Type 0 where
  pub owner : owner_in infos n ≡ 1
  pub station : station_in infos n ≡ 0
  pub band : band_in infos n < 3
  pub queue : queue_in infos n < queues
  pub rank : rank_in infos n ≡ n

module _ {D : Type 0} where
  -- the seat is in no call, has nothing in hand, and has owner 1
  pub record IsFirstOwnerAtRest (t : Shared D) (c : Cpu D) : Type 0 where
    pub seat : IsSeatOf t c
    pub at : position c ≡ Idle
    pub ready : IsReadyToSend c
    pub owner : 0 < times 1 (view c).share.owners
