use Rattle.std.proofs.Common.{ℕ, List, arith, ap}
use Rattle.lq_device.specs.Station.{StationState}
use Rattle.lq_model.specs.declared.fate.Info.{Info}
use Rattle.lq_model.specs.declared.plan.StationPlan.{StationPlan}
use Rattle.lq_table.specs.Sees.{IsMadeOf}
use Rattle.lq_table.specs.declared.shared.Cpu.{Cpu}
use Rattle.lq_table.specs.declared.shared.Shared.{Shared}
use Rattle.lq_bench.specs.Ready.{IsFirstReady, IsWhole}
use Rattle.lq_bench.proofs.table.empty_table.Goals as goal

ready : {D : Type 0} (infos : List Info) (number : ℕ) (plan : StationPlan) (station : StationState) (t : Shared D) (c : Cpu D) → IsMadeOf infos number plan 4 station t c → IsFirstReady t c × IsWhole c
ready infos number plan station t c m = let queues = m.6 in let senders = m.7 in let v = m.8 in (
  ((m.0, ap (λ v. v.place.position) v, ap (λ v. v.locks) v, ap (λ v. v.holder.resizing) v, (omega arith), (omega arith)), ap (λ v. v.control.first) v, ap (λ v. v.control.phase) v, ap (λ v. v.control.purge) v, m.1, m.2),
  (ap (λ v. v.share.shares) v, ap (λ v. v.share.owners) v, ap (λ v. v.packets) v),
)

pub returns-in-Ok-make : goal.returns-in-Ok-make
returns-in-Ok-make c = ready _ _ _ _ c.in-Ok-make.made.0 c.in-Ok-make.made.1 c.in-Ok-make.ensures.ok
