use Rattle.std.proofs.Common.{sym, ap, subst, ◌∙◌}
use Rattle.lq_model.specs.Alone.{new_station}
use Rattle.lq_model.specs.declared.plan.StationPlan.{StationPlan}
use Rattle.lq_lone.specs.Lone.{IsLone, LoneState, new_state}
use Rattle.lq_wire.proofs.Starts.{starts}
use Rattle.lq_wire.proofs.wired.Wired.new.Goals as goal

pub returns-clause-wired : goal.returns-clause-wired
returns-clause-wired c s is stop = record {
  station = subst (λ (m : LoneState). IsLone m (new_station 0 s)) (ap (λ (t : StationPlan). new_state t.len) is ∙ sym c.new-2.ensures.state) (starts s stop);
  wire = record { ring = c.new.ensures.ring; free = c.new.ensures.free; flights = c.new.ensures.untold };
}
