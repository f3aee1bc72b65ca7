-- What contracts see of a plan in memory.
use Rattle.lq_model.specs.Plan.{Plan}
use Rattle.lq_plan.specs.Limits.{IsWithinLimits}
use Rattle.lq_plan.specs.declared.plan.Plan.TheInside.{Inside}

abbrev pub plan_view : Inside → Plan
plan_view p = record {
  version = p.version;
  senders = p.senders;
  split = p.split;
  spread = p.spread;
  classify = p.classify;
  irq = p.irq;
  stations = p.stations.items;
  groups = p.groups.items;
  events = p.events.items;
}

abbrev pub plan_invariant : Inside → Type 0
plan_invariant p = IsWithinLimits (plan_view p)
