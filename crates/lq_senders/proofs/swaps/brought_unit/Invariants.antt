use Rattle.std.proofs.Common.{◌≡◌, ◌+◌, ◌≤◌}
use Rattle.lq_model.specs.Plan.{unit_of_swap}
use Rattle.lq_senders.proofs.swaps.brought_unit.Given as goal

abbrev pub invariant-loop-k : goal.invariant-loop-k
invariant-loop-k l = record {
  unit : l.unit ≡ unit_of_swap l.plan l.k;
  few : l.unit ≤ 8 + l.k;
}
