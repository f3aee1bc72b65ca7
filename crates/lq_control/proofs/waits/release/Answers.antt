use Rattle.std.proofs.Common.{rules}
use Rattle.lq_table.proofs.StepsThen.{makes_then}
use Rattle.lq_control.proofs.waits.release.Goals as goal

pub returns : goal.returns
returns g c = record {
  same = search rules;
  released = search rules;
  empty = search rules;
  makes = makes_then c.move_station.ensures.makes c.unlock.ensures.makes;
}
