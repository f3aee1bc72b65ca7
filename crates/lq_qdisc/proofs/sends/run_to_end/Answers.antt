use Rattle.std.proofs.Common.{rules}
use Rattle.lq_run.proofs.Ends.{kept_ended}
use Rattle.lq_run.specs.Steps.{End}
use Rattle.lq_table.specs.Sees.{setup}
use Rattle.lq_qdisc.specs.StepLists.{QdiscRunLocked}
use Rattle.lq_qdisc.proofs.ListLemmas.{then_makes}
use Rattle.lq_qdisc.proofs.sends.run_to_end.Goals as goal

pub returns : goal.returns
returns g c = let kept = kept_ended c.end.ensures.makes in record {
  kept = search rules;
  fates = search rules;
  at = search rules;
  free = search rules;
  came = search rules;
  makes = let m = then_makes {one = λ s. QdiscRunLocked (setup c.args.shared.now) s c.run.result} {two = λ s. End} c.args.cpu.now c.run.new.cpu c.end.new.cpu c.run.ensures.makes c.end.ensures.makes in
      (m.0, (c.run.result, m.1), m.2);
}
