use Rattle.std.proofs.Common.{◌≡◌, ◌++◌, get_or}
use Rattle.std.specs.List.{flat_map}
use Rattle.lq_model.specs.Numbers.{first_numbers}
use Rattle.lq_fates.specs.Counts.{unit_text}
use Rattle.lq_fates.proofs.count_lines.push_units.Given as goal

abbrev pub invariant-loop-unit : goal.invariant-loop-unit
invariant-loop-unit l = l.text.items ≡ l.fn.text.items ++ flat_map (λ unit. unit_text unit (get_or l.counts unit 0)) (first_numbers l.unit)
