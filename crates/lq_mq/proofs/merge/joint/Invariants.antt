use Rattle.std.proofs.Common.{◌≡◌, map}
use Rattle.std.specs.List.{flat_map}
use Rattle.lq_model.specs.Numbers.{first_numbers}
use Rattle.lq_mq.proofs.Serials.{at_serial}
use Rattle.lq_mq.proofs.merge.joint.Given as goal

abbrev pub invariant-loop-serial : goal.invariant-loop-serial
invariant-loop-serial l = l.all.items ≡ flat_map (at_serial (map (λ list. list.items) l.lists)) (first_numbers l.serial)
