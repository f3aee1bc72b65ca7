use Rattle.std.proofs.Common.{◌≡◌, ◌++◌, take, slice_get}
use Rattle.std.specs.List.{filter_map}
use Rattle.lq_mq.proofs.merge.push_serial.Given as goal

abbrev pub invariant-loop-list : goal.invariant-loop-list
invariant-loop-list l = l.all.items ≡ l.fn.all.items ++ filter_map (λ list. slice_get list.items l.serial) (take l.list-index l.lists)
