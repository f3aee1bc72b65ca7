use Rattle.std.proofs.Common.{◌≡◌, map, take}
use Rattle.lq_mq.proofs.Serials.{longest}
use Rattle.lq_mq.proofs.merge.longest.Given as goal

abbrev pub invariant-loop-list : goal.invariant-loop-list
invariant-loop-list l = l.longest ≡ longest (map (λ list. list.items) (take l.list-index l.lists))
