use Rattle.std.proofs.Common.{◌≡◌, length, map, take}
use Rattle.lq_fates.proofs.sent.lists_of_places.Given as goal

abbrev pub invariant-loop-unit : goal.invariant-loop-unit
invariant-loop-unit l = map (λ list. length list.items) l.lists.items ≡ take l.unit l.counts
