use Rattle.std.proofs.Common.{◌≡◌, count_by, take}
use Rattle.lq_files.specs.Groups.{is_sent_between}
use Rattle.lq_files.proofs.groups.count_sent_between.Given as goal

abbrev pub invariant-loop-n : goal.invariant-loop-n
invariant-loop-n g l = l.count ≡ count_by (is_sent_between l.low l.high) (take l.n (g.F.Fates.fates l.fates))
