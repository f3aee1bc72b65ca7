use Rattle.std.proofs.Common.{◌≡◌, ◌++◌}
use Rattle.lq_files.proofs.GroupLemmas.{lines_below}
use Rattle.lq_files.proofs.groups.push_mq_lines.Given as goal

-- the lines of the groups so far stand at the end
abbrev pub invariant-loop-j : goal.invariant-loop-j
invariant-loop-j g l = l.text.items ≡ l.fn.text.items ++ lines_below l.plan (g.F.Fates.fates l.fates) l.j
