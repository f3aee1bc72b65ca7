use Rattle.std.proofs.Common.{◌≤◌, ◌-◌, vec_len}
use Rattle.lq_files.proofs.parts.make_parts.Given as goal

abbrev pub invariant-loop-alloc : goal.invariant-loop-alloc
invariant-loop-alloc l = vec_len l.parts ≤ l.number

abbrev pub decreases-loop-alloc : goal.decreases-loop-alloc
decreases-loop-alloc l = l.number - vec_len l.parts
