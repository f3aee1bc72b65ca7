use Rattle.std.proofs.Common.{◌≡◌, ◌-◌, cond, eqb}
use Rattle.lq_pcapng.specs.File.{packets_of_file}
use Rattle.lq_test_below.proofs.times.times_of.Given as goal

-- what was found last is the time of the packet before
abbrev pub invariant-loop-i : goal.invariant-loop-i
invariant-loop-i g l = l.before ≡ cond (eqb l.i 0) 0 ((packets_of_file l.capture).time (l.i - 1))
