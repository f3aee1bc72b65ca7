use Rattle.std.proofs.Common.{◌-◌, length, Bool}
use Rattle.lq_pcapng.specs.Pcapng.{are_whole_options}
use Rattle.lq_pcapng.proofs.OptionWalk.{Looks}
use Rattle.lq_pcapng.proofs.options.are_whole.Given as goal

abbrev pub invariant-loop-place : goal.invariant-loop-place
invariant-loop-place l = Looks Bool (are_whole_options l.little_endian) l.options l.place

abbrev pub decreases-loop-place : goal.decreases-loop-place
decreases-loop-place l = length l.options - l.place
