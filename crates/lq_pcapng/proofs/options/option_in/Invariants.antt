use Rattle.std.proofs.Common.{◌-◌, ℕ, List, length, Option}
use Rattle.lq_pcapng.specs.Pcapng.{option_among}
use Rattle.lq_pcapng.proofs.OptionWalk.{Looks}
use Rattle.lq_pcapng.proofs.options.option_in.Given as goal

abbrev pub invariant-loop-place : goal.invariant-loop-place
invariant-loop-place l = Looks (Option (List ℕ)) (option_among l.little_endian l.wanted l.wanted_len) l.options l.place

abbrev pub decreases-loop-place : goal.decreases-loop-place
decreases-loop-place l = length l.options - l.place
