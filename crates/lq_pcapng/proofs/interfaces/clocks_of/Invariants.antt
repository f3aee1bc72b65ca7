use Rattle.std.proofs.Common.{◌≡◌, length}
use Rattle.lq_pcapng.specs.Reading.{AreClocks}
use Rattle.lq_pcapng.proofs.interfaces.clocks_of.Given as goal

abbrev pub invariant-loop-i : goal.invariant-loop-i
invariant-loop-i l = record { are : AreClocks l.little_endian l.bytes l.interfaces l.clocks.items; count : l.i ≡ length l.clocks.items }
