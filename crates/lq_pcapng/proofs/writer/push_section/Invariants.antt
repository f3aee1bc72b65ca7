use Rattle.std.proofs.Common.{◌≡◌, ◌++◌, take}
use Rattle.std.specs.List.{concat}
use Rattle.lq_pcapng.specs.Pcapng.{without_length}
use Rattle.lq_pcapng.proofs.writer.push_section.Given as goal

-- the section header block and the first interfaces are written
abbrev pub invariant-loop-i : goal.invariant-loop-i
invariant-loop-i l = l.out.items ≡ l.fn.out.items ++ (without_length l.capture.section ++ concat (take l.i l.capture.interfaces))
