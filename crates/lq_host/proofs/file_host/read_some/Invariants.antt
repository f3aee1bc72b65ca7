use Rattle.std.specs.Io.KnownBytes.{Keeps}
use Rattle.lq_host.proofs.file_host.read_some.Given as goal

-- nothing was read so far
abbrev pub invariant-loop : goal.invariant-loop
invariant-loop g l = Keeps (g.F.Read.remaining l.fn.file) (g.F.Read.remaining l.file)
