use Rattle.std.proofs.Common.{arith}
use Rattle.std.proofs.lemmas.Option.{slice_get_read}
use Rattle.lq_pcapng.proofs.Clocks.{clock_seen}
use Rattle.lq_pcapng.proofs.capture.NgCapture.clock.Goals as goal

pub returns-then-i-len : goal.returns-then-i-len
returns-then-i-len c =
    clock_seen c.self.inside.bytes.items c.self.inside.interfaces.items c.self.inside.packets c.self.inside.clocks.items c.args.self.now c.args.i c.index.result.now c.self.invariant c.self.view_is c.requires
    (slice_get_read c.self.inside.clocks.items c.len.result c.args.i c.index.result.now (omega arith) c.if-i-len.true c.index.ensures)
