use Rattle.std.proofs.Common.{sym, ◌∙◌, ap}
use Rattle.lq_pcapng.specs.Pcapng.{is_little_endian, order_of}
use Rattle.lq_pcapng.proofs.Places.{order_at}
use Rattle.lq_pcapng.proofs.capture.NgCapture.is_little_endian.Goals as goal

pub returns : goal.returns
returns c =
    c.begins_little_endian.ensures ∙ ap is_little_endian c.deref.ensures.value
    ∙ sym (order_at c.self.inside.bytes.items c.self.inside.interfaces.items c.self.inside.packets c.self.invariant.read) ∙ ap order_of c.self.view_is
