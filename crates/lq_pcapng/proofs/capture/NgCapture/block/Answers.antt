use Rattle.std.proofs.Common.{List, ℕ, sym, subst, ◌∙◌, ap}
use Rattle.lq_pcapng.specs.Reading.{IsPacket, IsWholeAt, block_at}
use Rattle.lq_pcapng.proofs.Places.{packet_seen}
use Rattle.lq_pcapng.proofs.capture.NgCapture.block.Goals as goal

pub block-requires : goal.block-requires
block-requires c =
    let seen = packet_seen c.self.inside.bytes.items c.self.inside.interfaces.items c.self.inside.packets c.args.self.now c.is_little_endian.result c.args.i c.at.result
    (record { read = c.self.invariant.read; view = c.self.view_is; order = c.is_little_endian.ensures }) c.requires c.at.ensures in
    subst (λ (b : List ℕ). IsWholeAt c.is_little_endian.result b c.at.result) (sym c.deref.ensures.value) seen.0

pub returns-clause-block : goal.returns-clause-block
returns-clause-block c =
    let seen = packet_seen c.self.inside.bytes.items c.self.inside.interfaces.items c.self.inside.packets c.args.self.now c.is_little_endian.result c.args.i c.at.result
    (record { read = c.self.invariant.read; view = c.self.view_is; order = c.is_little_endian.ensures }) c.requires c.at.ensures in
    c.block.ensures.block ∙ ap (λ (b : List ℕ). block_at c.is_little_endian.result b c.at.result) c.deref.ensures.value ∙ seen.1

pub returns-clause-is : goal.returns-clause-is
returns-clause-is c =
    let seen = packet_seen c.self.inside.bytes.items c.self.inside.interfaces.items c.self.inside.packets c.args.self.now c.is_little_endian.result c.args.i c.at.result
    (record { read = c.self.invariant.read; view = c.self.view_is; order = c.is_little_endian.ensures }) c.requires c.at.ensures in
    subst (λ o. IsPacket o c.args.self.now.interfaces c.block.result.now) c.is_little_endian.ensures
    (subst (IsPacket c.is_little_endian.result c.args.self.now.interfaces)
    (sym (c.block.ensures.block ∙ ap (λ (b : List ℕ). block_at c.is_little_endian.result b c.at.result) c.deref.ensures.value)) seen.2)
