use Rattle.std.proofs.Common.{◌≤◌, length, List, ℕ, sym, subst, ◌∙◌, ap}
use Rattle.lq_pcapng.specs.Reading.{IsWholeAt, block_at}
use Rattle.lq_pcapng.proofs.Places.{section_seen}
use Rattle.lq_pcapng.proofs.capture.NgCapture.section.Goals as goal

pub block-requires : goal.block-requires
block-requires c =
    let seen = section_seen c.self.inside.bytes.items c.self.inside.interfaces.items c.self.inside.packets c.args.self.now c.is_little_endian.result
    (record { read = c.self.invariant.read; view = c.self.view_is; order = c.is_little_endian.ensures }) in
    subst (λ (b : List ℕ). IsWholeAt c.is_little_endian.result b 0) (sym c.deref.ensures.value) seen.0

pub returns-clause-block : goal.returns-clause-block
returns-clause-block c =
    let seen = section_seen c.self.inside.bytes.items c.self.inside.interfaces.items c.self.inside.packets c.args.self.now c.is_little_endian.result
    (record { read = c.self.invariant.read; view = c.self.view_is; order = c.is_little_endian.ensures }) in
    c.block.ensures.block ∙ ap (λ (b : List ℕ). block_at c.is_little_endian.result b 0) c.deref.ensures.value ∙ seen.1

pub returns-clause-long : goal.returns-clause-long
returns-clause-long c =
    let seen = section_seen c.self.inside.bytes.items c.self.inside.interfaces.items c.self.inside.packets c.args.self.now c.is_little_endian.result
    (record { read = c.self.invariant.read; view = c.self.view_is; order = c.is_little_endian.ensures }) in
    subst (λ (b : List ℕ). 28 ≤ length b) (sym (c.block.ensures.block ∙ ap (λ (b : List ℕ). block_at c.is_little_endian.result b 0) c.deref.ensures.value)) seen.2
