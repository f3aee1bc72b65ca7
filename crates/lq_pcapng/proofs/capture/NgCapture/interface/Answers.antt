use Rattle.std.proofs.Common.{List, ℕ, sym, subst, ◌∙◌, ap}
use Rattle.lq_pcapng.specs.Pcapng.{interface_at}
use Rattle.lq_pcapng.specs.Reading.{AreInterfaces, blocks_at}
use Rattle.lq_pcapng.proofs.Places.{interfaces_seen}
use Rattle.lq_pcapng.proofs.capture.NgCapture.interface.Goals as goal

pub interface-requires-clause-interfaces : goal.interface-requires-clause-interfaces
interface-requires-clause-interfaces c =
    let seen = interfaces_seen c.self.inside.bytes.items c.self.inside.interfaces.items c.self.inside.packets c.args.self.now c.is_little_endian.result
    (record { read = c.self.invariant.read; view = c.self.view_is; order = c.is_little_endian.ensures }) in
    subst (λ (b : List ℕ). AreInterfaces c.is_little_endian.result b c.deref-2.result.now) (sym c.deref.ensures.value)
    (subst (AreInterfaces c.is_little_endian.result c.self.inside.bytes.items) (sym c.deref-2.ensures.value) seen.0)

pub returns-clause-block : goal.returns-clause-block
returns-clause-block c =
    let seen = interfaces_seen c.self.inside.bytes.items c.self.inside.interfaces.items c.self.inside.packets c.args.self.now c.is_little_endian.result
    (record { read = c.self.invariant.read; view = c.self.view_is; order = c.is_little_endian.ensures }) in
    c.interface.ensures.block
    ∙ ap (λ (b : List ℕ). interface_at (blocks_at c.is_little_endian.result b c.deref-2.result.now) c.args.i) c.deref.ensures.value
    ∙ ap (λ (p : List ℕ). interface_at (blocks_at c.is_little_endian.result c.self.inside.bytes.items p) c.args.i) c.deref-2.ensures.value
    ∙ ap (λ (is : List (List ℕ)). interface_at is c.args.i) seen.1
