use Rattle.std.proofs.Common.{◌≤◌, ◌+◌, length, List, ℕ, sym, subst, ◌∙◌, ap, rules}
use Rattle.lq_pcapng.specs.Pcapng.{captured_length}
use Rattle.lq_pcapng.specs.Reading.{AreInterfaces, blocks_at}
use Rattle.lq_pcapng.proofs.Places.{frame_seen, interfaces_seen}
use Rattle.lq_pcapng.proofs.capture.NgCapture.frame.Goals as goal

pub captured_length-len-requires-clause-interfaces :
    goal.captured_length-len-requires-clause-interfaces
captured_length-len-requires-clause-interfaces c =
    let o = c.is_little_endian-little_endian.result in
    let seen = interfaces_seen c.self.inside.bytes.items c.self.inside.interfaces.items c.self.inside.packets c.args.self.now o
    (record { read = c.self.invariant.read; view = c.self.view_is; order = c.is_little_endian-little_endian.ensures }) in
    subst (λ (b : List ℕ). AreInterfaces o b c.deref-2.result.now) (sym c.deref.ensures.value)
    (subst (AreInterfaces o c.self.inside.bytes.items) (sym c.deref-2.ensures.value) seen.0)

pub slice_bounds-result-end : goal.slice_bounds-result-end
slice_bounds-result-end c =
    let o = c.is_little_endian-little_endian.result in
    let block = c.block-block.result.now in
    let len_is = c.captured_length-len.ensures
    ∙ ap (λ (b : List ℕ). captured_length o (blocks_at o b c.deref-2.result.now) block) c.deref.ensures.value
    ∙ ap (λ (p : List ℕ). captured_length o (blocks_at o c.self.inside.bytes.items p) block) c.deref-2.ensures.value in
    let seen = frame_seen c.self.inside.bytes.items c.self.inside.interfaces.items c.self.inside.packets c.args.self.now o c.args.i c.data_place-place.result c.captured_length-len.result block
    (record { read = c.self.invariant.read; view = c.self.view_is; order = c.is_little_endian-little_endian.ensures }) c.block-block.ensures.block c.block-block.ensures.is c.data_place-place.ensures len_is in
    let within : c.data_place-place.result + c.captured_length-len.result ≤ length block = seen.0 in
    search rules

pub returns : goal.returns
returns c =
    let o = c.is_little_endian-little_endian.result in
    let block = c.block-block.result.now in
    let len_is = c.captured_length-len.ensures
    ∙ ap (λ (b : List ℕ). captured_length o (blocks_at o b c.deref-2.result.now) block) c.deref.ensures.value
    ∙ ap (λ (p : List ℕ). captured_length o (blocks_at o c.self.inside.bytes.items p) block) c.deref-2.ensures.value in
    (frame_seen c.self.inside.bytes.items c.self.inside.interfaces.items c.self.inside.packets c.args.self.now o c.args.i c.data_place-place.result c.captured_length-len.result block
    (record { read = c.self.invariant.read; view = c.self.view_is; order = c.is_little_endian-little_endian.ensures }) c.block-block.ensures.block c.block-block.ensures.is c.data_place-place.ensures len_is).1
