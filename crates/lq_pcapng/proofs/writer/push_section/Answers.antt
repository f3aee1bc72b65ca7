use Rattle.std.proofs.Common.{◌<◌, ◌++◌, length, List, ℕ, ap, ◌∙◌, subst, []}
use Rattle.lq_pcapng.specs.Pcapng.{without_length}
use Rattle.lq_pcapng.proofs.WrittenSection.{interface_written, section_written}
use Rattle.lq_pcapng.proofs.writer.push_section.Goals as goal

pub loop-i-init : goal.loop-i-init
loop-i-init c =
    let s = c.section-section.result.now in
    section_written c.args.out.now.items s c.push_bytes.new.out.items c.push_bytes-2.new.out.items c.push_bytes-3.new.out.items c.in_ok-push_bytes.ensures.ok c.in_ok-push_bytes-2.ensures.ok c.in_ok-push_bytes-3.ensures.ok
    ∙ ap (λ (t : List ℕ). c.args.out.now.items ++ (without_length t ++ [])) c.section-section.ensures.block

pub loop-i-preserved : goal.loop-i-preserved
loop-i-preserved c =
    let below : c.loop-i.i < length c.args.capture.now.interfaces = subst (λ n. c.loop-i.i < n) c.interface_count-i-end.ensures c.loop-i-test.true in
    interface_written c.args.out.now.items (without_length c.args.capture.now.section) c.loop-i.out.items c.push_bytes-in-loop-i.new.out.items c.interface.result.now c.args.capture.now.interfaces c.loop-i.i below
    c.loop-i.invariant c.interface.ensures.block c.in_ok-push_bytes-4.ensures.ok
