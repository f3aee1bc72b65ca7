use Rattle.std.proofs.Common.{◌≡◌, List, ℕ, ap, ◌∙◌, subst}
use Rattle.lq_pcapng.specs.Pcapng.{NgCapture, is_little_endian, pcapng_of}
use Rattle.lq_pcap.specs.Reading.{IsCaptureRefusal}
use Rattle.lq_pcapng.specs.Reading.{AreClocks}
use Rattle.lq_pcapng.specs.View.{IsRead}
use Rattle.lq_pcapng.proofs.Walk.{first_refused, handed_on}
use Rattle.lq_pcapng.proofs.reader.read_pcapng.Goals as goal

pub returns-in_err-first : goal.returns-in_err-first
returns-in_err-first c =
    handed_on (λ (capture : NgCapture). capture) c.from_residual.result c.in_err-first.field-0.0 (pcapng_of c.args.timed c.args.bytes.items) c.from_residual.ensures.1
    (subst (λ (b : List ℕ). IsCaptureRefusal (pcapng_of c.args.timed b) c.in_err-first.field-0.0) c.deref.ensures.value (first_refused c.args.timed c.deref.result.now c.in_err-first.field-0.0 c.in_err-first.ensures))

pub invariant_of-result : goal.invariant_of-result
invariant_of-result c =
    let interfaces = c.in_ok-places.places.interfaces.items in
    let clocks = c.in_ok-clocks.clocks.items in
    let o = c.begins_little_endian-little_endian.result in
    let order : o ≡ is_little_endian c.args.bytes.items = c.begins_little_endian-little_endian.ensures ∙ ap is_little_endian c.deref-2.ensures.value in
    record {
      read = subst (λ (b : List ℕ). IsRead b interfaces c.in_ok-places.places.packets) c.deref-3.ensures.value c.in_ok-places.ensures.read;
      clocks_are = subst (λ e. AreClocks e c.args.bytes.items interfaces clocks) order
          (subst (λ (b : List ℕ). AreClocks o b interfaces clocks) c.deref-4.ensures.value
          (subst (λ (ps : List ℕ). AreClocks o c.deref-4.result.now ps clocks) c.deref-5.ensures.value c.in_ok-clocks.ensures.clocks));
    }
