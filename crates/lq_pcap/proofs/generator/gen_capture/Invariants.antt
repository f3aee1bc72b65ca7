use Rattle.std.proofs.Common.{◌≡◌}
use Rattle.lq_model.specs.Generated.{generated_capture}
use Rattle.lq_pcap.proofs.generator.gen_capture.Given as goal

abbrev pub invariant-loop-i : goal.invariant-loop-i
invariant-loop-i l = l.text.items ≡ generated_capture l.number l.i
