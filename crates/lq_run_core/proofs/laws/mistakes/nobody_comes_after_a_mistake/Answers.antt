use Rattle.std.proofs.Common.{refl}
use Rattle.lq_run_core.specs.Mistakes.{left_clear, left_draining, left_in_slot, left_missed, numbered_packet}
use Rattle.lq_run_core.proofs.Mistakes.{begin-gives-up, draining-set, missed-cleared, soft-interrupt-gives-up}
use Rattle.lq_run_core.proofs.Stays.{nobody-comes}
use Rattle.lq_run_core.proofs.laws.mistakes.nobody_comes_after_a_mistake.Goals as goal

pub returns : goal.returns
returns c = record {
  missed = nobody-comes left_missed.qdisc 1 (numbered_packet 1 1) refl refl begin-gives-up.holds;
  clear = nobody-comes left_clear.qdisc 2 (numbered_packet 2 1) refl refl missed-cleared.holds;
  draining = nobody-comes left_draining.qdisc 1 (numbered_packet 1 1) refl refl draining-set.holds;
  in_slot = nobody-comes left_in_slot.qdisc 0 (numbered_packet 1 0) refl refl soft-interrupt-gives-up.holds;
}
