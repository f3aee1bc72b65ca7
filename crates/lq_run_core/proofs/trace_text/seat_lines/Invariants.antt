use Rattle.std.proofs.Common.{◌≡◌}
use Rattle.std.specs.String.{string_bytes}
use Rattle.std.specs.List.{flat_map}
use Rattle.lq_model.specs.Machine.{seat_at}
use Rattle.lq_model.specs.Numbers.{first_numbers}
use Rattle.lq_run_core.specs.TraceText.{seat_line}
use Rattle.lq_run_core.proofs.trace_text.seat_lines.Given as goal

abbrev pub invariant-loop-index : goal.invariant-loop-index
invariant-loop-index l = string_bytes l.out ≡ flat_map (λ i. seat_line i (seat_at l.machine.machine i)) (first_numbers l.index)
