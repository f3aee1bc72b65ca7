use Rattle.std.proofs.Common.{◌≡◌, ◌++◌, drop}
use Rattle.lq_model.specs.Texts.{times_text}
use Rattle.lq_wire.specs.Page.{page_text}
use Rattle.lq_wire.proofs.times.push_lines.Given as goal

-- the lines that are left complete the text
abbrev pub invariant-loop-flight : goal.invariant-loop-flight
invariant-loop-flight l = page_text l.text ++ times_text l.card (drop l.flight-index l.flights) ≡ page_text l.fn.text ++ times_text l.card l.flights
