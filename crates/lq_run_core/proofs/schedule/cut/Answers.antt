use Rattle.std.proofs.Common.{◌==◌, ◌+◌, sym, ◌∙◌}
use Rattle.std.proofs.lemmas.Iterator.Adapters.{position_from-zero}
use Rattle.std.proofs.lemmas.List.{take_rest}
use Rattle.lq_run_core.proofs.Pieces.{split_none, split_first}
use Rattle.lq_run_core.proofs.schedule.cut.Goals as goal

pub returns-in-None-clause-pieces : goal.returns-in-None-clause-pieces
returns-in-None-clause-pieces c =
    let at_end = sym (position_from-zero (λ b. b == c.args.end) c.args.bytes.now) ∙ sym c.end_of_piece.ensures ∙ c.in-None.is in
    split_none (λ b. b == c.args.end) 0 c.args.bytes.now at_end

pub returns-in-Some-clause-pieces : goal.returns-in-Some-clause-pieces
returns-in-Some-clause-pieces c =
    let at = sym (position_from-zero (λ b. b == c.args.end) c.args.bytes.now) ∙ sym c.end_of_piece.ensures ∙ c.in-Some.is in
    rw (take_rest c.args.bytes.now (c.in-Some.at + 1)) (split_first (λ b. b == c.args.end) c.in-Some.at c.args.bytes.now at)
