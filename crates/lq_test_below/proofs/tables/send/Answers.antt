use Rattle.std.proofs.Common.{ℕ, List, length, ap, ◌∙◌}
use Rattle.std.proofs.lemmas.Bool.{cases_eq}
use Rattle.lq_table.specs.Rule.{units_of}
use Rattle.lq_table.specs.Sees.{known, setup}
use Rattle.lq_test_below.proofs.Sends.{turns_sent, units_sent}
use Rattle.lq_test_below.proofs.tables.send.Goals as goal

pub returns-clause-kept : goal.returns-clause-kept
returns-clause-kept g c =
    let t = c.transmit-sending.ensures in
    let d = c.drain.ensures in
    record {
      seat = (d.same.0 ∙ t.kept.seat.0, d.same.1 ∙ t.kept.seat.1);
      share = d.served.kept.share ∙ t.kept.share;
      control = d.served.control ∙ t.kept.control;
      brought = ap units_of d.served.trail ∙ units_sent (setup c.args.shared.now) c.args.n _ _ c.transmit-sending.result (known c.args.cpu.now) (known c.transmit-sending.new.cpu) (cases_eq _ _) t.in_turn (λ other. (t.out_of_turn other).1);
      told = d.served.kept.told ∙ t.kept.told;
      turns = ap (λ (ts : List ℕ). length ts) d.served.kept.turns ∙ turns_sent (setup c.args.shared.now) c.args.n _ _ c.transmit-sending.result (known c.args.cpu.now) (known c.transmit-sending.new.cpu) (cases_eq _ _) t.in_turn (λ other. (t.out_of_turn other).1);
    }
