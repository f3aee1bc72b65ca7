mod Alone
mod Kept
use Rattle.std.proofs.Common.{arith, refl}
use Rattle.lq_table.proofs.shared.Shared.clear_draining.Answers.Kept.{clears_draining_kept}
use Rattle.lq_table.proofs.shared.Shared.clear_draining.Answers.Alone.{clears_draining_solo}
use Rattle.lq_table.proofs.StepFacts.{makes_one}
use Rattle.lq_table.proofs.shared.Shared.clear_draining.Goals as goal

pub fetch_and_word-requires : goal.fetch_and_word-requires
fetch_and_word-requires g c = (c.type_bounds.send-D, ((c.requires.seat.0, (let wide = c.args.self.now.sized.0 in omega arith), clears_draining_kept _ _ _ _ c.requires.at c.requires.seat.1)))

pub returns : goal.returns
returns g c = record {
  makes =
      let e = c.fetch_and_word.ensures in makes_one _ _ _ (e.0, e.1) refl refl e.2.told e.2.noted (clears_draining_solo c.args.cpu.now.known.seat.me.0.view c.requires.at);
}
