mod Kept
use Rattle.std.proofs.Common.{arith, refl}
use Rattle.lq_table.proofs.shared.Shared.reset_missed.Answers.Kept.{resets_missed}
use Rattle.lq_table.proofs.StepFacts.{makes_one}
use Rattle.lq_table.proofs.shared.Shared.reset_missed.Goals as goal

pub fetch_and_word-requires : goal.fetch_and_word-requires
fetch_and_word-requires g c = (c.type_bounds.send-D, ((c.requires.seat.0, (let wide = c.args.self.now.sized.0 in omega arith), resets_missed _ _ _ _ c.requires.purge.0 c.requires.purge.1 c.requires.at c.requires.purge.2 c.requires.purge.3 c.requires.purge.4 c.requires.purge.5 c.requires.seat.1)))

pub returns : goal.returns
returns g c = record {
  makes =
      let e = c.fetch_and_word.ensures in makes_one _ _ _ (e.0, e.1) refl refl e.2.told e.2.noted tt;
}
