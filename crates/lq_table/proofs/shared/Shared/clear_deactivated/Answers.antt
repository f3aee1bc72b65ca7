mod Kept
use Rattle.std.proofs.Common.{arith, refl}
use Rattle.lq_table.proofs.shared.Shared.clear_deactivated.Answers.Kept.{opens}
use Rattle.lq_table.proofs.StepFacts.{makes_one}
use Rattle.lq_table.proofs.shared.Shared.clear_deactivated.Goals as goal

pub fetch_and_word-requires : goal.fetch_and_word-requires
fetch_and_word-requires g c = (c.type_bounds.send-D, ((c.requires.seat.0, (let wide = c.args.self.now.sized.0 in omega arith), opens _ _ _ _ c.requires.at c.requires.purged.0 c.requires.purged.1 c.requires.seat.1)))

pub returns : goal.returns
returns g c = record {
  makes =
      let e = c.fetch_and_word.ensures in makes_one _ _ _ (e.0, e.1) refl refl e.2.told e.2.noted tt;
}
