mod Kept
use Rattle.std.proofs.Common.{arith, refl}
use Rattle.lq_table.proofs.shared.Shared.end_control.Answers.Kept.{returns_control}
use Rattle.lq_table.proofs.StepFacts.{makes_one}
use Rattle.lq_table.proofs.shared.Shared.end_control.Goals as goal

pub load_word-requires : goal.load_word-requires
load_word-requires g c = (c.type_bounds.send-D, ((c.requires.seat.0, (let wide = c.args.self.now.sized.0 in omega arith), returns_control _ _ _ _ c.requires.at c.requires.seat.1)))

pub returns : goal.returns
returns g c = record {
  makes =
      let e = c.load_word.ensures in (c.load_word.result, makes_one _ _ _ (e.0, e.1) refl refl e.2.told e.2.noted tt);
}
