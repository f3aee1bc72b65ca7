mod Kept
use Rattle.std.proofs.Common.{refl, arith, rules}
use Rattle.lq_table.proofs.shared.Shared.set_sched.Answers.Kept.{schedules_sole}
use Rattle.lq_table.proofs.StepFacts.{makes_one}
use Rattle.lq_table.proofs.shared.Shared.set_sched.Goals as goal

pub fetch_or_word-requires : goal.fetch_or_word-requires
fetch_or_word-requires g c = (c.type_bounds.send-D, ((c.requires.seat.0, (let wide = c.args.self.now.sized.0 in omega arith), schedules_sole _ _ _ _ c.requires.at c.requires.seat.1)))

pub returns : goal.returns
returns g c = record {
  makes =
      let e = c.fetch_or_word.ensures in makes_one _ _ _ (e.0, e.1) refl refl e.2.told.0 e.2.noted (search rules, λ sole. (e.2.told.1 sole).scheduled);
}
