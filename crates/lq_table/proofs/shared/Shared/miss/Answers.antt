mod Kept
use Rattle.std.proofs.Common.{arith, refl}
use Rattle.lq_table.proofs.shared.Shared.miss.Answers.Kept.{misses_sole}
use Rattle.lq_table.proofs.MissSolo.{misses_solo}
use Rattle.lq_table.proofs.StepFacts.{makes_one}
use Rattle.lq_table.proofs.shared.Shared.miss.Goals as goal

pub fetch_or_word-requires : goal.fetch_or_word-requires
fetch_or_word-requires g c = (c.type_bounds.send-D, ((c.requires.seat.0, (let wide = c.args.self.now.sized.0 in omega arith), misses_sole _ _ _ _ c.requires.at c.requires.seat.1)))

pub returns : goal.returns
returns g c = record {
  makes =
      let e = c.fetch_or_word.ensures in makes_one _ _ _ (e.0, e.1) refl refl e.2.told.0 e.2.noted (misses_solo _ c.args.cpu.now.known.seat.me.0.view c.requires.at, λ sole. (e.2.told.1 sole).missed);
}
