mod Alone
mod Kept
use Rattle.std.proofs.Common.{arith, refl}
use Rattle.lq_table.proofs.shared.Shared.set_missed.Answers.Kept.{sets_missed_all}
use Rattle.lq_table.proofs.shared.Shared.set_missed.Answers.Alone.{sets_missed_solo}
use Rattle.lq_table.proofs.StepFacts.{makes_one}
use Rattle.lq_table.specs.Moves.{is_set}
use Rattle.lq_table.proofs.shared.Shared.set_missed.Goals as goal

pub fetch_or_word-requires : goal.fetch_or_word-requires
fetch_or_word-requires g c = (c.type_bounds.send-D, ((c.requires.seat.0, (let wide = c.args.self.now.sized.0 in omega arith), sets_missed_all _ _ _ _ c.requires.at c.requires.seat.1)))

pub returns : goal.returns
returns g c = record {
  makes =
      let e = c.fetch_or_word.ensures in (is_set 4 c.fetch_or_word.result, makes_one _ _ _ (e.0, e.1) refl refl e.2.told e.2.noted (sets_missed_solo c.args.cpu.now.known.seat.me.0.view c.requires.at));
}
