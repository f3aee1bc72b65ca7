mod Alone
mod Kept
use Rattle.std.proofs.Common.{arith, refl}
use Rattle.lq_table.proofs.shared.Shared.load_state.Answers.Kept.{looks_sole}
use Rattle.lq_table.proofs.shared.Shared.load_state.Answers.Alone.{looks_solo}
use Rattle.lq_table.proofs.StepFacts.{makes_one}
use Rattle.lq_table.proofs.shared.Shared.load_state.Goals as goal

pub load_word-requires : goal.load_word-requires
load_word-requires g c = (c.type_bounds.send-D, ((c.requires.seat.0, (let wide = c.args.self.now.sized.0 in omega arith), looks_sole _ _ _ _ c.requires.at c.requires.seat.1)))

pub returns : goal.returns
returns g c = record {
  makes =
      let e = c.load_word.ensures in makes_one _ _ _ (e.0, e.1) refl refl e.2.told.0 e.2.noted (looks_solo c.load_word.result c.args.cpu.now.known.seat.me.0.view c.requires.at, e.2.told.1);
}
