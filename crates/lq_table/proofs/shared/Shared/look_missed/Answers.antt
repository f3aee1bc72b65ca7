mod Kept
use Rattle.std.proofs.Common.{arith, refl, true}
use Rattle.lq_table.proofs.shared.Shared.look_missed.Answers.Kept.{looks_missed}
use Rattle.lq_table.proofs.StepFacts.{makes_one, decided}
use Rattle.lq_log.specs.Made.{seen}
use Rattle.lq_table.specs.Moves.{is_set}
use Rattle.lq_table.specs.Sees.{view}
use Rattle.lq_table.specs.States.{miss_view}
use Rattle.lq_table.proofs.MissSolo.{misses_solo}
use Rattle.lq_table.proofs.shared.Shared.look_missed.Goals as goal

pub load_word-requires : goal.load_word-requires
load_word-requires g c = (c.type_bounds.send-D, ((c.requires.seat.0, (let wide = c.args.self.now.sized.0 in omega arith), looks_missed _ _ _ _ c.requires.at c.requires.seat.1)))

pub returns : goal.returns
returns g c = record {
  makes =
      let e = c.load_word.ensures in let x = c.load_word in let old = c.args.cpu.now in let v = view old in
      let to = decided (is_set 4 x.result) (seen x.new.seat.me) (miss_view true v) (v) old.known.seat.me.1 (e.2.told.0.1) (e.2.told.0.0) in
      (x.result, refl, makes_one _ _ _ (e.0, e.1) refl refl to e.2.noted (misses_solo true v c.requires.at, λ sole. (e.2.told.1 sole).missed));
}
