mod Kept
use Rattle.std.proofs.Common.{arith, refl}
use Rattle.lq_table.proofs.shared.Shared.swap.Answers.Kept.{swaps}
use Rattle.lq_table.proofs.StepFacts.{makes_one}
use Rattle.lq_table.proofs.shared.Shared.swap.Goals as goal

pub store_word-requires : goal.store_word-requires
store_word-requires g c = (
  c.type_bounds.send-D,
  (let t = c.args.self.now in let p = c.requires.purged in let e = t.same.5 in let q = t.sized.3 in
      (c.requires.seat.0, (let wide = t.sized.0 in omega arith), swaps _ _ _ _ _ (omega arith) c.requires.at.1 c.requires.at.0 p.0 p.1 c.requires.station.1 c.requires.seat.1)),
)

pub returns : goal.returns
returns g c = record {
  makes =
      let e = c.store_word.ensures in makes_one _ _ _ (e.0, e.1) refl refl e.2.told.0 e.2.noted e.2.told.1;
}
