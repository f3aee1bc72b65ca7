mod Kept
use Rattle.std.proofs.Common.{◌<◌, arith, sym, subst, refl}
use Rattle.std.specs.Prelude.{ℕ}
use Rattle.lq_table.proofs.shared.Shared.load_lock.Answers.Kept.{loads_lock}
use Rattle.lq_table.proofs.StepFacts.{makes_one}
use Rattle.lq_table.proofs.shared.Shared.load_lock.Goals as goal

pub load_word-requires : goal.load_word-requires
load_word-requires g c = (c.type_bounds.send-D, ((c.requires.seat.0, (let wide = c.args.self.now.sized.0 in omega arith), loads_lock _ _ _ _ (subst (λ (n : ℕ). 0 < n) (sym c.args.self.now.same.5) c.args.self.now.sized.4))))

pub returns : goal.returns
returns g c = record {
  makes =
      let e = c.load_word.ensures in makes_one _ _ _ (e.0, e.1) refl refl e.2.told.0 e.2.noted e.2.told.1;
}
