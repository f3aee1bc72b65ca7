mod Alone
mod Kept
mod Makes
use Rattle.std.proofs.Common.{arith, refl, sym, ◌∙◌}
use mathlib.Core.Option.{none}
use Rattle.atomic_table.specs.Table.{step}
use Rattle.lq_table.specs.Places.{lock_place}
use Rattle.lq_log.specs.Made.{seen}
use Rattle.lq_table.proofs.shared.Shared.look_lock.Answers.Alone.{look_marks}
use Rattle.lq_table.proofs.shared.Shared.look_lock.Answers.Kept.{looks_lock}
use Rattle.lq_table.proofs.shared.Shared.look_lock.Answers.Makes.{look_becomes, look_tells}
use Rattle.lq_table.specs.Step.{standing}
use Rattle.lq_table.proofs.StepFacts.{makes_one}
use Rattle.lq_table.proofs.shared.Shared.look_lock.Goals as goal

pub load_word-requires : goal.load_word-requires
load_word-requires g c = (c.type_bounds.send-D, ((c.requires.seat.0, (let wide = c.args.self.now.sized.0 in omega arith), looks_lock _ _ _ _ c.requires.at c.requires.seat.1)))

pub invariant_of-cpu : goal.invariant_of-cpu
invariant_of-cpu g c =
    let s = step c.args.self.now.table.kit.shared.table_id.slots lock_place 0 0 none in
    let x = c.load_word in let old = c.args.cpu.now.known in
    record { told = old.told ∙ sym (look_marks s x.result (seen old.seat.me) (seen x.new.seat.me) c.requires.at x.ensures.2.told.0) }

pub returns : goal.returns
returns g c =
    let old = c.args.cpu.now in let x = c.load_word in let e = x.ensures in let t = e.2.told in
    let s = step c.args.self.now.table.kit.shared.table_id.slots lock_place 0 0 none in record {
      makes = (x.result, refl, makes_one _ _ _ (e.0, e.1) refl refl (look_becomes s x.result (seen old.known.seat.me) (seen x.new.seat.me) t.0) e.2.noted (look_tells x.result (standing old) c.requires.at t.1));
    }
