mod Kept
use Rattle.std.proofs.Common.{◌≡◌, arith, sym, ap, ◌∙◌, List, refl, rules}
use Rattle.lq_model.specs.declared.fate.Info.{Info}
use Rattle.lq_model.specs.declared.machine.Position.TheVariants.{Recheck}
use Rattle.lq_table.specs.Views.{machine_packet}
use Rattle.lq_table.specs.Keyed.{keyed_setup}
use Rattle.lq_table.proofs.shared.Shared.recheck.Answers.Kept.{rechecks_sole}
use Rattle.lq_log.specs.Made.{seen}
use Rattle.lq_table.proofs.StepFacts.{makes_one, decided}
use Rattle.lq_table.specs.Moves.{Sat}
use Rattle.lq_table.specs.Sees.{solo, view}
use Rattle.lq_table.specs.States.{load_state_view, recheck_alone, recheck_view_direct, some_bit}
use Rattle.lq_table.proofs.shared.Shared.recheck.Goals as goal

pub load_word-requires : goal.load_word-requires
load_word-requires g c = (
  c.type_bounds.send-D,
  (
      let t = c.args.self.now in let k = keyed_setup t.table.kit.shared.key in let slots = t.table.kit.shared.table_id.slots in let seat = c.args.cpu.now.known.seat in let n = c.args.n in
      let position : seat.me.0.view.place.position ≡ Recheck (machine_packet k.infos n) = c.requires.at.0 ∙ ap (λ (xs : List Info). Recheck (machine_packet xs n)) (sym t.same.0) in (
        c.requires.seat.0,
        (let wide = t.sized.0 in omega arith),
        rechecks_sole k slots seat.id (seen seat.me) n position c.requires.at.1 c.requires.seat.1,
      )),
)

pub returns : goal.returns
returns g c = record {
  makes =
      let e = c.load_word.ensures in let x = c.load_word in let old = c.args.cpu.now in let v = view old in
      let n = c.args.n in
      let to = decided (some_bit x.result) (seen x.new.seat.me) (load_state_view x.result v) (recheck_view_direct n x.result v) old.known.seat.me.1 (e.2.told.0.0) (e.2.told.0.1) in
      let alone : solo x.new.seat.me.0.view ≡ recheck_alone n x.result (solo v) = search rules in
      makes_one _ _ _ (e.0, e.1) refl refl to e.2.noted (sym (ap (λ (m : Sat). solo m.0) to) ∙ alone, e.2.told.1);
}
