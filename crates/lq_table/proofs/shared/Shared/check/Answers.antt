mod Kept
use Rattle.std.proofs.Common.{◌≡◌, arith, sym, ap, ◌∙◌, List, refl, rules, ℕ, ◌/◌, ◌-◌, true}
use Rattle.lq_model.specs.declared.fate.Info.{Info}
use Rattle.lq_model.specs.declared.machine.Position.TheVariants.{Check}
use Rattle.lq_table.specs.Views.{machine_packet}
use Rattle.lq_table.specs.Keyed.{keyed_setup}
use Rattle.lq_table.proofs.shared.Shared.check.Answers.Kept.{checks_sole}
use Rattle.lq_log.specs.Made.{seen}
use Rattle.lq_table.proofs.StepFacts.{makes_one, decided}
use Rattle.lq_table.specs.Moves.{Sat, is_set}
use Rattle.lq_table.specs.Sees.{solo, view}
use Rattle.lq_table.specs.States.{HasEvent, check_alone, check_view_refused, load_state_view}
use Rattle.lq_table.proofs.shared.Shared.check.Goals as goal

pub load_word-requires : goal.load_word-requires
load_word-requires g c = (
  c.type_bounds.send-D,
  (
      let t = c.args.self.now in let k = keyed_setup t.table.kit.shared.key in let slots = t.table.kit.shared.table_id.slots in let seat = c.args.cpu.now.known.seat in let n = c.args.n in
      let position : seat.me.0.view.place.position ≡ Check (machine_packet k.infos n) = c.requires.at ∙ ap (λ (xs : List Info). Check (machine_packet xs n)) (sym t.same.0) in (
        c.requires.seat.0,
        (let wide = t.sized.0 in omega arith),
        checks_sole k slots seat.id (seen seat.me) n position c.requires.brings.0 c.requires.brings.1 c.requires.seat.1,
      )),
)

pub returns : goal.returns
returns g c = record {
  makes =
      let e = c.load_word.ensures in let x = c.load_word in let old = c.args.cpu.now in let v = view old in
      let n = c.args.n in let t = e.2.told.0 in
      let last = λ (is : is_set 2 x.result ≡ true). (let h = t.1 is in let bits = h.2 in let word = h.4 in let y : h.0 ≡ x.result / 256 - 1 = omega arith in y) in
      let event : is_set 2 x.result ≡ true → HasEvent x.result (λ (y : ℕ). y ≡ x.result / 256 - 1) = λ is. (let h = t.1 is in (h.0, h.1, h.2, h.3, h.4, last is)) in
      let to = decided (is_set 2 x.result) (seen x.new.seat.me) (check_view_refused n (x.result / 256 - 1) x.result v) (load_state_view x.result v) old.known.seat.me.1 (λ is. (t.1 is).5 ∙ ap (λ (y : ℕ). (check_view_refused n y x.result v, old.known.seat.me.1)) (last is)) (t.0) in
      let alone : solo x.new.seat.me.0.view ≡ check_alone n x.result (solo v) = search rules in
      makes_one _ _ _ (e.0, e.1) refl refl to e.2.noted (event, sym (ap (λ (m : Sat). solo m.0) to) ∙ alone, e.2.told.1.0, e.2.told.1.1);
}
