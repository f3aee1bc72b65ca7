use Rattle.std.proofs.Common.{◌≡◌, ℕ, List, refl, sym, ◌∙◌, subst, arith}
use mathlib.Core.Option.{none}
use Rattle.atomic_table.specs.Table.{step, Allows}
use Rattle.lq_tap.specs.Views.{View, Setup}
use Rattle.lq_tap.specs.Keyed.{keyed_setup}
use Rattle.lq_tap.specs.Rule.{Rule, consumer_of}
use Rattle.lq_band_laws.specs.Ring.{IsAtRest}
use Rattle.lq_tap.proofs.Tells.{consumer_given}
use Rattle.lq_tap.proofs.ConsumerKept.{gives_consumer}
use Rattle.lq_tap.specs.declared.view.Consumer.{Consumer}
use Rattle.lq_tap.proofs.shared.Tap.give_consumer.Goals as goal

pub store-requires : goal.store-requires
store-requires c =
    let t = c.args.self.now in let k : Setup = keyed_setup t.table.kit.shared.key in let slots = t.table.kit.shared.table_id.slots in let seat = c.args.seat.now.seat in
    let about : seat.me.0.view.about ≡ k = c.requires.seat.0.1 ∙ (λ j. record { packets = sym t.same.0 j; len = sym t.same.1 j; senders = sym t.same.2 j }) in let v : View = seat.me.0.view in let y : Consumer = consumer_of v.reader.ends in
    let rest : IsAtRest v.about.len v.reader.ends = subst (λ (x : Setup). IsAtRest x.len v.reader.ends) (sym c.requires.seat.0.1) c.requires.rest in (
      c.requires.seat.0.0,
      (let wide = t.sized.0 in omega arith),
      subst (λ (xs : List (ℕ × Consumer)). Allows (Rule k) slots seat.id (v, xs) 16 (λ _. 0) (λ _. consumer_given c.args.purpose (step slots 16 0 0 none) (v, xs) 0)) (sym c.requires.ends) (gives_consumer k slots seat.id v y c.args.purpose about c.requires.seat.1 c.requires.seat.2 refl rest),
    )
