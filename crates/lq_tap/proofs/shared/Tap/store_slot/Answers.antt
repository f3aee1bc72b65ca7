use Rattle.std.proofs.Common.{◌≡◌, ℕ, ◌+◌, sym, ap, ◌∙◌, subst, arith}
use mathlib.Core.Option.{none}
use Rattle.atomic_table.specs.Table.{step, Allows}
use Rattle.lq_tap.specs.Views.{Setup}
use Rattle.lq_tap.specs.Keyed.{keyed_setup}
use Rattle.lq_tap.specs.Rule.{Rule}
use Rattle.lq_log.specs.Made.{seen}
use Rattle.lq_tap.specs.Made.{slot_word}
use Rattle.lq_band_laws.specs.Ring.{having_stored}
use Rattle.lq_tap.specs.Told.{having_put, with_lock}
use Rattle.lq_tap.proofs.Tells.{producer_slot_stored}
use Rattle.lq_tap.proofs.PutsKept.{stores_slot}
use Rattle.lq_tap.proofs.shared.Tap.store_slot.Goals as goal

pub store-requires : goal.store-requires
store-requires c =
    let t = c.args.self.now in let k : Setup = keyed_setup t.table.kit.shared.key in let slots = t.table.kit.shared.table_id.slots in let seat = c.args.seat.now.seat in
    let about : seat.me.0.view.about ≡ k = c.requires.seat.seat.1 ∙ (λ j. record { packets = sym t.same.0 j; len = sym t.same.1 j; senders = sym t.same.2 j }) in
    let i = c.args.index in let l = c.requires.seat.lock in let p = c.requires.seat.packet in let place = c.requires.seat.is in let n = c.args.n in (
      c.requires.seat.seat.0,
      (let wide = t.sized.0 in let h = place.1 in omega arith),
      subst (λ (x : ℕ). Allows (Rule k) slots seat.id (seen seat.me) (slot_word i) (λ _. x + 1) (λ _. producer_slot_stored (step slots (slot_word i) (x + 1) 0 none) (seen seat.me) (x + 1))) c.requires.packet
          (stores_slot k slots seat.id (seen seat.me) i about p.0 (let h = p.1 in let e = t.same.0 in omega arith) l.0 l.1 c.requires.room place.0),
    )

pub returns : goal.returns
returns c =
    let v = c.args.seat.now.seat.me.0.view in let stored = c.store.ensures in record {
      same = ((stored.0, stored.1), ap (λ m. m.1) stored.2.told);
      view_is = ap (λ m. m.0) stored.2.told ∙ ap (λ (x : ℕ). with_lock (having_stored v.lock) (having_put x v)) c.requires.packet;
      steps_are = stored.2.noted;
    }
