use Rattle.std.proofs.Common.{◌≡◌, sym, ◌∙◌, arith}
use mathlib.Core.Option.{none}
use Rattle.atomic_table.specs.Table.{step}
use Rattle.lq_tap.specs.Views.{Setup}
use Rattle.lq_tap.specs.Keyed.{keyed_setup}
use Rattle.lq_log.specs.Made.{seen}
use Rattle.lq_tap.specs.Made.{slot_word}
use Rattle.lq_tap.proofs.PutsKept.{sees_slot}
use Rattle.lq_tap.proofs.shared.Tap.producer_slot.Goals as goal

pub load-requires : goal.load-requires
load-requires c =
    let t = c.args.self.now in let k : Setup = keyed_setup t.table.kit.shared.key in let slots = t.table.kit.shared.table_id.slots in let seat = c.args.seat.now.seat in
    let about : seat.me.0.view.about ≡ k = c.requires.seat.1 ∙ (λ j. record { packets = sym t.same.0 j; len = sym t.same.1 j; senders = sym t.same.2 j }) in
    let i = c.args.index in let l = c.requires.lock in let place = c.requires.is in (
      c.requires.seat.0,
      (let wide = t.sized.0 in let h = place.1 in omega arith),
      sees_slot k slots seat.id (seen seat.me) i (step slots (slot_word i) 0 0 none) about c.requires.packet.0 (let h = c.requires.packet.1 in let e = t.same.0 in omega arith) l.0 l.1 place.0,
    )
