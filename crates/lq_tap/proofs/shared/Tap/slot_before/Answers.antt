use Rattle.std.proofs.Common.{◌≡◌, sym, ap, ◌∙◌, arith}
use mathlib.Core.Option.{none}
use Rattle.atomic_table.specs.Table.{step}
use Rattle.lq_tap.specs.Views.{Setup}
use Rattle.lq_tap.specs.Keyed.{keyed_setup}
use Rattle.lq_log.specs.Made.{seen}
use Rattle.lq_tap.specs.Made.{slot_word}
use Rattle.lq_ring_core.specs.Ring.{place_before}
use Rattle.lq_tap.proofs.BackKept.{sees_before}
use Rattle.lq_tap.proofs.shared.Tap.slot_before.Goals as goal

pub load-requires : goal.load-requires
load-requires c =
    let t = c.args.self.now in let k : Setup = keyed_setup t.table.kit.shared.key in let slots = t.table.kit.shared.table_id.slots in let seat = c.args.seat.now.seat in
    let about : seat.me.0.view.about ≡ k = c.requires.seat.seat.0.1 ∙ (λ j. record { packets = sym t.same.0 j; len = sym t.same.1 j; senders = sym t.same.2 j }) in
    let i = c.args.place in let s = c.requires.seat.seat in let l = c.requires.seat.lock in let e = c.requires.seat.clear in let p = c.requires.seat.is in let q = c.requires.left in
    let here : i ≡ place_before seat.me.0.view.about.len seat.me.0.view.reader.ends.head 1 = p.0 ∙ ap (λ (x : Setup). place_before x.len seat.me.0.view.reader.ends.head 1) (sym s.0.1) in (
      s.0.0,
      (let wide = t.sized.0 in let h = p.1 in omega arith),
      sees_before k slots seat.id (seen seat.me) i c.args.left (step slots (slot_word i) 0 0 none) s.1 s.2 l.0 l.1 e.0 e.1 here q.0 q.1,
    )
