use Rattle.std.proofs.Common.{◌≡◌, sym, ◌∙◌, subst, arith}
use mathlib.Core.Option.{none}
use Rattle.atomic_table.specs.Table.{step}
use Rattle.lq_tap.specs.Views.{Setup}
use Rattle.lq_tap.specs.Keyed.{keyed_setup}
use Rattle.lq_log.specs.Made.{seen}
use Rattle.lq_tap.specs.Made.{slot_word}
use Rattle.lq_band_laws.specs.Ring.{IsAtRest}
use Rattle.lq_tap.proofs.ConsumerKept.{sees_head}
use Rattle.lq_tap.proofs.shared.Tap.head_slot.Goals as goal

pub load-requires : goal.load-requires
load-requires c =
    let t = c.args.self.now in let k : Setup = keyed_setup t.table.kit.shared.key in let slots = t.table.kit.shared.table_id.slots in let seat = c.args.seat.now.seat in
    let about : seat.me.0.view.about ≡ k = c.requires.seat.0.1 ∙ (λ j. record { packets = sym t.same.0 j; len = sym t.same.1 j; senders = sym t.same.2 j }) in
    let i = c.args.head in let s = c.requires.seat in let rest = c.requires.rests in (
      s.0.0,
      (let wide = t.sized.0 in let h = rest.0.1 in let e = rest.1 in omega arith),
      sees_head k slots seat.id (seen seat.me) i (step slots (slot_word i) 0 0 none) s.1 s.2 (subst (λ (x : Setup). IsAtRest x.len seat.me.0.view.reader.ends) (sym s.0.1) rest.0) rest.1,
    )
