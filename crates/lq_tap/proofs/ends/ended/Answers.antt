use Rattle.std.proofs.Common.{◌≡◌, sym, ◌∙◌, arith}
use mathlib.Core.Option.{none}
use Rattle.atomic_table.specs.Table.{step}
use Rattle.lq_tap.specs.Views.{Setup}
use Rattle.lq_tap.specs.Keyed.{keyed_setup}
use Rattle.lq_log.specs.Made.{seen}
use Rattle.lq_tap.proofs.PutsKept.{sees_ended}
use Rattle.lq_tap.proofs.ends.ended.Goals as goal

pub load-requires : goal.load-requires
load-requires c =
    let t = c.args.tap.now in let k : Setup = keyed_setup t.table.kit.shared.key in let slots = t.table.kit.shared.table_id.slots in let seat = c.args.seat.now.seat in
    let about : seat.me.0.view.about ≡ k = c.requires.seat.0.1 ∙ (λ j. record { packets = sym t.same.0 j; len = sym t.same.1 j; senders = sym t.same.2 j }) in
    (c.requires.seat.0.0, (let wide = t.sized.0 in omega arith), sees_ended k slots seat.id (seen seat.me) (step slots 24 0 0 none) about c.requires.seat.1)
