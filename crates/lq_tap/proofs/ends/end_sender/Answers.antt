use Rattle.std.proofs.Common.{arith}
use mathlib.Core.Option.{none}
use Rattle.atomic_table.specs.Table.{step}
use Rattle.lq_tap.specs.Views.{Setup}
use Rattle.lq_tap.specs.Keyed.{keyed_setup}
use Rattle.lq_log.specs.Made.{seen}
use Rattle.lq_tap.proofs.PutsKept.{ends_sender}
use Rattle.lq_tap.proofs.ends.end_sender.Goals as goal

pub fetch_add-requires : goal.fetch_add-requires
fetch_add-requires c =
    let t = c.args.tap.now in let k : Setup = keyed_setup t.table.kit.shared.key in let slots = t.table.kit.shared.table_id.slots in let seat = c.args.seat.now.seat in
    (c.requires.seat.0.0.0, (let wide = t.sized.0 in omega arith), ends_sender k slots seat.id (seen seat.me) (step slots 24 1 0 none) c.requires.seat.1)
