use Rattle.std.proofs.Common.{arith}
use mathlib.Core.Option.{none}
use Rattle.atomic_table.specs.Table.{step}
use Rattle.lq_tap.specs.Views.{Setup}
use Rattle.lq_tap.specs.Keyed.{keyed_setup}
use Rattle.lq_log.specs.Made.{seen}
use Rattle.lq_tap.proofs.PutsKept.{loads_any}
use Rattle.lq_tap.proofs.shared.Tap.load_producer.Goals as goal

pub load-requires : goal.load-requires
load-requires c =
    let t = c.args.self.now in let k : Setup = keyed_setup t.table.kit.shared.key in let slots = t.table.kit.shared.table_id.slots in let seat = c.args.seat.now.seat in
    (c.requires.seat.0, (let wide = t.sized.0 in omega arith), loads_any k slots seat.id (seen seat.me) 8 (step slots 8 0 0 none))
