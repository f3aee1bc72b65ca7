use Rattle.std.proofs.Common.{ap, ◌∙◌, arith}
use mathlib.Core.Option.{none}
use Rattle.atomic_table.specs.Table.{step}
use Rattle.lq_tap.specs.Views.{Setup}
use Rattle.lq_tap.specs.Keyed.{keyed_setup}
use Rattle.lq_log.specs.Made.{seen}
use Rattle.lq_tap.proofs.SeatsKept.{joins, learns}
use Rattle.lq_tap.proofs.shared.Tap.join.Goals as goal

pub join_seat-requires : goal.join_seat-requires
join_seat-requires c =
    let t = c.args.self.now in let k : Setup = keyed_setup t.table.kit.shared.key in let into = c.args.into.now.seat in let from = c.args.from.seat in
    (c.requires.seat.0.0, c.requires.other.0.0.0, c.requires.other.0.3, (let wide = t.sized.0 in omega arith), joins k into.id into.me.0.view from.id from.me.0.view c.requires.seat.1 c.requires.other.0.1 c.requires.other.1 c.requires.other.0.2)

pub load-requires : goal.load-requires
load-requires c =
    let t = c.args.self.now in let k : Setup = keyed_setup t.table.kit.shared.key in let slots = t.table.kit.shared.table_id.slots in let seat = c.join_seat.new.seat in let j = c.join_seat.ensures in
    (j.0 ∙ c.requires.seat.0.0, (let wide = t.sized.0 in omega arith), learns k slots seat.id (seen seat.me) 0 (step slots 0 0 0 none) (ap (λ m. m.0.view.reader.reads) j.2 ∙ c.requires.seat.1))
