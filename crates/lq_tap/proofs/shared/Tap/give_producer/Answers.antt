use Rattle.std.proofs.Common.{ℕ, ◌*◌, sym, ◌∙◌, arith}
use Rattle.lq_tap.specs.Views.{Setup}
use Rattle.lq_tap.specs.Keyed.{keyed_setup}
use Rattle.lq_log.specs.Made.{seen}
use Rattle.lq_band_laws.specs.Ring.{index_given}
use Rattle.lq_tap.proofs.PutsKept.{gives_producer}
use Rattle.lq_tap.proofs.shared.Tap.give_producer.Goals as goal

pub store-requires : goal.store-requires
store-requires c =
    let t = c.args.self.now in let k : Setup = keyed_setup t.table.kit.shared.key in let slots = t.table.kit.shared.table_id.slots in let seat = c.args.seat.now.seat in
    let n : ℕ = 2 * c.args.index in
    (c.requires.seat.0, (let wide = t.sized.0 in omega arith), gives_producer k slots seat.id (seen seat.me) c.args.index c.requires.lock (c.requires.index ∙ (λ j. index_given (sym t.same.1 j) seat.me.0.view.lock)))
