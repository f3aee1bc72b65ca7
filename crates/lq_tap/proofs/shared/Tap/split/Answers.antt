use Rattle.std.proofs.Common.{◌≡◌, sym, ◌∙◌, arith}
use Rattle.lq_tap.specs.Views.{Setup}
use Rattle.lq_tap.specs.Keyed.{keyed_setup}
use Rattle.lq_tap.proofs.SeatsKept.{splits}
use Rattle.lq_tap.proofs.shared.Tap.split.Goals as goal

pub split_seat-requires : goal.split_seat-requires
split_seat-requires c =
    let t = c.args.self.now in let k : Setup = keyed_setup t.table.kit.shared.key in let slots = t.table.kit.shared.table_id.slots in let seat = c.args.seat.now.seat in
    let about : seat.me.0.view.about ≡ k = c.requires.seat.0.1 ∙ (λ j. record { packets = sym t.same.0 j; len = sym t.same.1 j; senders = sym t.same.2 j }) in let o = c.args.sender in (
      c.requires.seat.0.0,
      (let wide = t.sized.0 in omega arith),
      splits k seat.id seat.me.0.view o about c.requires.seat.1 (let h = c.requires.sender.0 in let e = t.same.2 in omega arith) c.requires.sender.1,
    )
