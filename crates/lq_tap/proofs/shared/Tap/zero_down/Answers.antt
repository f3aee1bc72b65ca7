use Rattle.std.proofs.Common.{◌≡◌, ◌-◌, true, ℕ, ap, ◌∙◌, arith}
use Rattle.lq_tap.specs.Views.{View, Setup}
use Rattle.lq_tap.specs.Keyed.{keyed_setup}
use Rattle.lq_log.specs.Made.{seen}
use Rattle.lq_band_laws.specs.Ring.{Ends, emptied_down}
use Rattle.lq_tap.specs.Sees.{view}
use Rattle.lq_tap.proofs.ConsumerKept.{empties_slot, still_below}
use Rattle.lq_tap.proofs.shared.Tap.zero_down.Goals as goal

pub store-requires : goal.store-requires
store-requires c =
    let t = c.args.self.now in let k : Setup = keyed_setup t.table.kit.shared.key in let slots = t.table.kit.shared.table_id.slots in let inv = c.loop-n.invariant in let seat = c.loop-n.seat.seat in
    let n = c.loop-n.n in let head = c.args.head in let tail = c.args.tail in let v : View = view c.args.seat.now in let e = c.requires.ends in let inside = c.loop-n-test.true in let i : ℕ = head - 1 - n in
    let ends : seat.me.0.view.reader.ends ≡ record { head = head; tail = tail; edge = head - n } =
    ap (λ (x : View). x.reader.ends) inv.view_is ∙ (ap (λ (c : Ends). emptied_down t.len c n) e ∙ still_below t.len record { head = head; tail = tail; edge = head } n (omega arith)) in
    let tail_is : seat.me.0.view.reader.ends.tail ≡ tail = ap (λ (c : Ends). c.tail) ends in let edge_is : seat.me.0.view.reader.ends.edge ≡ head - n = ap (λ (c : Ends). c.edge) ends in
    let reads : seat.me.0.view.reader.reads ≡ true = ap (λ (x : View). x.reader.reads) inv.view_is ∙ c.requires.seat.1 in
    let holds : seat.me.0.view.reader.holds ≡ true = ap (λ (x : View). x.reader.holds) inv.view_is ∙ c.requires.seat.2 in
    (inv.seat.0, (let wide = t.sized.0 in let h = c.requires.within.2 in omega arith), empties_slot k slots seat.id (seen seat.me) i reads holds (omega arith) (omega arith))
