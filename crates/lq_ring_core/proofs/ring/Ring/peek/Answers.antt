use Rattle.std.proofs.Common.{arith, ◌∙◌}
use Rattle.std.proofs.lemmas.List.{get_or_default}
use Rattle.lq_ring_core.proofs.Steps.{peek-first}
use Rattle.lq_ring_core.proofs.Lists.{slice_get-none}
use Rattle.lq_ring_core.proofs.ring.Ring.peek.Goals as goal

pub returns-clause-first : goal.returns-clause-first
returns-clause-first c =
    let r = c.self.inside in
    let o = c.self.invariant in
    let value = c.index.ensures ∙ get_or_default r.slots.items r.head c.index.result.now 0 (omega (arith, r.slots.ok.0, o.within_max, o.in_order.head_within)) in
    rw (← c.self.view_is) (peek-first r.slots.items r.size r.producer r.head r.tail c.index.result.now c.checked_sub.result o.in_order value c.checked_sub.ensures)

pub returns-clause-none : goal.returns-clause-none
returns-clause-none c = slice_get-none c.args.self.now.held c.checked_sub.result (returns-clause-first c)
