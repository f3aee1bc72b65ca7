use Rattle.std.proofs.Common.{◌≢◌, ◌-◌, arith, sym, ◌∙◌, refl}
use Rattle.lq_ring_core.proofs.Lists.{read-slice_index}
use Rattle.lq_ring_core.proofs.BandLaws.{IsFull-occupied, MayBeFull-since, IsBand-produce}
use Rattle.std.proofs.Common.{length, length-append}
use Rattle.std.proofs.lemmas.Bool.{true≢false}
use Rattle.lq_ring_core.specs.Ring.{IsBounded, entries_of}
use Rattle.lq_ring_core.proofs.Steps.{IsBounded-ring_of, full-since, full-never, seen-first, IsInOrder-produce, ring_of-produce}
use Rattle.lq_ring_core.proofs.ring.Ring.produce.Goals as goal

pub returns-then-slot-ne0-clause-full : goal.returns-then-slot-ne0-clause-full
returns-then-slot-ne0-clause-full c =
    let r = c.self.inside in
    let o = c.self.invariant in
    let read = read-slice_index r.slots.items r.slots.len r.size r.producer c.index-slot.result.now r.slots.ok.0 o.within_max o.in_order.producer_within c.index-slot.ensures in
    (λ _. rw (← c.self.view_is) (full-since r.slots.items r.slots.len r.size r.producer r.head r.tail o.in_order (λ z. c.if-slot-ne0.true (read ∙ z))), λ _. refl)

pub returns-then-slot-ne0-clause-seen : goal.returns-then-slot-ne0-clause-seen
returns-then-slot-ne0-clause-seen c =
    let r = c.self.inside in
    let o = c.self.invariant in
    let read = read-slice_index r.slots.items r.slots.len r.size r.producer c.index-slot.result.now r.slots.ok.0 o.within_max o.in_order.producer_within c.index-slot.ensures in
    rw (← c.self.view_is, read) (seen-first r.slots.items r.slots.len r.size r.producer r.head r.tail o.in_order (λ z. c.if-slot-ne0.true (read ∙ z)))

pub invariant_of-self : goal.invariant_of-self
invariant_of-self c =
    let r = c.self.inside in
    let o = c.self.invariant in
    let read = read-slice_index r.slots.items r.slots.len r.size r.producer c.index-slot.result.now r.slots.ok.0 o.within_max o.in_order.producer_within c.index-slot.ensures in
    let in_order = IsInOrder-produce r.slots.items r.size r.producer r.head r.tail c.args.n (omega (arith, r.slots.ok.0, o.within_max)) o.in_order (sym read ∙ c.if-slot-ne0.false) in
    record {
      not_empty = o.not_empty;
      within_max = o.within_max;
      max_within = o.max_within;
      spare = o.spare;
      in_order = rw c.next_place-self-inside.ensures in_order;
    }

pub returns-clause-ok : goal.returns-clause-ok
returns-clause-ok c =
    let r = c.self.inside in
    let o = c.self.invariant in
    let read = read-slice_index r.slots.items r.slots.len r.size r.producer c.index-slot.result.now r.slots.ok.0 o.within_max o.in_order.producer_within c.index-slot.ensures in
    rw (← c.self.view_is, c.next_place-self-inside.ensures)
    (ring_of-produce r.slots.items r.slots.len r.size r.producer r.head r.tail c.args.n (omega (arith, r.slots.ok.0, o.within_max)) o.in_order (sym read ∙ c.if-slot-ne0.false))

pub returns-clause-full : goal.returns-clause-full
returns-clause-full c =
    let r = c.self.inside in
    let o = c.self.invariant in
    let read = read-slice_index r.slots.items r.slots.len r.size r.producer c.index-slot.result.now r.slots.ok.0 o.within_max o.in_order.producer_within c.index-slot.ensures in
    let never = full-never r.slots.items r.slots.len r.size r.producer r.head r.tail o.in_order (sym read ∙ c.if-slot-ne0.false) in
    (λ e. absurd (cc), λ full. absurd (never (rw (← c.self.view_is) at full)))

pub returns-then-slot-ne0-clause-occupied : goal.returns-then-slot-ne0-clause-occupied
returns-then-slot-ne0-clause-occupied c = λ band b.
    (λ _. (IsFull-occupied c.args.self.now band b).0 ((returns-then-slot-ne0-clause-full c).0 refl), λ _. refl)

pub returns-then-slot-ne0-clause-may_be_full : goal.returns-then-slot-ne0-clause-may_be_full
returns-then-slot-ne0-clause-may_be_full c = λ band b.
    MayBeFull-since c.args.self.now band (c.index-slot.result.now - 1) b ((returns-then-slot-ne0-clause-full c).0 refl) (returns-then-slot-ne0-clause-seen c)

pub returns-clause-joins : goal.returns-clause-joins
returns-clause-joins c = λ band b. rw (returns-clause-ok c) (IsBand-produce c.args.self.now band c.args.n b)

pub returns-clause-occupied : goal.returns-clause-occupied
returns-clause-occupied c = λ band b.
    (λ e. absurd (cc), λ occupied. (returns-clause-full c).1 ((IsFull-occupied c.args.self.now band b).1 occupied))

pub returns-clause-room : goal.returns-clause-room
returns-clause-room c =
    let r = c.self.inside in
    let o = c.self.invariant in
    let bounded : IsBounded c.args.self.now = rw (← c.self.view_is) (IsBounded-ring_of r.slots.items r.slots.len r.size r.producer r.head r.tail o.in_order o.not_empty o.within_max o.max_within) in
    let within = bounded.slots_within in
    let apart : length (entries_of c.args.self.now) ≢ c.args.self.now.size = λ full. true≢false (sym ((returns-clause-full c).1 full)) in
    omega (arith, apart, length-append c.args.self.now.stale c.args.self.now.held)
