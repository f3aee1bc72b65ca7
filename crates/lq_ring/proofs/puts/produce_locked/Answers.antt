use Rattle.std.proofs.Common.{◌≡◌, ℕ, ◌+◌, ◌-◌, ◌<◌, [], ◌∷◌, sym, ap, ◌∙◌, subst, arith, Some}
use Rattle.lq_band_laws.specs.Three.{at}
use Rattle.lq_band_laws.specs.Ring.{Lock, index_given}
use Rattle.lq_table.specs.Views.{View}
use Rattle.lq_band_laws.specs.Ring.{with_room}
use Rattle.lq_table.specs.Producers.{with_lock_at, store_slot_view, producer_slot_view_full}
use Rattle.lq_table.specs.Sees.{view}
use Rattle.lq_table.specs.Step.{GiveProducer, LoadSize, MakesSteps, ProducerSlot, StoreSlot}
use Rattle.lq_ring_core.specs.Ring.{next_place}
use Rattle.lq_ring.specs.StepLists.{DroppedFull, Joined}
use Rattle.lq_ring.proofs.StepsThen.{makes_then}
use Rattle.lq_ring.proofs.PutSteps.{lock1, lock2, lock3, ends_full, ends_put}
use Rattle.lq_table.proofs.OneStep.{drops_brought, finds_room}
use Rattle.lq_ring.proofs.puts.produce_locked.Goals as goal

pub give_producer-requires-clause-seat : goal.give_producer-requires-clause-seat
give_producer-requires-clause-seat g c _ _ =
    let v1 = view c.load_size-size.new.cpu in let e1 = c.load_size-size.ensures.makes.knows in let m = c.producer_slot-found.result - 1 in
    let fresh : v1.packets.fresh ≡ Some c.args.n = ap (λ (x : View). x.packets.fresh) e1 ∙ c.requires.packet.0.0 in
    let e2 : view c.producer_slot-found.new.cpu ≡ producer_slot_view_full c.args.n m v1 = drops_brought c.producer_slot-found.ensures.makes c.args.n fresh c.if-found-ne0.true in
    (c.producer_slot-found.ensures.makes.seat.0 ∙ (c.load_size-size.ensures.makes.seat.0 ∙ c.requires.seat.0), subst (λ (x : ℕ). 0 < x) (sym (ap (λ (x : View). x.share.shares) e2 ∙ ap (λ (x : View). x.share.shares) e1)) c.requires.seat.1, ap (λ (x : View). x.share.about) e2 ∙ (ap (λ (x : View). x.share.about) e1 ∙ c.requires.seat.2))

pub give_producer-requires-clause-lock : goal.give_producer-requires-clause-lock
give_producer-requires-clause-lock g c _ _ =
    let b = c.args.band in let v = view c.args.cpu.now in let v1 = view c.load_size-size.new.cpu in let e1 = c.load_size-size.ensures.makes.knows in let m = c.producer_slot-found.result - 1 in
    let fresh : v1.packets.fresh ≡ Some c.args.n = ap (λ (x : View). x.packets.fresh) e1 ∙ c.requires.packet.0.0 in
    let e2 : view c.producer_slot-found.new.cpu ≡ producer_slot_view_full c.args.n m v1 = drops_brought c.producer_slot-found.ensures.makes c.args.n fresh c.if-found-ne0.true in (
      ap (λ (x : View). (at b x.locks).holds) e2 ∙ ap (λ (x : Lock). x.holds) (lock1 b c.load_size-size.result c.args.index c.args.n v v1 c.requires.locked.0 e1),
      ap (λ (x : View). x.holder.resizing) (e2 ∙ ap (λ (x : View). producer_slot_view_full c.args.n m x) e1) ∙ c.requires.locked.3,
    )

pub give_producer-requires-clause-index : goal.give_producer-requires-clause-index
give_producer-requires-clause-index g c _ _ =
    let b = c.args.band in let v = view c.args.cpu.now in let v1 = view c.load_size-size.new.cpu in let e1 = c.load_size-size.ensures.makes.knows in let m = c.producer_slot-found.result - 1 in let z = c.load_size-size.result in
    let fresh : v1.packets.fresh ≡ Some c.args.n = ap (λ (x : View). x.packets.fresh) e1 ∙ c.requires.packet.0.0 in
    let e2 : view c.producer_slot-found.new.cpu ≡ producer_slot_view_full c.args.n m v1 = drops_brought c.producer_slot-found.ensures.makes c.args.n fresh c.if-found-ne0.true in
    let l = ap (λ (x : View). at b x.locks) e2 ∙ lock1 b z c.args.index c.args.n v v1 c.requires.locked.0 e1 in
    (z, ap (λ (x : Lock). x.size) l, sym (ap (index_given z) l))

pub returns-then-found-ne0 : goal.returns-then-found-ne0
returns-then-found-ne0 g c = record {
  makes =
      let b = c.args.band in let found = c.producer_slot-found.result in let some_ = c.if-found-ne0.true in let back : found ≡ found - 1 + 1 = omega arith in
      let seen = subst (λ (n : ℕ). MakesSteps (ProducerSlot b n ∷ []) c.load_size-size.new.cpu c.producer_slot-found.new.cpu) back c.producer_slot-found.ensures.makes in (
        LoadSize c.load_size-size.result ∷ ProducerSlot b (found - 1 + 1) ∷ GiveProducer b c.args.index ∷ [],
        DroppedFull,
        makes_then c.load_size-size.ensures.makes (makes_then seen c.give_producer.ensures.makes),
      );
  stands =
      let b = c.args.band in let v = view c.args.cpu.now in let locked = c.requires.locked in
      let v1 = view c.load_size-size.new.cpu in
      let e1 = c.load_size-size.ensures.makes.knows in
      let fresh : v1.packets.fresh ≡ Some c.args.n = ap (λ (x : View). x.packets.fresh) e1 ∙ c.requires.packet.0.0 in
      ends_full b c.load_size-size.result c.args.index c.args.n v v1 locked.0 e1 (c.producer_slot-found.result - 1) (view c.producer_slot-found.new.cpu) (view c.give_producer.new.cpu)
      (drops_brought c.producer_slot-found.ensures.makes c.args.n fresh c.if-found-ne0.true) c.give_producer.ensures.makes.knows;
}

pub store_slot-requires-clause-lock : goal.store_slot-requires-clause-lock
store_slot-requires-clause-lock g c _ _ =
    let b = c.args.band in let locked = c.requires.locked in let v1 = view c.load_size-size.new.cpu in let v2 = view c.producer_slot-found.new.cpu in
    let e = lock2 b c.load_size-size.result c.args.index c.args.n (view c.args.cpu.now) v1 locked.0 c.load_size-size.ensures.makes.knows v2 (finds_room c.producer_slot-found.ensures.makes c.if-found-ne0.false) in
    let is : (at b v2.locks).index ≡ c.args.index = ap (λ (x : Lock). x.index) e in
    let small = locked.2 in (
      (ap (λ (x : Lock). x.holds) e, is ∙ sym (ap (at b) c.producer_slot-found.ensures.makes.places ∙ (ap (at b) c.load_size-size.ensures.makes.places ∙ locked.1)), omega arith, ap (λ (x : View). x.holder.resizing) (finds_room c.producer_slot-found.ensures.makes c.if-found-ne0.false ∙ ap (with_lock_at b (with_room (at b v1.locks))) c.load_size-size.ensures.makes.knows) ∙ locked.3),
      ap (λ (x : Lock). x.stored) e,
      ap (λ (x : Lock). x.room) e,
    )

pub give_producer-requires-2-clause-lock : goal.give_producer-requires-2-clause-lock
give_producer-requires-2-clause-lock g c _ _ =
    let b = c.args.band in let locked = c.requires.locked in let v1 = view c.load_size-size.new.cpu in let v2 = view c.producer_slot-found.new.cpu in (
      ap (λ (x : Lock). x.holds) (lock3 b c.load_size-size.result c.args.index c.args.n (view c.args.cpu.now) v1 locked.0 c.load_size-size.ensures.makes.knows v2 (finds_room c.producer_slot-found.ensures.makes c.if-found-ne0.false) (view c.store_slot.new.cpu) c.store_slot.ensures.makes.knows),
      ap (λ (x : View). x.holder.resizing) (c.store_slot.ensures.makes.knows ∙ ap (store_slot_view b c.args.n) (finds_room c.producer_slot-found.ensures.makes c.if-found-ne0.false ∙ ap (with_lock_at b (with_room (at b v1.locks))) c.load_size-size.ensures.makes.knows)) ∙ locked.3,
    )

pub give_producer-requires-2-clause-index : goal.give_producer-requires-2-clause-index
give_producer-requires-2-clause-index g c _ _ =
    let b = c.args.band in let locked = c.requires.locked in let v1 = view c.load_size-size.new.cpu in let v2 = view c.producer_slot-found.new.cpu in let z = c.load_size-size.result in
    let e = lock3 b z c.args.index c.args.n (view c.args.cpu.now) v1 locked.0 c.load_size-size.ensures.makes.knows v2 (finds_room c.producer_slot-found.ensures.makes c.if-found-ne0.false) (view c.store_slot.new.cpu) c.store_slot.ensures.makes.knows in
    (z, ap (λ (x : Lock). x.size) e, c.next_place-next.ensures ∙ sym (ap (index_given z) e))

pub returns : goal.returns
returns g c = record {
  makes =
      let b = c.args.band in let z = c.load_size-size.result in
      let empty = subst (λ (n : ℕ). MakesSteps (ProducerSlot b n ∷ []) c.load_size-size.new.cpu c.producer_slot-found.new.cpu) c.if-found-ne0.false c.producer_slot-found.ensures.makes in
      let next = subst (λ (n : ℕ). MakesSteps (GiveProducer b n ∷ []) c.store_slot.new.cpu c.give_producer-2.new.cpu) c.next_place-next.ensures c.give_producer-2.ensures.makes in (
        LoadSize z ∷ ProducerSlot b 0 ∷ StoreSlot b c.args.n ∷ GiveProducer b (next_place z c.args.index) ∷ [],
        Joined,
        makes_then c.load_size-size.ensures.makes (makes_then empty (makes_then c.store_slot.ensures.makes next)),
      );
  stands =
      let b = c.args.band in let locked = c.requires.locked in let v1 = view c.load_size-size.new.cpu in let v2 = view c.producer_slot-found.new.cpu in
      ends_put b c.load_size-size.result c.args.index c.args.n (view c.args.cpu.now) v1 locked.0 c.load_size-size.ensures.makes.knows v2 (finds_room c.producer_slot-found.ensures.makes c.if-found-ne0.false) (view c.store_slot.new.cpu) c.store_slot.ensures.makes.knows
      (view c.give_producer-2.new.cpu) c.give_producer-2.ensures.makes.knows;
}
