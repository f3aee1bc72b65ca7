use Rattle.std.proofs.Common.{rules, ◌≡◌, ◌≤◌, ◌+◌, ◌*◌, ℕ, refl, sym, ap, ◌∙◌, subst, arith, Option, List, [], ◌∷◌}
use Rattle.std.proofs.lemmas.Option.{same_Some}
use Rattle.lq_model.specs.Machine.{Purge}
use Rattle.lq_model.specs.declared.machine.Seat.{Seat}
use Rattle.lq_table.specs.Purges.{purge_going, no_missed, reset_missed_view_in, first_purge}
use Rattle.lq_table.specs.Views.{View, Left, PacketPart}
use Rattle.lq_table.specs.Rule.{IsResting}
use Rattle.lq_table.specs.Sees.{view, known}
use Rattle.lq_table.specs.Step.{ResetDraining, ResetMissed, Standing, Step}
use Rattle.lq_ring.specs.StepLists.{PurgeBand}
use Rattle.lq_ring.proofs.StepsThen.{makes_then}
use Rattle.lq_qdisc.specs.StepLists.{Then}
use Rattle.lq_control.specs.Steps.{Only, PfifoFastReset, ResetSlot}
use Rattle.lq_control.proofs.StepLemmas.{and_then, coming, only}
use Rattle.lq_ring.proofs.Seats.{seat_on}
use Rattle.lq_control.proofs.Purge.{IsComeTo, IsEmptied, comes_on, count_all, emptied, paid_slot, slot_few, still_same}
use Rattle.lq_control.proofs.Purge.{left1, left2, left3, purge1, purge2, purge3, purge4}
use Rattle.lq_control.proofs.purges.purge_held.Given as given
use Rattle.lq_control.proofs.purges.purge_held.Goals as goal

-- what is known after the slot
module _ (g : given.Over) (c : goal.After-purge_band-arg-1 g) where
  abbrev bands : Left
  bands = c.requires.bands.0

  abbrev paid : View
  paid = paid_slot c.args.cause c.requires.slot.0 (view c.args.cpu.now)

  after_slot : IsComeTo first_purge bands paid c.args.cpu.now c.purge_slot-slot.new.cpu
  after_slot =
      let e = (c.purge_slot-slot.ensures.purged c.requires.slot.0 c.requires.slot.2).1 in record {
        seat = c.purge_slot-slot.ensures.same.0;
        still = still_same paid _ e;
        purge = ap (λ (x : View). x.control.purge) e ∙ c.requires.at.1;
        left = ap (λ (x : View). x.holder.left) e ∙ c.requires.bands.1;
        rests = subst (λ (x : View). IsResting x.holder.size x.holder.ends) (sym e) c.requires.rests.0;
      }

pub purge_band-low-requires-clause-seat : goal.purge_band-low-requires-clause-seat
purge_band-low-requires-clause-seat g c _ _ =
    let h = after_slot g c in seat_on c.args.shared.now c.args.cpu.now c.purge_slot-slot.new.cpu c.requires.seat h.seat h.still.share

pub purge_band-low-requires-clause-at : goal.purge_band-low-requires-clause-at
purge_band-low-requires-clause-at g c _ _ =
    let h = after_slot g c in let l = c.requires.bands in let size = h.still.size in let most = l.3 0 (omega arith) in
    let place = ap (λ (z : Seat). z.position) h.still.place ∙ c.requires.at.0 in
    (first_purge, l.0, place, h.purge, refl, h.left, l.2, (λ n is. l.4 0 n (omega arith) is), omega arith)

pub purge_band-low-requires-clause-packets : goal.purge_band-low-requires-clause-packets
purge_band-low-requires-clause-packets g c _ _ =
    let same = (after_slot g c).still.packets in
    (ap (λ (z : PacketPart). z.owed) same, ap (λ (z : PacketPart). z.fresh) same ∙ c.requires.at.2)

pub purge_band-low-requires-clause-rests : goal.purge_band-low-requires-clause-rests
purge_band-low-requires-clause-rests g c _ _ =
    let h = after_slot g c in (h.rests, h.still.resizing ∙ c.requires.rests.1)

pub purge_band-low-requires-clause-idle : goal.purge_band-low-requires-clause-idle
purge_band-low-requires-clause-idle g c _ _ =
    (after_slot g c).still.locks ∙ c.requires.rests.2

-- after the first band
module _ (g : given.Over) (c : goal.After-purge_band-arg-2-1 g) where
  after_low : IsComeTo purge1 (left1 (bands g c.before.before)) (paid g c.before.before) c.args.cpu.now c.purge_band-low.new.cpu
  after_low =
      let b = c.before.before in let h = after_slot g b in let low = c.purge_band-low.ensures in
      comes_on 0 first_purge (bands g b) (paid g b) c.args.cpu.now c.purge_slot-slot.new.cpu c.purge_band-low.new.cpu h low.same.0
      (low.knows first_purge (bands g b) h.purge h.left).0

pub purge_band-mid-requires-clause-seat : goal.purge_band-mid-requires-clause-seat
purge_band-mid-requires-clause-seat g c _ _ =
    let h = after_low g c in seat_on c.args.shared.now c.args.cpu.now c.purge_band-low.new.cpu c.requires.seat h.seat h.still.share

pub purge_band-mid-requires-clause-at : goal.purge_band-mid-requires-clause-at
purge_band-mid-requires-clause-at g c _ _ =
    let h = after_low g c in let l = c.requires.bands in let size = h.still.size in let most = l.3 1 (omega arith) in
    let place = ap (λ (z : Seat). z.position) h.still.place ∙ c.requires.at.0 in
    (purge1, left1 l.0, place, h.purge, refl, h.left, l.2, (λ n is. l.4 1 n (omega arith) is), omega arith)

pub purge_band-mid-requires-clause-packets : goal.purge_band-mid-requires-clause-packets
purge_band-mid-requires-clause-packets g c _ _ =
    let same = (after_low g c).still.packets in
    (ap (λ (z : PacketPart). z.owed) same, ap (λ (z : PacketPart). z.fresh) same ∙ c.requires.at.2)

pub purge_band-mid-requires-clause-rests : goal.purge_band-mid-requires-clause-rests
purge_band-mid-requires-clause-rests g c _ _ =
    let h = after_low g c in (h.rests, h.still.resizing ∙ c.requires.rests.1)

pub purge_band-mid-requires-clause-idle : goal.purge_band-mid-requires-clause-idle
purge_band-mid-requires-clause-idle g c _ _ =
    (after_low g c).still.locks ∙ c.requires.rests.2

-- after the second
module _ (g : given.Over) (c : goal.After-purge_band-arg-3-1 g) where
  abbrev at_slot : goal.After-purge_band-arg-1 g
  at_slot = c.before.before.before.before

  after_mid : IsComeTo purge2 (left2 (bands g at_slot)) (paid g at_slot) c.args.cpu.now c.purge_band-mid.new.cpu
  after_mid =
      let l = left1 (bands g at_slot) in let h = after_low g c.before.before in let mid = c.purge_band-mid.ensures in
      comes_on 1 purge1 l (paid g at_slot) c.args.cpu.now c.purge_band-low.new.cpu c.purge_band-mid.new.cpu h mid.same.0
      (mid.knows purge1 l h.purge h.left).0

pub purge_band-high-requires-clause-seat : goal.purge_band-high-requires-clause-seat
purge_band-high-requires-clause-seat g c _ _ =
    let h = after_mid g c in seat_on c.args.shared.now c.args.cpu.now c.purge_band-mid.new.cpu c.requires.seat h.seat h.still.share

pub purge_band-high-requires-clause-at : goal.purge_band-high-requires-clause-at
purge_band-high-requires-clause-at g c _ _ =
    let h = after_mid g c in let l = c.requires.bands in let size = h.still.size in let most = l.3 2 (omega arith) in
    let place = ap (λ (z : Seat). z.position) h.still.place ∙ c.requires.at.0 in
    (purge2, left2 l.0, place, h.purge, refl, h.left, l.2, (λ n is. l.4 2 n (omega arith) is), omega arith)

pub purge_band-high-requires-clause-packets : goal.purge_band-high-requires-clause-packets
purge_band-high-requires-clause-packets g c _ _ =
    let same = (after_mid g c).still.packets in
    (ap (λ (z : PacketPart). z.owed) same, ap (λ (z : PacketPart). z.fresh) same ∙ c.requires.at.2)

pub purge_band-high-requires-clause-rests : goal.purge_band-high-requires-clause-rests
purge_band-high-requires-clause-rests g c _ _ =
    let h = after_mid g c in (h.rests, h.still.resizing ∙ c.requires.rests.1)

pub purge_band-high-requires-clause-idle : goal.purge_band-high-requires-clause-idle
purge_band-high-requires-clause-idle g c _ _ =
    (after_mid g c).still.locks ∙ c.requires.rests.2

-- after the third, the bits
module _ (g : given.Over) (c : goal.After-reset_missed-arg-1 g) where
  abbrev from_slot : goal.After-purge_band-arg-1 g
  from_slot = at_slot g c.before.before

  after_high : IsComeTo purge3 (left3 (bands g from_slot)) (paid g from_slot) c.args.cpu.now c.purge_band-high.new.cpu
  after_high =
      let l = left2 (bands g from_slot) in let h = after_mid g c.before.before in let high = c.purge_band-high.ensures in
      comes_on 2 purge2 l (paid g from_slot) c.args.cpu.now c.purge_band-mid.new.cpu c.purge_band-high.new.cpu h high.same.0
      (high.knows purge2 l h.purge h.left).0

pub reset_missed-requires-clause-seat : goal.reset_missed-requires-clause-seat
reset_missed-requires-clause-seat g c _ _ =
    let h = after_high g c in seat_on c.args.shared.now c.args.cpu.now c.purge_band-high.new.cpu c.requires.seat h.seat h.still.share

pub reset_missed-requires-clause-at : goal.reset_missed-requires-clause-at
reset_missed-requires-clause-at g c _ _ = ap (λ (z : Seat). z.position) (after_high g c).still.place ∙ c.requires.at.0

pub reset_missed-requires-clause-purge : goal.reset_missed-requires-clause-purge
reset_missed-requires-clause-purge g c _ _ =
    let h = after_high g c in (purge3, left3 c.requires.bands.0, h.purge, refl, h.left, h.still.resizing ∙ c.requires.rests.1)

-- MISSED is clear
missed : (g : given.Over) (c : goal.After-reset_draining-arg-1 g)
    → view c.reset_missed.new.cpu ≡ purge_going no_missed purge4 (view c.purge_band-high.new.cpu)
missed g c =
    let v = view c.purge_band-high.new.cpu in
    c.reset_missed.ensures.makes.knows ∙ ap (λ (o : Option Purge). reset_missed_view_in o v) (after_high g c.before.before).purge

pub reset_draining-requires-clause-seat : goal.reset_draining-requires-clause-seat
reset_draining-requires-clause-seat g c _ _ =
    let h = after_high g c.before.before in let m = c.reset_missed.ensures.makes.seat in
    seat_on c.args.shared.now c.args.cpu.now c.reset_missed.new.cpu c.requires.seat (m.0 ∙ h.seat.0, m.1 ∙ h.seat.1)
    (ap (λ (x : View). x.share) (missed g c) ∙ h.still.share)

pub reset_draining-requires-clause-at : goal.reset_draining-requires-clause-at
reset_draining-requires-clause-at g c _ _ =
    let place = ap (λ (x : View). x.place) (missed g c) ∙ (after_high g c.before.before).still.place in
    ap (λ (z : Seat). z.position) place ∙ c.requires.at.0

pub reset_draining-requires-clause-purge : goal.reset_draining-requires-clause-purge
reset_draining-requires-clause-purge g c _ _ =
    let h = after_high g c.before.before in let e = missed g c in let l = left3 c.requires.bands.0 in
    let resizing = ap (λ (x : View). x.holder.resizing) e ∙ (h.still.resizing ∙ c.requires.rests.1) in
    (purge4, l, ap (λ (x : View). x.control.purge) e, refl, ap (λ (x : View). x.holder.left) e ∙ h.left, resizing)

-- the slot has one packet at most, and each band no more than the greatest queue length
few : (g : given.Over) (c : goal.After-reset_draining g)
    → c.purge_slot-slot.result + c.purge_band-low.result + c.purge_band-mid.result + c.purge_band-high.result ≤ 1 + 3 * 65536
few g c =
    let s = c.requires.slot in let one = (c.purge_slot-slot.ensures.purged s.0 s.2).0 in let slot = slot_few s.0 in
    let most = c.args.shared.now.sized.3 in let a = c.purge_band-low.ensures.few in let b = c.purge_band-mid.ensures.few in
    let d = c.purge_band-high.ensures.few in omega arith

pub overflow_add-result : goal.overflow_add-result
overflow_add-result g c = let all = few g c in omega arith

pub overflow_add-result-2 : goal.overflow_add-result-2
overflow_add-result-2 g c = let all = few g c in omega arith

pub overflow_add-result-3 : goal.overflow_add-result-3
overflow_add-result-3 g c = let all = few g c in omega arith

pub returns : goal.returns
returns g c = record {
  same = search rules;
  purged = λ s l owed left. let first = c.purge_slot-slot.ensures.purged s owed in let e = first.1 in let v = view c.args.cpu.now in
      let v1 = view c.purge_slot-slot.new.cpu in let v2 = view c.purge_band-low.new.cpu in let v3 = view c.purge_band-mid.new.cpu in
      let v4 = view c.purge_band-high.new.cpu in let v5 = view c.reset_missed.new.cpu in let v6 = view c.reset_draining.new.cpu in
      let begun = ap (λ (x : View). x.control.purge) e ∙ c.requires.at.1 in
      let low = c.purge_band-low.ensures.knows first_purge l begun (ap (λ (x : View). x.holder.left) e ∙ left) in
      let next = ap (λ (x : View). x.control.purge) low.0.is in
      let mid = c.purge_band-mid.ensures.knows purge1 (left1 l) next (ap (λ (x : View). x.holder.left) low.0.is) in
      let last = ap (λ (x : View). x.control.purge) mid.0.is in
      let high = c.purge_band-high.ensures.knows purge2 (left2 l) last (ap (λ (x : View). x.holder.left) mid.0.is) in
      let cause_is = ap (λ (z : Left). z.cause) (same_Some _ _ (sym left ∙ c.requires.bands.1)) ∙ c.requires.bands.2 in
      let bits = c.reset_missed.ensures.makes.knows in let ends = c.reset_draining.ensures.makes.knows in
      let n = count_all s l in let n0 = first.0 in let n1 = low.1 in let n2 = mid.1 in let n3 = high.1 in
      (emptied c.args.cause s l v v1 v2 v3 v4 v5 v6 cause_is e low.0 mid.0 high.0 bits ends, omega arith);
  station = search rules;
  makes = λ s owed.
      let by = c.args.cause in let low = c.purge_band-low in let mid = c.purge_band-mid in let high = c.purge_band-high in let slot = c.purge_slot-slot.ensures in
      let bits : Standing → List Step → Type 0 = Only (ResetMissed ∷ ResetDraining ∷ []) in let third : Standing → List Step → Type 0 = PfifoFastReset by 2 high.result in
      let second : Standing → List Step → Type 0 = PfifoFastReset by 1 mid.result in let first : Standing → List Step → Type 0 = PfifoFastReset by 0 low.result in
      let t = and_then (ResetSlot by s) (Then first (Then second (Then third bits))) (slot.makes s owed)
      (and_then first (Then second (Then third bits)) (coming (IsEmptied 0 low.result) (λ z. PurgeBand 0 by z low.result) low.ensures.makes low.ensures.knows)
      (and_then second (Then third bits) (coming (IsEmptied 1 mid.result) (λ z. PurgeBand 1 by z mid.result) mid.ensures.makes mid.ensures.knows)
      (and_then third bits (coming (IsEmptied 2 high.result) (λ z. PurgeBand 2 by z high.result) high.ensures.makes high.ensures.knows)
      (only (makes_then c.reset_missed.ensures.makes c.reset_draining.ensures.makes))))) in
      (t.0, (low.result, mid.result, high.result, ap (λ (n : ℕ). n + low.result + mid.result + high.result) (slot.purged s owed).0, t.1), t.2);
}
