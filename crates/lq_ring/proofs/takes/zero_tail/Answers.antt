use Rattle.std.proofs.Common.{◌≡◌, ℕ, suc, ◌+◌, ◌-◌, ◌<◌, List, refl, sym, ap, ◌∙◌, subst, arith}
use Rattle.lq_band_laws.specs.Three.{at}
use Rattle.lq_band_laws.specs.Ring.{Ends, emptied_down}
use Rattle.lq_band_laws.proofs.Kept.{down_here, down_more}
use Rattle.lq_band_laws.proofs.Three.{at_put_same}
use Rattle.lq_table.specs.Consumers.{zero_slot_view}
use Rattle.lq_table.specs.Sees.{view, ends_at}
use Rattle.lq_table.specs.Views.{View}
use Rattle.lq_table.specs.Step.{MakesSteps, Step}
use Rattle.lq_ring.specs.StepLists.{zero_steps}
use Rattle.lq_ring.proofs.StepsThen.{makes_none, makes_then}
use Rattle.lq_ring.proofs.ZeroSteps.{zero_next}
use Rattle.lq_ring.specs.Take.{having_ends, emptied_times}
use Rattle.lq_ring.proofs.TakeSteps.{emptying_having, having_same}
use Rattle.lq_ring.proofs.takes.zero_tail.Goals as goal

pub loop-n-preserved : goal.loop-n-preserved
loop-n-preserved g c =
    let b = c.args.band in let v = view c.args.cpu.now in let n = c.loop-n.n in let old = c.loop-n.invariant in let size = v.holder.size in
    let own : Ends = ends_at b c.args.cpu.now in let known : Ends = at b v.whole.state.ends in let ends = c.requires.ends in let more = c.loop-n-test.true in
    let one_ = c.zero_slot.ensures.makes in
    let head : own.head ≡ c.args.head = ap (λ (e : Ends). e.head) ends.0 in let tail : own.tail ≡ c.args.tail = ap (λ (e : Ends). e.tail) ends.0 in
    let one : n + 1 ≡ suc n = omega arith in
    let is : view c.zero_slot.new.cpu ≡ having_ends b (emptied_down size own (n + 1)) (emptied_times size (n + 1) known) v =
    c.zero_slot.ensures.makes.knows ∙ (ap (zero_slot_view b) old.view_is ∙ (emptying_having b (emptied_down size own n) (emptied_times size n known) v
    ∙ (λ j. having_ends b (down_more size own n (omega arith) j) (emptied_times size (sym one j) known) v))) in
    record {
      seat = (one_.seat.0 ∙ old.seat.0, subst (λ (x : ℕ). 0 < x) (sym (ap (λ (x : View). x.share.shares) is)) c.requires.seat.1, ap (λ (x : View). x.share.about) is ∙ c.requires.seat.2);
      same = ((one_.seat.0 ∙ old.same.0.0, one_.seat.1 ∙ old.same.0.1), one_.carries ∙ old.same.1, one_.places ∙ old.same.2, one_.has ∙ old.same.3);
      view_is = is;
      made = subst (λ (xs : List Step). MakesSteps xs c.args.cpu.now c.zero_slot.new.cpu) (zero_next b c.args.head n ∙ ap (zero_steps b c.args.head) (sym one)) (makes_then old.made c.zero_slot.ensures.makes);
    }

pub loop-n-init : goal.loop-n-init
loop-n-init g c =
    let b = c.args.band in let v = view c.args.cpu.now in let size = v.holder.size in let own : Ends = ends_at b c.args.cpu.now in let ends = c.requires.ends in let inside = ends.1 in
    let head : own.head ≡ c.args.head = ap (λ (e : Ends). e.head) ends.0 in let tail : own.tail ≡ c.args.tail = ap (λ (e : Ends). e.tail) ends.0 in
    let edge : own.edge ≡ c.args.head = ap (λ (e : Ends). e.edge) ends.0 in let first : own.head - 0 ≡ own.edge = omega arith in
    let none : emptied_down size own 0 ≡ own = down_here size own 0 (omega arith) ∙ (λ j. record { head = own.head; tail = own.tail; edge = first j }) in record {
      seat = c.requires.seat;
      same = ((refl, refl), refl, refl, refl);
      view_is = sym (ap (λ (e : Ends). having_ends b e (at b v.whole.state.ends) v) none ∙ having_same b v);
      made = makes_none c.args.cpu.now;
    }

-- the head and the tail are as they were while a slot is still to be emptied
pub zero_slot-requires-clause-ends : goal.zero_slot-requires-clause-ends
zero_slot-requires-clause-ends g c κs within_ =
    let b = c.args.band in let v = view c.args.cpu.now in let n = c.loop-n.n in let old = c.loop-n.invariant in let size = v.holder.size in
    let own : Ends = ends_at b c.args.cpu.now in let ends = c.requires.ends in let before = c.requires.before in let more = c.loop-n-test.true in let inside = ends.1 in
    let head : own.head ≡ c.args.head = ap (λ (e : Ends). e.head) ends.0 in let tail : own.tail ≡ c.args.tail = ap (λ (e : Ends). e.tail) ends.0 in
    let is : ends_at b c.loop-n.cpu ≡ record { head = own.head; tail = own.tail; edge = own.head - n } =
    ap (λ (x : View). at b x.holder.ends) old.view_is ∙ (at_put_same b (emptied_down size own n) v.holder.ends ∙ down_here size own n (omega arith)) in
    (before.0, old.same.1 ∙ before.1, before.2 ∙ sym (ap (λ (e : Ends). e.head) is), before.3 ∙ sym (ap (λ (e : Ends). e.tail) is))
