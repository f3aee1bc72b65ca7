use Rattle.std.proofs.Common.{false, ◌≡◌, ℕ, suc, ◌+◌, ◌-◌, ◌<◌, List, [], ◌∷◌, ◌++◌, length, take, drop, get_or, sym, ap, ◌∙◌, subst, arith}
use Rattle.std.proofs.lemmas.List.{append_assoc}
use Rattle.lq_ring_core.specs.Ring.{place_before}
use Rattle.lq_ring_core.proofs.Places.{place_before-within}
use Rattle.lq_tap.specs.Views.{View}
use Rattle.lq_tap.specs.Made.{◌⊳◌, did_load_slot, did_store_slot}
use Rattle.lq_tap.specs.Told.{finding_room, place_back, destroying, putting_back, without_batch}
use Rattle.lq_tap.specs.Steps.{put_back}
use Rattle.lq_tap.specs.Sees.{view, steps}
use Rattle.lq_tap.proofs.BackSteps.{having_put_back, put_in_room, returning, one_returned, left_of, take_last, some_lost, put_one_more}
use Rattle.lq_tap.proofs.shared.Tap.put_all_back.Goals as goal

pub store_before-requires-clause-last : goal.store_before-requires-clause-last
store_before-requires-clause-last c =
    let read = c.requires.batch.0 in let given = c.args.batch.now in let left = c.loop-left.left in let some_ = c.loop-left-test.true in let within = c.loop-left.invariant.within in let m : ℕ = left - 1 in let one : left ≡ suc m = omega arith in
    let seen = (c.slot_before.ensures.room c.if-slot_before-ne0.false).view_is in
    let last : take left given ≡ take m given ++ get_or given m 0 ∷ [] = ap (λ (n : ℕ). take n given) one ∙ take_last m given (omega arith) in (
      read ++ take m given,
      ap (λ (x : View). x.reader.batch) (seen ∙ ap finding_room c.loop-left.invariant.view_is)
          ∙ (left_of read given (view c.args.seat.now).reader.batch left c.requires.batch.1 within ∙ (ap (λ (xs : List ℕ). read ++ xs) last ∙ sym (append_assoc read (take m given) (get_or given m 0 ∷ [])))),
    )

pub returns-then-slot_before-ne0-clause-view : goal.returns-then-slot_before-ne0-clause-view
returns-then-slot_before-ne0-clause-view c =
    let lost = (c.slot_before.ensures.full c.if-slot_before-ne0.true).view_is in let left = c.loop-left.left in
    ap without_batch (lost ∙ ap (destroying left) c.loop-left.invariant.view_is) ∙ some_lost c.requires.batch.0 c.args.batch.now left (view c.args.seat.now) c.requires.batch.1 c.loop-left.invariant.within

pub loop-left-preserved : goal.loop-left-preserved
loop-left-preserved c =
    let inv = c.loop-left.invariant in let v : View = view c.args.seat.now in let len = c.args.self.now.len in let first = c.args.first in let given = c.args.batch.now in let left = c.loop-left.left in let some_ = c.loop-left-test.true in let within = inv.within in
    let m : ℕ = left - 1 in let one : suc m ≡ left = omega arith in let n : ℕ = length given - left in let further : suc n ≡ length given - m = omega arith in
    let none_ = c.if-slot_before-ne0.false in let loaded = c.slot_before.ensures.room none_ in let stored = c.store_before.ensures in let place = c.place_before-place.result in let w : View = view c.loop-left.seat in
    let still : w.lock.room ≡ false = ap (λ (x : View). x.lock.room) inv.view_is ∙ c.requires.lock.2 in
    let put : view c.store_before.new.seat ≡ having_put_back w = stored.view_is ∙ (ap putting_back loaded.view_is ∙ put_in_room w still) in
    let now : view c.store_before.new.seat ≡ returning (length given - m) v = put ∙ (ap having_put_back inv.view_is ∙ (one_returned n v ∙ ap (λ (x : ℕ). returning x v) further)) in
    let place_is : place ≡ place_back len first (suc n) = c.place_before-place.ensures ∙ ap (λ (h : ℕ). place_before len h 1) inv.head in
    let here : place_back len first (suc n) ≡ place_back len first (suc (length given - suc m)) = ap (λ (x : ℕ). place_back len first (suc (length given - x))) (sym one) in record {
      seat = ((stored.same.0.0 ∙ (loaded.same.0.0 ∙ inv.seat.0.0), ap (λ (x : View). x.about) now ∙ c.requires.seat.0.1), ap (λ (x : View). x.reader.reads) now ∙ c.requires.seat.1, ap (λ (x : View). x.reader.holds) now ∙ c.requires.seat.2);
      same = ((stored.same.0.0 ∙ (loaded.same.0.0 ∙ inv.same.0.0), stored.same.0.1 ∙ (loaded.same.0.1 ∙ inv.same.0.1)), stored.same.1 ∙ (loaded.same.1 ∙ inv.same.1));
      within = omega arith;
      view_is = now;
      head = place_is ∙ ap (place_back len first) further;
      small = subst (λ (x : ℕ). x < len) (sym c.place_before-place.ensures) (place_before-within len c.loop-left.head inv.small);
      made = stored.steps_are ∙ ((λ j. loaded.steps_are j ⊳ did_store_slot place (get_or given m 0 + 1)) ∙ (λ j. inv.made j ⊳ did_load_slot ((place_is ∙ here) j) 0 ⊳ did_store_slot ((place_is ∙ here) j) (get_or given m 0 + 1))
          ∙ (ap (λ (x : ℕ). put_back len first (drop x given) (steps c.args.seat.now) ⊳ did_load_slot (place_back len first (suc (length given - suc m))) 0 ⊳ did_store_slot (place_back len first (suc (length given - suc m))) (get_or given m 0 + 1)) (sym one)
          ∙ sym (put_one_more len first m given (steps c.args.seat.now) (omega arith))));
    }
