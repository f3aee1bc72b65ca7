use Rattle.std.proofs.Common.{◌≡◌, ℕ, ◌+◌, ◌-◌, ◌<◌, false, List, [], ◌∷◌, ◌++◌, length, take, set, All, refl, sym, ap, ◌∙◌, subst, arith, length-set}
use Rattle.std.proofs.lemmas.List.{take_more_set, drop-set-lt}
use Rattle.std.proofs.lemmas.List.Elements.{All-nil, All-push}
use Rattle.lq_band_laws.specs.Ring.{after_take, IsAtRest}
use Rattle.lq_tap.specs.Views.{View, Setup, AreFew}
use Rattle.lq_tap.specs.Told.{after_takes, rest_at, taking, with_ends}
use Rattle.lq_tap.specs.Made.{◌⊳◌, did_load_slot}
use Rattle.lq_tap.specs.Steps.{took, took_all, emptied_below, emptied_after}
use Rattle.lq_tap.specs.Sees.{view, steps}
use Rattle.lq_tap.proofs.BatchSteps.{having_taken_one, taken_and_emptied, taken_so_far, none_taken_yet, one_more_taken, took_one_more, drop_further, rest_of}
use Rattle.lq_tap.proofs.shared.Tap.take_all.Goals as goal

pub loop-taken-init : goal.loop-taken-init
loop-taken-init c =
    let v : View = view c.args.seat.now in record {
      seat = c.requires.seat;
      same = ((refl, refl), refl);
      room = omega arith;
      long = refl;
      others = refl;
      view_is = (v.reader.drained, sym (none_taken_yet v c.requires.begins), λ h. absurd (omega arith));
      made = refl;
      packets = All-nil (λ n. n < c.args.self.now.packets);
      few = λ h. absurd (omega arith);
      ends = c.requires.ends;
    }

pub loop-taken-preserved : goal.loop-taken-preserved
loop-taken-preserved c =
    let inv = c.loop-taken.invariant in let v : View = view c.args.seat.now in let w : View = view c.loop-taken.seat in let len = c.args.self.now.len in
    let t = c.loop-taken.taken in let out = c.loop-taken.out in let ends = c.loop-taken.ends in let batch : List ℕ = take t out in let seen = c.head_slot-found.ensures in let left = c.discard_one-ends.ensures in let emptied = left.made in
    let found = c.head_slot-found.result in let some_ = c.if-found-eq0.false in let n : ℕ = found - 1 in let taken = seen.taken some_ in let loaded = taken.0 in
    let inside : t < length out = c.loop-taken-test.true in let fits = inv.long in
    let old_len : w.about.len ≡ len = ap (λ (x : Setup). x.len) inv.seat.0.1 in
    let more : take (t + 1) (set out t n) ≡ batch ++ n ∷ [] = take_more_set out t n inside in
    let here : view c.discard_one-ends.new.seat ≡ with_ends (after_take len (rest_at ends)) (taking n w) = emptied.view_is ∙ ap (with_ends (after_take len (rest_at ends))) loaded.view_is in
    let took_it : view c.discard_one-ends.new.seat ≡ having_taken_one n w = here ∙ taken_and_emptied len n (rest_at ends) w old_len inv.ends.0 in
    let now : view c.discard_one-ends.new.seat ≡ taken_so_far false (take (t + 1) (set out t n)) v = took_it ∙ (ap (having_taken_one n) inv.view_is.1 ∙ (one_more_taken inv.view_is.0 batch n v ∙ ap (λ (xs : List ℕ). taken_so_far false xs v) (sym more))) in
    let word : found ≡ n + 1 = omega arith in let next : rest_at c.discard_one-ends.result ≡ after_take len (rest_at ends) = rest_of len (after_take len (rest_at ends)) c.discard_one-ends.result left.ends.1 (sym left.ends.0) in
    let len_is : v.about.len ≡ len = ap (λ (x : Setup). x.len) c.requires.seat.0.1 in
    let ends_are : rest_at ends ≡ after_takes len (length batch) (rest_at c.args.first) = sym inv.ends.0 ∙ (ap (λ (x : View). x.reader.ends) inv.view_is.1 ∙ (λ j. after_takes (len_is j) (length batch) (c.requires.ends.0 j))) in record {
      seat = ((emptied.same.0.0 ∙ (loaded.same.0.0 ∙ inv.seat.0.0), ap (λ (x : View). x.about) now ∙ c.requires.seat.0.1), ap (λ (x : View). x.reader.reads) now ∙ c.requires.seat.1, ap (λ (x : View). x.reader.holds) now ∙ c.requires.seat.2);
      same = ((emptied.same.0.0 ∙ (loaded.same.0.0 ∙ inv.same.0.0), emptied.same.0.1 ∙ (loaded.same.0.1 ∙ inv.same.0.1)), emptied.same.1 ∙ (loaded.same.1 ∙ inv.same.1));
      room = omega arith;
      long = length-set out t n ∙ inv.long;
      others = drop-set-lt (t + 1) out t n (omega arith) ∙ drop_further t out c.args.out.now inv.others;
      view_is = (false, now, λ _. refl);
      made = emptied.steps_are ∙ ((λ j. emptied_below (ends.head + 1) (emptied_after len (rest_at ends)) ((loaded.steps_are ∙ (λ i. steps c.loop-taken.seat ⊳ did_load_slot ends.head (word i))) j)) ∙ (λ j. took len (ends_are j) n (inv.made j)) ∙ (sym (took_one_more len (rest_at c.args.first) batch n (steps c.args.seat.now)) ∙ ap (λ (xs : List ℕ). took_all len (rest_at c.args.first) xs (steps c.args.seat.now)) (sym more)));
      packets = subst (All (λ n. n < c.args.self.now.packets)) (sym more) (All-push (λ n. n < c.args.self.now.packets) batch n inv.packets (let b = taken.1 in omega arith));
      few = λ _. subst AreFew (sym emptied.view_is) seen.few;
      ends = (ap (λ (x : View). x.reader.ends) here ∙ sym next, subst (IsAtRest len) (sym next) left.ends.1);
    }
