use Rattle.std.proofs.Common.{rules, refl, ◌≡◌, ◌<◌, ◌∙◌, ◌+◌, ◌-◌, ◌%◌, ◌++◌, ◌&&◌, ℕ, List, All, length, leb, ltb, eqb, ap, sym, subst, arith}
use Rattle.lq_tap.specs.Made.{Made}
use Rattle.lq_tap.specs.Sees.{steps, view}
use Rattle.lq_tap.specs.Views.{View}
use Rattle.lq_tap_run.specs.Lanes.{brought_by_lane, numbers_of, one_where}
use Rattle.lq_tap_run.specs.Marks.{AreMarkedFull}
use Rattle.lq_tap_run.specs.Rounds.{JoinsSeats, none_joined, one_joined}
use Rattle.lq_tap_run.specs.declared.lanes.Lane.{Lane}
use Rattle.lq_tap_run.proofs.Seating.{full_below, last_done, once_joined, rest_done}
use Rattle.lq_tap_run.proofs.run.join_all.Goals as goal

pub loop-lane-init : goal.loop-lane-init
loop-lane-init g c = record {
  joined = (search rules);
  settled = (search rules);
  over = c.requires.seat.1;
  taken = refl;
  destroyed = refl;
  marked = (search rules);
  steps_are = none_joined;
  lanes = c.requires.lanes.0;
  few = (search rules);
}

pub mark_full-requires : goal.mark_full-requires
mark_full-requires g c =
    let inv = c.loop-lane.invariant in
    let lane = c.in-Some.lane in
    let rest : List Lane = c.pop.new.self.items in
    let done = last_done c.args.run.now.tap.now c.args.run.now.packets c.args.run.now.senders c.loop-lane.lanes.items rest lane inv.lanes c.in-Some.ensures.items in
    record {
      known = subst (λ (fs : List (ℕ × ℕ)). All (λ n. n < length c.loop-lane.fates.items) (numbers_of fs)) (sym c.deref.ensures.value)
          (full_below c.args.run.now.tap.now c.args.run.now.packets c.args.run.now.senders (length rest) (length c.loop-lane.fates.items) lane done inv.marked.long);
    }

pub join-requires-clause-other : goal.join-requires-clause-other
join-requires-clause-other g c =
    let inv = c.loop-lane.invariant in
    let rest : List Lane = c.pop.new.self.items in
    let done = last_done c.args.run.now.tap.now c.args.run.now.packets c.args.run.now.senders c.loop-lane.lanes.items rest c.in-Some.lane inv.lanes c.in-Some.ensures.items in
    (done.seat, done.over)

pub loop-lane-preserved : goal.loop-lane-preserved
loop-lane-preserved g c =
    let inv = c.loop-lane.invariant in
    let lane = c.in-Some.lane in
    let rest : List Lane = c.pop.new.self.items in
    let left = c.pop.new.self.len in
    let ok = c.pop.new.self.ok.0 in
    let more = c.in-Some.ensures.len in
    let long : length rest ≡ left = omega arith in
    let one : c.loop-lane.lanes.len ≡ left + 1 = omega arith in
    let done = last_done c.args.run.now.tap.now c.args.run.now.packets c.args.run.now.senders c.loop-lane.lanes.items rest lane inv.lanes c.in-Some.ensures.items in
    let old : View = view c.loop-lane.seat in
    let from : View = view lane.seat in
    let new : View = view c.join.new.into in
    let is = c.join.ensures.view in
    let was_out = inv.joined.out_is in
    let now_out : new.reader.out ≡ old.reader.out - 1 = ap (λ (v : View). v.reader.out) is in
    let out : new.reader.out ≡ left = omega arith in
    let over = ap (λ (v : View). v.reader.drained) is ∙ inv.over in
    let fulls : new.sender.fulls ≡ old.sender.fulls ++ c.deref.result.now = ap (λ (v : View). v.sender.fulls) is ∙ ap (λ (fs : List (ℕ × ℕ)). old.sender.fulls ++ fs) (sym (c.deref.ensures.value ∙ done.fulls)) in
    record {
      joined = record {
        reader = c.join.ensures.seat;
        out_is = out;
        once = once_joined c.args.run.now.packets c.args.run.now.senders left from old new is
            (λ m. subst (λ k. brought_by_lane m old ≡ one_where (leb k (m % c.args.run.now.senders) && ltb m c.args.run.now.packets)) one (inv.joined.once m))
            (λ m. subst (λ k. brought_by_lane m from ≡ one_where (eqb (m % c.args.run.now.senders) k && ltb m c.args.run.now.packets)) long (done.once m));
      };
      settled = λ none. c.join.ensures.settled (out ∙ none) over;
      over = over;
      taken = ap (λ (v : View). v.reader.taken) is ∙ inv.taken;
      destroyed = ap (λ (v : View). v.reader.destroyed) is ∙ inv.destroyed;
      marked = subst (λ (fs : List (ℕ × ℕ)). AreMarkedFull c.args.run.now.packets fs c.mark_full.new.fates.items) (sym fulls) (c.mark_full.ensures c.args.run.now.packets old.sender.fulls inv.marked);
      steps_are = subst (λ (made : List Made). JoinsSeats (steps c.args.seat.now) made) (sym c.join.ensures.steps.1)
          (one_joined c.join.ensures.steps.0 (steps lane.seat) (steps c.loop-lane.seat) inv.steps_are);
      lanes = rest_done c.args.run.now.tap.now c.args.run.now.packets c.args.run.now.senders c.loop-lane.lanes.items rest lane inv.lanes c.in-Some.ensures.items;
      few = (let few = inv.few in omega arith);
    }
