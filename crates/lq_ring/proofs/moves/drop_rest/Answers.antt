use Rattle.std.proofs.Common.{rules, ◌≡◌, ◌+◌, ◌-◌, arith, ℕ, get_or, inr, List, [], Contains, sym, ap, ◌∙◌, subst, refl}
use Rattle.lq_account_laws.proofs.Lists.{drop-in, here-in}
use Rattle.lq_band_laws.specs.Ring.{word_at}
use Rattle.lq_table.specs.Views.{View, Work}
use Rattle.lq_table.specs.Resizes.{is_member, out_of}
use Rattle.lq_table.specs.Sees.{view}
use Rattle.lq_model.specs.declared.fate.Fate.{Fate}
use Rattle.lq_ring.specs.Work.{work_at, working, event_of_work}
use Rattle.lq_ring.proofs.Works.{shrunk_if, shrunk_to, settled_if, at_chain, turner_chain, chain, work_back, zeroed_out, word_drop, work_of, event_of, first_waits, dropped_step, event_after, member_of_first, shrunk_next, count_next, having_settled, dropped_to}
use Rattle.lq_ring.proofs.StepsThen.{turns_none, turns_out, turns_then}
use Rattle.lq_ring.proofs.moves.drop_rest.Goals as goal

pub loop-n-init : goal.loop-n-init
loop-n-init g c = let t = c.requires.turner.0 in record { seat = c.requires.seat; same = ((refl, refl), refl, refl, refl); view_is = sym (work_back c.args.band (view c.args.cpu.now) t.1.0 t.1.1 t.1.2); count_is = omega arith; few = (search rules); made = turns_none c.args.band c.args.cpu.now }

pub take_out-x-requires-clause-turner : goal.take_out-x-requires-clause-turner
take_out-x-requires-clause-turner g c _ _ =
    let b = c.args.band in let v = view c.args.cpu.now in let w : Work = work_at b v in let u : View = having_settled (shrunk_to c.args.resize.event c.loop-n.n w.waiting v.settled) v in
    turner_chain b (dropped_to c.args.from c.loop-n.n w) u _ c.requires.turner.0 c.loop-n.invariant.view_is

pub settle_word-count-requires-clause-turner : goal.settle_word-count-requires-clause-turner
settle_word-count-requires-clause-turner g c _ _ =
    let b = c.args.band in let v = view c.args.cpu.now in let w : Work = work_at b v in let from = c.args.from in let n = c.loop-n.n in let u : View = having_settled (shrunk_to c.args.resize.event n w.waiting v.settled) v in
    turner_chain b (out_of (from + n) (dropped_to from n w)) u _ c.requires.turner.0 (chain b (out_of (from + n)) (dropped_to from n w) u _ _ c.requires.turner.0 c.loop-n.invariant.view_is c.take_out-x.ensures.stands.1)

pub settle_word-count-requires-clause-word : goal.settle_word-count-requires-clause-word
settle_word-count-requires-clause-word g c _ _ = λ some_.
    let b = c.args.band in let v = view c.args.cpu.now in let w : Work = work_at b v in let from = c.args.from in let n = c.loop-n.n in let t = c.requires.turner.0 in let x = c.take_out-x.result in let wn : Work = dropped_to from n w in let u : View = having_settled (shrunk_to c.args.resize.event n w.waiting v.settled) v in
    let e0 = c.loop-n.invariant.view_is in let e1 = chain b (out_of (from + n)) wn u _ _ t e0 c.take_out-x.ensures.stands.1 in let v1 = view c.take_out-x.new.cpu in
    let at0 : work_at b (view c.loop-n.cpu) ≡ wn = at_chain b wn u _ t e0 in let at1 : work_at b v1 ≡ out_of (from + n) wn = at_chain b (out_of (from + n) wn) u _ t e1 in
    let found : x ≡ get_or wn.slots (from + n) 0 = c.take_out-x.ensures.makes.told.0.0 ∙ ap (λ (z : Work). get_or z.slots (from + n) 0) at0 in
    let first : x ≡ word_at wn.waiting 0 = found ∙ (zeroed_out from n w.slots (from + n) (inr (omega arith)) ∙ (c.requires.rest.1 n (let l = c.loop-n-test.true in omega arith) ∙ sym (word_drop n w.waiting))) in
    let f = first_waits (from + n) x wn c.requires.rest.0 found first some_ in let t1 = turner_chain b (out_of (from + n) wn) u v1 t e1 in
    let in_it : Contains wn.waiting (x - 1) = subst (λ (z : List ℕ). Contains z (x - 1)) (sym f.1) (here-in (x - 1) f.0) in
    let packet = c.requires.packets (x - 1) (drop-in n w.waiting (x - 1) in_it) in
    let at_t = work_of b v1 t1.1.0 t1.1.1 in
    let event : (t1.1.0).event ≡ c.args.resize.event = sym (event_of v1 t1.1.0 t1.1.1) ∙ (ap event_of_work e1 ∙ (event_after b (out_of (from + n) wn) u t ∙ c.requires.turner.1)) in
    let small = c.take_out-x.ensures.makes.told.0.1 (ap (λ (z : Work). is_member x z) at0 ∙ member_of_first (from + n) x wn found first some_) in (
      record {
        holds = t1.0;
        resizing = t1.1.0;
        under_way = t1.1.1;
        event_is = event;
        waiting = f.0;
        first = ap (λ (z : Work). z.waiting) (sym at_t ∙ at1) ∙ f.1;
        hand = [];
        in_hand = ap (λ (z : Work). z.hand) (sym at_t ∙ at1) ∙ f.2;
      },
      c.requires.place.0,
      packet.0,
      packet.1,
      small,
    )

pub loop-n-preserved : goal.loop-n-preserved
loop-n-preserved g c =
    let b = c.args.band in let v = view c.args.cpu.now in let w : Work = work_at b v in let from = c.args.from in let n = c.loop-n.n in let t = c.requires.turner.0 in let x = c.take_out-x.result in let wn : Work = dropped_to from n w in
    let event = c.args.resize.event in let fates : List (ℕ × Fate) = shrunk_to event n w.waiting v.settled in let u : View = having_settled fates v in
    let e0 = c.loop-n.invariant.view_is in let e1 = chain b (out_of (from + n)) wn u _ _ t e0 c.take_out-x.ensures.stands.1 in let v1 = view c.take_out-x.new.cpu in
    let e2 = chain b (settled_if x) (out_of (from + n) wn) u v1 (working b (settled_if x (work_at b v1)) v1) t e1 refl in
    let at0 : work_at b (view c.loop-n.cpu) ≡ wn = at_chain b wn u _ t e0 in
    let found : x ≡ get_or wn.slots (from + n) 0 = c.take_out-x.ensures.makes.told.0.0 ∙ ap (λ (z : Work). get_or z.slots (from + n) 0) at0 in
    let first : x ≡ word_at w.waiting n = found ∙ (zeroed_out from n w.slots (from + n) (inr (omega arith)) ∙ c.requires.rest.1 n (let l = c.loop-n-test.true in omega arith)) in
    let stored : shrunk_if x event v1.settled ≡ shrunk_to event (n + 1) w.waiting v.settled = ap (λ (z : View). shrunk_if x event z.settled) e1 ∙ shrunk_next event w.waiting n x v.settled first in record {
      seat = (search rules);
      same = (search rules);
      view_is = c.settle_word-count.ensures.stands.1 ∙ (λ j. having_settled (stored j) ((e2 ∙ ap (λ (z : Work). working b z u) (dropped_step from n x w c.requires.rest.0 found first)) j));
      count_is = count_next w.waiting n x c.loop-n.count c.settle_word-count.result first c.settle_word-count.ensures.count c.loop-n.invariant.count_is;
      few = (search rules);
      made = turns_then b (turns_then b c.loop-n.invariant.made (turns_out b c.take_out-x.ensures.makes)) c.settle_word-count.ensures.makes;
    }
