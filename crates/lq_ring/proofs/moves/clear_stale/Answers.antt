use Rattle.std.proofs.Common.{rules, ◌≡◌, ◌+◌, arith, ℕ, get_or, inr, sym, ap, ◌∙◌, List, refl, false}
use Rattle.lq_table.specs.Views.{Work}
use Rattle.lq_table.specs.Resizes.{is_member, out_of, hand_with}
use Rattle.lq_table.specs.Sees.{view}
use Rattle.lq_ring.specs.Work.{work_at, working, zeroed_to}
use Rattle.lq_ring.proofs.Works.{turner_chain, chain, work_back, zeroed_out, zeroed_next, with_slots}
use Rattle.lq_ring.proofs.StepsThen.{turns_none, turns_out, turns_then}
use Rattle.lq_ring.proofs.moves.clear_stale.Goals as goal

pub loop-n-init : goal.loop-n-init
loop-n-init g c = let t = c.requires.turner in record { seat = c.requires.seat; same = ((refl, refl), refl, refl, refl); view_is = sym (work_back c.args.band (view c.args.cpu.now) t.1.0 t.1.1 t.1.2); made = turns_none c.args.band c.args.cpu.now }

pub take_out-requires-clause-turner : goal.take_out-requires-clause-turner
take_out-requires-clause-turner g c _ _ = let b = c.args.band in let v = view c.args.cpu.now in let w : Work = work_at b v in turner_chain b (with_slots (zeroed_to c.args.tail c.loop-n.n w.slots) w) v _ c.requires.turner c.loop-n.invariant.view_is

pub loop-n-preserved : goal.loop-n-preserved
loop-n-preserved g c =
    let b = c.args.band in let v = view c.args.cpu.now in let w : Work = work_at b v in let tail = c.args.tail in let n = c.loop-n.n in let z : List ℕ = zeroed_to tail n w.slots in let i = c.loop-n.invariant in let s = c.take_out.ensures.stands.0 in
    let e = chain b (out_of (tail + n)) (with_slots z w) v _ _ c.requires.turner i.view_is c.take_out.ensures.stands.1 in
    let found : get_or z (tail + n) 0 ≡ get_or w.slots (tail + n) 0 = zeroed_out tail n w.slots (tail + n) (inr (omega arith)) in
    let other : is_member (get_or z (tail + n) 0) w ≡ false = ap (λ (x : ℕ). is_member x w) found ∙ c.requires.stale (tail + n) (omega arith) (let l = c.loop-n-test.true in omega arith) in
    let is : out_of (tail + n) (with_slots z w) ≡ with_slots (zeroed_to tail (n + 1) w.slots) w = λ j. record w { slots = zeroed_next tail n w.slots j; hand = hand_with (other j) (get_or z (tail + n) 0) w.hand } in record {
      seat = (search rules);
      same = (search rules);
      view_is = e ∙ ap (λ (x : Work). working b x v) is;
      made = turns_then b i.made (turns_out b c.take_out.ensures.makes);
    }
