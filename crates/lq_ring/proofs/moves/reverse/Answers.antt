use Rattle.std.proofs.Common.{rules, ◌≡◌, ◌+◌, ◌-◌, arith, ℕ, suc, sym, ap, ◌∙◌, subst, length, refl}
use Rattle.lq_table.specs.Views.{Work}
use Rattle.lq_table.specs.Sees.{view}
use Rattle.lq_ring.specs.Work.{work_at, working, exchanged, reversed_to}
use Rattle.lq_ring.proofs.Works.{AreMembers, at_chain, turner_chain, chain, work_back, reversed_long, reversed_members, members_of, with_slots}
use Rattle.lq_ring.proofs.StepsThen.{turns_none, turns_then}
use Rattle.lq_ring.proofs.moves.reverse.Goals as goal

pub loop-k-init : goal.loop-k-init
loop-k-init g c = let t = c.requires.turner in record { seat = c.requires.seat; same = ((refl, refl), refl, refl, refl); view_is = sym (work_back c.args.band (view c.args.cpu.now) t.1.0 t.1.1 t.1.2); made = turns_none c.args.band c.args.cpu.now }

pub exchange-requires-clause-turner : goal.exchange-requires-clause-turner
exchange-requires-clause-turner g c _ _ = let b = c.args.band in let v = view c.args.cpu.now in let w : Work = work_at b v in turner_chain b (with_slots (reversed_to c.args.a c.args.b c.loop-k.k w.slots) w) v _ c.requires.turner c.loop-k.invariant.view_is

pub exchange-requires-clause-slots : goal.exchange-requires-clause-slots
exchange-requires-clause-slots g c _ _ =
    let b = c.args.band in let v = view c.args.cpu.now in let w : Work = work_at b v in let here = at_chain b (with_slots (reversed_to c.args.a c.args.b c.loop-k.k w.slots) w) v _ c.requires.turner c.loop-k.invariant.view_is in
    let p = c.requires.place in let p1 = p.1 in let p2 = p.2 in let long = c.requires.slots.0 in (
      ap (λ (z : Work). length z.slots) here ∙ (reversed_long c.args.a c.args.b c.loop-k.k w.slots ∙ long),
      subst (λ (z : Work). AreMembers (members_of z) z.slots) (sym here) (reversed_members (members_of w) w.slots c.args.a c.args.b c.loop-k.k (omega arith) (let q = c.loop-k-test.true in omega arith) c.requires.slots.1),
    )

pub loop-k-preserved : goal.loop-k-preserved
loop-k-preserved g c =
    let b = c.args.band in let v = view c.args.cpu.now in let w : Work = work_at b v in let k = c.loop-k.k in let i = c.loop-k.invariant in
    let e = chain b (λ (z : Work). with_slots (exchanged (c.args.a + k) (c.args.b - 1 - k) z.slots) z) (with_slots (reversed_to c.args.a c.args.b k w.slots) w) v _ _ c.requires.turner i.view_is c.exchange.ensures.stands.1 in record {
      seat = (search rules);
      same = (search rules);
      view_is = e ∙ ap (λ (n : ℕ). working b (with_slots (reversed_to c.args.a c.args.b n w.slots) w) v) (let q : suc k ≡ k + 1 = omega arith in q);
      made = turns_then b i.made c.exchange.ensures.makes;
    }
