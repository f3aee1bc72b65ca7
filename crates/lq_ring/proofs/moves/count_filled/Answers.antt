use Rattle.std.proofs.Common.{rules, ◌≡◌, ◌≢◌, arith, ℕ, get_or, sym, ap, ◌∙◌, ⊎_elim}
use Rattle.std.proofs.lemmas.Bool.{cases_eq}
use Rattle.lq_table.specs.Views.{View, Work}
use Rattle.lq_table.specs.Resizes.{is_member, out_of}
use Rattle.lq_table.specs.Sees.{view}
use Rattle.lq_ring.specs.Work.{work_at, working}
use Rattle.lq_ring.proofs.Works.{at_chain, turner_chain, single_back, same_again}
use Rattle.lq_ring.specs.StepLists.{MakesStepsFrom, TurnRing}
use Rattle.lq_ring.proofs.StepsThen.{turns_none, turns_out, turns_then}
use Rattle.lq_ring.proofs.moves.count_filled.Goals as goal

pub put_back-requires-clause-turner : goal.put_back-requires-clause-turner
put_back-requires-clause-turner g c _ _ =
    let b = c.args.band in let v = view c.args.cpu.now in let w : Work = work_at b v in let i = c.loop-i.i in
    turner_chain b (out_of i w) v _ c.requires.turner (c.take_out-x.ensures.stands.1 ∙ ap (λ (z : View). working b (out_of i (work_at b z)) z) c.loop-i.invariant.view_is)

pub put_back-requires-clause-hand : goal.put_back-requires-clause-hand
put_back-requires-clause-hand g c _ _ = λ some_.
    let b = c.args.band in let v = view c.args.cpu.now in let w : Work = work_at b v in let i = c.loop-i.i in let e0 = c.loop-i.invariant.view_is in
    let here : work_at b (view c.take_out-x.new.cpu) ≡ out_of i w = at_chain b (out_of i w) v _ c.requires.turner (c.take_out-x.ensures.stands.1 ∙ ap (λ (z : View). working b (out_of i (work_at b z)) z) e0) in
    let x_is : c.take_out-x.result ≡ get_or w.slots i 0 = c.take_out-x.ensures.makes.told.0.0 ∙ ap (λ (z : View). get_or (work_at b z).slots i 0) e0 in
    let long = c.requires.slots.0 in let p = c.requires.place.1 in
    let s = single_back i w c.take_out-x.result (let l = c.loop-i-test.true in omega arith) x_is (c.requires.slots.1 i) some_ in
    (w.hand, (ap (λ (z : Work). z.hand) here ∙ s.0), (ap (λ (z : Work). get_or z.slots i 0) here ∙ s.1), c.take_out-x.ensures.makes.told.0.1 (ap (λ (z : View). is_member c.take_out-x.result (work_at b z)) e0 ∙ s.2))

pub returns-then-x-eq0 : goal.returns-then-x-eq0
returns-then-x-eq0 g c = record {
  makes = let b = c.args.band in turns_then b (turns_then b c.loop-i.invariant.made (turns_out b c.take_out-x.ensures.makes)) c.put_back.ensures.makes;
  stands = (
    search rules,
    (let b = c.args.band in let v = view c.args.cpu.now in let i = c.loop-i.i in
        same_again b i v (view c.loop-i.cpu) (view c.take_out-x.new.cpu) (view c.put_back.new.cpu) c.take_out-x.result c.requires.turner c.loop-i.invariant.view_is c.take_out-x.ensures.stands.1 c.take_out-x.ensures.makes.told.0.0 c.put_back.ensures.stands.1 (c.requires.slots.1 i)),
  );
  filled = search rules;
}

pub loop-i-preserved : goal.loop-i-preserved
loop-i-preserved g c =
    let b = c.args.band in let v = view c.args.cpu.now in let i = c.loop-i.i in let e0 = c.loop-i.invariant.view_is in let old = c.loop-i.invariant.filled in
    let x_is : c.take_out-x.result ≡ get_or (work_at b v).slots i 0 = c.take_out-x.ensures.makes.told.0.0 ∙ ap (λ (z : View). get_or (work_at b z).slots i 0) e0 in
    let is : view c.put_back.new.cpu ≡ v = same_again b i v (view c.loop-i.cpu) (view c.take_out-x.new.cpu) (view c.put_back.new.cpu) c.take_out-x.result c.requires.turner e0 c.take_out-x.ensures.stands.1 c.take_out-x.ensures.makes.told.0.0 c.put_back.ensures.stands.1 (c.requires.slots.1 i) in
    let some_ = c.if-x-eq0.false in record {
      seat = (search rules);
      same = (search rules);
      view_is = is;
      filled = λ j h z. ⊎_elim (λ (e : j ≡ i). some_ (x_is ∙ (ap (λ (y : ℕ). get_or (work_at b v).slots y 0) (sym e) ∙ z))) (λ (n : j ≢ i). old j (omega arith) z) (cases_eq j i);
      made = turns_then b (turns_then b c.loop-i.invariant.made (turns_out b c.take_out-x.ensures.makes)) c.put_back.ensures.makes;
    }

pub loop-i-init : goal.loop-i-init
loop-i-init g c = let turned : MakesStepsFrom (λ s. TurnRing c.args.band) c.args.cpu.now c.args.cpu.now = turns_none c.args.band c.args.cpu.now in search rules
