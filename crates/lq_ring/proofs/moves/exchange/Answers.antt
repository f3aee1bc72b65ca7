use Rattle.std.proofs.Common.{rules, ◌≡◌, ◌≢◌, ℕ, arith, set, get_or, true, ap, ◌∙◌}
use Rattle.lq_table.specs.Views.{Work}
use Rattle.lq_table.specs.Resizes.{is_member, out_of}
use Rattle.lq_table.specs.Sees.{view}
use Rattle.lq_ring.specs.Work.{work_at, working, back_in}
use Rattle.lq_ring.proofs.Works.{at_chain, turner_chain, chain, zero_or, hand_before, first_back, second_back, exchange_is}
use Rattle.lq_ring.proofs.StepsThen.{turns_out, turns_then}
use Rattle.lq_ring.proofs.moves.exchange.Goals as goal

pub take_out-y-requires-clause-turner : goal.take_out-y-requires-clause-turner
take_out-y-requires-clause-turner g c _ _ = let b = c.args.band in let v = view c.args.cpu.now in turner_chain b (out_of c.args.i (work_at b v)) v _ c.requires.turner c.take_out-x.ensures.stands.1

pub put_back-requires-clause-turner : goal.put_back-requires-clause-turner
put_back-requires-clause-turner g c _ _ = let b = c.args.band in let t = c.requires.turner in
    let v = view c.args.cpu.now in let w1 : Work = out_of c.args.i (work_at b v) in
    turner_chain b (out_of c.args.j w1) v _ t (chain b (out_of c.args.j) w1 v _ _ t c.take_out-x.ensures.stands.1 c.take_out-y.ensures.stands.1)

pub put_back-requires-clause-hand : goal.put_back-requires-clause-hand
put_back-requires-clause-hand g c _ _ = λ some_.
    let b = c.args.band in let i = c.args.i in let j = c.args.j in let t = c.requires.turner in let v = view c.args.cpu.now in let w : Work = work_at b v in
    let apart : i ≢ j = λ e. (let l = c.requires.place.1 in omega arith) in
    let e1 = c.take_out-x.ensures.stands.1 in let e2 = chain b (out_of j) (out_of i w) v _ _ t e1 c.take_out-y.ensures.stands.1 in
    let at1 : work_at b (view c.take_out-x.new.cpu) ≡ out_of i w = at_chain b (out_of i w) v _ t e1 in let at2 : work_at b (view c.take_out-y.new.cpu) ≡ out_of j (out_of i w) = at_chain b (out_of j (out_of i w)) v _ t e2 in
    let y_is : c.take_out-y.result ≡ get_or (set w.slots i 0) j 0 = c.take_out-y.ensures.makes.told.0.0 ∙ ap (λ (z : Work). get_or z.slots j 0) at1 in
    let long = c.requires.slots.0 in
    let both = first_back i j w c.take_out-y.result apart (let l = c.requires.place in let l1 = l.1 in let l2 = l.2 in omega arith) y_is (c.requires.slots.1 j) some_ in
    let here : c.take_out-y.result ≡ get_or w.slots j 0 = y_is ∙ hand_before i j w apart in
    let member : is_member c.take_out-y.result (work_at b (view c.take_out-x.new.cpu)) ≡ true = (λ a. is_member (here a) (at1 a)) ∙ zero_or (get_or w.slots j 0) w (λ z. some_ (here ∙ z)) (c.requires.slots.1 j) in
    ((out_of i w).hand, (ap (λ (z : Work). z.hand) at2 ∙ both.0), (ap (λ (z : Work). get_or z.slots i 0) at2 ∙ both.1), c.take_out-y.ensures.makes.told.0.1 member)

pub put_back-requires-2-clause-turner : goal.put_back-requires-2-clause-turner
put_back-requires-2-clause-turner g c _ _ = let b = c.args.band in let t = c.requires.turner in
    let v = view c.args.cpu.now in let w1 : Work = out_of c.args.i (work_at b v) in let w2 : Work = out_of c.args.j w1 in
    turner_chain b (back_in c.args.i c.take_out-y.result w2) v _ t (chain b (back_in c.args.i c.take_out-y.result) w2 v _ _ t (chain b (out_of c.args.j) w1 v _ _ t c.take_out-x.ensures.stands.1 c.take_out-y.ensures.stands.1) c.put_back.ensures.stands.1)

pub put_back-requires-2-clause-hand : goal.put_back-requires-2-clause-hand
put_back-requires-2-clause-hand g c _ _ = λ some_.
    let b = c.args.band in let i = c.args.i in let j = c.args.j in let t = c.requires.turner in let v = view c.args.cpu.now in let w : Work = work_at b v in
    let apart : i ≢ j = λ e. (let l = c.requires.place.1 in omega arith) in
    let e1 = c.take_out-x.ensures.stands.1 in let e2 = chain b (out_of j) (out_of i w) v _ _ t e1 c.take_out-y.ensures.stands.1 in
    let e3 = chain b (back_in i c.take_out-y.result) (out_of j (out_of i w)) v _ _ t e2 c.put_back.ensures.stands.1 in
    let at1 : work_at b (view c.take_out-x.new.cpu) ≡ out_of i w = at_chain b (out_of i w) v _ t e1 in let at3 = at_chain b (back_in i c.take_out-y.result (out_of j (out_of i w))) v _ t e3 in
    let y_is : c.take_out-y.result ≡ get_or (set w.slots i 0) j 0 = c.take_out-y.ensures.makes.told.0.0 ∙ ap (λ (z : Work). get_or z.slots j 0) at1 in
    let long = c.requires.slots.0 in
    let x_is : c.take_out-x.result ≡ get_or w.slots i 0 = c.take_out-x.ensures.makes.told.0.0 in
    let both = second_back i j w c.take_out-x.result c.take_out-y.result apart (let l = c.requires.place in let l2 = l.2 in omega arith) x_is y_is (c.requires.slots.1 i) (c.requires.slots.1 j) some_ in
    let member : is_member c.take_out-x.result w ≡ true = ap (λ (z : ℕ). is_member z w) x_is ∙ zero_or (get_or w.slots i 0) w (λ z. some_ (x_is ∙ z)) (c.requires.slots.1 i) in
    (w.hand, (ap (λ (z : Work). z.hand) at3 ∙ both.0), (ap (λ (z : Work). get_or z.slots j 0) at3 ∙ both.1), c.take_out-x.ensures.makes.told.0.1 member)

pub returns : goal.returns
returns g c = record {
  makes = let b = c.args.band in turns_then b (turns_then b (turns_then b (turns_out b c.take_out-x.ensures.makes) (turns_out b c.take_out-y.ensures.makes)) c.put_back.ensures.makes) c.put_back-2.ensures.makes;
  stands = (
    search rules,
    let b = c.args.band in let i = c.args.i in let j = c.args.j in let t = c.requires.turner in let v = view c.args.cpu.now in let w : Work = work_at b v in
        let apart : i ≢ j = λ e. (let l = c.requires.place.1 in omega arith) in
        let e1 = c.take_out-x.ensures.stands.1 in let e2 = chain b (out_of j) (out_of i w) v _ _ t e1 c.take_out-y.ensures.stands.1 in
        let e3 = chain b (back_in i c.take_out-y.result) (out_of j (out_of i w)) v _ _ t e2 c.put_back.ensures.stands.1 in let e4 = chain b (back_in j c.take_out-x.result) (back_in i c.take_out-y.result (out_of j (out_of i w))) v _ _ t e3 c.put_back-2.ensures.stands.1 in
        let at1 : work_at b (view c.take_out-x.new.cpu) ≡ out_of i w = at_chain b (out_of i w) v _ t e1 in
        let y_is : c.take_out-y.result ≡ get_or (set w.slots i 0) j 0 = c.take_out-y.ensures.makes.told.0.0 ∙ ap (λ (z : Work). get_or z.slots j 0) at1 in
        e4 ∙ ap (λ (z : Work). working b z v) (exchange_is i j w c.take_out-x.result c.take_out-y.result apart c.take_out-x.ensures.makes.told.0.0 y_is (c.requires.slots.1 i) (c.requires.slots.1 j)),
  );
}
