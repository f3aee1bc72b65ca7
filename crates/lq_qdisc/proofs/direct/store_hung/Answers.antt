use Rattle.std.proofs.Common.{rules, ◌≡◌, ℕ, suc, ◌+◌, ◌<◌, true, refl, sym, ap, ◌∙◌, subst, List, ◌∷◌, arith}
use Rattle.lq_model.specs.Account.{Event, Stop}
use Rattle.lq_model.specs.declared.machine.Position.TheVariants.{StoreXoff}
use Rattle.lq_table.specs.Views.{View, HolderPart, Setup}
use Rattle.lq_table.specs.Sees.{view, position, Solo, heard, solo}
use Rattle.lq_table.proofs.StepsThen.{makes_then}
use Rattle.lq_table.specs.Step.{MakesSteps}
use Rattle.lq_qdisc.specs.Direct.{hung_below}
use Rattle.lq_qdisc.specs.StepLists.{hung_steps}
use Rattle.lq_qdisc.proofs.DirectLemmas.{hearing_hung, stored_at, stored_stays, stays_then, hung_leads, if_below, hung_more, hearing_more}
use Rattle.lq_qdisc.proofs.direct.store_hung.Goals as goal

pub store_xoff-requires-clause-at : goal.store_xoff-requires-clause-at
store_xoff-requires-clause-at g c κs within =
    let at_ = c.requires.at in let old = c.loop-queue.invariant in
    (true, at_.0, old.at at_.0 at_.1 ∙ if_below c.loop-queue.queue c.args.shared.now.queues _ _ (subst (λ (n : ℕ). c.loop-queue.queue < n) c.queues-queue-end.ensures c.loop-queue-test.true), refl, ap (λ (h : HolderPart). h.station.device.hung) old.stays.holder ∙ c.requires.hung)

pub loop-queue-preserved : goal.loop-queue-preserved
loop-queue-preserved g c =
    let at_ = c.requires.at in let old = c.loop-queue.invariant in let q = c.loop-queue.queue in let v : View = view c.loop-queue.cpu in let w : View = view c.store_xoff.new.cpu in
    let here : position c.loop-queue.cpu ≡ StoreXoff q true at_.0 = old.at at_.0 at_.1 ∙ if_below q c.args.shared.now.queues _ _ (subst (λ (n : ℕ). c.loop-queue.queue < n) c.queues-queue-end.ensures c.loop-queue-test.true) in
    let is = stored_at v w q true at_.0 here c.store_xoff.ensures.makes.knows in
    let stays = stored_stays v w q true at_.0 is in record {
      seat = (c.store_xoff.ensures.makes.seat.0 ∙ old.seat.0, subst (λ (n : ℕ). 0 < n) (sym (ap (λ s. s.shares) stays.share)) old.seat.1, ap (λ s. s.about) stays.share ∙ old.seat.2);
      same = ((c.store_xoff.ensures.makes.seat.0 ∙ old.same.0.0, c.store_xoff.ensures.makes.seat.1 ∙ old.same.0.1), c.store_xoff.ensures.makes.carries ∙ old.same.1, c.store_xoff.ensures.makes.places ∙ old.same.2, c.store_xoff.ensures.makes.has ∙ old.same.3);
      at = λ direct from. hung_leads v w q c.args.shared.now.queues direct (ap (λ (k : Setup). k.queues) old.seat.2)
          (stored_at v w q true direct (old.at direct from ∙ if_below q c.args.shared.now.queues _ _ (subst (λ (n : ℕ). c.loop-queue.queue < n) c.queues-queue-end.ensures c.loop-queue-test.true)) c.store_xoff.ensures.makes.knows);
      stays = stays_then (view c.args.cpu.now) v w old.stays stays;
      heard = ap (λ (x : View). x.whole.state.past) is ∙ (ap (λ (past : List Event). Stop q 2 ∷ past) old.heard ∙ hung_more q _);
      step = ap solo c.store_xoff.ensures.makes.knows ∙ (c.store_xoff.ensures.makes.told.0 ∙ (ap (λ (s : Solo). heard (Stop q 2) s) old.step ∙ hearing_more q _));
      makes = let one : suc q ≡ q + 1 = omega arith in subst (λ (n : ℕ). MakesSteps (hung_steps n) c.args.cpu.now c.store_xoff.new.cpu) one (makes_then old.makes c.store_xoff.ensures.makes);
    }

pub returns : goal.returns
returns g c = record {
  same = search rules;
  at = search rules;
  stays = search rules;
  past = let all : c.loop-queue.queue ≡ c.args.shared.now.queues = omega arith in
      c.loop-queue.invariant.heard ∙ ap (λ (n : ℕ). hung_below n (view c.args.cpu.now).whole.state.past) all;
  step = let all : c.loop-queue.queue ≡ c.args.shared.now.queues = omega arith in
      c.loop-queue.invariant.step ∙ ap (λ (n : ℕ). hearing_hung n (solo (view c.args.cpu.now))) all;
  makes = let all : c.loop-queue.queue ≡ c.args.shared.now.queues = omega arith in
      subst (λ (n : ℕ). MakesSteps (hung_steps n) c.args.cpu.now c.loop-queue.cpu) all c.loop-queue.invariant.makes;
}
