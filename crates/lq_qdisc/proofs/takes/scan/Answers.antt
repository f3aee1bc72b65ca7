use Rattle.std.proofs.Common.{rules, ◌≡◌, arith, ℕ, ◌<◌, sym, ap, ◌∙◌, subst, List, [], ◌∷◌, ◌++◌, Some, None}
use Rattle.std.specs.Prelude.{slice_get}
use Rattle.lq_model.specs.Account.{Account, Event, Empty, held_in}
use Rattle.lq_table.specs.Views.{View, Setup}
use Rattle.lq_table.specs.Moves.{IsPacketOf}
use Rattle.lq_table.specs.Sees.{view, account_of}
use Rattle.lq_table.specs.Step.{standing}
use Rattle.lq_ring.proofs.StepsThen.{makes_none, makes_then}
use Rattle.lq_ring.specs.StepLists.{Consume, MakesStepsFrom}
use Rattle.lq_qdisc.specs.StepLists.{AllEmpty, EmptyBelow, NextBand, NoBand, TakesFrom}
use Rattle.lq_qdisc.proofs.ListLemmas.{from_there}
use Rattle.lq_qdisc.proofs.TakeLemmas.{none_more, empty_more, looking_here, lead_more, account_same, kept_then, kept_none, kept_take, run_none, run_take, sole_kept}
use Rattle.lq_qdisc.proofs.takes.scan.Goals as goal

pub consume-requires-clause-at : goal.consume-requires-clause-at
consume-requires-clause-at g c κs within =
    let at_ = c.requires.at in
    (at_.0, c.loop-band.invariant.at at_.0 at_.1 ∙ looking_here c.loop-band.band at_.0 c.loop-band-test.true)

pub loop-band-init : goal.loop-band-init
loop-band-init g c = let below : MakesStepsFrom (λ s. EmptyBelow s 0) c.args.cpu.now c.args.cpu.now = ([], NoBand, makes_none c.args.cpu.now) in search rules

pub loop-band-preserved : goal.loop-band-preserved
loop-band-preserved g c =
    let at_ = c.requires.at in let old = c.loop-band.invariant in let b = c.loop-band.band in let m = c.loop-band.cpu in let a = c.consume.new.cpu in
    let is = c.in_default.ensures.knows in
    let here = old.at at_.0 at_.1 ∙ looking_here b at_.0 c.loop-band-test.true in
    let kept = kept_none b at_.0 m a here c.consume.ensures.same.0 c.consume.ensures.same.1 is in
    let kept_all = kept_then old.kept kept in
    let holder = ap (λ (x : View). x.holder) is in record {
      seat = (kept.seat.0 ∙ old.seat.0, subst (λ (s : ℕ). 0 < s) (sym (ap (λ s. s.shares) kept.share)) old.seat.1, ap (λ s. s.about) kept.share ∙ old.seat.2);
      kept = kept_all;
      run = run_none b at_.0 m a here is ∙ old.run;
      serving = ((c.consume.ensures.same.2 ∙ old.serving.0.0, c.consume.ensures.station), (c.consume.ensures.rests, ap (λ h. h.resizing) holder ∙ old.serving.1.1), kept.locks ∙ old.serving.2, ap (λ h. h.shut) holder ∙ old.serving.3);
      settled = (ap (λ (x : View). x.settled) is ∙ old.settled.0, ap (λ (x : View). x.trail) is ∙ old.settled.1);
      at = λ second from. c.in_default.ensures.at second (old.at second from ∙ looking_here b second c.loop-band-test.true) ∙ lead_more b second c.loop-band-test.true;
      past = ap (λ (x : View). x.whole.state.past) is ∙ (ap (λ (past : List Event). Empty b ∷ past) old.past ∙ empty_more b _);
      holder = holder ∙ old.holder;
      step = c.in_default.ensures.step ∙ old.step;
      sole = λ alone. let same = account_same b (view c.args.cpu.now) (view m) old.kept.share old.past in
          none_more (account_of (view c.args.cpu.now)) b (old.sole alone)
          (ap (λ (x : Account). slice_get (held_in x b) 0) (sym same) ∙ (c.consume.ensures.sole (sole_kept c.args.cpu.now m old.kept alone) ∙ c.in_default.is));
      makes = let found = c.in_default.ensures.makes in let below = old.makes in (below.0 ++ found.0, NextBand below.1 (from_there (λ s. Consume b s None) below.2 found.1), makes_then below.2 found.2);
    }

pub returns-in-Some : goal.returns-in-Some
returns-in-Some g c = record {
  kept =
      let at_ = c.requires.at in let here = c.loop-band.invariant.at at_.0 at_.1 ∙ looking_here c.loop-band.band at_.0 c.loop-band-test.true in
      kept_then c.loop-band.invariant.kept (kept_take c.loop-band.band c.in-Some.n at_.0 c.loop-band.cpu c.consume.new.cpu here c.consume.ensures.same.0 c.consume.ensures.same.1 c.in-Some.ensures.knows);
  run =
      let at_ = c.requires.at in let here = c.loop-band.invariant.at at_.0 at_.1 ∙ looking_here c.loop-band.band at_.0 c.loop-band-test.true in
      run_take c.loop-band.band c.in-Some.n at_.0 c.loop-band.cpu c.consume.new.cpu here c.in-Some.ensures.knows ∙ c.loop-band.invariant.run;
  serving = search rules;
  at = search rules;
  fates = search rules;
  taken = search rules;
  packet = subst (λ (k : Setup). IsPacketOf k c.in-Some.n) c.loop-band.invariant.seat.2 c.in-Some.ensures.packet;
  makes = let found = c.in-Some.ensures.makes in let below = c.loop-band.invariant.makes in
      (below.0 ++ found.0, TakesFrom below.1 (from_there (λ s. Consume c.loop-band.band s (Some c.in-Some.n)) below.2 found.1), makes_then below.2 found.2);
}

pub returns : goal.returns
returns g c = record {
  kept = search rules;
  run = search rules;
  serving = search rules;
  at = search rules;
  fates = search rules;
  taken = search rules;
  packet = search rules;
  makes = let three : c.loop-band.band ≡ 3 = omega arith in let below = c.loop-band.invariant.makes in
      (below.0, AllEmpty (subst (λ (n : ℕ). EmptyBelow (standing c.args.cpu.now) n below.0) three below.1), below.2);
}
