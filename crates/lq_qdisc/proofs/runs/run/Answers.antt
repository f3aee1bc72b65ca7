use Rattle.std.proofs.Common.{rules, ◌≡◌, ℕ, ◌+◌, true, [], ◌∷◌, ◌++◌, ap, sym, ◌∙◌, subst, arith, add-zero, Option, Some, None, refl}
use Rattle.std.specs.Prelude.{is_none, if◌then◌else◌}
use Rattle.lq_ring.proofs.StepsThen.{makes_none, makes_then}
use Rattle.lq_ring.specs.StepLists.{MakesStepsFrom}
use Rattle.lq_table.specs.Moves.{pass_view}
use Rattle.lq_table.specs.States.{missed_to}
use Rattle.lq_table.specs.Step.{SetMissed, standing, steps_leave}
use Rattle.lq_model.specs.declared.state.TheConstants.{QUOTA}
use Rattle.lq_table.specs.Sees.{view, setup, solo}
use Rattle.lq_table.specs.Moves.{IsKnownSlot}
use Rattle.lq_table.specs.Views.{View}
use Rattle.lq_qdisc.specs.StepLists.{EndsEarly, ReachesQuota, Restart, QdiscRunLocked, SendEach, SentMore, SentNone}
use Rattle.lq_qdisc.proofs.ListLemmas.{from_there}
use Rattle.lq_qdisc.proofs.ViewRelations.{Runs}
use Rattle.lq_qdisc.proofs.ViewLemmas.{runs_view}
use Rattle.lq_qdisc.proofs.TakeLemmas.{carries_slot, kept_moved, kept_then, seat_in, serving_same}
use Rattle.lq_qdisc.proofs.RunLemmas.{count, fates_then, laid_at_quota, over_at_quota, set_at_quota}
use Rattle.lq_qdisc.specs.declared.answers.Ran.{Ran}
use Rattle.lq_qdisc.specs.declared.answers.RunEnd.TheVariants.{Quota}
use Rattle.lq_qdisc.proofs.AloneSteps.{accounts_slot, runs_alone}
use Rattle.lq_qdisc.proofs.runs.run.Goals as goal

pub loop-sent-preserved : goal.loop-sent-preserved
loop-sent-preserved g c =
    let old = c.loop-sent.invariant in let s = c.loop-sent.sent in let m = c.loop-sent.cpu in let a = c.restart.new.cpu in let more = c.restart.ensures.run c.in_default.is in record {
      seat = seat_in c.args.shared.now m a c.restart.ensures.kept old.seat;
      kept = kept_then old.kept c.restart.ensures.kept;
      serving = c.restart.ensures.serving;
      at = c.in_default.ensures.at;
      run = more.0 ∙ ap (λ (k : ℕ). k + 1) old.run;
      hand = more.1;
      slot = subst (λ (o : Option ℕ). IsKnownSlot (setup c.args.shared.now) o) (sym more.2) tt;
      trail = c.restart.ensures.trail ∙ old.trail;
      fates = fates_then (view c.args.cpu.now) (view m) (view a) old.fates c.restart.ensures.fates;
      makes = let more_ = c.in_default.ensures.makes in (old.makes.0 ++ more_.0, SentMore old.makes.1 (from_there (λ z. Restart (setup c.args.shared.now) z None) old.makes.2 more_.1), makes_then old.makes.2 more_.2);
      accepted = (let e : count (view a) ≡ count (view m) + 1 = c.in_default.ensures.accepted in let f : count (view m) ≡ count (view c.args.cpu.now) + s = old.accepted in omega arith);
    }

pub loop-sent-init : goal.loop-sent-init
loop-sent-init g c =
    let sent_ : MakesStepsFrom (λ s. SendEach (setup c.args.shared.now) s 0) c.args.cpu.now c.args.cpu.now = ([], SentNone, makes_none c.args.cpu.now) in record {
      seat = search rules;
      kept = search rules;
      serving = search rules;
      at = search rules;
      run = search rules;
      hand = search rules;
      slot = search rules;
      trail = search rules;
      fates = search rules;
      makes = sent_;
      accepted = search rules;
    }

pub returns-in-Some : goal.returns-in-Some
returns-in-Some g c =
    let old = c.loop-sent.invariant in let k = setup c.args.shared.now in let ran : Ran = record { end = c.in-Some.end; sent = c.loop-sent.sent } in let last = c.in-Some.ensures.makes in
    let makes_ : MakesStepsFrom (λ s. QdiscRunLocked k s ran) c.args.cpu.now c.restart.new.cpu =
    (old.makes.0 ++ last.0, EndsEarly c.loop-sent-test.true old.makes.1 (from_there (λ z. Restart k z (Some c.in-Some.end)) old.makes.2 last.1), makes_then old.makes.2 last.2) in record {
      kept = search rules;
      serving = search rules;
      at = search rules;
      trail = search rules;
      fates = fates_then (view c.args.cpu.now) (view c.loop-sent.cpu) (view c.restart.new.cpu) c.loop-sent.invariant.fates c.restart.ensures.fates;
      makes = makes_;
      accepted =
          c.restart.ensures.accepted ∙ (ap (λ r. count (view c.loop-sent.cpu) + (if is_none r then 1 else 0)) c.in-Some.is ∙ (add-zero _ ∙ c.loop-sent.invariant.accepted));
      alone = λ knows sender active.
          runs_alone k c.args.shared.now.infos.now (view c.args.cpu.now) c.requires.seat.2 sender active (λ other. accounts_slot (view c.args.cpu.now) (knows other)) ran (view c.restart.new.cpu)
          (subst (λ (v : View). Runs k.infos ran (view c.args.cpu.now) v) (sym makes_.2.knows) (runs_view makes_.1));
    }

pub returns : goal.returns
returns g c =
    let old = c.loop-sent.invariant in let set = c.set_missed.ensures in let k = setup c.args.shared.now in let b = c.args.cpu.now in let m = c.loop-sent.cpu in let ran : Ran = record { end = Quota; sent = QUOTA } in
    let all : c.loop-sent.sent ≡ QUOTA = omega arith in let steps_ = makes_then old.makes.2 set.makes.1 in
    let before : view m ≡ (steps_leave old.makes.0 (standing b)).view = old.makes.2.knows in
    let makes_ : MakesStepsFrom (λ s. QdiscRunLocked k s ran) b c.set_missed.new.cpu = (
      old.makes.0 ++ SetMissed set.makes.0 ∷ [],
      ReachesQuota set.makes.0 (subst (λ (n : ℕ). SendEach k (standing b) n old.makes.0) all old.makes.1)
          (sym steps_.knows ∙ (set.makes.1.knows ∙ (set_at_quota (view m) old.at (old.run ∙ all) ∙ ap (λ (v : View). pass_view v) before)))
          (ap solo (sym steps_.knows) ∙ (ap solo set.makes.1.knows ∙ set.makes.1.told.0 ∙ (laid_at_quota (view m) _ old.at (old.run ∙ all) ∙ ap (λ (v : View). missed_to true (solo v)) before))),
      steps_,
    ) in record {
      kept =
          let e = over_at_quota (view c.loop-sent.cpu) (view c.set_missed.new.cpu) set.makes.1.knows old.at (old.run ∙ all) in
          kept_then old.kept (kept_moved c.loop-sent.cpu c.set_missed.new.cpu _ _ _ _ set.makes.1.seat set.makes.1.places e refl);
      serving =
          let e = over_at_quota (view c.loop-sent.cpu) (view c.set_missed.new.cpu) set.makes.1.knows old.at (old.run ∙ all) in
          serving_same c.loop-sent.cpu c.set_missed.new.cpu set.makes.1.has set.makes.1.carries (ap (λ (v : View). v.holder) e) (ap (λ (v : View). v.locks) e) old.serving;
      at = ap (λ (v : View). v.place.position) (over_at_quota (view c.loop-sent.cpu) (view c.set_missed.new.cpu) c.set_missed.ensures.makes.1.knows old.at (old.run ∙ all));
      trail = search rules;
      fates = search rules;
      makes = makes_;
      accepted = search rules;
      alone = λ knows sender active.
          runs_alone k c.args.shared.now.infos.now (view b) c.requires.seat.2 sender active (λ other. accounts_slot (view b) (knows other)) ran (view c.set_missed.new.cpu)
          (subst (λ (v : View). Runs k.infos ran (view b) v) (sym makes_.2.knows) (runs_view makes_.1));
    }

pub set_missed-requires-clause-slot : goal.set_missed-requires-clause-slot
set_missed-requires-clause-slot g c _ _ = carries_slot c.loop-sent.cpu c.loop-sent.invariant.serving
