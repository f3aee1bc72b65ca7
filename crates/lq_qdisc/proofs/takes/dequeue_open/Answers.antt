use Rattle.std.proofs.Common.{◌≡◌, ℕ, [], ◌∷◌, Option, None, refl, sym, rules, ap, ◌∙◌, subst, arith}
use Rattle.std.specs.Option.{option_map_or}
use Rattle.lq_model.specs.Plan.{queue_in}
use Rattle.lq_model.specs.Positions.{holds_lock}
use Rattle.lq_table.specs.Views.{Setup, View}
use Rattle.lq_table.specs.Sees.{view, setup}
use Rattle.lq_qdisc.specs.Calls.{FindsStopped, laid_aside}
use Rattle.lq_qdisc.proofs.TakeLemmas.{carries_slot, carries_still, finds_stopped, kept_moved, kept_then, looks_dequeue, looks_from, open_for, opened_at_dequeue, serving_same, stop_is, stopped_at_dequeue}
use Rattle.lq_table.proofs.StepsThen.{makes_then}
use Rattle.lq_table.specs.Step.{LoadXoff, MakesSteps}
use Rattle.lq_qdisc.specs.StepLists.{FindsClosed, FindsOpen, FindsStop, PfifoFastDequeue}
use Rattle.lq_qdisc.proofs.ListLemmas.{from_there}
use Rattle.lq_model.specs.declared.machine.Blocked.TheVariants.{NoneTaken}
use Rattle.lq_qdisc.proofs.takes.dequeue_open.Goals as goal

pub maybe_clear_missed-requires-clause-at : goal.maybe_clear_missed-requires-clause-at
maybe_clear_missed-requires-clause-at g c κs within = (NoneTaken 0, search rules, refl)

pub dequeue_bands-requires-clause-serving : goal.dequeue_bands-requires-clause-serving
dequeue_bands-requires-clause-serving g c _ _ =
    let l = c.load_xoff.ensures in
    let e = opened_at_dequeue c.load_xoff.result None (view c.args.cpu.now) (view c.load_xoff.new.cpu) l.makes.knows c.requires.at c.requires.empty c.if-load_xoff-ne0.false in
    serving_same c.args.cpu.now c.load_xoff.new.cpu l.makes.has l.makes.carries (ap (λ (v : View). v.holder) e) (ap (λ (v : View). v.locks) e) c.requires.serving

pub returns : goal.returns
returns g c = record {
  kept =
      let l = c.load_xoff.ensures in
      kept_then (kept_moved c.args.cpu.now c.load_xoff.new.cpu _ _ _ _ l.makes.seat l.makes.places (opened_at_dequeue c.load_xoff.result None (view c.args.cpu.now) (view c.load_xoff.new.cpu) l.makes.knows c.requires.at c.requires.empty c.if-load_xoff-ne0.false) refl) c.dequeue_bands.ensures.kept;
  run = search rules;
  serving = search rules;
  at = search rules;
  fates = search rules;
  packet = search rules;
  came = (
    (
        let v = view c.args.cpu.now in let m = view c.load_xoff.new.cpu in let w = view c.dequeue_bands.new.cpu in
        let e = opened_at_dequeue c.load_xoff.result None v m c.load_xoff.ensures.makes.knows c.requires.at c.requires.empty c.if-load_xoff-ne0.false in
        looks_dequeue c.args.shared.now.infos.now c.dequeue_bands.result v w c.requires.empty (looks_from c.dequeue_bands.result _ v m w e c.dequeue_bands.ensures.came)
        ),
    (
        λ one alone.
        let s = c.load_xoff.ensures.makes.told.0.3 in let holds = ap holds_lock c.requires.at in
        let stop = sym (stop_is 0 c.load_xoff.result (view c.args.cpu.now) s alone holds c.requires.serving.3) ∙ c.if-load_xoff-ne0.false in
        (s.1 alone holds, s.2 alone holds, open_for c.dequeue_bands.result _ (view c.load_xoff.new.cpu) (view c.dequeue_bands.new.cpu) c.dequeue_bands.ensures.came stop)
        ),
    search rules,
  );
  makes =
      let k = setup c.args.shared.now in let most = c.requires.one in let some_ = c.args.shared.now.sized.4 in let answer = c.dequeue_bands.result in
      let one : k.queues ≡ 1 = omega arith in let m = c.dequeue_bands.ensures.makes in
      let loads = subst (λ (found : ℕ). MakesSteps (LoadXoff 0 found ∷ []) c.args.cpu.now c.load_xoff.new.cpu) c.if-load_xoff-ne0.false c.load_xoff.ensures.makes in
      (LoadXoff 0 0 ∷ m.0, FindsOpen c.requires.empty one (from_there (λ s. PfifoFastDequeue s answer) loads m.1), makes_then loads m.2);
}

pub returns-then-load_xoff-ne0 : goal.returns-then-load_xoff-ne0
returns-then-load_xoff-ne0 g c = record {
  kept =
      let l = c.load_xoff.ensures in
      kept_then (kept_moved c.args.cpu.now c.load_xoff.new.cpu _ _ _ _ l.makes.seat l.makes.places (stopped_at_dequeue c.load_xoff.result None (view c.args.cpu.now) (view c.load_xoff.new.cpu) l.makes.knows c.requires.at c.requires.empty c.if-load_xoff-ne0.true) refl) c.maybe_clear_missed.ensures.kept;
  run = search rules;
  serving =
      let l = c.load_xoff.ensures in let m = c.maybe_clear_missed.ensures in
      let e = stopped_at_dequeue c.load_xoff.result None (view c.args.cpu.now) (view c.load_xoff.new.cpu) l.makes.knows c.requires.at c.requires.empty c.if-load_xoff-ne0.true in
      serving_same c.args.cpu.now c.maybe_clear_missed.new.cpu (m.station.1 ∙ l.makes.has) (m.station.0 ∙ l.makes.carries) (m.holder ∙ ap (λ (v : View). laid_aside v.place.position v.holder) e) (m.kept.locks ∙ ap (λ (v : View). v.locks) e) c.requires.serving;
  at = search rules;
  fates = search rules;
  packet = search rules;
  came = (
    (
        let v = view c.args.cpu.now in let m = view c.load_xoff.new.cpu in let w = view c.maybe_clear_missed.new.cpu in let x = c.load_xoff.result in let l = c.load_xoff.ensures in let n = c.maybe_clear_missed.ensures in
        let e = stopped_at_dequeue x None v m l.makes.knows c.requires.at c.requires.empty c.if-load_xoff-ne0.true in
        let most = c.requires.one in let queues = ap (λ (k : Setup). k.queues) c.requires.seat.2 in (
          λ more. absurd (omega arith),
          subst (λ (o : Option ℕ). FindsStopped (option_map_or (queue_in c.args.shared.now.infos.now) o 0) v w) (sym c.requires.empty)
              (finds_stopped 0 x _ v m w c.if-load_xoff-ne0.true e n.holder n.sole (λ alone. stop_is 0 x v l.makes.told.0.3 alone (ap holds_lock c.requires.at) c.requires.serving.3)),
        )
        ),
    (
        λ one alone.
        let s = c.load_xoff.ensures.makes.told.0.3 in let holds = ap holds_lock c.requires.at in
        (s.1 alone holds, s.2 alone holds, λ open_. c.if-load_xoff-ne0.true (stop_is 0 c.load_xoff.result (view c.args.cpu.now) s alone holds c.requires.serving.3 ∙ open_))
        ),
    search rules,
  );
  makes =
      let m = c.maybe_clear_missed.ensures.makes in let most = c.requires.one in let some_ = c.args.shared.now.sized.4 in
      let one : c.args.shared.now.queues ≡ 1 = omega arith in
      (LoadXoff 0 c.load_xoff.result ∷ m.0, FindsClosed c.requires.empty one (FindsStop c.if-load_xoff-ne0.true m.1), makes_then c.load_xoff.ensures.makes m.2);
}

pub load_xoff-requires-clause-slot : goal.load_xoff-requires-clause-slot
load_xoff-requires-clause-slot g c _ _ = carries_slot c.args.cpu.now c.requires.serving

pub maybe_clear_missed-requires-clause-slot : goal.maybe_clear_missed-requires-clause-slot
maybe_clear_missed-requires-clause-slot g c κs within =
    let l = c.load_xoff.ensures in
    let e = stopped_at_dequeue c.load_xoff.result None (view c.args.cpu.now) (view c.load_xoff.new.cpu) l.makes.knows c.requires.at c.requires.empty c.if-load_xoff-ne0.true in
    carries_still c.args.cpu.now c.load_xoff.new.cpu l.makes.carries (ap (λ (v : View). v.holder.slot) e) (carries_slot c.args.cpu.now c.requires.serving)
