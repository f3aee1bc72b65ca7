use Rattle.std.proofs.Common.{rules, ◌≡◌, ℕ, [], ◌∷◌, ◌++◌, Bool, false, true, sym, ap, ◌∙◌, Option, Some, None}
use Rattle.std.specs.Option.{option_map_or}
use Rattle.lq_qdisc.specs.declared.answers.Taken.TheVariants as taken
use Rattle.lq_table.proofs.StepsThen.{makes_then}
use Rattle.lq_ring.specs.StepLists.{MakesStepsFrom}
use Rattle.lq_table.specs.States.{some_bit}
use Rattle.lq_table.specs.Step.{ClearDraining, ClearMissed, LoadState, MakesSteps}
use Rattle.lq_table.specs.declared.shared.Cpu.{Cpu}
use Rattle.lq_qdisc.specs.StepLists.{FindsNothing, PfifoFastDequeue, ScanBands, ScansAgain, TakesAtOnce}
use Rattle.lq_qdisc.proofs.ListLemmas.{from_there}
use Rattle.lq_qdisc.specs.Calls.{cleared}
use Rattle.lq_table.specs.Sees.{view, Solo}
use Rattle.lq_qdisc.proofs.TakeLemmas.{finds_again, kept_then, serving_same, sole_kept}
use Rattle.lq_qdisc.proofs.takes.dequeue_bands.Goals as goal

-- the bands were found empty, and scanned once more after the clearing of both bits
again_makes : {D : Type 0} (b m l w a : Cpu D) (found : Option ℕ) (answer : Bool) → answer ≡ true → MakesStepsFrom (λ s. ScanBands s None) b m
    → ((state : ℕ) × (answer ≡ some_bit state) × MakesSteps (LoadState state ∷ []) m l) → MakesSteps (ClearMissed ∷ ClearDraining ∷ []) l w
    → MakesStepsFrom (λ s. ScanBands s found) w a → MakesStepsFrom (λ s. PfifoFastDequeue s (option_map_or (λ n. taken.Packet n) found taken.Empty)) b a
again_makes b m l w a found answer set n loads clears again =
    let state = loads.0 in let before : MakesSteps (n.0 ++ LoadState state ∷ ClearMissed ∷ ClearDraining ∷ []) b w = makes_then n.2 (makes_then loads.2 clears) in (
      n.0 ++ LoadState state ∷ ClearMissed ∷ ClearDraining ∷ again.0,
      ScansAgain state n.1 (sym loads.1 ∙ set) (from_there (λ s. ScanBands s found) before again.1),
      makes_then n.2 (makes_then (makes_then loads.2 clears) again.2),
    )

pub load_is_non_empty-requires-clause-at : goal.load_is_non_empty-requires-clause-at
load_is_non_empty-requires-clause-at g c κs within = c.in_default.ensures.at false c.requires.at

pub returns-in-Some : goal.returns-in-Some
returns-in-Some g c = record {
  kept = search rules;
  run = search rules;
  serving = search rules;
  at = c.in-Some.ensures.at false c.requires.at;
  fates = search rules;
  packet = search rules;
  came = search rules;
  makes = let n = c.in-Some.ensures.makes in (n.0, TakesAtOnce n.1, n.2);
}

pub returns-then-not-load_is_non_empty : goal.returns-then-not-load_is_non_empty
returns-then-not-load_is_non_empty g c = record {
  kept = kept_then c.scan.ensures.kept c.load_is_non_empty.ensures.loads.kept;
  run = search rules;
  serving = let m = c.load_is_non_empty.ensures.loads in
      serving_same c.scan.new.cpu c.load_is_non_empty.new.cpu m.station.1 m.station.0 m.same.0 m.kept.locks c.scan.ensures.serving;
  at = search rules;
  fates = search rules;
  packet = search rules;
  came = let m = c.load_is_non_empty.ensures.loads in let f = c.in_default.ensures.taken in record {
    holder = m.same.0 ∙ f.holder;
    sole = λ s. (f.sole s, c.load_is_non_empty.ensures.sole (sole_kept c.args.cpu.now c.scan.new.cpu c.scan.ensures.kept s) c.if-not-load_is_non_empty.true ∙ ap (λ (x : Solo). cleared x) f.step);
  };
  makes = let n = c.in_default.ensures.makes in let m = c.load_is_non_empty.ensures.loads.makes in
      (n.0 ++ LoadState m.0 ∷ [], FindsNothing m.0 n.1 (sym m.1 ∙ c.if-not-load_is_non_empty.true), makes_then n.2 m.2);
}

pub scan-requires-2-clause-serving : goal.scan-requires-2-clause-serving
scan-requires-2-clause-serving g c _ _ = let m = c.load_is_non_empty.ensures.loads in let n = c.clear_non_empty.ensures in
    serving_same c.scan.new.cpu c.clear_non_empty.new.cpu (n.station.1 ∙ m.station.1) (n.station.0 ∙ m.station.0) (n.same.0 ∙ m.same.0) (n.kept.locks ∙ m.kept.locks) c.scan.ensures.serving

pub returns-in-Some-scan : goal.returns-in-Some-scan
returns-in-Some-scan g c = record {
  kept = kept_then c.scan.ensures.kept (kept_then c.load_is_non_empty.ensures.loads.kept (kept_then c.clear_non_empty.ensures.kept c.scan-2.ensures.kept));
  run = search rules;
  serving = search rules;
  at = c.in-Some-scan.ensures.at true c.clear_non_empty.ensures.at;
  fates = search rules;
  packet = search rules;
  came = let m = c.load_is_non_empty.ensures.loads.same in let n = c.clear_non_empty.ensures.same in
      let kept = kept_then c.scan.ensures.kept (kept_then c.load_is_non_empty.ensures.loads.kept c.clear_non_empty.ensures.kept) in
      finds_again c.in-Some-scan.n (view c.args.cpu.now) (view c.scan.new.cpu) (view c.clear_non_empty.new.cpu) (view c.scan-2.new.cpu) kept.share kept.told (n.0 ∙ m.0) (n.1 ∙ m.1) c.in_default.ensures.taken c.in-Some-scan.ensures.taken;
  makes = again_makes c.args.cpu.now c.scan.new.cpu c.load_is_non_empty.new.cpu c.clear_non_empty.new.cpu c.scan-2.new.cpu (Some c.in-Some-scan.n) c.load_is_non_empty.result c.if-not-load_is_non_empty.false
      c.in_default.ensures.makes c.load_is_non_empty.ensures.loads.makes c.clear_non_empty.ensures.makes c.in-Some-scan.ensures.makes;
}

pub returns-in-None : goal.returns-in-None
returns-in-None g c = record {
  kept = kept_then c.scan.ensures.kept (kept_then c.load_is_non_empty.ensures.loads.kept (kept_then c.clear_non_empty.ensures.kept c.scan-2.ensures.kept));
  run = search rules;
  serving = search rules;
  at = c.in-None.ensures.at true c.clear_non_empty.ensures.at;
  fates = search rules;
  packet = search rules;
  came = let m = c.load_is_non_empty.ensures.loads.same in let n = c.clear_non_empty.ensures.same in let f = c.in_default.ensures.taken in let f' = c.in-None.ensures.taken in record {
    holder = f'.holder ∙ (n.0 ∙ (m.0 ∙ f.holder));
    sole = λ s. (f.sole s, f'.step ∙ (n.2 ∙ ap (λ (x : Solo). cleared x) (m.2 ∙ f.step)));
  };
  makes = again_makes c.args.cpu.now c.scan.new.cpu c.load_is_non_empty.new.cpu c.clear_non_empty.new.cpu c.scan-2.new.cpu None c.load_is_non_empty.result c.if-not-load_is_non_empty.false
      c.in_default.ensures.makes c.load_is_non_empty.ensures.loads.makes c.clear_non_empty.ensures.makes c.in-None.ensures.makes;
}
