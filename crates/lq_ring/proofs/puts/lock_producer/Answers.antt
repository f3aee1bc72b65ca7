use Rattle.std.proofs.Common.{rules, ◌≡◌, ℕ, ◌<◌, ◌/◌, Bool, false, true, [], ◌∷◌, ◌++◌, refl, ap, ◌∙◌, sym, subst}
use Rattle.lq_band_laws.specs.Three.{at}
use Rattle.lq_band_laws.specs.Ring.{locked_at}
use Rattle.lq_band_laws.proofs.Three.{at_put_same}
use Rattle.lq_table.specs.Producers.{with_lock_at}
use Rattle.lq_table.specs.Sees.{view}
use Rattle.lq_table.specs.Views.{Setup, View}
use Rattle.lq_table.specs.Step.{LoadProducer, MakesSteps, TakeProducer}
use Rattle.lq_ring.specs.StepLists.{Gets, MakesStepsFrom}
use Rattle.lq_ring.proofs.StepsThen.{Spun, makes_none, makes_then, spun_held, spun_lost}
use Rattle.lq_table.proofs.OneStep.{gets_producer}
use Rattle.lq_ring.proofs.puts.lock_producer.Goals as goal
use Rattle.lq_ring.proofs.puts.lock_producer.Goals.{then-seen-eq0+else-take_producer, else-seen-eq0}

pub returns-then-take_producer : goal.returns-then-take_producer
returns-then-take_producer g c = record {
  makes =
      let b = c.args.band in let i = c.loop.invariant.spun in let seen = c.load_producer-seen.result in
      let got = subst (λ (x : Bool). MakesSteps (TakeProducer b seen x ∷ []) c.load_producer-seen.new.cpu c.take_producer.new.cpu) c.if-take_producer.true c.take_producer.ensures.makes in
      (i.0 ++ LoadProducer b seen ∷ TakeProducer b seen true ∷ [], i.1 (seen / 2) _ (Gets c.if-seen-eq0.true refl), makes_then i.2 (makes_then c.load_producer-seen.ensures.makes got));
  stands =
      let b = c.args.band in let v = view c.args.cpu.now in let i = c.load_producer-seen.result / 2 in let got = gets_producer c.take_producer.ensures.makes c.if-take_producer.true in
      let same : view c.load_producer-seen.new.cpu ≡ v = c.load_producer-seen.ensures.makes.knows ∙ c.loop.invariant.same in let seat = c.loop.invariant.spun.2.seat in let s1 = c.load_producer-seen.ensures.makes.seat in let s2 = c.take_producer.ensures.makes.seat in (
        (s2.0 ∙ (s1.0 ∙ seat.0), s2.1 ∙ (s1.1 ∙ seat.1)),
        search rules,
        search rules,
        got.0 ∙ ap (with_lock_at b (locked_at i)) same,
        ap (at b) got.1 ∙ at_put_same b i _,
        subst (λ (l : ℕ). i < l) (ap (λ (x : View). x.share.about.max_len) same ∙ ap (λ (k : Setup). k.max_len) c.requires.seat.2) got.2,
      );
}

pub loop-init : goal.loop-init
loop-init g c = let spun : MakesStepsFrom (λ s. Spun c.args.band) c.args.cpu.now c.args.cpu.now = ([], (λ index rest h. h), makes_none c.args.cpu.now) in search rules

pub loop-preserved : goal.loop-preserved
loop-preserved g c =
    let b = c.args.band in let old = c.args.cpu.now in let i = c.loop.invariant.spun in let seen = c.load_producer-seen.result in let loads = c.load_producer-seen.ensures.makes in
    let spun : MakesStepsFrom (λ s. Spun b) old c.if-seen-eq0.cpu = elim c.if-seen-eq0.branch [
      | then-seen-eq0+else-take_producer w ↦
          let lost = subst (λ (x : Bool). MakesSteps (TakeProducer b seen x ∷ []) c.load_producer-seen.new.cpu w.take_producer.new.cpu) w.if-take_producer.false w.take_producer.ensures.makes in
          subst (MakesStepsFrom (λ s. Spun b) old) (sym w.cpu-is) (i.0 ++ LoadProducer b seen ∷ TakeProducer b seen false ∷ [], spun_lost b seen i.0 w.if-seen-eq0.true i.1, makes_then i.2 (makes_then loads lost))
      | else-seen-eq0 w ↦ subst (MakesStepsFrom (λ s. Spun b) old) (sym w.cpu-is) (i.0 ++ LoadProducer b seen ∷ [], spun_held b seen i.0 w.if-seen-eq0.false i.1, makes_then i.2 loads)
    ] in search rules
