use Rattle.std.proofs.Common.{rules, false, sym, subst, ap, ◌∙◌}
use Rattle.lq_tap.specs.Sees.{steps}
use Rattle.lq_tap.specs.Made.{◌⊳◌, did_take_producer}
use Rattle.lq_tap.specs.Steps.{ProducerTries, not_yet, busy, failed}
use Rattle.lq_tap.proofs.shared.Tap.lock_producer.Goals as goal
use Rattle.lq_tap.proofs.shared.Tap.lock_producer.Goals.{then-seen-eq0+else-take_producer, else-seen-eq0}

pub loop-init : goal.loop-init
loop-init g c = let tries : ProducerTries (steps c.args.seat.now) (steps c.args.seat.now) = not_yet in search rules

pub loop-preserved : goal.loop-preserved
loop-preserved g c =
    let old = steps c.args.seat.now in let loaded = c.load_producer-seen.ensures.steps_are in let seen = c.load_producer-seen.result in let before = c.loop.invariant.tries in
    let tries : ProducerTries old (steps c.if-seen-eq0.seat) = elim c.if-seen-eq0.branch [
      | then-seen-eq0+else-take_producer w ↦ subst (ProducerTries old) (sym (ap steps w.seat-is ∙ ((w.take_producer.ensures.missed w.if-take_producer.false).steps_are ∙ (λ j. loaded j ⊳ did_take_producer seen false)))) (failed _ seen w.if-seen-eq0.true before)
      | else-seen-eq0 w ↦ subst (ProducerTries old) (sym (ap steps w.seat-is ∙ loaded)) (busy _ seen w.if-seen-eq0.false before)
    ] in search rules
