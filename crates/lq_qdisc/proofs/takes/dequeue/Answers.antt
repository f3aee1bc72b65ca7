use Rattle.std.proofs.Common.{rules, ℕ, sym, ◌∙◌, subst, Option, arith}
use Rattle.lq_table.specs.Sees.{view, setup}
use Rattle.lq_table.specs.Moves.{IsKnownSlot}
use Rattle.lq_qdisc.specs.StepLists.{LooksAtBands}
use Rattle.lq_qdisc.proofs.TakeLemmas.{looks_dequeue}
use Rattle.lq_qdisc.proofs.takes.dequeue.Goals as goal

pub dequeue_requeued-requires-clause-slot : goal.dequeue_requeued-requires-clause-slot
dequeue_requeued-requires-clause-slot g c κs within =
    let is = sym c.requeued.ensures ∙ c.in-Some.is in
    (is, subst (λ (s : Option ℕ). IsKnownSlot (setup c.args.shared.now) s) is c.requires.serves.slot)

pub returns-in-Some : goal.returns-in-Some
returns-in-Some g c = record {
  kept = search rules;
  run = search rules;
  serving = search rules;
  at = search rules;
  fates = search rules;
  packet = search rules;
  came = c.dequeue_requeued.ensures.came;
  makes = c.dequeue_requeued.ensures.makes;
}

pub returns-then-queues-gt1 : goal.returns-then-queues-gt1
returns-then-queues-gt1 g c = record {
  kept = search rules;
  run = search rules;
  serving = search rules;
  at = search rules;
  fates = search rules;
  packet = search rules;
  came = (
    looks_dequeue c.args.shared.now.infos.now c.dequeue_bands.result (view c.args.cpu.now) (view c.dequeue_bands.new.cpu) (sym c.requeued.ensures ∙ c.in_default.is) c.dequeue_bands.ensures.came,
    search rules,
    search rules,
  );
  makes =
      let more = c.if-queues-gt1.true in let is = c.queues.ensures in let m = c.dequeue_bands.ensures.makes in
      (m.0, LooksAtBands (sym c.requeued.ensures ∙ c.in_default.is) (λ one. absurd (omega (arith, more, is, one))) m.1, m.2);
}

pub returns : goal.returns
returns g c = record {
  kept = search rules;
  run = search rules;
  serving = search rules;
  at = search rules;
  fates = search rules;
  packet = search rules;
  came = c.dequeue_open.ensures.came;
  makes = c.dequeue_open.ensures.makes;
}
