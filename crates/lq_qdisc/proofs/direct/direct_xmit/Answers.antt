use Rattle.std.proofs.Common.{rules, ℕ, [], ◌∷◌, ◌++◌, Option, Some, subst}
use Rattle.std.specs.Option.{unwrap_or}
use Rattle.lq_device.specs.Station.{StationState, with_slot}
use Rattle.lq_ring.specs.StepLists.{MakesStepsFrom}
use Rattle.lq_table.proofs.StepsThen.{makes_then}
use Rattle.lq_table.specs.Sees.{view, carried, packet_at}
use Rattle.lq_table.specs.Step.{LoadXoff, MakesSteps, SetMissed, SetStation}
use Rattle.lq_table.specs.Views.{no_station}
use Rattle.lq_qdisc.specs.Direct.{Directs, LaysAside}
use Rattle.lq_qdisc.specs.StepLists.{DirectXmit, FindsStop, IsLaidAside, IsOffered, StartXmit}
use Rattle.lq_qdisc.specs.declared.answers.Through.TheVariants.{Back}
use Rattle.lq_qdisc.specs.declared.answers.Why.TheVariants.{Stopped}
use Rattle.lq_qdisc.proofs.ListLemmas.{from_there}
use Rattle.lq_qdisc.proofs.OfferLemmas.{offers_directs}
use Rattle.lq_qdisc.proofs.DirectLemmas.{lays_aside, sees_open}
use Rattle.lq_qdisc.proofs.TakeLemmas.{carries_slot}
use Rattle.lq_qdisc.proofs.direct.direct_xmit.Goals as goal

pub returns-then-load_xoff-ne0 : goal.returns-then-load_xoff-ne0
returns-then-load_xoff-ne0 g c = record {
  kept = search rules;
  serving = search rules;
  at = search rules;
  run = search rules;
  empty = search rules;
  trail = search rules;
  came =
      let q = c.queue_of-queue.result in
      subst (λ (queue : ℕ). LaysAside c.args.n queue (view c.args.cpu.now) (view c.requeue_stopped.new.cpu)) c.queue_of-queue.ensures
      (lays_aside c.args.n q c.load_xoff.result (packet_at c.args.shared.now c.args.n) c.requires.may.0 c.args.cpu.now c.load_xoff.new.cpu c.requeue_stopped.new.cpu
      c.if-load_xoff-ne0.true c.requires.may.1.at c.requires.may.1.serving.3 c.load_xoff.ensures.makes.knows c.load_xoff.ensures.makes.told.0.3 c.requeue_stopped.ensures.fates c.requeue_stopped.ensures.holder c.requeue_stopped.ensures.sole);
  makes =
      let n = c.args.n in let q = c.queue_of-queue.result in let b = c.args.cpu.now in let w = c.requeue_stopped.new.cpu in let m = c.requeue_stopped.ensures.makes in let laid = λ (st : StationState). m.0 ++ SetStation (with_slot st (Some n)) ∷ SetMissed m.1 ∷ [] in
      let all = subst (λ (o : Option StationState). MakesSteps (laid (unwrap_or o no_station)) c.load_xoff.new.cpu w) c.load_xoff.ensures.makes.carries m.3 in
      subst (λ (queue : ℕ). MakesStepsFrom (λ s. DirectXmit c.args.shared.now.queues n queue s (Back Stopped)) b w) c.queue_of-queue.ensures
      (LoadXoff q c.load_xoff.result ∷ laid (carried b), IsLaidAside (FindsStop c.if-load_xoff-ne0.true m.2) m.1, makes_then c.load_xoff.ensures.makes all);
}

pub returns : goal.returns
returns g c = record {
  kept = search rules;
  serving = search rules;
  at = search rules;
  run = search rules;
  empty = search rules;
  trail = search rules;
  came =
      let q = c.queue_of-queue.result in let p = packet_at c.args.shared.now c.args.n in
      subst (λ (queue : ℕ). Directs c.start_xmit.result c.args.n queue (view c.args.cpu.now) (view c.start_xmit.new.cpu)) c.queue_of-queue.ensures
      (offers_directs c.start_xmit.result c.args.n q c.load_xoff.result p c.requires.may.0 c.args.cpu.now c.load_xoff.new.cpu c.start_xmit.new.cpu c.if-load_xoff-ne0.false c.requires.may.1.at c.load_xoff.ensures.makes.knows
      (sees_open q c.load_xoff.result p c.requires.may.0 c.args.cpu.now c.load_xoff.new.cpu c.if-load_xoff-ne0.false c.requires.may.1.at c.requires.may.1.serving.3 c.load_xoff.ensures.makes.knows c.load_xoff.ensures.makes.told.0.3)
      c.start_xmit.ensures.makes.1 c.start_xmit.ensures.came);
  makes =
      let n = c.args.n in let q = c.queue_of-queue.result in let queues = c.args.shared.now.queues in let b = c.args.cpu.now in let m = c.start_xmit.ensures.makes in
      let loaded = subst (λ (found : ℕ). MakesSteps (LoadXoff q found ∷ []) b c.load_xoff.new.cpu) c.if-load_xoff-ne0.false c.load_xoff.ensures.makes in
      subst (λ (queue : ℕ). MakesStepsFrom (λ s. DirectXmit queues n queue s c.start_xmit.result) b c.start_xmit.new.cpu) c.queue_of-queue.ensures
      (LoadXoff q 0 ∷ m.0, IsOffered (from_there (λ s xs. StartXmit queues n q s c.start_xmit.result xs) loaded m.1), makes_then loaded m.2);
}

pub start_xmit-requires-clause-is_open : goal.start_xmit-requires-clause-is_open
start_xmit-requires-clause-is_open g c κs within =
    sees_open c.queue_of-queue.result c.load_xoff.result (packet_at c.args.shared.now c.args.n) c.requires.may.0 c.args.cpu.now c.load_xoff.new.cpu c.if-load_xoff-ne0.false c.requires.may.1.at c.requires.may.1.serving.3 c.load_xoff.ensures.makes.knows c.load_xoff.ensures.makes.told.0.3

pub load_xoff-requires-clause-slot : goal.load_xoff-requires-clause-slot
load_xoff-requires-clause-slot g c _ _ = carries_slot c.args.cpu.now c.requires.may.1.serving
