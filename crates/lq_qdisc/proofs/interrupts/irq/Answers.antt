use Rattle.std.proofs.Common.{rules, sym, ap, ◌∙◌, refl, ◌<◌, ◌+◌, ◌≡◌, ℕ, Bool, false, ◌||◌, [], ◌++◌, subst, arith}
use Rattle.lq_ring.proofs.StepsThen.{makes_none, makes_then}
use Rattle.lq_run.specs.Steps.{MakesStepsOf}
use Rattle.lq_table.specs.Sees.{view, known, setup}
use Rattle.lq_table.specs.Step.{standing}
use Rattle.lq_table.specs.Views.{SharePart, View}
use Rattle.lq_qdisc.specs.Sends.{WakesBelow}
use Rattle.lq_qdisc.specs.StepLists.{LooksAtNext, LooksAtNone, WakeEach}
use Rattle.lq_qdisc.proofs.AloneCalls.{irq_alone}
use Rattle.lq_qdisc.proofs.ListLemmas.{leads}
use Rattle.lq_qdisc.proofs.StepLemmas.{wake_keeps}
use Rattle.lq_qdisc.proofs.ViewLemmas.{below_view, wakes_view}
use Rattle.lq_qdisc.proofs.ViewRelations.{WakesAt}
use Rattle.lq_qdisc.proofs.interrupts.irq.Goals as goal
use Rattle.lq_qdisc.proofs.interrupts.irq.Goals.{then-opened, else-opened}

pub returns : goal.returns
returns g c =
    let q : c.loop-queue.queue ≡ c.args.shared.now.queues = omega arith in let k = setup c.args.shared.now in let old = c.args.cpu.now in let new = c.loop-queue.cpu in let opened = c.loop-queue.opened in
    let made : MakesStepsOf (WakeEach k.queues opened) old new = subst (λ (n : ℕ). MakesStepsOf (WakeEach n opened) old new) q c.loop-queue.invariant.makes in
    let all : WakesBelow k k.queues opened (known old) (known new) = leads (λ _. WakeEach k.queues opened) old new made in record {
      kept = search rules;
      fates = search rules;
      at = search rules;
      ready = search rules;
      still = search rules;
      makes = made;
      alone = irq_alone k c.args.shared.now.infos.now opened (view old) (view new) c.requires.seat.2 (below_view k k.queues opened (known old) (known new) all);
    }

pub loop-queue-init : goal.loop-queue-init
loop-queue-init g c = let none_ : MakesStepsOf (WakeEach 0 false) c.args.cpu.now c.args.cpu.now = ([], LooksAtNone, makes_none c.args.cpu.now) in search rules

pub loop-queue-preserved : goal.loop-queue-preserved
loop-queue-preserved g c =
    let q = c.loop-queue.queue in let old = c.loop-queue.invariant in let a = c.wake_queue-here.new.cpu in let m = view c.loop-queue.cpu in let n = view a in let same = c.wake_queue-here.ensures.same in let made = c.wake_queue-here.ensures.makes in let here = c.wake_queue-here.result in
    let w : WakesAt q here m n = subst (λ (v : View). WakesAt q here m v) (sym made.2.knows) (wakes_view q (standing c.loop-queue.cpu) made.1 made.2.told) in
    let one : c.if-opened.opened ≡ (c.loop-queue.opened || here) = elim c.if-opened.branch [
      | then-opened w ↦ w.opened-is ∙ (w.if-opened.true ∙ sym (ap (λ (o : Bool). o || here) w.if-opened.true))
      | else-opened w ↦ w.opened-is ∙ sym (ap (λ (o : Bool). o || here) w.if-opened.false)
    ] in
    let share = wake_keeps (λ v. v.share) q m n (λ _. refl) here w in let packets = wake_keeps (λ v. v.packets) q m n (λ _. refl) here w in record {
      seat = (same.0.0 ∙ old.seat.0, subst (λ (s : SharePart). 0 < s.shares) (sym share) old.seat.1, ap (λ (s : SharePart). s.about) share ∙ old.seat.2);
      kept = record { seat = (same.0.0 ∙ old.kept.seat.0, same.0.1 ∙ old.kept.seat.1); share = share ∙ old.kept.share; control = wake_keeps (λ v. v.control) q m n (λ _. refl) here w ∙ old.kept.control; told = wake_keeps (λ v. v.whole.told) q m n (λ _. refl) here w ∙ old.kept.told };
      at = c.wake_queue-here.ensures.at;
      ready = ((same.3 ∙ old.ready.0.0, same.1 ∙ old.ready.0.1), packets ∙ old.ready.1, wake_keeps (λ v. v.locks) q m n (λ _. refl) here w ∙ old.ready.2, wake_keeps (λ v. v.holder.resizing) q m n (λ _. refl) here w ∙ old.ready.3);
      still = record { share = share ∙ old.still.share; packets = packets ∙ old.still.packets; turns = wake_keeps (λ v. v.turns) q m n (λ _. refl) here w ∙ old.still.turns; trail = wake_keeps (λ v. v.trail) q m n (λ _. refl) here w ∙ old.still.trail };
      settled = wake_keeps (λ v. v.settled) q m n (λ _. refl) here w ∙ old.settled;
      makes = subst (λ (o : Bool). MakesStepsOf (WakeEach (q + 1) o) c.args.cpu.now a) (sym one) (old.makes.0 ++ made.0, LooksAtNext old.makes.1 made.1, makes_then old.makes.2 made.2);
    }
