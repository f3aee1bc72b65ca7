use Rattle.std.proofs.Common.{◌≡◌, ◌==◌, ℕ, Bool, true, false, [], ◌∷◌, sym, ◌∙◌, subst}
use Rattle.std.proofs.lemmas.Bool.{eqb-false, eqb-true}
use Rattle.lq_ring.proofs.StepsThen.{makes_then}
use Rattle.lq_run.specs.Steps.{MakesStepsOf}
use Rattle.lq_table.specs.Step.{LookStop, MakesSteps, SetSched, Wake}
use Rattle.lq_table.specs.declared.shared.Cpu.{Cpu}
use Rattle.lq_qdisc.specs.StepLists.{IsNotStopped, IsOpenBefore, IsOpened, WakeQueue}
use Rattle.lq_qdisc.proofs.interrupts.wake_queue.Goals as goal
use Rattle.lq_qdisc.proofs.interrupts.wake_queue.Goals.{else-look_stop-via-then-look_stop+else-wake, else-look_stop-via-else-look_stop}

-- it was looked at, and found stopped
looked : {D : Type 0} (queue : ℕ) (stopped : Bool) (b m : Cpu D) → stopped ≡ true → ((found : ℕ) × (stopped ≡ (found == 1)) × MakesSteps (LookStop queue found ∷ []) b m) → MakesSteps (LookStop queue 1 ∷ []) b m
looked queue stopped b m is l = subst (λ (found : ℕ). MakesSteps (LookStop queue found ∷ []) b m) (eqb-true l.0 1 (sym l.1 ∙ is)) l.2

pub returns-then-wake-clause-makes : goal.returns-then-wake-clause-makes
returns-then-wake-clause-makes g c =
    let q = c.args.queue in let s = c.schedule.ensures.makes in
    let looks = looked q c.look_stop.result c.args.cpu.now c.look_stop.new.cpu c.if-look_stop.true c.look_stop.ensures.makes in
    let wakes = subst (λ (opened : Bool). MakesSteps (Wake q opened ∷ []) c.look_stop.new.cpu c.wake.new.cpu) c.if-wake.true c.wake.ensures.makes in
    (LookStop q 1 ∷ Wake q true ∷ SetSched s.0 ∷ [], IsOpened, makes_then looks (makes_then wakes s.1))

pub returns-clause-makes : goal.returns-clause-makes
returns-clause-makes g c = elim c.else-look_stop.branch [
  | else-look_stop-via-then-look_stop+else-wake w ↦
      let q = c.args.queue in let looks = looked q c.look_stop.result c.args.cpu.now c.look_stop.new.cpu w.if-look_stop.true c.look_stop.ensures.makes in
      let wakes = subst (λ (opened : Bool). MakesSteps (Wake q opened ∷ []) c.look_stop.new.cpu w.wake.new.cpu) w.if-wake.false w.wake.ensures.makes in
      subst (λ z. MakesStepsOf (WakeQueue q false) c.args.cpu.now z) (sym w.cpu-is) (LookStop q 1 ∷ Wake q false ∷ [], IsOpenBefore, makes_then looks wakes)
  | else-look_stop-via-else-look_stop w ↦
      let l = c.look_stop.ensures.makes in
      subst (λ z. MakesStepsOf (WakeQueue c.args.queue false) c.args.cpu.now z) (sym w.cpu-is) (LookStop c.args.queue l.0 ∷ [], IsNotStopped (eqb-false l.0 1 (sym l.1 ∙ w.if-look_stop.false)), l.2)
]
