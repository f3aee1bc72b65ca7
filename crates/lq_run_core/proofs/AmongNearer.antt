-- What one seat does between two lists of others brings the machine nearer.
use Rattle.std.proofs.Common.{◌≡◌, ℕ, ◌+◌, ◌<◌, Bool, true, List, [], ◌∷◌, ◌++◌, length, set, refl, sym, ap, subst}
use Rattle.lq_model.specs.declared.machine.Answer.{Answer}
use Rattle.lq_model.specs.declared.machine.Beginning.{Beginning}
use Rattle.lq_model.specs.declared.machine.ControlStep.{ControlStep}
use Rattle.lq_model.specs.declared.machine.Packet.{Packet}
use Rattle.lq_model.specs.declared.machine.Position.{Position}
use Rattle.lq_model.specs.declared.machine.Seat.{Seat}
use Rattle.lq_model.specs.Control.{control_at, holds_as_control, is_control, is_sole, may_control}
use Rattle.lq_model.specs.Kept.{OneHolder}
use Rattle.lq_model.specs.Machine.{Qdisc}
use Rattle.lq_model.specs.Steps.{After, begun, may_answer, may_begin, step_at, with_seat}
use Rattle.lq_run_laws.specs.Among.{among, left_among}
use Rattle.lq_run_laws.proofs.Among.{among-at, among-within}
use Rattle.lq_run_laws.proofs.Local.{Local}
use Rattle.lq_run_laws.proofs.LocalSteps.{at-control, control-leads, start-leads, step-leads}
use Rattle.lq_run_laws.proofs.Seats.{idle-is}
use Rattle.lq_run_core.specs.Measure.{ServesOpen, measure}
use Rattle.lq_run_core.specs.Progress.{control_cost, start_cost, step_cost}
use Rattle.lq_run_core.proofs.Nearer.{begins-idle, outcome-nearer}
use Rattle.lq_run_core.proofs.OneSeat.{Falls, control-costs, start-costs, step-costs}

among-set : (before behind : List Seat) (s t : Seat) → set (before ++ s ∷ behind) (length before) t ≡ before ++ t ∷ behind
among-set [] behind s t = refl
among-set (x ∷ before) behind s t = ap (λ (seats : List Seat). x ∷ seats) (among-set before behind s t)

module _ (before behind : List Seat) (q : Qdisc) (s : Seat) where
  leaves : (a : After) → left_among before behind a ≡ with_seat (among before behind q s) (length before) a
  leaves a = sym (λ j. record { qdisc = a.qdisc; seats = among-set before behind s a.seat j })

  abbrev any : Packet → Type 0
  any p = Unit {0}

  -- an outcome of this seat, and what it costs
  left-nearer : (a : After) (cost : ℕ) (sole : Bool) → OneHolder (among before behind q s) → ServesOpen (left_among before behind a)
      → Local sole any q s s.position a → Falls cost q s s.position a → measure (left_among before behind a) < measure (among before behind q s) + cost
  left-nearer a cost sole one after leads falls =
      (outcome-nearer (among before behind q s) (left_among before behind a) (length before) a cost sole any one after (leaves a) (among-within before behind s)
      (subst (λ (t : Seat). Local sole any q t t.position a) (sym (among-at before behind s)) leads)
      (λ there. subst (λ (t : Seat). Falls cost q t t.position a) (sym (among-at before behind s)) falls)).1

  pub step-nearer : (answer : Answer) → OneHolder (among before behind q s) → may_answer s.position answer q ≡ true → ServesOpen (among before behind q s)
      → ServesOpen (left_among before behind (step_at s.position answer q s))
      → measure (left_among before behind (step_at s.position answer q s)) < measure (among before behind q s) + step_cost answer
  step-nearer answer one may now after =
      left-nearer (step_at s.position answer q s) (step_cost answer) true one after (step-leads true any s.position answer q s may)
      (step-costs s.position answer q s may now.queues_open after.queues_open)

  pub start-nearer : (b : Beginning) → OneHolder (among before behind q s) → may_begin b s ≡ true → ServesOpen (among before behind q s)
      → ServesOpen (among before behind q (begun b s)) → measure (among before behind q (begun b s)) < measure (among before behind q s) + start_cost b
  start-nearer b one may now after =
      left-nearer (record { qdisc = q; seat = begun b s }) (start_cost b) true one after (start-leads true any b q s may (λ p e. tt))
      (start-costs b q s (idle-is s.position (begins-idle b s may)) may)

  pub control-nearer : (step : ControlStep) → OneHolder (among before behind q s) → is_control s.position ≡ true
      → may_control step (is_sole (among before behind q s)) (holds_as_control s.position) q ≡ true → ServesOpen (among before behind q s)
      → ServesOpen (left_among before behind (control_at step (holds_as_control s.position) q s))
      → measure (left_among before behind (control_at step (holds_as_control s.position) q s)) < measure (among before behind q s) + control_cost
  control-nearer step one at may now after =
      let leads = subst (λ (d : Position). Local (is_sole (among before behind q s)) any q s d (control_at step (holds_as_control s.position) q s)) (sym (at-control s.position at))
      (control-leads (is_sole (among before behind q s)) any step (holds_as_control s.position) q s may) in
      left-nearer (control_at step (holds_as_control s.position) q s) control_cost (is_sole (among before behind q s)) one after leads (control-costs leads at)
