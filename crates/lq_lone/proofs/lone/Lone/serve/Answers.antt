use Rattle.std.proofs.Common.{◌≡◌, Bool, inl, inr, sym, subst}
use Rattle.std.specs.Prelude.{not}
use Rattle.lq_model.specs.Alone.{served}
use Rattle.lq_lone.specs.Lone.{HasNothingToServe, StepsLone, is_down, is_stopped, lone_state}
use Rattle.lq_lone.proofs.Serves.{not-served, serves, settles}
use Rattle.lq_lone.proofs.lone.Lone.serve.Goals as goal
use Rattle.lq_lone.proofs.lone.Lone.serve.Goals.{then-self-via-then-self, then-self-via-else-self+then-self-2}

pub returns-then-self-clause-serves : goal.returns-then-self-clause-serves
returns-then-self-clause-serves c infos s queues lone = elim c.then-self.branch [
  | then-self-via-then-self w ↦ not-served infos s (lone_state c.args.self.now) lone (inl w.if-self.true)
  | then-self-via-else-self+then-self-2 w ↦ not-served infos s (lone_state c.args.self.now) lone (inr w.if-self-2.true)
]

pub returns-clause-serves : goal.returns-clause-serves
returns-clause-serves c infos s queues lone =
    subst (λ (b : Bool). StepsLone c.take-accepted.result (record (lone_state c.take-accepted.new.self) { stopped = b; clean = not b }) s (served infos s)) (sym c.is_some-self.ensures)
    (serves infos s (lone_state c.args.self.now) queues lone c.if-self-2.false c.if-self.false c.take-accepted.result (lone_state c.take-accepted.new.self) c.take-accepted.ensures.takes)

pub returns-then-self-clause-settled : goal.returns-then-self-clause-settled
returns-then-self-clause-settled c = elim c.then-self.branch [
  | then-self-via-then-self w ↦ is_down w.if-self.true
  | then-self-via-else-self+then-self-2 w ↦ is_stopped w.if-self-2.true
]

pub returns-clause-settled : goal.returns-clause-settled
returns-clause-settled c =
    subst (λ (b : Bool). HasNothingToServe (record (lone_state c.take-accepted.new.self) { stopped = b; clean = not b })) (sym c.is_some-self.ensures)
    (settles c.take-accepted.result (lone_state c.args.self.now) (lone_state c.take-accepted.new.self) c.take-accepted.ensures.takes)
