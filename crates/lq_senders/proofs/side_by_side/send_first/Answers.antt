use Rattle.std.proofs.Common.{ℕ, subst}
use Rattle.lq_plan.specs.Openings.{opens_while_stopped}
use Rattle.lq_senders.specs.Senders.{SendsAll}
use Rattle.lq_senders.specs.Runs.{opens_in}
use Rattle.lq_senders.proofs.side_by_side.send_first.Goals as goal

pub returns-clause-runs : goal.returns-clause-runs
returns-clause-runs g c units stand tell own from begins = c.send_loop.ensures.runs c.requires.owner units stand tell own from begins

pub returns-clause-devices : goal.returns-clause-devices
returns-clause-devices g c units stand = c.send_loop.ensures.devices c.requires.owner units stand

pub returns-clause-course : goal.returns-clause-course
returns-clause-course g c = subst (λ (s : ℕ). SendsAll c.args.run.now.job.infos.now (opens_while_stopped c.args.run.now.job.plan.now) (opens_in c.args.run.now) s c.args.sender.seats.items c.send_loop.new.sender.seats.items) c.requires.owner c.send_loop.ensures.course
