use Rattle.lq_lone.specs.Lone.{lone_state}
use Rattle.lq_lone.proofs.Brings.{passes-open, passes-shut}
use Rattle.lq_lone.proofs.lone.Lone.pass.Goals as goal

pub returns-then-self-clause-passes : goal.returns-then-self-clause-passes
returns-then-self-clause-passes c infos s queues lone = passes-shut infos s (lone_state c.args.self.now) c.args.n queues lone c.requires.active c.if-self.true c.requires.clean

pub returns-clause-passes : goal.returns-clause-passes
returns-clause-passes c infos s queues lone = passes-open infos s (lone_state c.args.self.now) c.args.n queues lone c.requires.active c.if-self.false c.requires.clean
