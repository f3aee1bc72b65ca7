use Rattle.lq_account_laws.proofs.OneStopRun.{finished_by_rounds}
use Rattle.lq_account_laws.proofs.Sender.{begins_in_run, brought_in_run, finished_in_run, opened_in_run, passes_in_run, served_in_run}
use Rattle.lq_account_laws.proofs.laws.one_sender.one_sender_makes_legal_events.Goals as goal

pub returns-clause-begins : goal.returns-clause-begins
returns-clause-begins c plan infos station s planned some one = begins_in_run plan infos station s planned some one

pub returns-clause-passes : goal.returns-clause-passes
returns-clause-passes c plan infos station n s other h = passes_in_run other h

pub returns-clause-brought : goal.returns-clause-brought
returns-clause-brought c plan infos station n bypass s queues within at h = brought_in_run plan infos station queues bypass n s within at h

pub returns-clause-served : goal.returns-clause-served
returns-clause-served c plan infos station n s queues h = served_in_run plan infos station queues n s h

pub returns-clause-opened : goal.returns-clause-opened
returns-clause-opened c plan infos station n s queues h = opened_in_run plan infos station queues n s h

pub returns-clause-finished : goal.returns-clause-finished
returns-clause-finished c plan infos station n s queues h = finished_in_run plan infos station queues n s h

pub returns-clause-nothing_held : goal.returns-clause-nothing_held
returns-clause-nothing_held c plan infos station n s queues h = (finished_by_rounds infos s queues h.one_queue).nothing_held h.active
