use Rattle.lq_run_core.proofs.OneQueue.{one-dequeue, one-hang, one-blocking, one-open}
use Rattle.lq_run_core.proofs.laws.one_queue_has_one_stop_word.Goals as goal

pub returns-clause-dequeue : goal.returns-clause-dequeue
returns-clause-dequeue c = one-dequeue

pub returns-clause-hang : goal.returns-clause-hang
returns-clause-hang c = one-hang

pub returns-clause-blocking : goal.returns-clause-blocking
returns-clause-blocking c = one-blocking

pub returns-clause-all_open : goal.returns-clause-all_open
returns-clause-all_open c = one-open
