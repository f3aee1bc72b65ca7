use Rattle.std.proofs.Common.{ℕ, ◌==◌}
use Rattle.lq_mq.proofs.Serials.{counts, joint-length, subsequences}
use Rattle.lq_mq.specs.Joint.{joint}
use Rattle.lq_mq.specs.Laws.{IsBefore, HasAtSerial}
use Rattle.lq_mq.proofs.Order.{each-all, each-is-sent, pairs-all, pairs-in-order}
use Rattle.lq_mq.proofs.laws.joint_has_each_list.Goals as goal

pub returns-clause-subsequences : goal.returns-clause-subsequences
returns-clause-subsequences c = subsequences

pub returns-clause-counts : goal.returns-clause-counts
returns-clause-counts c lists n = counts (λ m. m == n) lists

pub returns-clause-len : goal.returns-clause-len
returns-clause-len c = joint-length

pub returns-clause-no_other : goal.returns-clause-no_other
returns-clause-no_other c lists = each-all (λ n. (i : ℕ) × (serial : ℕ) × HasAtSerial lists i serial n) (joint lists) (each-is-sent lists)

pub returns-clause-order : goal.returns-clause-order
returns-clause-order c lists = pairs-all (IsBefore lists) (joint lists) (pairs-in-order lists)
