use Rattle.lq_run_core.proofs.Stays.{cleared-nearer, draining-nearer, end-looks-nearer, interrupt-nearer, one-try-nearer}
use Rattle.lq_run_core.proofs.laws.mistakes.mistakes_come_nearer_too.Goals as goal

pub returns : goal.returns
returns c = record {
  end_looks = end-looks-nearer;
  one_try = one-try-nearer;
  cleared = cleared-nearer;
  draining = draining-nearer;
  interrupt = interrupt-nearer;
}
