use Rattle.lq_run_core.proofs.Sent.{is-sent, waits-or-sent}
use Rattle.lq_run_core.proofs.laws.progress.what_leaves_is_sent.Goals as goal

pub returns : goal.returns
returns c = record { accepted = waits-or-sent; sent = is-sent }
