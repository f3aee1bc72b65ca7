use Rattle.lq_test_fixture.proofs.NameLemmas.{may_any}
use Rattle.lq_test_rows.proofs.files.call_over_files.Goals as goal

pub lqtx-status-requires-clause-may : goal.lqtx-status-requires-clause-may
lqtx-status-requires-clause-may g c κs within = may_any _
