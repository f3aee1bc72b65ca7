use Rattle.lq_control.proofs.CallLaws.{changes_leaves, downs_clear, downs_leaves, swaps_leaves}
use Rattle.lq_control.proofs.laws.deactivations_purge_all.Goals as goal

pub returns-clause-down : goal.returns-clause-down
returns-clause-down c k event count old new bare d = downs_leaves k event count old new bare d

pub returns-clause-clear : goal.returns-clause-clear
returns-clause-clear c k event count old new d = downs_clear k event count old new d

pub returns-clause-length : goal.returns-clause-length
returns-clause-length c k event len count old new bare d = changes_leaves k event len count old new bare d

pub returns-clause-swap : goal.returns-clause-swap
returns-clause-swap c k event unit came went old new bare d = swaps_leaves k event unit came went old new bare d
