use Rattle.lq_run_laws.proofs.First.{first-inductive}
use Rattle.lq_run_laws.proofs.Inductive.{inductive}
use Rattle.lq_run_core.proofs.laws.invariant_is_kept.Goals as goal

pub returns-clause-first : goal.returns-clause-first
returns-clause-first c = first-inductive

pub returns-clause-moves : goal.returns-clause-moves
returns-clause-moves c = inductive

pub returns-clause-sentences : goal.returns-clause-sentences
returns-clause-sentences c m ind = ind.kept
