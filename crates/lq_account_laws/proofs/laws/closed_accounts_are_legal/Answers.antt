use Rattle.lq_account_laws.proofs.AsPlanned.{legal-of}
use Rattle.lq_account_laws.proofs.Controlled.{length-came, resize-came, swap-came}
use Rattle.lq_account_laws.proofs.laws.closed_accounts_are_legal.Goals as goal

pub returns-clause-legal : goal.returns-clause-legal
returns-clause-legal c plan infos fates station past a closed = legal-of plan infos fates station past a closed

pub returns-clause-resizes : goal.returns-clause-resizes
returns-clause-resizes c plan infos fates station past a closed = resize-came plan station past closed.events

pub returns-clause-lengths : goal.returns-clause-lengths
returns-clause-lengths c plan infos fates station past a closed = length-came plan station past closed.events

pub returns-clause-swaps : goal.returns-clause-swaps
returns-clause-swaps c plan infos fates station past a closed = swap-came plan station past closed.events
