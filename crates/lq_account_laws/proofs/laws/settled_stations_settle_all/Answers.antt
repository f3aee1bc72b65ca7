use Rattle.lq_account_laws.proofs.Settle.{accounts_are_in_order, accounts_settle, sent_list_of}
use Rattle.lq_account_laws.proofs.laws.settled_stations_settle_all.Goals as goal

pub returns-clause-settled : goal.returns-clause-settled
returns-clause-settled c plan infos fates accounts all = accounts_settle plan infos fates accounts all

pub returns-clause-in_order : goal.returns-clause-in_order
returns-clause-in_order c plan infos fates accounts all m n u v s t below owner station band sent_m sent_n =
    accounts_are_in_order plan infos fates accounts all m n u v s t below owner station band sent_m sent_n

pub returns-clause-sent : goal.returns-clause-sent
returns-clause-sent c plan infos fates accounts all station unit here uses = sent_list_of plan infos fates accounts all station unit here uses
