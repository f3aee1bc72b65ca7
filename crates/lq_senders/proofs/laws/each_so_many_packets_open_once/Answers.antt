use Rattle.lq_senders.proofs.Woken.{openings-every}
use Rattle.lq_senders.proofs.laws.each_so_many_packets_open_once.Goals as goal

pub returns : goal.returns
returns c packets infos sender n some within = openings-every packets infos sender some n within
