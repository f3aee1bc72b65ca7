use Rattle.lq_senders.proofs.Leaves.{leaves-station}
use Rattle.lq_senders.proofs.laws.runs_leave_stations.Goals as goal

pub returns : goal.returns
returns c plan infos opens others start brought closed spares fates ran read j x at = leaves-station plan infos opens others start brought closed spares ran fates read j x at
