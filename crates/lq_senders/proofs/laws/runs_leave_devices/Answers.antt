use Rattle.lq_senders.proofs.Leaves.{spares-long}
use Rattle.lq_senders.proofs.laws.runs_leave_devices.Goals as goal

pub returns : goal.returns
returns c plan infos opens before others start brought closed spares ran over = (ran.closed_are.so_many, spares-long plan infos opens others start brought closed spares ran over.units over.stand)
