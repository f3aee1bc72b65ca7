use Rattle.lq_senders.proofs.side_by_side.fn.send_side_by_side.for_each_mut.Goals as goal

pub returns : goal.returns
returns g c = (c.send_other.ensures.done c.args.i c.requires, c.send_other.ensures.course)
