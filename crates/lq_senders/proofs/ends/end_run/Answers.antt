use Rattle.std.proofs.Common.{List, length, sym, subst}
use Rattle.lq_seat.specs.State.{SeatState}
use Rattle.lq_senders.specs.Senders.{AreRunAlone}
use Rattle.lq_senders.proofs.Closes.{devices-did, fates-finished, finished-may-close}
use Rattle.lq_senders.proofs.Joins.{devices-on, joined-first}
use Rattle.lq_senders.proofs.ends.end_run.Goals as goal

pub join_all-requires-clause-first : goal.join_all-requires-clause-first
join_all-requires-clause-first g c κs within =
    joined-first c.args.run.now.job.plan.now c.args.run.now.job.infos.now (length c.args.others.items) c.args.run.now.tables.now c.args.seats.now.items c.requires.senders c.requires.first.0 c.requires.first.1

pub returns : goal.returns
returns g c =
    let plan = c.args.run.now.job.plan.now in let infos = c.args.run.now.job.infos.now in let tables = c.args.run.now.tables.now in
    let joined = c.join_all.ensures.joined in let did = c.finish_all.ensures in record {
      may = finished-may-close plan infos tables c.join_all.new.seats.items c.finish_all.new.seats.items joined did;
      devices = devices-on c.args.seats.now.items c.join_all.new.seats.items c.finish_all.new.seats.items c.join_all.ensures.devices
          (devices-did c.join_all.new.seats.items c.finish_all.new.seats.items did);
      alone = λ none from begins. fates-finished plan infos tables c.join_all.new.seats.items c.finish_all.new.seats.items from joined did
          (subst (λ (l : List SeatState). AreRunAlone plan infos l from) (sym (c.join_all.ensures.alone none)) begins);
    }
