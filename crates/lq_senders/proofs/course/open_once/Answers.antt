use Rattle.lq_senders.proofs.Turns.{seats-woken}
use Rattle.lq_senders.proofs.course.open_once.Goals as goal

pub drain_all-requires-clause-seats : goal.drain_all-requires-clause-seats
drain_all-requires-clause-seats g c κs within = seats-woken c.args.tables.now c.args.seats.now.items c.wake_all-opened.new.seats.items c.requires.seats c.wake_all-opened.ensures.wakes

pub returns : goal.returns
returns g c = record {
  woken = c.wake_all-opened.new.seats.items;
  wakes = c.wake_all-opened.ensures.wakes;
  was = c.wake_all-opened.ensures.was;
  drains = c.drain_all.ensures;
}
