use Rattle.std.proofs.Common.{arith}
use Rattle.lq_seat.specs.Calls.{Drains}
use Rattle.lq_senders.proofs.Rounds.{IsNext, all-did, next-read, none-did}
use Rattle.lq_senders.proofs.course.drain_all.Given as given
use Rattle.lq_senders.proofs.course.drain_all.Goals as goal
use Rattle.lq_senders.proofs.course.drain_all.Goals.{After-index-tables-j}

pub loop-j-init : goal.loop-j-init
loop-j-init g c = none-did Drains c.args.seats.now.items

next : (g : given.Over) (c : After-index-tables-j g)
    → IsNext Drains c.loop-j.j c.args.seats.now.items c.loop-j.seats.items c.index-tables-j.result c.index_mut.result.now
next g c =
    next-read Drains c.loop-j.j c.args.tables.now c.args.seats.now.items c.loop-j.seats.items
    c.index-tables-j.result c.index_mut.result.now c.requires.seats c.loop-j.invariant c.loop-j-test.true
    c.index-tables-j.is c.index_mut.ensures.value

pub drain-requires-clause-here : goal.drain-requires-clause-here
drain-requires-clause-here g c κs within = (next g c).here

pub loop-j-preserved : goal.loop-j-preserved
loop-j-preserved g c = (next g (goal.at.loop-j-preserved g c).After-index-tables-j).once_done c.drain.new.self c.drain.ensures

pub returns : goal.returns
returns g c =
    let test = c.loop-j-test.false in let same = c.requires.seats.long in
    all-did Drains c.loop-j.j c.args.seats.now.items c.loop-j.seats.items (omega arith) c.loop-j.invariant
