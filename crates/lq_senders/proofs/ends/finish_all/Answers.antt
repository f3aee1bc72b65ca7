use Rattle.std.proofs.Common.{sym, ◌∙◌, subst, arith}
use Rattle.lq_seat.specs.Ends.{Finishes}
use Rattle.lq_seat.specs.State.{IsHere, TableState}
use Rattle.lq_senders.specs.Joins.{JoinedAt}
use Rattle.lq_senders.proofs.Closes.{may-finish}
use Rattle.lq_senders.proofs.Seats.{read-at}
use Rattle.lq_senders.proofs.Rounds.{none-did, one-more-did, all-did}
use Rattle.lq_senders.proofs.ends.finish_all.Goals as goal
use Rattle.lq_senders.proofs.ends.finish_all.Goals.{After-index-run-j}

pub loop-j-init : goal.loop-j-init
loop-j-init g c = none-did Finishes c.args.seats.now.items

at : (g : _) (c : After-index-run-j g) → JoinedAt c.args.run.now.job.plan.now c.args.run.now.job.infos.now 0 c.loop-j.j c.index-run-j.result c.index_mut.result.now
at g c =
    let first = c.loop-j.invariant in let long = first.long in let same = c.requires.joined.long in let test = c.loop-j-test.true in
    c.requires.joined.each c.loop-j.j c.index-run-j.result c.index_mut.result.now
    (read-at c.args.run.now.tables.now c.loop-j.j c.index-run-j.result test c.index-run-j.is)
    (sym (first.rest c.loop-j.j (omega arith)) ∙ read-at c.loop-j.seats.items c.loop-j.j c.index_mut.result.now (omega arith) c.index_mut.ensures.value)

pub finish-requires-clause-here : goal.finish-requires-clause-here
finish-requires-clause-here g c κs within = subst (λ (t : TableState). IsHere t c.index_mut.result.now) c.index-run-j.is (at g c).seat

pub finish-requires-clause-raised : goal.finish-requires-clause-raised
finish-requires-clause-raised g c κs within = (at g c).joined.raised

pub finish-requires-clause-may : goal.finish-requires-clause-may
finish-requires-clause-may g c κs within = may-finish c.args.run.now.job.plan.now c.args.run.now.job.infos.now c.loop-j.j c.index-run-j.result c.index_mut.result.now (at g c)

pub loop-j-preserved : goal.loop-j-preserved
loop-j-preserved g c =
    let first = c.loop-j.invariant in let long = first.long in let same = c.requires.joined.long in let test = c.loop-j-test.true in
    one-more-did Finishes c.loop-j.j c.args.seats.now.items c.loop-j.seats.items c.index_mut.result.now c.finish.new.self
    (read-at c.loop-j.seats.items c.loop-j.j c.index_mut.result.now (omega arith) c.index_mut.ensures.value) c.finish.ensures first

pub returns : goal.returns
returns g c =
    let test = c.loop-j-test.false in let same = c.requires.joined.long in
    all-did Finishes c.loop-j.j c.args.seats.now.items c.loop-j.seats.items (omega arith) c.loop-j.invariant
