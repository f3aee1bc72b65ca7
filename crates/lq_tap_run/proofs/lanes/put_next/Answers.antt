use Rattle.lq_tap_run.proofs.Bringing.{stands_full, stands_put}
use Rattle.lq_tap_run.proofs.lanes.put_next.Goals as goal

pub returns-in_default-clause-stands : goal.returns-in_default-clause-stands
returns-in_default-clause-stands g c sender k stands =
    stands_put c.args.run.now.tap.now c.args.run.now.packets c.args.run.now.senders sender k c.args.n c.args.lane.now c.args.run.now.may c.requires.next stands c.put.new.seat c.put.ensures.seat c.in_default.ensures.view

pub returns-in-Err-clause-stands : goal.returns-in-Err-clause-stands
returns-in-Err-clause-stands g c sender k stands =
    stands_full c.args.run.now.tap.now c.args.run.now.packets c.args.run.now.senders sender k c.args.n c.args.lane.now c.args.run.now.may c.requires.next stands c.in-Err.full.seen (record { seat = c.put.new.seat; full = c.push_reserved.new.self }) c.put.ensures.seat
    c.in-Err.ensures.view c.push_reserved.ensures.items c.push_reserved.ensures.len
