use Rattle.std.proofs.Common.{rules, false, true, inl, inr}
use Rattle.lq_run.proofs.Begins.{kept_begun}
use Rattle.lq_run.specs.Steps.{Begin}
use Rattle.lq_table.specs.Sees.{view, setup}
use Rattle.lq_qdisc.specs.StepLists.{RunToEnd}
use Rattle.lq_qdisc.proofs.ListLemmas.{then_makes}
use Rattle.lq_qdisc.proofs.RunLemmas.{fates_same}
use Rattle.lq_qdisc.proofs.SendLemmas.{LeavesTheRest, serves_then}
use Rattle.lq_qdisc.proofs.TakeLemmas.{seat_same}
use Rattle.lq_qdisc.proofs.LockLemmas.{begins_as, serves_begun}
use Rattle.lq_qdisc.proofs.sends.qdisc_run.Goals as goal

pub returns-then-begin : goal.returns-then-begin
returns-then-begin g c =
    let b = c.begin.ensures in let k = (kept_begun b.makes).0 in
    let calm : LeavesTheRest c.args.cpu.now c.begin.new.cpu = record { seat = k.0; share = k.1; packets = k.2; control = k.4; turns = k.7; trail = k.9; told = k.5; settled = k.8 } in
    serves_then c.args.cpu.now c.begin.new.cpu c.run_to_end.new.cpu calm c.run_to_end.ensures
    (let m = then_makes {one = λ s. Begin true} {two = RunToEnd (setup c.args.shared.now)} c.args.cpu.now c.begin.new.cpu c.run_to_end.new.cpu (begins_as true c.args.cpu.now c.begin.new.cpu c.if-begin.true b.makes) c.run_to_end.ensures.makes in (m.0, inr m.1, m.2))

pub returns-else-begin : goal.returns-else-begin
returns-else-begin g c = let b = c.begin.ensures in let k = (kept_begun b.makes).0 in record {
  kept = record { seat = k.0; share = k.1; control = k.4; told = k.5 };
  fates = fates_same (view c.args.cpu.now) (view c.begin.new.cpu) k.8;
  at = search rules;
  free = search rules;
  came = record { share = k.1; packets = k.2; turns = k.7; trail = k.9 };
  makes = let m = begins_as false c.args.cpu.now c.begin.new.cpu c.if-begin.false b.makes in (m.0, inl m.1, m.2);
}

pub run_to_end-requires-clause-seat : goal.run_to_end-requires-clause-seat
run_to_end-requires-clause-seat g c _ _ = let k = (kept_begun c.begin.ensures.makes).0 in seat_same c.args.shared.now c.args.cpu.now c.begin.new.cpu k.0 k.1 c.requires.seat

pub run_to_end-requires-clause-serves : goal.run_to_end-requires-clause-serves
run_to_end-requires-clause-serves g c _ _ =
    serves_begun c.args.shared.now c.args.cpu.now c.begin.new.cpu c.requires.seat c.requires.free.1 c.begin.ensures.makes (c.begin.ensures.got c.if-begin.true)
