use Rattle.std.proofs.Common.{false, true, inl, inr, ap, ◌∙◌}
use Rattle.lq_run.specs.Runs.{after_got, after_missed}
use Rattle.lq_run.proofs.Begins.{kept_begun}
use Rattle.lq_run.specs.Steps.{Begin}
use Rattle.lq_table.specs.Sees.{setup, view}
use Rattle.lq_table.specs.Views.{HolderPart}
use Rattle.lq_qdisc.specs.StepLists.{BypassLocked, EnqueueAndRun}
use Rattle.lq_qdisc.proofs.ListLemmas.{then_makes}
use Rattle.lq_qdisc.proofs.SendLemmas.{LeavesTheRest, brings_then}
use Rattle.lq_qdisc.proofs.TakeLemmas.{seat_same}
use Rattle.lq_qdisc.proofs.LockLemmas.{begins_as, brings_begun, serves_begun}
use Rattle.lq_qdisc.proofs.sends.try_bypass.Goals as goal

pub returns-then-begin : goal.returns-then-begin
returns-then-begin g c =
    let b = c.begin.ensures in let k = (kept_begun b.makes).0 in let r = c.bypass_locked in
    let calm : LeavesTheRest c.args.cpu.now c.begin.new.cpu = record { seat = k.0; share = k.1; packets = k.2; control = k.4; turns = k.7; trail = k.9; told = k.5; settled = k.8 } in
    brings_then c.args.shared.now.infos.now c.args.n r.result c.args.cpu.now c.begin.new.cpu r.new.cpu calm r.ensures
    (let m = then_makes {one = λ s. Begin true} {two = λ s. BypassLocked (setup c.args.shared.now) c.args.n s r.result} c.args.cpu.now c.begin.new.cpu r.new.cpu (begins_as true c.args.cpu.now c.begin.new.cpu c.if-begin.true b.makes) r.ensures.makes in (m.0, inr m.1, m.2))

pub returns-else-begin : goal.returns-else-begin
returns-else-begin g c =
    let b = c.begin.ensures in let k = (kept_begun b.makes).0 in let r = c.enqueue_and_run in
    let calm : LeavesTheRest c.args.cpu.now c.begin.new.cpu = record { seat = k.0; share = k.1; packets = k.2; control = k.4; turns = k.7; trail = k.9; told = k.5; settled = k.8 } in
    brings_then c.args.shared.now.infos.now c.args.n r.result c.args.cpu.now c.begin.new.cpu r.new.cpu calm r.ensures
    (let m = then_makes {one = λ s. Begin false} {two = EnqueueAndRun (setup c.args.shared.now) c.args.n r.result} c.args.cpu.now c.begin.new.cpu r.new.cpu (begins_as false c.args.cpu.now c.begin.new.cpu c.if-begin.false b.makes) r.ensures.makes in (m.0, inl m.1, m.2))

pub bypass_locked-requires-clause-seat : goal.bypass_locked-requires-clause-seat
bypass_locked-requires-clause-seat g c _ _ = let k = (kept_begun c.begin.ensures.makes).0 in seat_same c.args.shared.now c.args.cpu.now c.begin.new.cpu k.0 k.1 c.requires.seat

pub enqueue_and_run-requires-clause-seat : goal.enqueue_and_run-requires-clause-seat
enqueue_and_run-requires-clause-seat g c _ _ = let k = (kept_begun c.begin.ensures.makes).0 in seat_same c.args.shared.now c.args.cpu.now c.begin.new.cpu k.0 k.1 c.requires.seat

pub bypass_locked-requires-clause-may : goal.bypass_locked-requires-clause-may
bypass_locked-requires-clause-may g c _ _ = let b = c.begin.ensures in let may = c.requires.may in let h = b.got c.if-begin.true in record {
  at = h.0 ∙ ap (after_got (view c.begin.new.cpu)) may.at;
  brings = brings_begun c.args.shared.now c.args.n c.args.cpu.now c.begin.new.cpu b.makes may.brings;
  packet = may.packet;
  holds = serves_begun c.args.shared.now c.args.cpu.now c.begin.new.cpu c.requires.seat may.holds.1 b.makes h;
}

pub enqueue_and_run-requires-clause-may : goal.enqueue_and_run-requires-clause-may
enqueue_and_run-requires-clause-may g c _ _ = let b = c.begin.ensures in let may = c.requires.may in let m = b.missed c.if-begin.false in record {
  at = m.0 ∙ ap after_missed may.at;
  brings = brings_begun c.args.shared.now c.args.n c.args.cpu.now c.begin.new.cpu b.makes may.brings;
  packet = may.packet;
  holds = (m.1, (kept_begun b.makes).0.3 ∙ may.holds.1, ap (λ (h : HolderPart). h.resizing) m.2 ∙ may.holds.2);
}
