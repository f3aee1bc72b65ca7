use Rattle.std.proofs.Common.{rules, ◌∷◌, sym, ap, ◌∙◌}
use Rattle.lq_ring.proofs.StepsThen.{makes_then}
use Rattle.lq_table.specs.Sees.{view, setup}
use Rattle.lq_table.specs.Step.{Recheck}
use Rattle.lq_table.specs.Views.{View}
use Rattle.lq_qdisc.specs.StepLists.{BypassLocked, EnqueueAndRunLocked, Passes, Waits, XmitBypass}
use Rattle.lq_qdisc.proofs.ListLemmas.{from_there}
use Rattle.lq_qdisc.proofs.SendLemmas.{IsLooked, KeepsCall, brings_looked_by, keeps_call, looked_from}
use Rattle.lq_qdisc.proofs.TakeLemmas.{serving_same}
use Rattle.lq_table.proofs.OneStep.{rechecks_direct, rechecks_waiting}
use Rattle.lq_qdisc.proofs.sends.bypass_locked.Goals as goal
use Rattle.lq_qdisc.proofs.sends.bypass_locked.Goals.{Else-is_non_empty, Then-is_non_empty}

-- what is known once the state was loaded again: where something may be held
held : (g : _) (c : Then-is_non_empty g)
    → IsLooked c.args.shared.now c.args.n c.recheck-state.result c.args.cpu.now c.recheck-state.new.cpu
held g c =
    let l = c.recheck-state.ensures in let e = rechecks_waiting l.makes (sym c.is_non_empty.ensures ∙ c.if-is_non_empty.true) in
    looked_from c.args.shared.now c.args.n _ c.args.cpu.now c.recheck-state.new.cpu (l.makes.seat, l.makes.carries, l.makes.places, l.makes.has) e c.requires.seat c.requires.may.brings

-- and where nothing is, so that the packet goes past the bands
past : (g : _) (c : Else-is_non_empty g) → KeepsCall c.args.shared.now c.args.cpu.now c.recheck-state.new.cpu
past g c =
    let l = c.recheck-state.ensures in let e = rechecks_direct l.makes (sym c.is_non_empty.ensures ∙ c.if-is_non_empty.false) in
    keeps_call c.args.shared.now c.args.cpu.now c.recheck-state.new.cpu l.makes.seat (ap (λ (x : View). x.share) e)
    (ap (λ (x : View). x.control) e) (ap (λ (x : View). x.whole.told) e) (ap (λ (x : View). x.settled) e) c.requires.seat

pub enqueue_and_run_locked-requires-clause-seat : goal.enqueue_and_run_locked-requires-clause-seat
enqueue_and_run_locked-requires-clause-seat g c _ _ = (held g (goal.at.enqueue_and_run_locked-requires-clause-seat g c).Then-is_non_empty).call.seat

pub enqueue_and_run_locked-requires-clause-may : goal.enqueue_and_run_locked-requires-clause-may
enqueue_and_run_locked-requires-clause-may g c _ _ =
    let l = c.recheck-state.ensures in let held_ = held g (goal.at.enqueue_and_run_locked-requires-clause-may g c).Then-is_non_empty in let e = held_.is in record {
      at = search rules;
      brings = held_.packet;
      packet = c.requires.may.packet;
      holds = record {
        serving = serving_same c.args.cpu.now c.recheck-state.new.cpu l.makes.has l.makes.carries (ap (λ (x : View). x.holder) e) (ap (λ (x : View). x.locks) e) c.requires.may.holds.serving;
        hand = search rules;
        slot = search rules;
      };
    }

pub xmit_bypass-requires-clause-seat : goal.xmit_bypass-requires-clause-seat
xmit_bypass-requires-clause-seat g c _ _ = (past g (goal.at.xmit_bypass-requires-clause-seat g c).Else-is_non_empty).seat

pub returns-then-is_non_empty : goal.returns-then-is_non_empty
returns-then-is_non_empty g c =
    let k = setup c.args.shared.now in let n = c.args.n in let r = c.recheck-state in let e = c.enqueue_and_run_locked in let m = e.ensures.makes in
    let held_ = held g (goal.at.returns-then-is_non_empty g c).Then-is_non_empty in
    brings_looked_by {to = λ s. BypassLocked k n s e.result} c.args.shared.now n r.result e.result c.args.cpu.now r.new.cpu e.new.cpu held_ e.ensures
    (Recheck n r.result ∷ m.0, Waits (sym c.is_non_empty.ensures ∙ c.if-is_non_empty.true) (from_there (EnqueueAndRunLocked k n e.result) r.ensures.makes m.1), makes_then r.ensures.makes m.2)

pub returns : goal.returns
returns g c =
    let k = setup c.args.shared.now in let n = c.args.n in let r = c.recheck-state in let x = c.xmit_bypass.ensures in
    let call = past g (goal.at.returns g c).Else-is_non_empty in record {
      kept = call.kept _ x.kept;
      fates = call.fates (view c.xmit_bypass.new.cpu) x.fates;
      at = x.at;
      free = x.free;
      came = search rules;
      makes = (Recheck n r.result ∷ x.makes.0, Passes (sym c.is_non_empty.ensures ∙ c.if-is_non_empty.false) (from_there (XmitBypass k n) r.ensures.makes x.makes.1), makes_then r.ensures.makes x.makes.2);
    }

pub xmit_bypass-requires-clause-may : goal.xmit_bypass-requires-clause-may
xmit_bypass-requires-clause-may g c _ _ = record { at = search rules; packet = search rules; serving = search rules; hand = search rules }
