use Rattle.std.proofs.Common.{◌≡◌, ℕ, arith, rules, true, false, not, sym, ap, ◌∙◌, [], ◌∷◌, ◌&&◌, subst, ◌-◌, ◌/◌}
use Rattle.lq_ring.proofs.StepsThen.{makes_then}
use Rattle.lq_table.specs.Sees.{view, setup, packet_at}
use Rattle.lq_table.specs.States.{some_bit}
use Rattle.lq_table.specs.Step.{Check, MakesSteps, Settle}
use Rattle.lq_table.specs.Fates.{settle_view_owed}
use Rattle.lq_model.specs.declared.fate.Fate.TheVariants.{Refused}
use Rattle.lq_table.specs.Views.{Setup, View}
use Rattle.lq_qdisc.specs.StepLists.{EnqueueAndRun, IsDown, MayNotPass, MayPass, TryBypass, XmitSkb}
use Rattle.lq_ring.specs.StepLists.{MakesStepsFrom}
use Rattle.lq_qdisc.specs.declared.answers.Sending.{Sending}
use Rattle.lq_qdisc.specs.declared.answers.Sending.TheVariants as sending
use Rattle.lq_qdisc.proofs.ListLemmas.{from_there}
use Rattle.lq_table.specs.Moves.{is_set}
use Rattle.lq_qdisc.proofs.SendLemmas.{IsLooked, brings_looked_by, checked_leads, looked_from}
use Rattle.lq_table.proofs.OneStep.{checks_active, checks_refused}
use Rattle.lq_qdisc.proofs.sends.xmit_skb.Goals as goal
use Rattle.lq_qdisc.proofs.sends.xmit_skb.Goals.{Else-is_deactivated}
use Rattle.lq_qdisc.proofs.sends.xmit_skb.Goals.{else-bypass-via-else-bypass, else-bypass-via-then-bypass+else-not-is_non_empty}

-- what is known once the state was loaded, and the station isn't deactivated
active : (g : _) (c : Else-is_deactivated g) → IsLooked c.args.shared.now c.args.n c.check-state.result c.args.cpu.now c.check-state.new.cpu
active g c =
    let l = c.check-state.ensures in let e = checks_active l.makes (sym c.is_deactivated.ensures ∙ c.if-is_deactivated.false) in
    looked_from c.args.shared.now c.args.n _ c.args.cpu.now c.check-state.new.cpu (l.makes.seat, l.makes.carries, l.makes.places, l.makes.has) e c.requires.seat c.requires.may.brings

pub try_bypass-requires-clause-seat : goal.try_bypass-requires-clause-seat
try_bypass-requires-clause-seat g c _ _ = (active g (goal.at.try_bypass-requires-clause-seat g c).Else-is_deactivated).call.seat

pub enqueue_and_run-requires-clause-seat : goal.enqueue_and_run-requires-clause-seat
enqueue_and_run-requires-clause-seat g c _ _ = (active g (goal.at.enqueue_and_run-requires-clause-seat g c).Else-is_deactivated).call.seat

pub enqueue_and_run-requires-clause-may : goal.enqueue_and_run-requires-clause-may
enqueue_and_run-requires-clause-may g c _ _ =
    let known_ = active g (goal.at.enqueue_and_run-requires-clause-may g c).Else-is_deactivated in
    let state = c.check-state.result in let off = sym c.is_deactivated.ensures ∙ c.if-is_deactivated.false in
    let may_not : c.args.shared.now.bypass && not (some_bit state) ≡ false = elim c.else-bypass.branch [
      | else-bypass-via-then-bypass+else-not-is_non_empty w ↦
          (λ j. (sym c.bypass.ensures ∙ w.if-bypass.true) j && not ((sym w.is_non_empty.ensures ∙ w.if-not-is_non_empty.false) j))
      | else-bypass-via-else-bypass w ↦ (λ j. (sym c.bypass.ensures ∙ w.if-bypass.false) j && not (some_bit state))
    ] in record {
      at = checked_leads (packet_at c.args.shared.now c.args.n) state false (view c.args.cpu.now) (view c.check-state.new.cpu) c.requires.may.at off
          (ap (λ (k : Setup). k.bypass && not (some_bit state)) c.requires.seat.2 ∙ may_not) known_.is;
      brings = known_.packet;
      packet = c.requires.may.packet;
      holds = known_.free c.requires.may.holds;
    }

pub returns-then-is_deactivated : goal.returns-then-is_deactivated
returns-then-is_deactivated g c =
    let k = setup c.args.shared.now in let state = c.check-state.result in let n = c.args.n in let v = view c.args.cpu.now in
    let l = c.check-state.ensures in let r = c.refuse.ensures.event in
    let on : is_set 2 state ≡ true = sym c.is_deactivated.ensures ∙ c.if-is_deactivated.true in let s = checks_refused l.makes on in
    let settled = ap (λ (v : View). v.settled) c.refuse.ensures.settled ∙ ap (λ (v : View). (settle_view_owed v).settled) s in record {
      kept = search rules;
      fates = ((n, Refused (state / 256 - 1)) ∷ [], settled);
      at = search rules;
      free = search rules;
      came = search rules;
      makes =
          let event : r.0 ≡ state / 256 - 1 = (let d = r.2 in let e = r.3 in omega arith) in let b = c.args.cpu.now in let w = c.refuse.new.cpu in
          let refuses = subst (λ (e : ℕ). MakesSteps (Settle n (Refused e) ∷ []) c.check-state.new.cpu w) event r.5 in
          subst (λ (answer : Sending). MakesStepsFrom (λ z. XmitSkb k n z answer) b w) (sym (r.4 ∙ ap (λ (e : ℕ). sending.Refused e) event))
          (Check n state ∷ Settle n (Refused (state / 256 - 1)) ∷ [], IsDown on, makes_then c.check-state.ensures.makes refuses);
    }

pub returns-then-not-is_non_empty : goal.returns-then-not-is_non_empty
returns-then-not-is_non_empty g c =
    let k = setup c.args.shared.now in let state = c.check-state.result in let l = c.check-state.ensures in
    let off : is_set 2 state ≡ false = sym c.is_deactivated.ensures ∙ c.if-is_deactivated.false in
    let bypass : c.args.shared.now.bypass ≡ true = sym c.bypass.ensures ∙ c.if-bypass.true in
    let clear : some_bit state ≡ false = sym c.is_non_empty.ensures ∙ c.if-not-is_non_empty.true in
    let may : c.args.shared.now.bypass && not (some_bit state) ≡ true = (λ j. bypass j && not (clear j)) in
    let known_ = active g (goal.at.returns-then-not-is_non_empty g c).Else-is_deactivated in let tried = c.try_bypass in
    let m = tried.ensures.makes in
    brings_looked_by {to = λ s. XmitSkb k c.args.n s tried.result} c.args.shared.now c.args.n state tried.result c.args.cpu.now c.check-state.new.cpu tried.new.cpu known_ tried.ensures
    (Check c.args.n state ∷ m.0, MayPass off may (from_there (TryBypass k c.args.n tried.result) l.makes m.1), makes_then l.makes m.2)

pub returns : goal.returns
returns g c =
    let k = setup c.args.shared.now in let state = c.check-state.result in let l = c.check-state.ensures in
    let off : is_set 2 state ≡ false = sym c.is_deactivated.ensures ∙ c.if-is_deactivated.false in
    let may_not : c.args.shared.now.bypass && not (some_bit state) ≡ false = elim c.else-bypass.branch [
      | else-bypass-via-then-bypass+else-not-is_non_empty w ↦
          (λ j. (sym c.bypass.ensures ∙ w.if-bypass.true) j && not ((sym w.is_non_empty.ensures ∙ w.if-not-is_non_empty.false) j))
      | else-bypass-via-else-bypass w ↦ (λ j. (sym c.bypass.ensures ∙ w.if-bypass.false) j && not (some_bit state))
    ] in
    let known_ = active g (goal.at.returns g c).Else-is_deactivated in let s = c.enqueue_and_run in
    let m = s.ensures.makes in
    brings_looked_by {to = λ z. XmitSkb k c.args.n z s.result} c.args.shared.now c.args.n state s.result c.args.cpu.now c.check-state.new.cpu s.new.cpu known_ s.ensures
    (Check c.args.n state ∷ m.0, MayNotPass off may_not (from_there (EnqueueAndRun k c.args.n s.result) l.makes m.1), makes_then l.makes m.2)

pub try_bypass-requires-clause-may : goal.try_bypass-requires-clause-may
try_bypass-requires-clause-may g c _ _ =
    let known_ = active g (goal.at.try_bypass-requires-clause-may g c).Else-is_deactivated in
    let off = sym c.is_deactivated.ensures ∙ c.if-is_deactivated.false in
    let clear = sym c.is_non_empty.ensures ∙ c.if-not-is_non_empty.true in
    let bypass = ap (λ (k : Setup). k.bypass) c.requires.seat.2 ∙ (sym c.bypass.ensures ∙ c.if-bypass.true) in record {
      at = checked_leads (packet_at c.args.shared.now c.args.n) c.check-state.result true (view c.args.cpu.now) (view c.check-state.new.cpu) c.requires.may.at off (λ j. bypass j && not (clear j)) known_.is;
      brings = known_.packet;
      packet = c.requires.may.packet;
      holds = known_.free c.requires.may.holds;
    }
