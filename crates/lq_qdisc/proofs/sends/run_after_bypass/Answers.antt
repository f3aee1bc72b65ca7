use Rattle.std.proofs.Common.{◌≡◌, ◌≢◌, rules, true, refl, List, ◌∷◌, sym, ap, ◌∙◌, subst}
use Rattle.lq_ring.proofs.StepsThen.{makes_then}
use Rattle.lq_ring.specs.StepLists.{MakesStepsFrom}
use Rattle.lq_run.proofs.Ends.{kept_ended}
use Rattle.lq_table.specs.Sees.{setup}
use Rattle.lq_table.specs.Step.{LoadState, Standing, Step}
use Rattle.lq_table.specs.Views.{Setup, View}
use Rattle.lq_table.specs.States.{some_bit}
use Rattle.lq_qdisc.specs.StepLists.{EndsAfter, EndsAtOnce, RunAfterBypass, RunToEnd, ServesAfter}
use Rattle.lq_run.specs.Steps.{End, MakesStepsOf}
use Rattle.lq_qdisc.proofs.ListLemmas.{from_there}
use Rattle.lq_qdisc.specs.declared.answers.Through.{Through}
use Rattle.lq_qdisc.specs.declared.answers.Through.TheVariants.{Back, Yes}
use Rattle.lq_qdisc.proofs.SendLemmas.{LeavesTheRest, serves_then}
use Rattle.lq_qdisc.proofs.TakeLemmas.{seat_same, serving_same}
use Rattle.lq_qdisc.proofs.sends.run_after_bypass.Goals as goal
use Rattle.lq_qdisc.proofs.sends.run_after_bypass.Goals.{else-eq-via-then-eq+else-is_non_empty, else-eq-via-else-eq}

pub returns-then-is_non_empty : goal.returns-then-is_non_empty
returns-then-is_non_empty g c =
    let k = setup c.args.shared.now in let state = c.load_state.result in let l = c.load_state.ensures in let v = l.makes.knows in
    let is : c.args.through ≡ Yes = (search rules) in
    let some_ : some_bit state ≡ true = sym c.is_non_empty.ensures ∙ c.if-is_non_empty.true in
    let calm : LeavesTheRest c.args.cpu.now c.load_state.new.cpu = record {
      seat = l.makes.seat;
      share = ap (λ (x : View). x.share) v;
      packets = ap (λ (x : View). x.packets) v;
      control = ap (λ (x : View). x.control) v;
      turns = ap (λ (x : View). x.turns) v;
      trail = ap (λ (x : View). x.trail) v;
      told = ap (λ (x : View). x.whole.told) v;
      settled = ap (λ (x : View). x.settled) v;
    } in
    serves_then c.args.cpu.now c.load_state.new.cpu c.run_to_end.new.cpu calm c.run_to_end.ensures
    (subst (λ (t : Through). MakesStepsFrom (λ s. RunAfterBypass k s t) c.args.cpu.now c.run_to_end.new.cpu) (sym is)
    (let m = c.run_to_end.ensures.makes in (LoadState state ∷ m.0, ServesAfter some_ (from_there (RunToEnd k) l.makes m.1), makes_then l.makes m.2)))

pub run_to_end-requires-clause-seat : goal.run_to_end-requires-clause-seat
run_to_end-requires-clause-seat g c _ _ = let l = c.load_state.ensures in seat_same c.args.shared.now c.args.cpu.now c.load_state.new.cpu l.makes.seat (ap (λ (v : View). v.share) l.makes.knows) c.requires.seat

pub run_to_end-requires-clause-serves : goal.run_to_end-requires-clause-serves
run_to_end-requires-clause-serves g c _ _ = let l = c.load_state.ensures in record {
  serving = serving_same c.args.cpu.now c.load_state.new.cpu l.makes.has l.makes.carries (ap (λ (v : View). v.holder) l.makes.knows) (ap (λ (v : View). v.locks) l.makes.knows) c.requires.serving;
  hand = search rules;
  slot = search rules;
}

-- a packet that wasn't accepted
ends_back : {k : Setup} {before : Standing} {xs : List Step} (t : Through) → t ≢ Yes → End xs → RunAfterBypass k before t xs
ends_back Yes other r = absurd (other refl)
ends_back (Back reason) other r = EndsAtOnce r

pub returns-else-eq : goal.returns-else-eq
returns-else-eq g c =
    let k = setup c.args.shared.now in let b = c.args.cpu.now in let a = c.end.new.cpu in let kept = kept_ended c.end.ensures.makes in
    let ends : MakesStepsOf End c.else-eq.cpu a = c.end.ensures.makes in
    let makes_ : MakesStepsFrom (λ s. RunAfterBypass k s c.args.through) b a = elim c.else-eq.branch [
      | else-eq-via-then-eq+else-is_non_empty w ↦
          let l = w.load_state in let r = subst (λ z. MakesStepsOf End z a) w.cpu-is ends in let is : c.args.through ≡ Yes = (search rules) in
          subst (λ (t : Through). MakesStepsFrom (λ s. RunAfterBypass k s t) b a) (sym is)
          (LoadState l.result ∷ r.0, EndsAfter (sym w.is_non_empty.ensures ∙ w.if-is_non_empty.false) r.1, makes_then l.ensures.makes r.2)
      | else-eq-via-else-eq w ↦
          let r = subst (λ z. MakesStepsOf End z a) w.cpu-is ends in let other : c.args.through ≢ Yes = (search rules) in
          (r.0, ends_back c.args.through other r.1, r.2)
    ] in record { kept = search rules; fates = search rules; at = search rules; free = search rules; came = search rules; makes = makes_ }
