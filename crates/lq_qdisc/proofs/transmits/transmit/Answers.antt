use Rattle.std.proofs.Common.{rules, ◌≡◌, ℕ, [], ◌∷◌, ◌++◌, sym, ap, ◌∙◌, subst}
use Rattle.lq_ring.proofs.StepsThen.{makes_then}
use Rattle.lq_model.specs.declared.machine.Position.TheVariants.{Check}
use Rattle.lq_table.specs.Views.{View, Setup, machine_packet}
use Rattle.lq_model.specs.Plan.{owner_in, rank_in}
use Rattle.lq_table.specs.Inside.{enter_view}
use Rattle.lq_table.specs.Turns.{give_turn_view}
use Rattle.lq_table.specs.Step.{Enter, GiveTurn, Leave, MakesSteps, TakeTurn, due_word}
use Rattle.lq_table.specs.Sees.{view, setup, solo}
use Rattle.lq_table.specs.declared.shared.Cpu.{Cpu}
use Rattle.lq_ring.specs.StepLists.{MakesStepsFrom}
use Rattle.lq_qdisc.specs.declared.answers.Sending.{Sending}
use Rattle.lq_qdisc.proofs.ViewRelations.{Goes, transmitting}
use Rattle.lq_qdisc.specs.Sends.{HasCome}
use Rattle.lq_qdisc.specs.StepLists.{InTurn, QueueXmit, XmitSkb}
use Rattle.lq_qdisc.proofs.ListLemmas.{from_there, leads}
use Rattle.lq_qdisc.proofs.TransmitLemmas.{transmits_as}
use Rattle.lq_qdisc.proofs.FirstLemmas.{refused_first}
use Rattle.lq_qdisc.proofs.AloneCalls.{transmit_alone}
use Rattle.lq_qdisc.proofs.PutLemmas.{BringsUnlocked}
use Rattle.lq_ring.specs.Put.{no_locks}
use Rattle.lq_qdisc.proofs.ViewLemmas.{goes_view}
use Rattle.lq_qdisc.specs.Seats.{IsTurnOf}
use Rattle.lq_table.proofs.OneStep.{takes_turn}
use Rattle.lq_qdisc.proofs.transmits.transmit.Given as given
use Rattle.lq_qdisc.proofs.transmits.transmit.Goals as goal

-- what it comes to between its two steps on the calls inside
goes : {D : Type 0} (k : Setup) (n : ℕ) (answer : Sending) (v : View) (m a : Cpu D) → v.share.about ≡ k → v.locks ≡ no_locks → view m ≡ transmitting k.infos n v → MakesStepsFrom (λ s. XmitSkb k n s answer) m a → Goes k.infos k.bypass n answer (transmitting k.infos n v) (view a)
goes k n answer v m a about free is made =
    let here : (view m).place.position ≡ Check (machine_packet v.share.about.infos n) = ap (λ (w : View). w.place.position) is in
    let brings : BringsUnlocked n (view m) = (ap (λ (w : View). w.packets.fresh) is, ap (λ (w : View). w.locks) is ∙ free) in
    let bypass = ap (λ (w : View). w.share.about.bypass) is ∙ ap (λ (x : Setup). x.bypass) about in
    subst (λ (u : View). Goes k.infos k.bypass n answer u (view a)) is (subst (λ (w : View). Goes k.infos k.bypass n answer (view m) w) (sym made.2.knows) (goes_view _ made.1 here brings bypass made.2.told))

-- the steps, in its turn
made : (g : given.Over) (c : goal.After-give_turn g) → IsTurnOf c.args.shared.now c.args.n c.args.cpu.now → MakesStepsFrom (QueueXmit (setup c.args.shared.now) c.args.n c.xmit_skb-sending.result) c.args.cpu.now c.give_turn.new.cpu
made g c turn =
    let k = setup c.args.shared.now in let n = c.args.n in let answer = c.xmit_skb-sending.result in let b = c.args.cpu.now in let x = c.xmit_skb-sending.ensures in let taken = c.in_default.ensures.makes in
    let begins = makes_then (subst (λ (found : ℕ). MakesSteps (TakeTurn n found ∷ []) b c.take_turn.new.cpu) taken.1 taken.2) c.enter.ensures.makes in (
      TakeTurn n (due_word (view b) n) ∷ Enter ∷ x.makes.0 ++ Leave ∷ GiveTurn n ∷ [],
      InTurn (from_there (λ z. XmitSkb k n z answer) begins x.makes.1),
      makes_then begins (makes_then x.makes.2 (makes_then c.leave.ensures.makes c.give_turn.ensures.makes)),
    )

pub returns : goal.returns
returns g c = record {
  makes = λ turn. made g c turn;
  kept = search rules;
  fates = search rules;
  at = search rules;
  ready = search rules;
  in_turn = λ turn.
      let k = setup c.args.shared.now in let n = c.args.n in let answer = c.xmit_skb-sending.result in let b = c.args.cpu.now in let v = view b in let x = c.xmit_skb-sending.ensures in let left = c.leave.ensures in
      let took = c.in_default.ensures.makes in let v_is = c.enter.ensures.makes.knows ∙ ap (λ (z : View). enter_view z) (takes_turn took.2 took.1 k c.requires.seat.2) in
      let about : (view c.leave.new.cpu).share.about ≡ k = ap (λ (z : View). z.share.about) left.makes.knows ∙ (ap (λ s. s.about) x.kept.share ∙ (ap (λ (z : View). z.share.about) v_is ∙ c.requires.seat.2)) in
      let gives = c.give_turn.ensures.makes.knows ∙ ap (λ (z : Setup). give_turn_view (owner_in z.infos n) (rank_in z.infos n) (view c.leave.new.cpu)) about in
      let t = transmits_as k.infos n answer v (view c.xmit_skb-sending.new.cpu) (view c.leave.new.cpu) (view c.give_turn.new.cpu)
      (subst (λ (z : View). HasCome k.infos n answer z (view c.xmit_skb-sending.new.cpu)) v_is x.came) left.makes.knows gives in record {
        came = x.came.came;
        turns = t.0;
        trail = t.1;
        by = leads (QueueXmit k n answer) b c.give_turn.new.cpu (made g c turn);
      };
  first = λ turn first event.
      let k = setup c.args.shared.now in let took = c.in_default.ensures.makes in
      refused_first k.infos k.bypass c.args.n c.xmit_skb-sending.result (view c.args.cpu.now) (view c.xmit_skb-sending.new.cpu)
      (goes k c.args.n c.xmit_skb-sending.result (view c.args.cpu.now) c.enter.new.cpu c.xmit_skb-sending.new.cpu c.requires.seat.2 c.requires.ready.2 (c.enter.ensures.makes.knows ∙ ap (λ (v : View). enter_view v) (takes_turn took.2 took.1 k c.requires.seat.2)) c.xmit_skb-sending.ensures.makes) first event;
  alone = λ turn low.
      let k = setup c.args.shared.now in let took = c.in_default.ensures.makes in
      transmit_alone k k.infos c.args.n k.bypass c.xmit_skb-sending.result (view c.args.cpu.now) (view c.give_turn.new.cpu) c.requires.seat.2 (ap (λ (x : Setup). x.bypass) c.requires.seat.2) (view c.xmit_skb-sending.new.cpu)
      (goes k c.args.n c.xmit_skb-sending.result (view c.args.cpu.now) c.enter.new.cpu c.xmit_skb-sending.new.cpu c.requires.seat.2 c.requires.ready.2 (c.enter.ensures.makes.knows ∙ ap (λ (v : View). enter_view v) (takes_turn took.2 took.1 k c.requires.seat.2)) c.xmit_skb-sending.ensures.makes)
      (ap solo (c.give_turn.ensures.makes.knows) ∙ (ap solo c.leave.ensures.makes.knows ∙ c.leave.ensures.makes.told.0)) low;
  out_of_turn = search rules;
}

pub returns-in-Err : goal.returns-in-Err
returns-in-Err g c = record {
  makes = search rules;
  kept = search rules;
  fates = search rules;
  at = search rules;
  ready = search rules;
  in_turn = search rules;
  first = search rules;
  alone = search rules;
  out_of_turn = search rules;
}
