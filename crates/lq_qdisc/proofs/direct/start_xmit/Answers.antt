use Rattle.std.proofs.Common.{◌≡◌, rules, Bool, true, [], ◌∷◌, ap, sym, ◌∙◌, subst, is_some, Option, Some}
use Rattle.lq_device.specs.Station.{HasAnswered, StationState, with_slot}
use Rattle.lq_model.specs.Account.{Back}
use Rattle.lq_model.specs.declared.fate.Fate.{Fate}
use Rattle.lq_model.specs.declared.device.Tx.{Tx}
use Rattle.lq_model.specs.declared.device.Tx.TheVariants.{Busy}
use Rattle.lq_model.specs.declared.machine.Position.TheVariants.{Xmit}
use Rattle.lq_table.proofs.StepsThen.{makes_then}
use Rattle.lq_table.specs.States.{requeue_view, missed_to}
use Rattle.lq_table.specs.Fates.{fate_sent}
use Rattle.lq_table.specs.Step.{MakesSteps, Requeue, SetStation, Settle}
use Rattle.lq_table.specs.Rule.{shown}
use Rattle.lq_table.specs.Sees.{view, carried, packet_at, position, solo, heard, device_to}
use Rattle.lq_table.specs.Views.{View, HolderPart, Setup}
use Rattle.lq_qdisc.specs.StepLists.{IsAccepted, IsGivenBack, stop_steps}
use Rattle.lq_qdisc.proofs.DirectLemmas.{IsSentAs, accepts, sent_settled, else_same, busy_at, busy_is, called_at, kept_sent, sent_from, serves_sent}
use Rattle.lq_qdisc.proofs.ListLemmas.{is_carried, station_asked}
use Rattle.lq_qdisc.proofs.TakeLemmas.{seat_same}
use Rattle.lq_qdisc.proofs.direct.start_xmit.Goals as goal
use Rattle.lq_qdisc.proofs.direct.start_xmit.Goals.{After-settle_sent, Then-is_refusal}

-- the device was called with the packet, and is busy
refused : (g : _) (c : Then-is_refusal g)
    → HasAnswered Busy c.args.queue c.args.n (shown (view c.args.cpu.now).holder) (carried c.ask_device-answer.new.cpu)
refused g c =
    let h = c.ask_device-answer in let busy = busy_is h.result.0 (sym c.is_refusal.ensures ∙ c.if-is_refusal.true) in
    subst (λ (a : Tx). HasAnswered a c.args.queue c.args.n (shown (view c.args.cpu.now).holder) (carried h.new.cpu)) busy
    (h.ensures.handed _ c.requires.serving.0.1).1

-- it accepted the packet, and the packet's fate was stored
abbrev IsSent : (g : _) → After-settle_sent g → Bool → Type 0
IsSent g c direct =
    let h = c.ask_device-answer in
    IsSentAs h.result.0 c.args.n c.args.queue direct (carried h.new.cpu) (view c.args.cpu.now) (view c.settle_sent.new.cpu)

sent_at : (g : _) (c : After-settle_sent g) (direct : Bool)
    → position c.args.cpu.now ≡ Xmit (packet_at c.args.shared.now c.args.n) direct → IsSent g c direct
sent_at g c direct here =
    let h = c.ask_device-answer in let m = h.new.cpu in let called = (h.ensures.handed _ c.requires.serving.0.1).1 in
    sent_from c.args.shared.now c.args.cpu.now m c.settle_sent.new.cpu c.args.n c.args.queue h.result.0 c.requires.queue_is h.ensures.same.3
    (sym c.is_refusal.ensures ∙ c.if-is_refusal.false) called
    (sent_settled c.args.shared.now c.args.n h.result.1 m c.settle_sent.new.cpu c.settle_sent.ensures (ap (λ (v : View). v.holder.hand) h.ensures.same.3 ∙ c.requires.hand) ((h.ensures.handed _ c.requires.serving.0.1).0 ∙ ap (λ (v : View). fate_sent v.holder.station) (sym h.ensures.same.3)))
    direct here

sent : (g : _) (c : After-settle_sent g) → IsSent g c c.requires.at.0
sent g c = sent_at g c c.requires.at.0 c.requires.at.1

pub stop-requires-clause-seat : goal.stop-requires-clause-seat
stop-requires-clause-seat g c κs within =
    let share = (sent g (goal.at.stop-requires-clause-seat g c).After-settle_sent).share in
    let h = c.ask_device-answer.ensures.same.0 in let s = c.settle_sent.ensures.seat in
    seat_same c.args.shared.now c.args.cpu.now c.settle_sent.new.cpu (s.0 ∙ h.0, s.1 ∙ h.1) share c.requires.seat

pub requeue_busy-requires-clause-at : goal.requeue_busy-requires-clause-at
requeue_busy-requires-clause-at g c κs within =
    let h_ = c.ask_device-answer.ensures in search rules

pub requeue_busy-requires-clause-slot_at : goal.requeue_busy-requires-clause-slot_at
requeue_busy-requires-clause-slot_at g c κs within =
    let h_ = c.ask_device-answer.ensures in h_.same.2 ∙ c.requires.serving.0.0

pub requeue_busy-requires-clause-station : goal.requeue_busy-requires-clause-station
requeue_busy-requires-clause-station g c κs within =
    let h_ = c.ask_device-answer.ensures in ap (λ (s : Option StationState). is_some s) h_.station

pub requeue_busy-requires-clause-hand : goal.requeue_busy-requires-clause-hand
requeue_busy-requires-clause-hand g c κs within =
    let h_ = c.ask_device-answer.ensures in search rules

pub requeue_busy-requires-clause-empty : goal.requeue_busy-requires-clause-empty
requeue_busy-requires-clause-empty g c κs within =
    let h_ = c.ask_device-answer.ensures in search rules

pub requeue_busy-requires-clause-called : goal.requeue_busy-requires-clause-called
requeue_busy-requires-clause-called g c κs within =
    let h_ = c.ask_device-answer.ensures in let called = refused g (goal.at.requeue_busy-requires-clause-called g c).Then-is_refusal in let h = c.ask_device-answer in called_at c.args.shared.now c.args.cpu.now h.new.cpu c.args.n c.args.queue Busy c.requires.queue_is h.ensures.same.3 called

pub returns-then-is_refusal : goal.returns-then-is_refusal
returns-then-is_refusal g c =
    let called = refused g (goal.at.returns-then-is_refusal g c).Then-is_refusal in
    let same = c.ask_device-answer.ensures.same.3 in let st = carried c.ask_device-answer.new.cpu in let r = c.requeue_busy.ensures in record {
      kept = search rules;
      serving = search rules;
      at = search rules;
      run = search rules;
      empty = search rules;
      trail = search rules;
      came =
          busy_at c.args.n c.args.queue st (view c.args.cpu.now) (view c.requeue_busy.new.cpu) c.requires.hand called
          (r.requeued ∙ ap (λ (v : View). requeue_view st v) same)
          (r.step ∙ ap (λ (v : View). device_to st.device (heard Back (missed_to true (solo v)))) same)
          c.requires.is_open;
      makes =
          let h = c.ask_device-answer in let was = sym (is_carried c.args.cpu.now _ c.requires.serving.0.1) in (
            SetStation st ∷ SetStation (with_slot st (Some c.args.n)) ∷ Requeue r.makes.0 ∷ [],
            IsGivenBack (subst (λ (from : StationState). HasAnswered Busy c.args.queue c.args.n from st) was called),
            makes_then (station_asked c.args.cpu.now h.new.cpu h.ensures.same h.ensures.made h.ensures.station) r.makes.1,
          );
    }

pub settle_sent-requires-clause-accepted : goal.settle_sent-requires-clause-accepted
settle_sent-requires-clause-accepted g c κs within =
    let h = c.ask_device-answer in let called = (h.ensures.handed _ c.requires.serving.0.1).1 in (
      h.result.0,
      sym c.is_refusal.ensures ∙ c.if-is_refusal.false,
      called_at c.args.shared.now c.args.cpu.now h.new.cpu c.args.n c.args.queue h.result.0 c.requires.queue_is h.ensures.same.3 called,
    )

pub settle_sent-requires-clause-fate_is : goal.settle_sent-requires-clause-fate_is
settle_sent-requires-clause-fate_is g c κs within =
    let h = c.ask_device-answer.ensures in (h.handed _ c.requires.serving.0.1).0 ∙ ap (λ (v : View). fate_sent v.holder.station) (sym h.same.3)

pub stop-requires-clause-at : goal.stop-requires-clause-at
stop-requires-clause-at g c κs within =
    (c.requires.at.0, (sent g (goal.at.stop-requires-clause-at g c).After-settle_sent).at)

pub stop-requires-clause-hung : goal.stop-requires-clause-hung
stop-requires-clause-hung g c κs within =
    ap (λ (x : HolderPart). x.station.device.hung) (sent g (goal.at.stop-requires-clause-hung g c).After-settle_sent).holder ∙ (c.ask_device-answer.ensures.handed _ c.requires.serving.0.1).1.answers.hung

pub returns : goal.returns
returns g c = record {
  kept = let s = sent g (goal.at.returns g c).After-settle_sent in let h = c.ask_device-answer in let stop = c.stop.ensures in kept_sent _ _ _ c.requires.at.0 _ c.args.cpu.now h.new.cpu c.settle_sent.new.cpu c.stop.new.cpu h.ensures.same.0 h.ensures.same.1 (else_same c.settle_sent.ensures) stop.same s stop.stays;
  serving = let s = sent g (goal.at.returns g c).After-settle_sent in let h = c.ask_device-answer in let stop = c.stop.ensures in serves_sent _ _ _ c.requires.at.0 c.args.cpu.now h.new.cpu c.settle_sent.new.cpu c.stop.new.cpu c.requires.serving h.ensures.same.2 h.ensures.station (h.ensures.handed _ c.requires.serving.0.1).1 (else_same c.settle_sent.ensures) stop.same s stop.stays;
  at = λ direct here. c.stop.ensures.at direct (sent_at g (goal.at.returns g c).After-settle_sent direct here).at;
  run = c.stop.ensures.stays.run ∙ (sent g (goal.at.returns g c).After-settle_sent).run;
  empty = λ _. let holder = c.stop.ensures.stays.holder ∙ (sent g (goal.at.returns g c).After-settle_sent).holder in (ap (λ (x : HolderPart). x.hand) holder, ap (λ (x : HolderPart). x.slot) holder ∙ c.requires.room.2);
  trail = c.stop.ensures.stays.trail ∙ (sent g (goal.at.returns g c).After-settle_sent).trail;
  came = let s = sent g (goal.at.returns g c).After-settle_sent in let stop = c.stop.ensures in
      let h = c.ask_device-answer in let handed = h.ensures.handed _ c.requires.serving.0.1 in
      accepts h.result.0 c.args.n c.args.queue c.args.shared.now.queues c.requires.at.0 _ (view c.args.cpu.now)
      (view c.settle_sent.new.cpu) (view c.stop.new.cpu) (sym c.is_refusal.ensures ∙ c.if-is_refusal.false) handed.1
      (ap (λ (x : Setup). x.queues) c.requires.seat.2) s stop.stays stop.past stop.step c.requires.is_open;
  makes =
      let h = c.ask_device-answer in let st = carried h.new.cpu in let b = c.args.cpu.now in let n = c.args.n in
      let handed = h.ensures.handed _ c.requires.serving.0.1 in let was = sym (is_carried b _ c.requires.serving.0.1) in
      let settled = subst (λ (f : Fate). MakesSteps (Settle n f ∷ []) h.new.cpu c.settle_sent.new.cpu) (handed.0 ∙ ap fate_sent was) c.settle_sent.ensures in (
        SetStation st ∷ Settle n (fate_sent (carried b)) ∷ stop_steps h.result.0 c.args.queue c.args.shared.now.queues,
        IsAccepted (sym c.is_refusal.ensures ∙ c.if-is_refusal.false) (subst (λ (from : StationState). HasAnswered h.result.0 c.args.queue n from st) was handed.1),
        makes_then (makes_then (station_asked b h.new.cpu h.ensures.same h.ensures.made h.ensures.station) settled) c.stop.ensures.makes,
      );
}
