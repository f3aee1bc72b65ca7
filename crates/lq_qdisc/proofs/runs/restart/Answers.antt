use Rattle.std.proofs.Common.{rules, ◌≡◌, ℕ, ◌+◌, false, add-zero, ap, subst, sym, ◌∙◌}
use Rattle.lq_model.specs.Plan.{queue_in}
use Rattle.lq_table.specs.Sees.{view, known, setup}
use Rattle.lq_qdisc.specs.declared.answers.Taken.TheVariants as taken
use Rattle.lq_qdisc.specs.declared.answers.Through.TheVariants.{Back, Yes}
use Rattle.lq_qdisc.specs.declared.answers.Why.{Why}
use Rattle.lq_qdisc.specs.declared.answers.Why.TheVariants.{Busy, Stopped}
use Rattle.lq_qdisc.specs.Direct.{Directs}
use Rattle.lq_ring.specs.StepLists.{MakesStepsFrom}
use Rattle.lq_table.specs.Views.{Setup}
use Rattle.lq_table.specs.declared.shared.Cpu.{Cpu}
use Rattle.lq_qdisc.specs.StepLists.{DequeueSkb, DequeuesTo, DirectXmit, HandsOver, IsBack, IsLaid, IsSent, NothingHeld, QueueStopped}
use Rattle.lq_qdisc.specs.declared.answers.Through.{Through}
use Rattle.lq_qdisc.proofs.ListLemmas.{comes_to, then_makes}
use Rattle.lq_qdisc.proofs.RunLemmas.{dequeues_count, directs_count, directs_fates, fates_same, fates_then, through_count}
use Rattle.lq_qdisc.proofs.TakeLemmas.{kept_then, seat_in}
use Rattle.lq_qdisc.proofs.runs.restart.Goals as goal

-- a packet was dequeued, and handed to the device with this result
hands_over : {D : Type 0} (k : Setup) (n : ℕ) (t : Through) (b m a : Cpu D) → MakesStepsFrom (λ s. DequeueSkb k s (taken.Packet n)) b m → DequeuesTo k (taken.Packet n) (view b) (view m)
    → MakesStepsFrom (λ s. DirectXmit k.queues n (queue_in k.infos n) s t) m a → Directs t n (queue_in k.infos n) (view m) (view a) → (view a).share ≡ (view m).share → MakesStepsFrom (HandsOver k n t) b a
hands_over k n t b m a taken_ found made came share =
    then_makes b m a (comes_to (DequeuesTo k (taken.Packet n)) b m taken_ found) (comes_to (λ old new. Directs t n (queue_in k.infos n) old new × (new.share ≡ old.share)) m a made (came, share))

pub returns-in-Empty : goal.returns-in-Empty
returns-in-Empty g c = record {
  kept = search rules;
  serving = search rules;
  trail = search rules;
  makes = let m = comes_to (DequeuesTo (setup c.args.shared.now) taken.Empty) c.args.cpu.now c.dequeue.new.cpu c.in-Empty.ensures.makes c.in-Empty.ensures.came in (m.0, NothingHeld m.1, m.2);
  at = search rules;
  run = search rules;
  quota = search rules;
  fates = search rules;
  accepted = dequeues_count taken.Empty c.args.shared.now.infos.now (view c.args.cpu.now) (view c.dequeue.new.cpu) c.in-Empty.ensures.came.0 ∙ sym (add-zero _);
}

pub returns-in-Stopped : goal.returns-in-Stopped
returns-in-Stopped g c = record {
  kept = search rules;
  serving = search rules;
  trail = search rules;
  makes = let m = comes_to (DequeuesTo (setup c.args.shared.now) taken.Stopped) c.args.cpu.now c.dequeue.new.cpu c.in-Stopped.ensures.makes c.in-Stopped.ensures.came in (m.0, QueueStopped m.1, m.2);
  at = search rules;
  run = search rules;
  quota = search rules;
  fates = search rules;
  accepted = dequeues_count taken.Stopped c.args.shared.now.infos.now (view c.args.cpu.now) (view c.dequeue.new.cpu) c.in-Stopped.ensures.came.0 ∙ sym (add-zero _);
}

pub returns-in-Yes : goal.returns-in-Yes
returns-in-Yes g c = record {
  kept = kept_then c.dequeue.ensures.kept c.direct_xmit.ensures.kept;
  serving = search rules;
  trail = search rules;
  makes =
      let m = hands_over (setup c.args.shared.now) c.in-Packet.n Yes c.args.cpu.now c.dequeue.new.cpu c.direct_xmit.new.cpu c.in-Packet.ensures.makes c.in-Packet.ensures.came c.in-Yes.ensures.makes c.in-Yes.ensures.came c.direct_xmit.ensures.kept.share in
      (m.0, IsSent m.1, m.2);
  at = c.in-Yes.ensures.at false c.in-Packet.ensures.at;
  run = search rules;
  quota = search rules;
  fates =
      let queue = queue_in c.args.shared.now.infos.now c.in-Packet.n in
      fates_then (view c.args.cpu.now) (view c.dequeue.new.cpu) (view c.direct_xmit.new.cpu)
      (fates_same (view c.args.cpu.now) (view c.dequeue.new.cpu) c.dequeue.ensures.fates.0)
      (directs_fates Yes c.in-Packet.n queue (view c.dequeue.new.cpu) (view c.direct_xmit.new.cpu) c.in-Yes.ensures.came);
  accepted =
      let k = setup c.args.shared.now in let n = c.in-Packet.n in let queue = queue_in k.infos n in let old = known c.args.cpu.now in let mid = known c.dequeue.new.cpu in let new = known c.direct_xmit.new.cpu in
      directs_count Yes n queue mid.view new.view c.in-Yes.ensures.came
      ∙ ap (λ (x : ℕ). x + through_count Yes) (dequeues_count (taken.Packet n) k.infos old.view mid.view c.in-Packet.ensures.came.0);
}

pub returns-in-Back-Stopped : goal.returns-in-Back-Stopped
returns-in-Back-Stopped g c = record {
  kept = kept_then c.dequeue.ensures.kept c.direct_xmit.ensures.kept;
  serving = search rules;
  trail = search rules;
  makes =
      let k = setup c.args.shared.now in let n = c.in-Packet.n in let queue = queue_in k.infos n in
      let made = subst (λ (why : Why). MakesStepsFrom (λ s. DirectXmit k.queues n queue s (Back why)) c.dequeue.new.cpu c.direct_xmit.new.cpu) c.in-Back-Stopped.field-0-is c.in-Back-Stopped.ensures.makes in
      let came = subst (λ (why : Why). Directs (Back why) n queue (view c.dequeue.new.cpu) (view c.direct_xmit.new.cpu)) c.in-Back-Stopped.field-0-is c.in-Back-Stopped.ensures.came in
      let m = hands_over k n (Back Stopped) c.args.cpu.now c.dequeue.new.cpu c.direct_xmit.new.cpu c.in-Packet.ensures.makes c.in-Packet.ensures.came made came c.direct_xmit.ensures.kept.share in
      (m.0, IsLaid m.1, m.2);
  at = c.in-Back-Stopped.ensures.at false c.in-Packet.ensures.at;
  run = search rules;
  quota = search rules;
  fates =
      let k = setup c.args.shared.now in let n = c.in-Packet.n in let queue = queue_in k.infos n in let old = known c.args.cpu.now in let mid = known c.dequeue.new.cpu in let new = known c.direct_xmit.new.cpu in
      fates_then old.view mid.view new.view (fates_same old.view mid.view c.dequeue.ensures.fates.0) (directs_fates (Back Stopped) n queue mid.view new.view (subst (λ (why : Why). Directs (Back why) n queue mid.view new.view) c.in-Back-Stopped.field-0-is c.in-Back-Stopped.ensures.came));
  accepted =
      let k = setup c.args.shared.now in let n = c.in-Packet.n in let queue = queue_in k.infos n in let old = known c.args.cpu.now in let mid = known c.dequeue.new.cpu in let new = known c.direct_xmit.new.cpu in
      directs_count (Back Stopped) n queue mid.view new.view (subst (λ (why : Why). Directs (Back why) n queue mid.view new.view) c.in-Back-Stopped.field-0-is c.in-Back-Stopped.ensures.came)
      ∙ ap (λ (x : ℕ). x + through_count (Back Stopped)) (dequeues_count (taken.Packet n) k.infos old.view mid.view c.in-Packet.ensures.came.0);
}

pub returns-in-Back-Busy : goal.returns-in-Back-Busy
returns-in-Back-Busy g c = record {
  kept = kept_then c.dequeue.ensures.kept c.direct_xmit.ensures.kept;
  serving = search rules;
  trail = search rules;
  makes =
      let k = setup c.args.shared.now in let n = c.in-Packet.n in let queue = queue_in k.infos n in
      let made = subst (λ (why : Why). MakesStepsFrom (λ s. DirectXmit k.queues n queue s (Back why)) c.dequeue.new.cpu c.direct_xmit.new.cpu) c.in-Back-Busy.field-0-is c.in-Back-Busy.ensures.makes in
      let came = subst (λ (why : Why). Directs (Back why) n queue (view c.dequeue.new.cpu) (view c.direct_xmit.new.cpu)) c.in-Back-Busy.field-0-is c.in-Back-Busy.ensures.came in
      let m = hands_over k n (Back Busy) c.args.cpu.now c.dequeue.new.cpu c.direct_xmit.new.cpu c.in-Packet.ensures.makes c.in-Packet.ensures.came made came c.direct_xmit.ensures.kept.share in
      (m.0, IsBack m.1, m.2);
  at = c.in-Back-Busy.ensures.at false c.in-Packet.ensures.at;
  run = search rules;
  quota = search rules;
  fates =
      let k = setup c.args.shared.now in let n = c.in-Packet.n in let queue = queue_in k.infos n in let old = known c.args.cpu.now in let mid = known c.dequeue.new.cpu in let new = known c.direct_xmit.new.cpu in
      fates_then old.view mid.view new.view (fates_same old.view mid.view c.dequeue.ensures.fates.0) (directs_fates (Back Busy) n queue mid.view new.view (subst (λ (why : Why). Directs (Back why) n queue mid.view new.view) c.in-Back-Busy.field-0-is c.in-Back-Busy.ensures.came));
  accepted =
      let k = setup c.args.shared.now in let n = c.in-Packet.n in let queue = queue_in k.infos n in let old = known c.args.cpu.now in let mid = known c.dequeue.new.cpu in let new = known c.direct_xmit.new.cpu in
      directs_count (Back Busy) n queue mid.view new.view (subst (λ (why : Why). Directs (Back why) n queue mid.view new.view) c.in-Back-Busy.field-0-is c.in-Back-Busy.ensures.came)
      ∙ ap (λ (x : ℕ). x + through_count (Back Busy)) (dequeues_count (taken.Packet n) k.infos old.view mid.view c.in-Packet.ensures.came.0);
}

pub direct_xmit-requires-clause-seat : goal.direct_xmit-requires-clause-seat
direct_xmit-requires-clause-seat g c _ _ = seat_in c.args.shared.now c.args.cpu.now c.dequeue.new.cpu c.dequeue.ensures.kept c.requires.seat

pub direct_xmit-requires-clause-may : goal.direct_xmit-requires-clause-may
direct_xmit-requires-clause-may g c _ _ = (
  false,
  record {
    packet = c.in-Packet.ensures.packet;
    at = c.in-Packet.ensures.at;
    serving = c.dequeue.ensures.serving;
    hand = search rules;
  },
)
