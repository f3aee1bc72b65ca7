use Rattle.std.proofs.Common.{◌≡◌, ℕ, [], ◌∷◌, Option, None, Some, arith, is_some, refl, rules, sym, ap, ◌∙◌, subst}
use Rattle.std.specs.Option.{option_map_or}
use Rattle.std.specs.Prelude.{MatchOption, slice_index}
use Rattle.lq_model.specs.Positions.{holds_lock}
use Rattle.lq_model.specs.declared.machine.Seat.{Seat}
use Rattle.lq_table.specs.Rule.{shown}
use Rattle.lq_table.specs.Views.{HolderPart, Setup, View}
use Rattle.lq_table.specs.Stops.{picking}
use Rattle.lq_table.specs.Sees.{view, carried, account_of, solo}
use Rattle.lq_qdisc.specs.Calls.{FindsPacket, FindsStopped, Picks, laid_aside}
use Rattle.lq_qdisc.proofs.TakeLemmas.{carries_slot, carries_still, finds_stopped, kept_moved, kept_then, opened_at_dequeue, serving_same, serving_with, stop_is, stopped_at_dequeue}
use Rattle.lq_table.proofs.StepsThen.{makes_then}
use Rattle.lq_device.specs.Station.{with_slot}
use Rattle.lq_table.specs.Step.{LoadXoff, MakesSteps, SetStation}
use Rattle.lq_qdisc.specs.StepLists.{FindsStop, FindsXoff, KeepsRequeued, TakesRequeued}
use Rattle.lq_qdisc.proofs.ListLemmas.{is_carried, station_changed}
use Rattle.lq_model.specs.Plan.{queue_in}
use Rattle.lq_model.specs.declared.machine.Blocked.TheVariants.{NoneTaken}
use Rattle.lq_qdisc.proofs.takes.dequeue_requeued.Goals as goal

pub maybe_clear_missed-requires-clause-at : goal.maybe_clear_missed-requires-clause-at
maybe_clear_missed-requires-clause-at g c κs within = (NoneTaken (queue_in c.args.shared.now.infos.now c.args.n), search rules, sym c.queue_of-queue.ensures)

pub returns-then-load_xoff-ne0 : goal.returns-then-load_xoff-ne0
returns-then-load_xoff-ne0 g c = record {
  kept =
      let l = c.load_xoff.ensures in
      let e = stopped_at_dequeue c.load_xoff.result (Some c.args.n) (view c.args.cpu.now) (view c.load_xoff.new.cpu) l.makes.knows c.requires.at c.requires.slot.0 c.if-load_xoff-ne0.true in
      kept_then (kept_moved c.args.cpu.now c.load_xoff.new.cpu _ _ _ _ l.makes.seat l.makes.places e refl) c.maybe_clear_missed.ensures.kept;
  run = search rules;
  serving =
      let l = c.load_xoff.ensures in let m = c.maybe_clear_missed.ensures in
      let e = stopped_at_dequeue c.load_xoff.result (Some c.args.n) (view c.args.cpu.now) (view c.load_xoff.new.cpu) l.makes.knows c.requires.at c.requires.slot.0 c.if-load_xoff-ne0.true in
      serving_same c.args.cpu.now c.maybe_clear_missed.new.cpu (m.station.1 ∙ l.makes.has) (m.station.0 ∙ l.makes.carries) (m.holder ∙ ap (λ (v : View). laid_aside v.place.position v.holder) e) (m.kept.locks ∙ ap (λ (v : View). v.locks) e) c.requires.serving;
  at = search rules;
  fates = search rules;
  packet = search rules;
  came = (
    (
        let v = view c.args.cpu.now in let m = view c.load_xoff.new.cpu in let w = view c.maybe_clear_missed.new.cpu in let x = c.load_xoff.result in let l = c.load_xoff.ensures in let a = c.maybe_clear_missed.ensures in
        let e = stopped_at_dequeue x (Some c.args.n) v m l.makes.knows c.requires.at c.requires.slot.0 c.if-load_xoff-ne0.true in
        let queue = c.queue_of-queue.ensures ∙ ap (λ (o : Option ℕ). option_map_or (queue_in c.args.shared.now.infos.now) o 0) (sym c.requires.slot.0) in (
          λ _. ap is_some c.requires.slot.0,
          subst (λ (q : ℕ). FindsStopped q v w) queue
              (finds_stopped c.queue_of-queue.result x _ v m w c.if-load_xoff-ne0.true e a.holder a.sole (λ alone. stop_is c.queue_of-queue.result x v l.makes.told.0.3 alone (ap holds_lock c.requires.at) c.requires.serving.3)),
        )
        ),
    (
        λ one alone.
        let s = c.load_xoff.ensures.makes.told.0.3 in let holds = ap holds_lock c.requires.at in let v = view c.args.cpu.now in
        let queue : c.queue_of-queue.result ≡ 0 = (let a = c.queue_of-queue.ensures in let b = c.requires.slot.1.1 in let d = ap (λ (k : Setup). k.queues) c.requires.seat.2 in omega arith) in
        (s.1 alone holds, s.2 alone holds, λ open_. c.if-load_xoff-ne0.true (stop_is c.queue_of-queue.result c.load_xoff.result v s alone holds c.requires.serving.3 ∙ (ap (slice_index (account_of v).stops) queue ∙ open_)))
        ),
    search rules,
  );
  makes =
      let m = c.maybe_clear_missed.ensures.makes in let q = c.queue_of-queue.result in (
        LoadXoff q c.load_xoff.result ∷ m.0,
        KeepsRequeued c.requires.slot.0 (subst (λ (queue : ℕ). FindsXoff queue (LoadXoff q c.load_xoff.result ∷ m.0)) c.queue_of-queue.ensures (FindsStop c.if-load_xoff-ne0.true m.1)),
        makes_then c.load_xoff.ensures.makes m.2,
      );
}

pub returns : goal.returns
returns g c = record {
  kept =
      let l = c.load_xoff.ensures in let t = c.take_requeued.ensures.same in
      let e = t.3 ∙ opened_at_dequeue c.load_xoff.result (Some c.args.n) (view c.args.cpu.now) (view c.load_xoff.new.cpu) l.makes.knows c.requires.at c.requires.slot.0 c.if-load_xoff-ne0.false in
      kept_moved c.args.cpu.now c.take_requeued.new.cpu _ _ _ _ (t.0.0 ∙ l.makes.seat.0, t.0.1 ∙ l.makes.seat.1) (t.1 ∙ l.makes.places) e refl;
  run = search rules;
  serving =
      let l = c.load_xoff.ensures in let t = c.take_requeued.ensures in let h = (view c.args.cpu.now).holder in
      let e = t.same.3 ∙ opened_at_dequeue c.load_xoff.result (Some c.args.n) (view c.args.cpu.now) (view c.load_xoff.new.cpu) l.makes.knows c.requires.at c.requires.slot.0 c.if-load_xoff-ne0.false in
      let holder : (view c.take_requeued.new.cpu).holder ≡ record h { slot = None; hand = Some c.args.n } = ap (λ (v : View). v.holder) e in
      serving_with c.args.cpu.now c.take_requeued.new.cpu None (Some c.args.n) (t.same.2 ∙ l.makes.has)
      (t.station (shown h) (l.makes.carries ∙ c.requires.serving.0.1) ∙ ap (λ (x : HolderPart). Some (shown x)) (sym holder)) holder (ap (λ (v : View). v.locks) e) c.requires.serving;
  at = search rules;
  fates = search rules;
  packet = search rules;
  came = (
    (
        let v = view c.args.cpu.now in let w = view c.take_requeued.new.cpu in let n = c.args.n in
        let e = c.take_requeued.ensures.same.3 ∙ opened_at_dequeue c.load_xoff.result (Some n) v (view c.load_xoff.new.cpu) c.load_xoff.ensures.makes.knows c.requires.at c.requires.slot.0 c.if-load_xoff-ne0.false in
        subst (λ (o : Option ℕ). MatchOption o (FindsPacket n v w) (λ m. (m ≡ n) × Picks n v w)) (sym c.requires.slot.0)
        (refl, record { is = e ∙ ap (λ (s : Seat). picking (Some n) (record v { place = s })) (sym (ap (λ (x : View). x.place) e)); step = ap solo e })
        ),
    (
        λ one alone.
        let s = c.load_xoff.ensures.makes.told.0.3 in let holds = ap holds_lock c.requires.at in let v = view c.args.cpu.now in
        let queue : c.queue_of-queue.result ≡ 0 = (let a = c.queue_of-queue.ensures in let b = c.requires.slot.1.1 in let d = ap (λ (k : Setup). k.queues) c.requires.seat.2 in omega arith) in
        (s.1 alone holds, s.2 alone holds, ap (slice_index (account_of v).stops) (sym queue) ∙ (sym (stop_is c.queue_of-queue.result c.load_xoff.result v s alone holds c.requires.serving.3) ∙ c.if-load_xoff-ne0.false))
        ),
    search rules,
  );
  makes =
      let b = c.args.cpu.now in let m = c.load_xoff.new.cpu in let n = c.args.n in let st = shown (view b).holder in
      let loads = subst (λ (queue : ℕ). MakesSteps (LoadXoff queue 0 ∷ []) b m) c.queue_of-queue.ensures (subst (λ (found : ℕ). MakesSteps (LoadXoff c.queue_of-queue.result found ∷ []) b m) c.if-load_xoff-ne0.false c.load_xoff.ensures.makes) in
      let takes = station_changed (λ x. with_slot x None) (carried b) st m c.take_requeued.new.cpu (c.load_xoff.ensures.makes.carries ∙ c.requires.serving.0.1) (is_carried b st c.requires.serving.0.1) c.take_requeued.ensures in
      (LoadXoff (queue_in c.args.shared.now.infos.now n) 0 ∷ SetStation (with_slot (carried b) None) ∷ [], TakesRequeued c.requires.slot.0, makes_then loads takes);
}

pub load_xoff-requires-clause-slot : goal.load_xoff-requires-clause-slot
load_xoff-requires-clause-slot g c _ _ = carries_slot c.args.cpu.now c.requires.serving

pub maybe_clear_missed-requires-clause-slot : goal.maybe_clear_missed-requires-clause-slot
maybe_clear_missed-requires-clause-slot g c κs within =
    let l = c.load_xoff.ensures in
    let e = stopped_at_dequeue c.load_xoff.result (Some c.args.n) (view c.args.cpu.now) (view c.load_xoff.new.cpu) l.makes.knows c.requires.at c.requires.slot.0 c.if-load_xoff-ne0.true in
    carries_still c.args.cpu.now c.load_xoff.new.cpu l.makes.carries (ap (λ (v : View). v.holder.slot) e) (carries_slot c.args.cpu.now c.requires.serving)
