use Rattle.std.proofs.Common.{◌≡◌, nat_le, ◌+◌, Bool, ℕ, length, refl, sym, subst, ◌∙◌, arith}
use Rattle.std.proofs.lemmas.Bool.{le-leb, lt-leb}
use Rattle.lq_model.specs.Alone.{changed, served}
use Rattle.lq_model.specs.Wire.{made_at, with_changes}
use Rattle.lq_model.specs.declared.plan.Card.{Card}
use Rattle.lq_plan.specs.Limits.{max_len_at}
use Rattle.lq_wire.specs.Wired.{StepsTo}
use Rattle.lq_wire.proofs.Changes.{HaveDone, below, lengthened, none-more, one-more}
use Rattle.lq_wire.proofs.Stepped.{steps-none, steps-same, steps-then}
use Rattle.lq_wire.proofs.wired.Wired.change_after.Goals as goal
use Rattle.lq_wire.proofs.wired.Wired.change_after.Goals.{then-event-count+in_ok-change, else-event-count}

pub change-requires-clause-within : goal.change-requires-clause-within
change-requires-clause-within g c =
    lengthened c.event-event.result.kind (max_len_at c.args.plan.now.stations 0) (c.event-event.ensures.within.kind 0 (c.requires.events.at c.loop-e.e c.event-event.result c.event-event.ensures.event))

pub loop-e-init : goal.loop-e-init
loop-e-init g c = record {
  done = λ infos w queues wired. steps-none c.args.self.now.wire.card (g.F.Frames.packets c.args.frames.now) c.args.now w c.args.self.now wired;
  loaded = omega arith;
  bypass = refl;
  card = refl;
}

pub loop-e-preserved : goal.loop-e-preserved
loop-e-preserved g c =
    let plan = c.args.plan.now in let packets = g.F.Frames.packets c.args.frames.now in let now = c.args.now in let test : ℕ → Bool = λ before. nat_le c.args.count before in let e = c.loop-e.e in
    let event = c.event-event.result in let is = c.event-event.ensures.event in let inv = c.loop-e.invariant in let card = c.args.self.now.wire.card in
    elim c.if-event-count.branch [
      | then-event-count+in_ok-change w ↦
          subst (HaveDone plan packets test now (e + 1) c.args.self.now) (sym w.self-is) (record {
            done = λ infos v queues wired.
                let first = with_changes plan infos (below plan test e) in let so = inv.done infos v queues wired in
                let next = subst (λ (k : Card). StepsTo k packets now (λ s. served infos (changed plan e event.kind s)) (made_at card packets now first v) w.change.new.self) inv.card
                (w.in_ok-change.ensures.changes plan e infos (made_at card packets now first v) queues so.wired) in
                steps-same card packets now (λ s. served infos (changed plan e event.kind (first s))) (with_changes plan infos (below plan test (e + 1))) v w.change.new.self
                (one-more plan infos test e event v.station is (le-leb c.args.count event.before w.if-event-count.true))
                (steps-then card packets now first (λ s. served infos (changed plan e event.kind s)) v c.loop-e.self w.change.new.self so next);
            loaded = omega (arith, w.in_ok-change.ensures.load, inv.loaded);
            bypass = w.in_ok-change.ensures.bypass ∙ inv.bypass;
            card = w.in_ok-change.ensures.card ∙ inv.card;
          })
      | else-event-count w ↦
          subst (HaveDone plan packets test now (e + 1) c.args.self.now) (sym w.self-is) (record {
            done = λ infos v queues wired.
                steps-same card packets now (with_changes plan infos (below plan test e)) (with_changes plan infos (below plan test (e + 1))) v c.loop-e.self
                (none-more plan infos test e event v.station is (lt-leb c.args.count event.before (omega (arith, w.if-event-count.false)))) (inv.done infos v queues wired);
            loaded = inv.loaded;
            bypass = inv.bypass;
            card = inv.card;
          })
    ]

pub returns-clause-changes : goal.returns-clause-changes
returns-clause-changes g c infos w queues wired =
    let plan = c.args.plan.now in let test = c.loop-e-test.false in let end = c.loop-e.auto.e-end in let all = c.events-e-end.ensures.events in
    let same : c.loop-e.e ≡ length plan.events = omega arith in
    subst (λ (k : ℕ). StepsTo c.args.self.now.wire.card (g.F.Frames.packets c.args.frames.now) c.args.now (with_changes plan infos (below plan (λ before. nat_le c.args.count before) k)) w c.loop-e.self) same
    (c.loop-e.invariant.done infos w queues wired)
