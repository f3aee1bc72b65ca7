use Rattle.std.proofs.Common.{◌≡◌, ◌+◌, true, false, sym, subst, ◌∙◌, arith}
use Rattle.lq_model.specs.Plan.{unit_of_swap}
use Rattle.lq_account_laws.proofs.Units.{unit-after}
use Rattle.lq_senders.proofs.swaps.brought_unit.Goals as goal
use Rattle.lq_senders.proofs.swaps.brought_unit.Goals.{then-is_swap_kind, else-is_swap_kind}

pub loop-k-init : goal.loop-k-init
loop-k-init c = record { unit = (let e = c.stations-unit.ensures.stations in omega arith); few = (let e = c.stations-unit.ensures.few in omega arith) }

pub overflow_add-unit : goal.overflow_add-unit
overflow_add-unit c = let few = c.loop-k.invariant.few in let test = c.loop-k-test.true in let within = c.requires in let events = c.stays_within_limits.ensures.events in omega arith

pub loop-k-preserved : goal.loop-k-preserved
loop-k-preserved c =
    let was = c.loop-k.invariant.unit in let few = c.loop-k.invariant.few in
    elim c.if-is_swap_kind.branch [
      | then-is_swap_kind w ↦ (let more : unit_of_swap c.args.plan.now (c.loop-k.k + 1) ≡ unit_of_swap c.args.plan.now c.loop-k.k + 1 =
          unit-after c.args.plan.now c.loop-k.k c.event.result c.event.ensures.event true (sym c.is_swap_kind.ensures ∙ w.if-is_swap_kind.true) in let is = w.unit-is in
          record { unit = omega arith; few = omega arith })
      | else-is_swap_kind w ↦ (let more : unit_of_swap c.args.plan.now (c.loop-k.k + 1) ≡ unit_of_swap c.args.plan.now c.loop-k.k + 0 =
          unit-after c.args.plan.now c.loop-k.k c.event.result c.event.ensures.event false (sym c.is_swap_kind.ensures ∙ w.if-is_swap_kind.false) in let is = w.unit-is in
          record { unit = omega arith; few = omega arith })
    ]

pub returns : goal.returns
returns c = let test = c.loop-k-test.false in let end = c.loop-k.auto.k-end in let same : c.loop-k.k ≡ c.args.e = omega arith in
    subst (λ k. c.loop-k.unit ≡ unit_of_swap c.args.plan.now k) same c.loop-k.invariant.unit
