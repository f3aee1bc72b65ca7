use Rattle.std.proofs.Common.{◌≡◌, ◌∙◌, true, Some, refl, sym, ap, arith}
use Rattle.std.specs.List.{list_any}
use Rattle.lq_model.specs.Numbers.{first_numbers}
use Rattle.lq_plan.specs.Limits.{is_misplaced, kinds_at}
use Rattle.lq_plan.proofs.Groups.{any-first, none-more}
use Rattle.lq_plan.proofs.order.a_station_has_misplaced.Goals as goal

pub loop-station-init : goal.loop-station-init
loop-station-init c = refl

pub returns-then-has_misplaced : goal.returns-then-has_misplaced
returns-then-has_misplaced c =
    sym (any-first (λ station. is_misplaced (Some true) (kinds_at station c.args.events.now)) 8 c.loop-station.station c.loop-station-test.true (sym c.has_misplaced.ensures ∙ c.if-has_misplaced.true))

pub loop-station-preserved : goal.loop-station-preserved
loop-station-preserved c =
    none-more (λ station. is_misplaced (Some true) (kinds_at station c.args.events.now)) c.loop-station.station c.loop-station.invariant (sym c.has_misplaced.ensures ∙ c.if-has_misplaced.false)

pub returns : goal.returns
returns c =
    let test = c.loop-station-test.false in let end = c.loop-station.auto.station-end in let same : c.loop-station.station ≡ 8 = omega arith in
    sym (sym (ap (λ n. list_any (λ station. is_misplaced (Some true) (kinds_at station c.args.events.now)) (first_numbers n)) same) ∙ c.loop-station.invariant)
