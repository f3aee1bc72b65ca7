use Rattle.std.proofs.Common.{◌≡◌, true, false, Some}
use Rattle.std.specs.List.{list_any}
use Rattle.lq_model.specs.Numbers.{first_numbers}
use Rattle.lq_plan.specs.Limits.{is_misplaced, kinds_at}
use Rattle.lq_plan.proofs.order.a_station_has_misplaced.Given as goal

abbrev pub invariant-loop-station : goal.invariant-loop-station
invariant-loop-station l = list_any (λ station. is_misplaced (Some true) (kinds_at station l.events)) (first_numbers l.station) ≡ false
