use Rattle.std.proofs.Common.{◌≡◌, take}
use Rattle.std.specs.Str.Parse.{digits_value}
use Rattle.lq_run_core.specs.Schedule.{capped}
use Rattle.lq_run_core.proofs.schedule.value.Given as goal

abbrev pub invariant-loop-digit : goal.invariant-loop-digit
invariant-loop-digit l = l.value ≡ capped (digits_value 10 (take l.digit-index l.digits))
