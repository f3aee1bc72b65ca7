-- The plan of a generated run: one sender and one station, whose device stops after every 48th packet.
use Rattle.std.specs.Prelude.{true, [], ◌∷◌, None}
use Rattle.lq_model.specs.Plan.{Plan}
use Rattle.lq_model.specs.declared.device.Params.{Params}
use Rattle.lq_model.specs.declared.plan.Classify.TheVariants.{Tos}
use Rattle.lq_model.specs.declared.plan.Irq.TheVariants.{Every}
use Rattle.lq_model.specs.declared.plan.Split.TheVariants.{Round}
use Rattle.lq_model.specs.declared.plan.Spread.TheVariants.{Bytes}
use Rattle.lq_model.specs.declared.plan.StationPlan.{StationPlan}

-- that of the text `irq_every = 64`, `[[station]]`, `len = 32`, `burst = 48`
abbrev pub generated_plan : Plan
generated_plan =
    let params : Params = record { burst = 48; busy_every = 0; busy_limit = 0; hang_after = 0 } in
    let station : StationPlan = record { len = 32; max_len = 32; bypass = true; params = params; queues = 1; card = None } in
    record { version = 1; senders = 1; split = Round; spread = Bytes; classify = Tos; irq = Every 64; stations = station ∷ []; groups = 1 ∷ []; events = [] }
