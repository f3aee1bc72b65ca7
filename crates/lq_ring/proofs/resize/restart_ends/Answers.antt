use Rattle.std.proofs.Common.{ap, ◌∙◌}
use Rattle.std.specs.Prelude.{option_map}
use Rattle.lq_device.specs.Station.{StationState, with_ends}
use Rattle.lq_table.specs.Rule.{shown}
use Rattle.lq_ring.proofs.StepsThen.{makes_then}
use Rattle.lq_ring.proofs.resize.restart_ends.Goals as goal

pub set_ends-requires-2-clause-station : goal.set_ends-requires-2-clause-station
set_ends-requires-2-clause-station g c _ _ =
    let s = c.requires.station in (with_ends (shown s.0) 0 0 0, c.set_ends.ensures.carries ∙ ap (option_map (λ (st : StationState). with_ends st 0 0 0)) s.1)

pub set_ends-requires-3-clause-station : goal.set_ends-requires-3-clause-station
set_ends-requires-3-clause-station g c _ _ =
    let s = c.requires.station in let first = with_ends (shown s.0) 0 0 0 in (
      with_ends first 1 0 0,
      c.set_ends-2.ensures.carries ∙ ap (option_map (λ (st : StationState). with_ends st 1 0 0)) (c.set_ends.ensures.carries ∙ ap (option_map (λ (st : StationState). with_ends st 0 0 0)) s.1),
    )

pub returns : goal.returns
returns g c = makes_then c.set_ends.ensures (makes_then c.set_ends-2.ensures c.set_ends-3.ensures)
