use Rattle.std.proofs.Common.{refl, sym, ap, ◌∙◌}
use Rattle.std.proofs.lemmas.Option.{same_Some}
use Rattle.lq_device.specs.Station.{StationState}
use Rattle.lq_table.proofs.ended.Closed.into_device.Goals as goal

pub invariant_of-self : goal.invariant_of-self
invariant_of-self g c = record { stopped = c.args.self.stopped }

pub unreachable-requires : goal.unreachable-requires
unreachable-requires g c = let e = sym c.in_default.is ∙ c.requires.home.1 in absurd cc

pub returns : goal.returns
returns g c = record { ended = refl; device = λ st is. c.into_device.ensures ∙ ap (λ (s : StationState). s.device) (same_Some c.in-Some.station st (sym c.in-Some.is ∙ is)) }
