use Rattle.std.proofs.Common.{◌≡◌, ◌<◌, ◌∙◌, ℕ, List, Some, ap, get_or, length, slice_get, subst, sym}
use Rattle.std.proofs.lemmas.Option.{slice_get-get_or}
use Rattle.lq_model.specs.Plan.{Plan}
use Rattle.lq_model.specs.declared.plan.StationPlan.{StationPlan}
use Rattle.lq_plan.specs.Limits.{IsStationWithin}
use Rattle.lq_plan.proofs.plan.Plan.station.Goals as goal

stands : (stations : List StationPlan) (j : ℕ) (station : StationPlan) → station ≡ get_or stations j station → j < length stations → slice_get stations j ≡ Some station
stands stations j station is within = slice_get-get_or stations j station within ∙ ap Some (sym is)

pub returns-clause-within : goal.returns-clause-within
returns-clause-within c =
    let j = c.args.j in
    let station = c.index.result.now in
    subst (λ (p : Plan). j < length p.stations → IsStationWithin station) c.self.view_is
    (λ within. c.self.invariant.each_station j station (stands c.self.inside.stations.items j station c.index.ensures within)) c.requires
