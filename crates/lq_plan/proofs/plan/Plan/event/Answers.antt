use Rattle.std.proofs.Common.{◌≡◌, ◌<◌, ◌∙◌, ℕ, List, Some, ap, get_or, length, slice_get, subst, sym}
use Rattle.std.proofs.lemmas.Option.{slice_get-get_or}
use Rattle.lq_model.specs.Plan.{Plan}
use Rattle.lq_model.specs.declared.plan.EventPlan.{EventPlan}
use Rattle.lq_plan.specs.Limits.{IsEventWithin}
use Rattle.lq_plan.proofs.plan.Plan.event.Goals as goal

stands : (events : List EventPlan) (e : ℕ) (event : EventPlan) → event ≡ get_or events e event → e < length events
    → slice_get events e ≡ Some event
stands events e event is within = slice_get-get_or events e event within ∙ ap Some (sym is)

pub returns-clause-event : goal.returns-clause-event
returns-clause-event c =
    let e = c.args.e in
    let event = c.index.result.now in
    subst (λ (p : Plan). e < length p.events → slice_get p.events e ≡ Some event) c.self.view_is
    (stands c.self.inside.events.items e event c.index.ensures) c.requires

pub returns-clause-within : goal.returns-clause-within
returns-clause-within c =
    let e = c.args.e in
    let event = c.index.result.now in
    subst (λ (p : Plan). e < length p.events → IsEventWithin p.stations event) c.self.view_is
    (λ within. c.self.invariant.each_event e event (stands c.self.inside.events.items e event c.index.ensures within)) c.requires
