-- An event that finds its station active or deactivated where it can't be.
use Rattle.std.proofs.Common.{◌≡◌, ℕ, ◌+◌, ◌<◌, Bool, true, List, [], ◌∷◌, length, drop, get_or, Some, None, refl, ap, ◌∙◌, sym}
use Rattle.std.proofs.lemmas.List.{drop_more}
use Rattle.lq_model.specs.Plan.{is_at}
use Rattle.lq_model.specs.declared.plan.EventKind.{EventKind}
use Rattle.lq_model.specs.declared.plan.EventPlan.{EventPlan}
use Rattle.lq_plan.specs.Limits.{active_after, is_misplaced, kinds_at}

once_misplaced : (kinds : List EventKind) → is_misplaced None kinds ≡ true
once_misplaced [] = refl
once_misplaced (kind ∷ kinds) = refl

first_misplaced : (event : EventPlan) (rest : List EventPlan) (station : ℕ) (active : Bool) → is_at station event ≡ true → None ≡ active_after active event.kind
    → true ≡ is_misplaced (Some active) (kinds_at station (event ∷ rest))
first_misplaced event rest station active at never =
    rw at (sym (once_misplaced (kinds_at station rest)) ∙ ap (λ state. is_misplaced state (kinds_at station rest)) never)

pub misplaced_here : (events : List EventPlan) (i station : ℕ) (active : Bool) (d : EventPlan) → i < length events → is_at station (get_or events i d) ≡ true
    → None ≡ active_after active (get_or events i d).kind
    → true ≡ is_misplaced (Some active) (kinds_at station (drop i events))
misplaced_here events i station active d within at never =
    rw (drop_more events i d within) (first_misplaced (get_or events i d) (drop (i + 1) events) station active at never)
