-- What packets were refused and purged for.
use Rattle.std.proofs.Common.{◌≡◌, ℕ, ◌≤◌, List, [], ◌∷◌, inl, inr, length, Contains, Some, refl, sym, ap, ◌∙◌, subst, arith}
use Rattle.lq_model.specs.Account.{Account, Event, Purge, Swap, new_account, after}
use Rattle.lq_model.specs.Legal.{MayCome, IsPlannedDown}
use Rattle.lq_model.specs.Plan.{Plan, unit_of_swap}
use Rattle.lq_model.specs.Settled.{IsUnitOf, IsLastUnit}
use Rattle.lq_model.specs.declared.fate.Cause.TheVariants as cause
use Rattle.lq_model.specs.declared.fate.Fate.TheVariants as fate
use Rattle.lq_model.specs.declared.fate.Info.{Info}
use Rattle.lq_account_laws.specs.Accounts.{NoSwapAfterHang}
use Rattle.lq_account_laws.specs.Controls.{controls_in, planned_controls}
use Rattle.lq_account_laws.proofs.Controlled.{swap-came}
use Rattle.lq_account_laws.proofs.Lists.{none-in, here-in, there-in, cons-in}
use Rattle.lq_account_laws.proofs.Changes.{Gives, fate-cases, unit-cases}
use Rattle.lq_account_laws.proofs.Changes.Gives.{gives_refused, gives_purged}
use Rattle.lq_account_laws.proofs.Used.{AreUsed}

pub record AreCaused (plan : Plan) (station : ℕ) (past : List Event) (a : Account) : Type 0 where
  pub refused : (n event : ℕ) → a.fates n ≡ Some (fate.Refused event) → IsPlannedDown plan station event
  pub purged : (n event : ℕ) → a.fates n ≡ Some (fate.Purged (cause.Event event)) → IsPlannedDown plan station event
  pub hung : (n unit : ℕ) → a.fates n ≡ Some (fate.Purged (cause.Hung unit)) → Contains past (Purge (cause.Hung unit))
  -- the unit stays where no device is swapped after a purge of a hung one
  pub stays : (unit : ℕ) → NoSwapAfterHang past → Contains past (Purge (cause.Hung unit)) → a.unit ≡ unit

pub caused-start : (plan : Plan) (station len unit queues : ℕ) → AreCaused plan station [] (new_account len unit queues)
caused-start plan station len unit queues = record {
  refused = λ n event h. absurd cc;
  purged = λ n event h. absurd cc;
  hung = λ n unit h. absurd cc;
  stays = λ unit none h. absurd (none-in [] (Purge (cause.Hung unit)) refl h);
}

fewer-swaps : (e : Event) (past : List Event) → NoSwapAfterHang (e ∷ past) → NoSwapAfterHang past
fewer-swaps e past none later before old new is = none (e ∷ later) before old new (ap (λ es. e ∷ es) is)

no-swap-now : (u unit : ℕ) (past : List Event) → NoSwapAfterHang (Swap u ∷ past) → Contains past (Purge (cause.Hung unit)) → ⊥
no-swap-now u unit past none hung = none [] past unit u refl hung

module _ (plan : Plan) (infos : List Info) (station : ℕ) (past : List Event) (a : Account) (used : AreUsed plan station past a) (h : AreCaused plan station past a) where
  new-refused : (e : Event) → MayCome infos station past a e → (n event : ℕ) → Gives a e n (fate.Refused event) → IsPlannedDown plan station event
  new-refused e may n event (gives_refused m k) = (used.down event may.1).planned

  new-purged : (e : Event) → MayCome infos station past a e → (n event : ℕ) → Gives a e n (fate.Purged (cause.Event event)) → IsPlannedDown plan station event
  new-purged e may n event (gives_purged c m held) = (used.down event may.1).planned

  new-hung : (e : Event) (n unit : ℕ) → Gives a e n (fate.Purged (cause.Hung unit)) → Contains (e ∷ past) (Purge (cause.Hung unit))
  new-hung e n unit (gives_purged c m held) = here-in (Purge (cause.Hung unit)) past

  stays-step : (e : Event) → MayCome infos station past a e → (unit : ℕ) → NoSwapAfterHang (e ∷ past) → Contains (e ∷ past) (Purge (cause.Hung unit)) → (after e a).unit ≡ unit
  stays-step e may unit none here = elim (cons-in e past (Purge (cause.Hung unit)) here) [
    | inl now ↦ subst (λ e. (after e a).unit ≡ unit) (sym now) (hangs (subst (λ e. MayCome infos station past a e) now may))
    | inr old ↦ elim (unit-cases e a) [
      | inl same ↦ same ∙ h.stays unit (fewer-swaps e past none) old
      | inr swap ↦ absurd (no-swap-now swap.0 unit past (subst (λ e. NoSwapAfterHang (e ∷ past)) swap.1 none) old)
    ]
  ]
    where
      hangs : MayCome infos station past a (Purge (cause.Hung unit)) → a.unit ≡ unit
      hangs may = may.1.0

  pub caused-step : (e : Event) → MayCome infos station past a e → AreCaused plan station (e ∷ past) (after e a)
  caused-step e may = record {
    refused = λ n event here. elim (fate-cases e a n (fate.Refused event) here) [ inl old ↦ h.refused n event old | inr new ↦ new-refused e may n event new ];
    purged = λ n event here. elim (fate-cases e a n (fate.Purged (cause.Event event)) here) [ inl old ↦ h.purged n event old | inr new ↦ new-purged e may n event new ];
    hung = λ n unit here. elim (fate-cases e a n (fate.Purged (cause.Hung unit)) here) [ inl old ↦ there-in e past (Purge (cause.Hung unit)) (h.hung n unit old) | inr new ↦ new-hung e n unit new ];
    stays = stays-step e may;
  }

-- where all swaps have come, the unit of such a purge is the last one
pub last-unit : (plan : Plan) (station : ℕ) (past : List Event) (a : Account) → AreUsed plan station past a → AreCaused plan station past a → controls_in past ≡ planned_controls plan station (length plan.events) → NoSwapAfterHang past
    → (n unit : ℕ) → a.fates n ≡ Some (fate.Purged (cause.Hung unit)) → IsLastUnit plan station unit
last-unit plan station past a used caused events none n unit fate = record {
  used = subst (IsUnitOf plan station) is used.unit;
  last = λ u of_station. subst (λ k. u ≤ k) is (below u of_station);
}
  where
    is : a.unit ≡ unit
    is = caused.stays unit none (caused.hung n unit fate)

    below : (u : ℕ) → IsUnitOf plan station u → u ≤ a.unit
    below u (inl first) = let least = used.least in omega arith
    below u (inr (event, params, at, swap)) = let latest = used.swaps (unit_of_swap plan event) (swap-came plan station past events event params at) in omega arith
