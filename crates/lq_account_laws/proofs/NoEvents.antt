-- A plan without events.
use Rattle.std.proofs.Common.{◌≡◌, ℕ, cond, inl, inr, List, [], ap, nat_le, None}
use Rattle.std.specs.Prelude.{slice_get}
use Rattle.lq_model.specs.Legal.{IsEventAt, IsPlannedDown}
use Rattle.lq_model.specs.Plan.{Plan, after_events, station_in}
use Rattle.lq_model.specs.Settled.{IsSettled, MeetsEvents, IsShrinking, down_after}
use Rattle.lq_model.specs.declared.fate.Cause.TheVariants.{Event}
use Rattle.lq_model.specs.declared.fate.Fate.{Fate}
use Rattle.lq_model.specs.declared.fate.Fate.TheVariants.{Shrunk, Purged, Refused}
use Rattle.lq_model.specs.declared.fate.Info.{Info}
use Rattle.lq_model.specs.declared.plan.EventKind.{EventKind}

pub no_event : (plan : Plan) (station event : ℕ) (kind : EventKind) → plan.events ≡ [] → IsEventAt plan station event kind → ⊥
no_event plan station event kind none (e, there, at, is) = let nothing = ap (λ list. slice_get list event) none in cc

pub no_down : (plan : Plan) (station event : ℕ) → plan.events ≡ [] → IsPlannedDown plan station event → ⊥
no_down plan station event none (inl down) = no_event plan station event _ none down
no_down plan station event none (inr (inl (len, change))) = no_event plan station event _ none change
no_down plan station event none (inr (inr (params, swap))) = no_event plan station event _ none swap

no_shrink : (plan : Plan) (station event : ℕ) → plan.events ≡ [] → IsShrinking plan station event → ⊥
no_shrink plan station event none (len, before, resize, known, shorter) = no_event plan station event _ none resize

pub meets_no_events : (plan : Plan) (infos : List Info) (fates : List Fate) → plan.events ≡ [] → IsSettled plan infos fates → MeetsEvents plan infos fates
meets_no_events plan infos fates none settled = record {
  refused = λ n event below owner. (
    λ fate. absurd (no_down plan (station_in infos n) event none (settled.each n (Refused event) fate)),
    λ down. absurd (let nothing = ap (λ list. after_events (λ e x down. cond (nat_le x.before n) (down_after x.kind e down) down) (station_in infos n) list 0 None) none in cc),
  );
  shrunk = λ n event owner fate. absurd (no_shrink plan (station_in infos n) event none (settled.each n (Shrunk event) fate));
  purged = λ n event owner fate. absurd (no_down plan (station_in infos n) event none (settled.each n (Purged (Event event)) fate));
}
