-- Settled fates are complete.
use Rattle.std.proofs.Common.{◌≡◌, ◌<◌, ◌≤◌, ℕ, Bool, true, false, ◌&&◌, ◌==◌, List, [], ◌∷◌, inl, inr, length, slice_get, get_or, Some, None, refl, ap, arith, cond}
use Rattle.std.specs.List.{zip}
use Rattle.std.proofs.lemmas.List.Sums.{sum_by-cons}
use Rattle.std.proofs.lemmas.Option.{slice_get-get_or, slice_get_within}
use Rattle.lq_model.specs.Complete.{IsComplete, NeverDeactivates, NeverFills, NeverHangs, NeverShrinks, deactivates, offered_count}
use Rattle.lq_model.specs.Legal.{IsPlannedDown}
use Rattle.lq_model.specs.Plan.{Plan, station_in, band_in}
use Rattle.lq_model.specs.Settled.{HangsAsTold, IsConfiguredWith, IsFateAt, IsSettled, IsUnitOf, is_let_in, let_in}
use Rattle.lq_model.specs.Texts.{is_sent, is_full, is_shrunk, is_purged, is_refused}
use Rattle.lq_model.specs.declared.device.Params.{Params}
use Rattle.lq_model.specs.declared.fate.Cause.TheVariants as cause
use Rattle.lq_model.specs.declared.fate.Fate.{Fate}
use Rattle.lq_model.specs.declared.fate.Fate.TheVariants.{Sent, Full, Shrunk, Purged, Refused}
use Rattle.lq_model.specs.declared.fate.Info.{Info}
use Rattle.lq_model.specs.declared.plan.StationPlan.{StationPlan}

-- no more were let in than are offered
let-in-below : (fates : List Fate) (infos : List Info) (station band : ℕ) → let_in fates infos station band ≤ offered_count infos station band
let-in-below [] infos station band = omega arith
let-in-below (f ∷ fates) [] station band = omega arith
let-in-below (f ∷ fates) (i ∷ infos) station band =
    let here : Bool = (i.station == station) && (i.band == band) in
    let more = let-in-below fates infos station band in
    let left = sum_by-cons (λ (p : Fate × Info). cond (is_let_in p.0 && ((p.1.station == station) && (p.1.band == band))) 1 0) (f, i) (zip fates infos) in
    let right = sum_by-cons (λ (info : Info). cond ((info.station == station) && (info.band == band)) 1 0) i infos in
    let small = fewer (is_let_in f) here in omega arith
  where
    fewer : (a b : Bool) → cond (a && b) 1 0 ≤ cond b 1 0
    fewer true b = omega arith
    fewer false true = omega arith
    fewer false false = omega arith

-- what deactivates is of the plan
none-down : (plan : Plan) (station event : ℕ) → NeverDeactivates plan → IsPlannedDown plan station event → ⊥
none-down plan station event never (inl at) = let no = never event at.0 at.1 in let yes = ap deactivates at.3 in cc
none-down plan station event never (inr (inl (len, at))) = let no = never event at.0 at.1 in let yes = ap deactivates at.3 in cc
none-down plan station event never (inr (inr (params, at))) = let no = never event at.0 at.1 in let yes = ap deactivates at.3 in cc

-- a unit of a station of the plan is configured
no-station : StationPlan
no-station = record { len = 0; max_len = 0; bypass = false; params = record { burst = 0; busy_every = 0; busy_limit = 0; hang_after = 0 }; queues = 1; card = None }

configured : (plan : Plan) (station unit : ℕ) → station < length plan.stations → IsUnitOf plan station unit → (params : Params) × IsConfiguredWith plan unit params
configured plan station unit inside (inl first) =
    ((get_or plan.stations unit no-station).params, inl (get_or plan.stations unit no-station, slice_get-get_or plan.stations unit no-station (omega arith), refl))
configured plan station unit inside (inr (event, params, at, is)) = (params, inr (station, event, at, is))

module _ (plan : Plan) (infos : List Info) (fates : List Fate) (of_plan : (n : ℕ) → n < length infos → station_in infos n < length plan.stations) (settled : IsSettled plan infos fates) where
  within : (n : ℕ) (f : Fate) → slice_get fates n ≡ Some f → n < length infos
  within n f there = let inside = slice_get_within fates n f there in let same = settled.one_each in omega arith

  none-refused : (n : ℕ) (f : Fate) → NeverDeactivates plan → IsFateAt plan infos fates (station_in infos n) n f → is_refused f ≡ false
  none-refused n (Refused event) never at = absurd (none-down plan (station_in infos n) event never at)
  none-refused n f never at = refl

  none-purged : (n : ℕ) (f : Fate) → NeverDeactivates plan → NeverHangs plan → HangsAsTold plan fates → slice_get fates n ≡ Some f
      → IsFateAt plan infos fates (station_in infos n) n f → is_purged f ≡ false
  none-purged n (Purged (cause.Event event)) never alive told there at = absurd (none-down plan (station_in infos n) event never at)
  none-purged n (Purged (cause.Hung unit)) never alive told there at =
      let conf = configured plan (station_in infos n) unit (of_plan n (within n (Purged (cause.Hung unit)) there)) at.used in
      let hangs = (told unit conf.0 conf.1).purged n there in let none = alive unit conf.0 conf.1 in absurd (let some = hangs.0 in omega arith)
  none-purged n f never alive told there at = refl

  none-shrunk : (n : ℕ) (f : Fate) → NeverShrinks plan → IsFateAt plan infos fates (station_in infos n) n f → is_shrunk f ≡ false
  none-shrunk n (Shrunk event) never at = absurd (never (station_in infos n) event at)
  none-shrunk n f never at = refl

  none-full : (n : ℕ) (f : Fate) → NeverFills plan infos (station_in infos n) (band_in infos n) → IsFateAt plan infos fates (station_in infos n) n f → is_full f ≡ false
  none-full n (Full seen) never at =
      let enough = at.enough in let few = never enough.0 enough.1 in let many = enough.2 in
      let below = let-in-below fates infos (station_in infos n) (band_in infos n) in absurd (omega arith)
  none-full n f never at = refl

  -- a fate of no other kind
  left-sent : (f : Fate) → is_refused f ≡ false → is_purged f ≡ false → is_shrunk f ≡ false → is_full f ≡ false → is_sent f ≡ true
  left-sent (Sent unit serial) r p s l = refl
  left-sent (Full seen) r p s l = absurd cc
  left-sent (Shrunk event) r p s l = absurd cc
  left-sent (Purged why) r p s l = absurd cc
  left-sent (Refused event) r p s l = absurd cc

  pub complete : IsComplete plan infos fates
  complete = record {
    refused = λ never n f there. none-refused n f never (settled.each n f there);
    purged = λ never alive told n f there. none-purged n f never alive told there (settled.each n f there);
    shrunk = λ never n f there. none-shrunk n f never (settled.each n f there);
    full = λ n f there never. none-full n f never (settled.each n f there);
    sent = λ down alive told shrinks fills n f there. let at = settled.each n f there in
        left-sent f (none-refused n f down at) (none-purged n f down alive told there at) (none-shrunk n f shrinks at) (none-full n f (fills n (within n f there)) at);
  }
