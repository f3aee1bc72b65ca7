-- Completeness of fates: where nothing deactivates, hangs, shrinks or fills up, each packet is sent.
use Rattle.std.specs.Prelude.{◌≡◌, ◌<◌, ℕ, ◌-◌, Bool, true, false, ◌&&◌, ◌==◌, List, length, count_by, slice_get, Some}
use Rattle.lq_model.specs.Band.{batch}
use Rattle.lq_model.specs.Plan.{Plan, station_in, band_in}
use Rattle.lq_model.specs.Settled.{GivesLength, HangsAsTold, IsConfiguredWith, IsShrinking}
use Rattle.lq_model.specs.Texts.{is_sent, is_full, is_shrunk, is_purged, is_refused}
use Rattle.lq_model.specs.declared.device.Params.{Params}
use Rattle.lq_model.specs.declared.fate.Fate.{Fate}
use Rattle.lq_model.specs.declared.fate.Info.{Info}
use Rattle.lq_model.specs.declared.plan.EventKind.{EventKind}
use Rattle.lq_model.specs.declared.plan.EventKind.TheVariants as kind
use Rattle.lq_model.specs.declared.plan.EventPlan.{EventPlan}

-- WHAT A PLAN LEAVES OUT

abbrev pub deactivates : EventKind → Bool
deactivates kind.Up = false
deactivates (kind.Resize len) = false
deactivates _ = true

abbrev pub NeverDeactivates : Plan → Type 0
NeverDeactivates plan = (event : ℕ) (e : EventPlan) → slice_get plan.events event ≡ Some e → deactivates e.kind ≡ false

-- each unit is configured not to hang
abbrev pub NeverHangs : Plan → Type 0
NeverHangs plan = (unit : ℕ) (params : Params) → IsConfiguredWith plan unit params → params.hang_after ≡ 0

-- no resize is to a shorter length than before
abbrev pub NeverShrinks : Plan → Type 0
NeverShrinks plan = (station event : ℕ) → IsShrinking plan station event → ⊥

-- how many packets are offered to a band of a station
abbrev pub offered_count : List Info → ℕ → ℕ → ℕ
offered_count infos station band = count_by (λ info. (info.station == station) && (info.band == band)) infos

-- fewer than fill its ring but for a batch, at every length that the ring has
abbrev pub NeverFills : Plan → List Info → ℕ → ℕ → Type 0
NeverFills plan infos station band = (len : ℕ) → GivesLength plan station len → offered_count infos station band < len - batch len

-- WHAT FOLLOWS

-- no fate is one of these
abbrev pub NoneIs : (Fate → Bool) → List Fate → Type 0
NoneIs test fates = (n : ℕ) (fate : Fate) → slice_get fates n ≡ Some fate → test fate ≡ false

pub record IsComplete (plan : Plan) (infos : List Info) (fates : List Fate) : Type 0 where
  -- without a deactivation nothing is refused
  pub refused : NeverDeactivates plan → NoneIs is_refused fates
  -- where no unit hangs either, and the devices tell, nothing is purged
  pub purged : NeverDeactivates plan → NeverHangs plan → HangsAsTold plan fates → NoneIs is_purged fates
  -- without a resize to a shorter length nothing is shrunk
  pub shrunk : NeverShrinks plan → NoneIs is_shrunk fates
  -- a band that never fills drops no packet as full
  pub full : (n : ℕ) (fate : Fate) → slice_get fates n ≡ Some fate → NeverFills plan infos (station_in infos n) (band_in infos n) → is_full fate ≡ false
  -- where all of this holds each packet is sent
  pub sent : NeverDeactivates plan → NeverHangs plan → HangsAsTold plan fates → NeverShrinks plan → ((n : ℕ) → n < length infos → NeverFills plan infos (station_in infos n) (band_in infos n))
      → (n : ℕ) (fate : Fate) → slice_get fates n ≡ Some fate → is_sent fate ≡ true
