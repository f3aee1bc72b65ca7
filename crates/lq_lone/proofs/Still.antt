-- Whatever is done to a station as code has it, code has it still.
use Rattle.std.proofs.Common.{◌≡◌, ◌<◌, ℕ, zero, suc, ◌&&◌, Bool, true, false, Option, Some, None, List, refl, sym, ap, ap₂, ◌∙◌, arith}
use Rattle.std.specs.Prelude.{not}
use Rattle.lq_model.specs.Account.{Purge, Resize, after, emptied}
use Rattle.lq_model.specs.Alone.{RunningStation, brought_in, changed, joined_or_full, opened, served}
use Rattle.lq_model.specs.Band.{Band, joined, resized}
use Rattle.lq_model.specs.Plan.{Plan, band_in, is_swap_kind}
use Rattle.lq_model.specs.declared.fate.Cause.TheVariants as cause
use Rattle.lq_model.specs.declared.fate.Info.{Info}
use Rattle.lq_model.specs.declared.plan.EventKind.{EventKind}
use Rattle.lq_model.specs.declared.plan.EventKind.TheVariants as kind
use Rattle.lq_lone.specs.Lone.{HaveOneQueue, IsLone, HasNothingToServe, LoneState, StepsLone, first_of, is_down, is_empty, is_stopped, station_with}
use Rattle.lq_lone.proofs.Changes.{lengthened, purged, turned}
use Rattle.lq_lone.proofs.Brings.{goes-through, joined-sends, joins-high, joins-low, joins-mid, passes-open, passes-shut, refuses, settled-still}
use Rattle.lq_lone.proofs.Serves.{by-high, by-low, by-mid, by-none, by-slot, is-none, none-is, not-served, opens, same-served}
use Rattle.std.proofs.Common.{inl, inr}

-- code has it in some state
abbrev pub HasIt : RunningStation → Type 0
HasIt s = (m : LoneState) × IsLone m s

-- it is settled there
abbrev pub HasSettled : RunningStation → Type 0
HasSettled s = (m : LoneState) × (IsLone m s × HasNothingToServe m)

-- what serving leaves
pub record IsServed (infos : List Info) (s : RunningStation) : Type 0 where
  pub accepted : Option ℕ
  pub new : LoneState
  pub steps : StepsLone accepted new s (served infos s)
  pub settled : HasNothingToServe new

module _ (infos : List Info) (queues : HaveOneQueue infos) where
  -- it was served, and is settled
  serving : (s : RunningStation) (m : LoneState) → IsLone m s → (slot low mid high : Option ℕ) → m.stopped ≡ false → m.down ≡ false → m.slot ≡ slot → first_of m.low ≡ low → first_of m.mid ≡ mid → first_of m.high ≡ high
      → IsServed infos s
  serving s m lone (Some n) low mid high running active a b c d = record { accepted = Some n; new = _; steps = by-slot infos s m queues lone running active n a; settled = is_stopped refl }
  serving s m lone None (Some n) mid high running active a b c d = record { accepted = Some n; new = _; steps = by-low infos s m queues lone running active n a b; settled = is_stopped refl }
  serving s m lone None None (Some n) high running active a b c d = record { accepted = Some n; new = _; steps = by-mid infos s m queues lone running active n a b c; settled = is_stopped refl }
  serving s m lone None None None (Some n) running active a b c d = record { accepted = Some n; new = _; steps = by-high infos s m queues lone running active n a b c d; settled = is_stopped refl }
  serving s m lone None None None None running active a b c d = record { accepted = None; new = _; steps = by-none infos s m queues lone running active a b c d; settled = is_empty refl a b c d }

  pub is-served : (s : RunningStation) (m : LoneState) → IsLone m s → IsServed infos s
  is-served s m lone = by m.down m.stopped refl refl
    where
      by : (d b : Bool) → m.down ≡ d → m.stopped ≡ b → IsServed infos s
      by true b down stopped = record { accepted = None; new = m; steps = not-served infos s m lone (inl down); settled = is_down down }
      by false true down stopped = record { accepted = None; new = m; steps = not-served infos s m lone (inr stopped); settled = is_stopped stopped }
      by false false down stopped = serving s m lone m.slot (first_of m.low) (first_of m.mid) (first_of m.high) stopped down refl refl refl refl

  pub still-served : (s : RunningStation) → HasIt s → HasIt (served infos s)
  still-served s (m, lone) = let is = is-served s m lone in (is.new, is.steps.is)

  -- packet n is brought, and the station served
  through-band : (bypass : Bool) (n : ℕ) (s : RunningStation) (m : LoneState) (lone : IsLone m s) → m.down ≡ false → (bypass && m.clean) ≡ false
      → HasIt (record s { account = joined_or_full n (band_in infos n) s.account }) → HasSettled (served infos (brought_in infos bypass n s))
  through-band bypass n s m lone active dirty (m1, now) =
      let t : RunningStation = record s { account = joined_or_full n (band_in infos n) s.account } in let is = is-served t m1 now in
      let same : (bypass && s.clean) ≡ false = ap (λ (b : Bool). bypass && b) (ap (λ (u : RunningStation). u.clean) lone.is) ∙ dirty in
      let all = goes-through infos s m1 is.new is.accepted n bypass queues (ap (λ (u : RunningStation). u.account.down) lone.is ∙ is-none lone.rest.down (lone.down ∙ active)) same is.steps is.settled (joined-sends s n (band_in infos n)) in
      (_, (all.is, settled-still is.new is.settled))

  joins : (n band : ℕ) (s : RunningStation) (m : LoneState) → IsLone m s → band < 3 → HasIt (record s { account = joined_or_full n band s.account })
  joins n zero s m lone below = (_, joins-low s m n lone _ refl)
  joins n (suc zero) s m lone below = (_, joins-mid s m n lone _ refl)
  joins n (suc (suc zero)) s m lone below = (_, joins-high s m n lone _ refl)
  joins n (suc (suc (suc k))) s m lone below = absurd (omega arith)

  pub still-brought : (bypass : Bool) (n : ℕ) (s : RunningStation) → band_in infos n < 3 → HasIt s → HasSettled (served infos (brought_in infos bypass n s))
  still-brought bypass n s below (m, lone) = by bypass m.down m.clean m.stopped refl refl refl
    where
      by : (bypass d c b : Bool) → m.down ≡ d → m.clean ≡ c → m.stopped ≡ b → HasSettled (served infos (brought_in infos bypass n s))
      by bypass true c b down clean stopped = (m, ((refuses infos s m n bypass lone down).is, is_down down))
      by true false true true down clean stopped = (_, ((passes-shut infos s m n queues lone down stopped clean).is, is_stopped stopped))
      by true false true false down clean stopped = (_, ((passes-open infos s m n queues lone down stopped clean).is, is_stopped refl))
      by true false false b down clean stopped = through-band true n s m lone down clean (joins n (band_in infos n) s m lone below)
      by false false c b down clean stopped = through-band false n s m lone down refl (joins n (band_in infos n) s m lone below)

  -- a settled station stays as it is where it is served
  pub settled-same : (s : RunningStation) → HasSettled s → served infos s ≡ s
  settled-same s (m, (lone, is_stopped stopped)) = same-served infos s m lone (inr stopped)
  settled-same s (m, (lone, is_down down)) = same-served infos s m lone (inl down)
  settled-same s (m, (lone, is_empty clean slot low mid high)) = by m.down m.stopped refl refl
    where
      by : (d b : Bool) → m.down ≡ d → m.stopped ≡ b → served infos s ≡ s
      by true b down stopped = same-served infos s m lone (inl down)
      by false true down stopped = same-served infos s m lone (inr stopped)
      by false false down stopped =
          none-is infos s m queues lone stopped down slot low mid high
          ∙ (sym (ap₂ (λ (o : Option ℕ) (b : Bool). station_with lone.rest m.len o b true) slot stopped)
          ∙ (ap (station_with lone.rest m.len m.slot m.stopped) (sym clean) ∙ sym lone.is))

  pub still-opened : (s : RunningStation) → HasIt s → HasIt (opened s)
  still-opened s (m, lone) = (_, opens m s lone)

  pub still-changed : (plan : Plan) (event : ℕ) (k : EventKind) (s : RunningStation) → is_swap_kind k ≡ false → HasIt s → HasIt (changed plan event k s)
  still-changed plan event kind.Down s kept (m, lone) =
      (_, turned _ _ (purged s m lone (cause.Event event) _ _ _ refl refl refl) (Some event))
  still-changed plan event kind.Up s kept (m, lone) = (_, turned s m lone None)
  still-changed plan event (kind.Resize len) s kept (m, lone) = (_, lengthened s m lone len event _ _ _ refl refl refl)
  still-changed plan event (kind.TxQueueLen len) s kept (m, lone) =
      (_, turned _ _ (lengthened _ _ (purged s m lone (cause.Event event) _ _ _ refl refl refl) len event _ _ _ refl refl refl) None)
  still-changed plan event (kind.Swap params) s kept (m, lone) = absurd cc
