-- The station of a plan, with nothing brought yet.
use Rattle.std.proofs.Common.{◌≡◌, ℕ, true, List, [], ◌∷◌, None, Some, slice_get, refl, sym, ap, ap₂, ◌∙◌}
use Rattle.lq_model.specs.Account.{new_account}
use Rattle.lq_model.specs.Alone.{RunningStation, new_station}
use Rattle.lq_model.specs.Band.{empty_band}
use Rattle.lq_model.specs.declared.plan.StationPlan.{StationPlan}
use Rattle.lq_lone.specs.Lone.{IsLone, Rest, new_state}
use Rattle.lq_wire.specs.Wired.{HasOneStop}

module _ (station : StationPlan) (stop : HasOneStop station) where
  abbrev made-of : ℕ → ℕ → ℕ → ℕ → RunningStation
  made-of queues burst busy_every hang_after = record {
    account = new_account station.len 0 queues;
    clean = true;
    device = record { params = record { burst = burst; busy_every = busy_every; busy_limit = station.params.busy_limit; hang_after = hang_after }; busies = 0 };
  }

  pub starts : IsLone (new_state station.len) (new_station 0 station)
  starts =
      let rest : Rest = record { bands = λ (_ : ℕ). empty_band; unit = 0; sent = λ (_ : ℕ). []; fates = λ (_ : ℕ). None; down = None; busy_limit = station.params.busy_limit; busies = 0 } in
      record {
        rest = rest;
        is = ap₂ (λ (q b : ℕ). made-of q b station.params.busy_every station.params.hang_after) stop.queues stop.burst ∙ ap₂ (made-of 1 1) stop.never_busy stop.never_hangs;
        low = refl;
        mid = refl;
        high = refl;
        down = refl;
      }

some-is : {X : Type 0} {a b : X} → Some a ≡ Some b → a ≡ b
some-is is = cc

-- the first of a plan's stations, where there is one
pub station-is : (ss : List StationPlan) (found station : StationPlan) → slice_get ss 0 ≡ Some found → ss ≡ station ∷ [] → station ≡ found
station-is ss found station at one = some-is (sym (ap (λ (l : List StationPlan). slice_get l 0) one) ∙ at)
