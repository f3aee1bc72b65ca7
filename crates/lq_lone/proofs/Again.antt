-- A station as code has it that was served stays as it is where it is served again; and whatever is done to it, code has it still.
use Rattle.std.proofs.Common.{◌≡◌, ◌⊎◌, inl, inr, ℕ, Bool, true, false, Option, Some, None, List, refl, sym, ap, ◌∙◌}
use Rattle.lq_model.specs.Alone.{RunningStation, served}
use Rattle.lq_model.specs.declared.fate.Info.{Info}
use Rattle.lq_lone.specs.Lone.{HaveOneQueue, IsLone, LoneState, first_of, station_with}
use Rattle.lq_lone.proofs.Serves.{by-high, by-low, by-mid, by-none, by-slot, none-is, same-served}

module _ (infos : List Info) (queues : HaveOneQueue infos) (s : RunningStation) (m : LoneState) (lone : IsLone m s) where
  still : (n : LoneState) → IsLone n (served infos s) → n.stopped ≡ true → served infos (served infos s) ≡ served infos s
  still n now stopped = same-served infos (served infos s) n now (inr stopped)

  open-again : (slot low mid high : Option ℕ) → m.stopped ≡ false → m.down ≡ false → m.slot ≡ slot → first_of m.low ≡ low → first_of m.mid ≡ mid → first_of m.high ≡ high
      → served infos (served infos s) ≡ served infos s
  open-again (Some n) low mid high running active slot-is low-is mid-is high-is = still _ (by-slot infos s m queues lone running active n slot-is).is refl
  open-again None (Some n) mid high running active slot-is low-is mid-is high-is = still _ (by-low infos s m queues lone running active n slot-is low-is).is refl
  open-again None None (Some n) high running active slot-is low-is mid-is high-is = still _ (by-mid infos s m queues lone running active n slot-is low-is mid-is).is refl
  open-again None None None (Some n) running active slot-is low-is mid-is high-is = still _ (by-high infos s m queues lone running active n slot-is low-is mid-is high-is).is refl
  open-again None None None None running active slot-is low-is mid-is high-is =
      let now = by-none infos s m queues lone running active slot-is low-is mid-is high-is in
      none-is infos (served infos s) (record m { stopped = false; clean = true }) queues now.is refl active slot-is low-is mid-is high-is
      ∙ (ap (λ (o : Option ℕ). station_with now.is.rest m.len o false true) (sym slot-is) ∙ sym now.is.is)

  pub again : served infos (served infos s) ≡ served infos s
  again = by m.down m.stopped refl refl
    where
      by : (d b : Bool) → m.down ≡ d → m.stopped ≡ b → served infos (served infos s) ≡ served infos s
      by true b down stopped = ap (served infos) (same-served infos s m lone (inl down))
      by false true down stopped = ap (served infos) (same-served infos s m lone (inr stopped))
      by false false down stopped = open-again m.slot (first_of m.low) (first_of m.mid) (first_of m.high) stopped down refl refl refl refl
