-- What a list of events in which each may come says of one of them.
use Rattle.std.proofs.Common.{◌≡◌, ℕ, List, [], ◌∷◌, ◌++◌, inl, inr, Some}
use Rattle.lq_account_laws.proofs.Changes.{Gives, fate-cases}
use Rattle.lq_account_laws.proofs.Changes.Gives.{gives_full}
use Rattle.lq_account_laws.specs.Progress.{start_of}
use Rattle.lq_model.specs.Account.{Account, Event, after_all}
use Rattle.lq_model.specs.Legal.{ArePlanned, Comes, MayCome}
use Rattle.lq_model.specs.Plan.{Plan}
use Rattle.lq_model.specs.declared.fate.Fate.TheVariants as fate
use Rattle.lq_model.specs.declared.fate.Info.{Info}
use Rattle.lq_top.specs.Laws.{SawItsSlot, account_after}

-- it may come where it stands
pub comes_there : (infos : List Info) (station : ℕ) (start : Account) (later earlier : List Event) (event : Event)
    → Comes infos station start (later ++ event ∷ earlier) → MayCome infos station earlier (after_all start earlier) event
comes_there infos station start [] earlier event (before, next) = next.0
comes_there infos station start (e ∷ later) earlier event (before, next) = comes_there infos station start later earlier event before

module _ (plan : Plan) (infos : List Info) (station n seen : ℕ) where
  saw-now : (e : Event) (past : List Event) → Comes infos station (start_of plan station) past → ArePlanned plan station (start_of plan station) past
      → MayCome infos station past (account_after plan station past) e → Gives (account_after plan station past) e n (fate.Full seen) → SawItsSlot plan infos station n seen
  saw-now e past comes planned may (gives_full m k) = record { earlier = past; legal = record { comes = comes; planned = planned }; full = may.full }

  -- a packet that has the fate Full saw its slot
  pub saw_its_slot : (past : List Event) → Comes infos station (start_of plan station) past → ArePlanned plan station (start_of plan station) past
      → (account_after plan station past).fates n ≡ Some (fate.Full seen) → SawItsSlot plan infos station n seen
  saw_its_slot [] comes planned is = absurd cc
  saw_its_slot (e ∷ past) comes planned is = elim (fate-cases e (account_after plan station past) n (fate.Full seen) is) [
    | inl old ↦ saw_its_slot past comes.0 planned.0 old
    | inr new ↦ saw-now e past comes.0 planned.0 comes.1.0 new
  ]
