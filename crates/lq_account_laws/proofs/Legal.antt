-- A legal list of events, event by event.
use Rattle.std.proofs.Common.{ℕ, ◌<◌, List, ◌∷◌, Contains, filter_map, inl, inr, arith}
use Rattle.lq_model.specs.Account.{Account, Down, Event, Resize, Swap, after_all}
use Rattle.lq_model.specs.Legal.{IsInTurn, IsLegal, IsPlanned, MayCome, brought, down_event, resize_event}
use Rattle.lq_model.specs.Plan.{Plan}
use Rattle.lq_model.specs.declared.fate.Info.{Info}

-- what is asked of one event
pub record IsLegalNext (plan : Plan) (infos : List Info) (station : ℕ) (past : List Event) (a : Account) (event : Event) : Type 0 where
  pub may_come : MayCome infos station past a event
  pub planned : IsPlanned plan station past a event
  pub in_turn : IsInTurn infos past (brought event)

module _ {plan : Plan} {infos : List Info} {station : ℕ} {start : Account} {past : List Event} {event : Event} where
  pub legal-before : IsLegal plan infos station start (event ∷ past) → IsLegal plan infos station start past
  legal-before legal = record { comes = legal.comes.0; planned = legal.planned.0 }

  pub legal-next : IsLegal plan infos station start (event ∷ past) → IsLegalNext plan infos station past (after_all start past) event
  legal-next legal = record { may_come = legal.comes.1.0; planned = legal.planned.1; in_turn = legal.comes.1.1 }

  pub legal-more : IsLegal plan infos station start past → IsLegalNext plan infos station past (after_all start past) event → IsLegal plan infos station start (event ∷ past)
  legal-more legal next = record { comes = (legal.comes, (next.may_come, next.in_turn)); planned = (legal.planned, next.planned) }

-- THE PLAN'S EVENTS COME ONCE

module _ {plan : Plan} {infos : List Info} {station : ℕ} {start : Account} {past : List Event} where
  pub resizes-once : (len event : ℕ) → IsLegal plan infos station start (Resize len event ∷ past) → Contains (filter_map resize_event past) event → ⊥
  resizes-once len event legal came = elim legal.planned.1 [
    | inl resize ↦ (let below : event < event = resize.1.after_resizes event came in omega arith)
    | inr change ↦ (let below : event < event = change.once event came in omega arith)
  ]

  pub downs-once : (event : ℕ) → IsLegal plan infos station start (Down event ∷ past) → Contains (filter_map down_event past) event → ⊥
  downs-once event legal came = let below : event < event = legal.planned.1.0.after_downs event came in omega arith

  pub swaps-once : (unit : ℕ) → IsLegal plan infos station start (Swap unit ∷ past) → Contains past (Swap unit) → ⊥
  swaps-once unit legal came = legal.planned.1.4 came
