-- The account of a station is closed after the last packet, where the plan has no events.
use Rattle.std.proofs.Common.{◌≡◌, ℕ, ◌<◌, inl, inr, List, [], ◌∷◌, ◌++◌, length, take, Option, Some, None, slice_get, get_or, refl, ap, sym, subst, ◌∙◌, arith}
use Rattle.std.proofs.lemmas.Option.{slice_get-get_or}
use Rattle.lq_model.specs.Account.{Account, Event, Join, Full, Refuse, Empty, Take, Pick, Direct, Send, Back, Stop, Wake, Resize, Down, Purge, Swap, Up, sent_from_hand, held, after, after_all}
use Rattle.lq_model.specs.Legal.{ArePlanned, Comes, IsLegal, IsPlanned, MayCome}
use Rattle.lq_model.specs.Plan.{Plan, station_in}
use Rattle.lq_model.specs.declared.fate.Cause.TheVariants as cause
use Rattle.lq_model.specs.declared.fate.Fate.{Fate}
use Rattle.lq_model.specs.declared.fate.Fate.TheVariants.{Full}
use Rattle.lq_model.specs.declared.fate.Info.{Info}
use Rattle.lq_model.specs.declared.plan.EventPlan.{EventPlan}
use Rattle.lq_account_laws.specs.Accounts.{IsClosed}
use Rattle.lq_account_laws.specs.Progress.{IsAt, start_of}
use Rattle.lq_account_laws.specs.Controls.{controls_in, planned_controls}
use Rattle.lq_account_laws.specs.Trail.{FindNothing, FindsNothing}
use Rattle.lq_account_laws.proofs.Controlled.{after_controls}
use Rattle.lq_account_laws.proofs.NoEvents.{no_down, no_event}

-- no device is swapped
no-swap : (plan : Plan) (station : ℕ) (start : Account) (later before : List Event) (unit : ℕ)
    → plan.events ≡ [] → ArePlanned plan station start (later ++ Swap unit ∷ before) → ⊥
no-swap plan station start [] before unit none (planned, next) = no_event plan station _ _ none next.2.1
no-swap plan station start (event ∷ later) before unit none (planned, next) = no-swap plan station start later before unit none planned

-- control does nothing, and the station stays active
pub record IsLeftAlone (past : List Event) (a : Account) : Type 0 where
  pub controls : controls_in past ≡ []
  pub active : a.down ≡ None

not-down : (a : Account) (event : ℕ) → a.down ≡ None → a.down ≡ Some event → ⊥
not-down a event active down = let same : None ≡ Some event = sym active ∙ down in cc

stays-active : (o : Option ℕ) (a : Account) → (sent_from_hand o a).down ≡ a.down
stays-active None a = refl
stays-active (Some n) a = refl

module _ (plan : Plan) (infos : List Info) (station : ℕ) (past : List Event) (a : Account) (none : plan.events ≡ []) (h : IsLeftAlone past a) where
  left-alone-step : (e : Event) → MayCome infos station past a e → IsPlanned plan station past a e → IsLeftAlone (e ∷ past) (after e a)
  left-alone-step (Resize len event) may (inl planned) = absurd (no_event plan station event _ none planned.0)
  left-alone-step (Resize len event) may (inr change) = absurd (no_event plan station event _ none change.planned)
  left-alone-step (Down event) may planned = absurd (no_down plan station event none planned.1)
  left-alone-step (Purge (cause.Event event)) may planned = absurd (not-down a event h.active may.1)
  left-alone-step (Purge (cause.Hung unit)) may planned = record { controls = h.controls; active = h.active }
  left-alone-step (Swap unit) may planned = absurd (not-down a may.deactivated.0 h.active may.deactivated.1)
  left-alone-step Up may planned = absurd (not-down a may.deactivated.0 h.active may.deactivated.1)
  left-alone-step Send may planned = record { controls = h.controls; active = stays-active a.hand a ∙ h.active }
  left-alone-step (Join n band) may planned = record { controls = h.controls; active = h.active }
  left-alone-step (Full n seen) may planned = record { controls = h.controls; active = h.active }
  left-alone-step (Refuse n event) may planned = record { controls = h.controls; active = h.active }
  left-alone-step (Empty band) may planned = record { controls = h.controls; active = h.active }
  left-alone-step (Take band) may planned = record { controls = h.controls; active = h.active }
  left-alone-step Pick may planned = record { controls = h.controls; active = h.active }
  left-alone-step (Direct n) may planned = record { controls = h.controls; active = h.active }
  left-alone-step Back may planned = record { controls = h.controls; active = h.active }
  left-alone-step (Stop queue value) may planned = record { controls = h.controls; active = h.active }
  left-alone-step (Wake queue) may planned = record { controls = h.controls; active = h.active }

left-alone : (plan : Plan) (infos : List Info) (station : ℕ) (start : Account) → start.down ≡ None → plan.events ≡ [] → (past : List Event) → Comes infos station start past → ArePlanned plan station start past
    → IsLeftAlone past (after_all start past)
left-alone plan infos station start active none [] comes planned = record { controls = refl; active = active }
left-alone plan infos station start active none (e ∷ past) comes planned =
    left-alone-step plan infos station past (after_all start past) none (left-alone plan infos station start active none past comes.0 planned.0) e comes.1.0 planned.1

have-all-come : (plan : Plan) (infos : List Info) (station : ℕ) (past : List Event) → plan.events ≡ [] → IsLegal plan infos station (start_of plan station) past
    → controls_in past ≡ planned_controls plan station (length plan.events)
have-all-come plan infos station past none legal =
    (left-alone plan infos station (start_of plan station) refl none past legal.comes legal.planned).controls
    ∙ ap (λ (events : List EventPlan). after_controls plan station (take (length events) events) 0 []) (sym none)

-- nothing resizes
finds-nothing : (plan : Plan) (station : ℕ) → plan.events ≡ [] → (past : List Event) (a : Account) (e : Event) → IsPlanned plan station past a e → FindsNothing a e
finds-nothing plan station none past a (Resize len event) (inl at) = absurd (no_event plan station event _ none at.0)
finds-nothing plan station none past a (Resize len event) (inr change) = absurd (no_event plan station event _ none change.planned)
finds-nothing plan station none past a e planned = _

find-nothing : (plan : Plan) (station : ℕ) → plan.events ≡ [] → (start : Account) (past : List Event) → ArePlanned plan station start past → FindNothing start past
find-nothing plan station none start [] planned = _
find-nothing plan station none start (e ∷ past) planned =
    (find-nothing plan station none start past planned.0, finds-nothing plan station none past (after_all start past) e planned.1)

-- A list has just the account's fates of this station.
pub is_closed : {plan : Plan} {infos : List Info} {station : ℕ} {a : Account} (fates : List Fate)
    → plan.events ≡ [] → (h : IsAt plan infos station (length infos) a) → held a ≡ [] → a.hand ≡ None
    → length fates ≡ length infos → ((n : ℕ) → n < length infos → station_in infos n ≡ station → slice_get fates n ≡ a.fates n)
    → IsClosed plan infos fates station h.past a
is_closed {plan = plan} {infos = infos} {station = station} {a = a} fates none h nothing hand len agree = record {
  orderly = record { comes = h.legal.comes; find_nothing = find-nothing plan station none (start_of plan station) h.past h.legal.planned };
  account = h.account;
  nothing_held = nothing;
  hand_empty = hand;
  events = have-all-come plan infos station h.past none h.legal;
  no_swap_after_hang = λ later before old new is in_it. no-swap plan station _ later before new none (subst (ArePlanned plan station (start_of plan station)) is h.legal.planned);
  decided = decided;
}
  where
    decided : (n : ℕ) → n < length infos → station_in infos n ≡ station → (fate : Fate) × (slice_get fates n ≡ Some fate) × (a.fates n ≡ Some fate)
    decided n within at =
        let some : slice_get fates n ≡ Some (get_or fates n (Full 0)) = slice_get-get_or fates n (Full 0) (omega arith) in
        (get_or fates n (Full 0), some, sym (agree n within at) ∙ some)
