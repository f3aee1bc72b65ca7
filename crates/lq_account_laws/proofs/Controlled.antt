-- What control does by the plan: the length of the rings that it leaves, and that each event has come.
use Rattle.std.proofs.Common.{◌≡◌, ℕ, zero, suc, ◌+◌, Bool, true, false, cond, List, [], ◌∷◌, inl, inr, length, filter, filter_map, slice_get, Contains, Option, Some, None, refl, sym, ap, ◌∙◌, subst, arith, le_refl, take_all}
use Rattle.std.proofs.lemmas.Option.{same_Some}
use Rattle.lq_model.specs.Account.{Account, Event, Join, Full, Refuse, Empty, Take, Pick, Direct, Send, Back, Stop, Wake, Resize, Down, Purge, Swap, Up, sent_from_hand, after_all}
use Rattle.lq_model.specs.Plan.{Plan, after_events, is_at, unit_of_swap}
use Rattle.lq_model.specs.Legal.{IsEventAt, resize_event}
use Rattle.lq_model.specs.Settled.{length_after, length_after_event}
use Rattle.lq_model.specs.declared.device.Params.{Params}
use Rattle.lq_model.specs.declared.fate.Cause.TheVariants as cause
use Rattle.lq_model.specs.declared.plan.EventKind.{EventKind}
use Rattle.lq_model.specs.declared.plan.EventKind.TheVariants as kind
use Rattle.lq_model.specs.declared.plan.EventPlan.{EventPlan}
use Rattle.lq_account_laws.specs.Controls.{controls_in, is_by_plan, planned_controls, with_control, with_down}
use Rattle.lq_account_laws.proofs.Lists.{cons-in, here-in, mapped-before, mapped-now, none-in, there-in}

-- THE LENGTH OF THE RINGS

sent-len : (o : Option ℕ) (a : Account) → (sent_from_hand o a).len ≡ a.len
sent-len None a = refl
sent-len (Some n) a = refl

-- it is a matter of what control did by the plan
pub len-by-controls : (start : Account) (past : List Event) → (after_all start past).len ≡ (after_all start (controls_in past)).len
len-by-controls start [] = refl
len-by-controls start (Resize len event ∷ past) = refl
len-by-controls start (Down event ∷ past) = len-by-controls start past
len-by-controls start (Purge (cause.Event event) ∷ past) = len-by-controls start past
len-by-controls start (Purge (cause.Hung unit) ∷ past) = len-by-controls start past
len-by-controls start (Swap unit ∷ past) = len-by-controls start past
len-by-controls start (Up ∷ past) = len-by-controls start past
len-by-controls start (Send ∷ past) = sent-len (after_all start past).hand (after_all start past) ∙ len-by-controls start past
len-by-controls start (Join n band ∷ past) = len-by-controls start past
len-by-controls start (Full n seen ∷ past) = len-by-controls start past
len-by-controls start (Refuse n event ∷ past) = len-by-controls start past
len-by-controls start (Empty band ∷ past) = len-by-controls start past
len-by-controls start (Take band ∷ past) = len-by-controls start past
len-by-controls start (Pick ∷ past) = len-by-controls start past
len-by-controls start (Direct n ∷ past) = len-by-controls start past
len-by-controls start (Back ∷ past) = len-by-controls start past
len-by-controls start (Stop queue value ∷ past) = len-by-controls start past
len-by-controls start (Wake queue ∷ past) = len-by-controls start past

-- each event of the plan leaves the length that it gives
len-after : (plan : Plan) (start : Account) (e : ℕ) (k : EventKind) (past : List Event) → (after_all start (with_control plan e k past)).len ≡ length_after_event k (after_all start past).len
len-after plan start e kind.Down past = refl
len-after plan start e kind.Up past = refl
len-after plan start e (kind.Resize len) past = refl
len-after plan start e (kind.TxQueueLen len) past = refl
len-after plan start e (kind.Swap params) past = refl

-- what control does at the station by these events of the plan, numbered from e on
abbrev pub after_controls : Plan → ℕ → List EventPlan → ℕ → List Event → List Event
after_controls plan station events e past = after_events (λ e event past. with_control plan e event.kind past) station events e past

pub len-after-controls : (plan : Plan) (station : ℕ) (start : Account) (events : List EventPlan) (e : ℕ) (past : List Event)
    → (after_all start (after_controls plan station events e past)).len ≡ length_after (filter (is_at station) events) (after_all start past).len
len-after-controls plan station start [] e past = refl
len-after-controls plan station start (x ∷ xs) e past = go (λ past. len-after-controls plan station start xs (e + 1) past) (is_at station x)
  where
    Rest : Type 0
    Rest = (past : List Event) → (after_all start (after_controls plan station xs (e + 1) past)).len ≡ length_after (filter (is_at station) xs) (after_all start past).len

    go : Rest → (b : Bool) → (after_all start (after_controls plan station xs (e + 1) (cond b (with_control plan e x.kind past) past))).len ≡ length_after (cond b (x ∷ filter (is_at station) xs) (filter (is_at station) xs)) (after_all start past).len
    go rest true = rest (with_control plan e x.kind past) ∙ ap (length_after (filter (is_at station) xs)) (len-after plan start e x.kind past)
    go rest false = rest past

-- WHAT IT DOES FOR EACH EVENT

pub not-first : (e : Event) (past : List Event) (x : Event) → (e ≡ x → ⊥) → Contains (e ∷ past) x → Contains past x
not-first e past x other h = elim (cons-in e past x h) [ inl same ↦ absurd (other same) | inr was ↦ was ]

pub no-swap-in-downs : (event unit : ℕ) (past : List Event) → Contains (with_down event past) (Swap unit) → Contains past (Swap unit)
no-swap-in-downs event unit past h = not-first (Down event) past (Swap unit) (λ same. cc) (not-first (Purge (cause.Event event)) (Down event ∷ past) (Swap unit) (λ same. cc) h)

downs-keep : (e : ℕ) (past : List Event) (y : Event) → Contains past y → Contains (with_down e past) y
downs-keep e past y h = there-in (Purge (cause.Event e)) (Down e ∷ past) y (there-in (Down e) past y h)

controls-keep : (plan : Plan) (e : ℕ) (k : EventKind) (past : List Event) (y : Event) → Contains past y → Contains (with_control plan e k past) y
controls-keep plan e kind.Down past y h = downs-keep e past y h
controls-keep plan e kind.Up past y h = there-in Up past y h
controls-keep plan e (kind.Resize len) past y h = there-in (Resize len e) past y h
controls-keep plan e (kind.TxQueueLen len) past y h =
    there-in Up (Resize len e ∷ with_down e past) y (there-in (Resize len e) (with_down e past) y (downs-keep e past y h))
controls-keep plan e (kind.Swap params) past y h =
    there-in Up (Swap (unit_of_swap plan e) ∷ with_down e past) y (there-in (Swap (unit_of_swap plan e)) (with_down e past) y (downs-keep e past y h))

after-keep : (plan : Plan) (station : ℕ) (events : List EventPlan) (e : ℕ) (past : List Event) (y : Event) → Contains past y → Contains (after_controls plan station events e past) y
after-keep plan station [] e past y h = h
after-keep plan station (x ∷ xs) e past y h = after-keep plan station xs (e + 1) (cond (is_at station x) (with_control plan e x.kind past) past) y (go (is_at station x))
  where
    go : (b : Bool) → Contains (cond b (with_control plan e x.kind past) past) y
    go true = controls-keep plan e x.kind past y h
    go false = h

-- what it does for event k among these is among all that it does
after-has : (plan : Plan) (station : ℕ) (events : List EventPlan) (k e : ℕ) (past : List Event) (x : EventPlan) (y : Event)
    → slice_get events k ≡ Some x → is_at station x ≡ true → ((before : List Event) → Contains (with_control plan (e + k) x.kind before) y)
    → Contains (after_controls plan station events e past) y
after-has plan station [] k e past x y there here has = absurd cc
after-has plan station (z ∷ zs) zero e past x y there here has =
    let at : e + 0 ≡ e = omega arith in
    after-keep plan station zs (e + 1) (cond (is_at station z) (with_control plan e z.kind past) past) y
    (subst (λ (w : EventPlan). Contains (cond (is_at station w) (with_control plan e w.kind past) past) y) (sym (same_Some z x there))
    (subst (λ b. Contains (cond b (with_control plan e x.kind past) past) y) (sym here) (subst (λ i. Contains (with_control plan i x.kind past) y) at (has past))))
after-has plan station (z ∷ zs) (suc k) e past x y there here has =
    let more : e + suc k ≡ (e + 1) + k = omega arith in
    after-has plan station zs k (e + 1) (cond (is_at station z) (with_control plan e z.kind past) past) x y there here
    (λ before. subst (λ i. Contains (with_control plan i x.kind before) y) more (has before))

planned-has : (plan : Plan) (station event : ℕ) (k : EventKind) (y : Event) → IsEventAt plan station event k → ((before : List Event) → Contains (with_control plan event k before) y)
    → Contains (planned_controls plan station (length plan.events)) y
planned-has plan station event k y (x, there, here, is) has = subst (λ events. Contains (after_controls plan station events 0 []) y) (sym (take_all (length plan.events) plan.events (le_refl (length plan.events))))
    (after-has plan station plan.events event 0 [] x y there here (λ before. subst (λ i. Contains (with_control plan i x.kind before) y) (the-same event)
    (subst (λ (j : EventKind). Contains (with_control plan event j before) y) (sym is) (has before))))
  where
    the-same : (i : ℕ) → i ≡ 0 + i
    the-same i = omega arith

controls-in : (past : List Event) (y : Event) → Contains (controls_in past) y → Contains past y
controls-in [] y h = h
controls-in (e ∷ past) y h = go (is_by_plan e) (λ old. controls-in past y old) h
  where
    go : (b : Bool) → (Contains (controls_in past) y → Contains past y) → Contains (cond b (e ∷ controls_in past) (controls_in past)) y → Contains (e ∷ past) y
    go true rest h = elim (cons-in e (controls_in past) y h) [ inl same ↦ subst (λ z. Contains (e ∷ past) z) same (here-in e past) | inr old ↦ there-in e past y (rest old) ]
    go false rest h = there-in e past y (rest h)

resize-in : (past : List Event) (len event : ℕ) → Contains past (Resize len event) → Contains (filter_map resize_event past) event
resize-in [] len event h = absurd (none-in [] (Resize len event) refl h)
resize-in (e ∷ past) len event h = elim (cons-in e past (Resize len event) h) [
  | inl same ↦ mapped-now resize_event e past event (ap resize_event same)
  | inr old ↦ mapped-before resize_event e past event (resize-in past len event old)
]

-- Each event that the plan has for the station has come, one that resizes by its resize and a swap by its swap.
module _ (plan : Plan) (station : ℕ) (past : List Event) (all : controls_in past ≡ planned_controls plan station (length plan.events)) where
  has-come : (event : ℕ) (k : EventKind) (y : Event) → IsEventAt plan station event k → ((before : List Event) → Contains (with_control plan event k before) y) → Contains past y
  has-come event k y at has = controls-in past y (subst (λ l. Contains l y) (sym all) (planned-has plan station event k y at has))

  pub resize-came : (event len : ℕ) → IsEventAt plan station event (kind.Resize len) → Contains (filter_map resize_event past) event
  resize-came event len at = resize-in past len event (has-come event (kind.Resize len) (Resize len event) at (λ before. here-in (Resize len event) before))

  pub length-came : (event len : ℕ) → IsEventAt plan station event (kind.TxQueueLen len) → Contains (filter_map resize_event past) event
  length-came event len at = resize-in past len event (has-come event (kind.TxQueueLen len) (Resize len event) at
      (λ before. there-in Up (Resize len event ∷ with_down event before) (Resize len event) (here-in (Resize len event) (with_down event before))))

  pub swap-came : (event : ℕ) (params : Params) → IsEventAt plan station event (kind.Swap params) → Contains past (Swap (unit_of_swap plan event))
  swap-came event params at = has-come event (kind.Swap params) (Swap (unit_of_swap plan event)) at
      (λ before. there-in Up (Swap (unit_of_swap plan event) ∷ with_down event before) (Swap (unit_of_swap plan event)) (here-in (Swap (unit_of_swap plan event)) (with_down event before)))
