-- The plan's events in order.
use Rattle.std.proofs.Common.{◌≡◌, ℕ, zero, suc, ◌+◌, ◌<◌, ◌≤◌, ◌||◌, Bool, true, false, List, [], ◌∷◌, inl, inr, length, map, take, filter, Option, Some, None, is_none, refl, sym, ap, ◌∙◌, subst, cond, slice_get, nat_le, nat_lt, arith}
use Rattle.std.proofs.lemmas.Option.{same_Some, slice_get_within}
use Rattle.std.proofs.lemmas.Bool.{le-leb}
use Rattle.std.proofs.lemmas.Bool.Decides.{leb_tells}
use Rattle.lq_model.specs.Account.{Event}
use Rattle.lq_model.specs.Plan.{Plan, after_events, is_at}
use Rattle.lq_model.specs.Settled.{down_after, down_at}
use Rattle.lq_plan.proofs.Groups.{none-first}
use Rattle.lq_model.specs.declared.plan.EventKind.{EventKind}
use Rattle.lq_model.specs.declared.plan.EventKind.TheVariants.{Down, Up, Resize, TxQueueLen, Swap}
use Rattle.lq_model.specs.declared.plan.EventPlan.{EventPlan}
use Rattle.lq_plan.specs.Limits.{falls_below, active_after, is_misplaced, kinds_at, is_out_of_order}
use Rattle.lq_account_laws.specs.Controls.{planned_controls, with_control}
use Rattle.lq_account_laws.specs.Trail.{down_of}
use Rattle.lq_seat.specs.Calls.{MayDoEvent}
use Rattle.lq_senders.specs.Way.{down_after_events, IsSplitAt, StandAfter}
use Rattle.lq_senders.proofs.Units.{event-more}

not-le : (m n : ℕ) → n < m → nat_le m n ≡ false
not-le m n h = elim (leb_tells m n) [ inl t ↦ absurd (let le = t.1 in omega arith) | inr t ↦ t.0 ]

-- WHAT IS DEACTIVATED BEFORE A PACKET

abbrev down_among : ℕ → List EventPlan → ℕ → Option ℕ → Option ℕ
down_among station events e down = after_events (λ e event down. down_after event.kind e down) station events e down

abbrev down_with : ℕ → ℕ → EventPlan → Option ℕ → Option ℕ
down_with station e event down = cond (is_at station event) (down_after event.kind e down) down

-- the same after the events that stand before packet n
abbrev down_before : ℕ → ℕ → List EventPlan → ℕ → Option ℕ → Option ℕ
down_before station n events e down = after_events (λ e event down. cond (nat_le event.before n) (down_after event.kind e down) down) station events e down

abbrev down_if : ℕ → ℕ → EventPlan → Option ℕ → Bool → Option ℕ
down_if station e event down before = cond (is_at station event) (cond before (down_after event.kind e down) down) down

unmoved : (station e : ℕ) (event : EventPlan) (down : Option ℕ) → down_if station e event down false ≡ down
unmoved station e event down = go (is_at station event)
  where
    go : (b : Bool) → cond b down down ≡ down
    go true = refl
    go false = refl

-- events behind the packet change nothing
none-before : (station n : ℕ) (events : List EventPlan) (e : ℕ) (down : Option ℕ)
    → ((k : ℕ) (event : EventPlan) → slice_get events k ≡ Some event → n < event.before) → down_before station n events e down ≡ down
none-before station n [] e down behind = refl
none-before station n (x ∷ xs) e down behind =
    ap (λ b. down_before station n xs (e + 1) (down_if station e x down b)) (not-le x.before n (behind 0 x refl))
    ∙ (ap (down_before station n xs (e + 1)) (unmoved station e x down) ∙ none-before station n xs (e + 1) down (λ k event there. behind (suc k) event there))

split-before : (station n : ℕ) (events : List EventPlan) (count e : ℕ) (down : Option ℕ)
    → ((k : ℕ) (event : EventPlan) → k < count → slice_get events k ≡ Some event → event.before ≤ n)
    → ((k : ℕ) (event : EventPlan) → count ≤ k → slice_get events k ≡ Some event → n < event.before)
    → down_before station n events e down ≡ down_among station (take count events) e down
split-before station n [] zero e down first rest = refl
split-before station n [] (suc count) e down first rest = refl
split-before station n (x ∷ xs) zero e down first rest = none-before station n (x ∷ xs) e down (λ k event there. rest k event (omega arith) there)
split-before station n (x ∷ xs) (suc count) e down first rest =
    ap (λ b. down_before station n xs (e + 1) (down_if station e x down b)) (le-leb x.before n (first 0 x (omega arith) refl))
    ∙ split-before station n xs count (e + 1) (down_with station e x down)
    (λ k event below there. first (suc k) event (omega arith) there) (λ k event above there. rest (suc k) event (omega arith) there)

pub down-split : (plan : Plan) (station count n : ℕ) → IsSplitAt plan count n → down_at plan station n ≡ down_after_events plan station count
down-split plan station count n split = split-before station n plan.events count 0 None (λ k event below there. split.0 k event below there) (λ k event above there. split.1 k event above there)

pub down-next : (plan : Plan) (station count : ℕ) (event : EventPlan) → slice_get plan.events count ≡ Some event
    → down_after_events plan station (suc count) ≡ down_with station count event (down_after_events plan station count)
down-next plan station count event there =
    let same : 0 + count ≡ count = omega arith in
    event-more (λ e event down. down_after event.kind e down) station plan.events count 0 None event there
    ∙ ap (λ i. down_with station i event (down_after_events plan station count)) same

pub down-here : (plan : Plan) (station count : ℕ) (event : EventPlan) → slice_get plan.events count ≡ Some event → is_at station event ≡ true
    → down_after_events plan station (suc count) ≡ down_after event.kind count (down_after_events plan station count)
down-here plan station count event there here = down-next plan station count event there
    ∙ ap (λ b. cond b (down_after event.kind count (down_after_events plan station count)) (down_after_events plan station count)) here

pub down-elsewhere : (plan : Plan) (station count : ℕ) (event : EventPlan) → slice_get plan.events count ≡ Some event → is_at station event ≡ false
    → down_after_events plan station (suc count) ≡ down_after_events plan station count
down-elsewhere plan station count event there other = down-next plan station count event there
    ∙ ap (λ b. cond b (down_after event.kind count (down_after_events plan station count)) (down_after_events plan station count)) other

-- WHAT CONTROL DOES

abbrev controls_with : Plan → ℕ → ℕ → EventPlan → List Event → List Event
controls_with plan station e event past = cond (is_at station event) (with_control plan e event.kind past) past

controls-next : (plan : Plan) (station count : ℕ) (event : EventPlan) → slice_get plan.events count ≡ Some event
    → planned_controls plan station (suc count) ≡ controls_with plan station count event (planned_controls plan station count)
controls-next plan station count event there =
    let same : 0 + count ≡ count = omega arith in
    event-more (λ e x past. with_control plan e x.kind past) station plan.events count 0 [] event there ∙ ap (λ i. controls_with plan station i event (planned_controls plan station count)) same

pub controls-here : (plan : Plan) (station count : ℕ) (event : EventPlan) → slice_get plan.events count ≡ Some event → is_at station event ≡ true
    → planned_controls plan station (suc count) ≡ with_control plan count event.kind (planned_controls plan station count)
controls-here plan station count event there here = controls-next plan station count event there
    ∙ ap (λ b. cond b (with_control plan count event.kind (planned_controls plan station count)) (planned_controls plan station count)) here

pub controls-elsewhere : (plan : Plan) (station count : ℕ) (event : EventPlan) → slice_get plan.events count ≡ Some event → is_at station event ≡ false
    → planned_controls plan station (suc count) ≡ planned_controls plan station count
controls-elsewhere plan station count event there other = controls-next plan station count event there
    ∙ ap (λ b. cond b (with_control plan count event.kind (planned_controls plan station count)) (planned_controls plan station count)) other

-- WHAT MAY BE DONE

or-false : (a b : Bool) → (a || b) ≡ false → (a ≡ false) × (b ≡ false)
or-false true b h = absurd cc
or-false false b h = (refl, h)

-- a kind may be done to a station that is active, or not
abbrev MayFollow : Bool → EventKind → Type 0
MayFollow active kind = (next : Bool) × (active_after active kind ≡ Some next)

first-may : (active : Bool) (kind : EventKind) (kinds : List EventKind) → is_misplaced (Some active) (kind ∷ kinds) ≡ false → MayFollow active kind
first-may active kind kinds ok = go (active_after active kind) refl
  where
    none-ok : (kinds : List EventKind) → is_misplaced None kinds ≡ false → ⊥
    none-ok [] h = cc
    none-ok (k ∷ ks) h = cc

    go : (o : Option Bool) → active_after active kind ≡ o → MayFollow active kind
    go None is = absurd (none-ok kinds (ap (λ o. is_misplaced o kinds) (sym is) ∙ ok))
    go (Some next) is = (next, is)

-- whether it is active afterwards is whether no event deactivates it
follows : (active next : Bool) (kind : EventKind) (e : ℕ) (down : Option ℕ) → active ≡ is_none down → active_after active kind ≡ Some next → next ≡ is_none (down_after kind e down)
follows true next Down e down is after = sym (same_Some false next after)
follows false next Up e down is after = sym (same_Some true next after)
follows true next (Resize len) e down is after = sym (same_Some true next after) ∙ is
follows true next (TxQueueLen len) e down is after = sym (same_Some true next after) ∙ is
follows true next (Swap params) e down is after = sym (same_Some true next after) ∙ is
follows true next Up e down is after = absurd cc
follows false next Down e down is after = absurd cc
follows false next (Resize len) e down is after = absurd cc
follows false next (TxQueueLen len) e down is after = absurd cc
follows false next (Swap params) e down is after = absurd cc

may-follow : (station : ℕ) (events : List EventPlan) (k e : ℕ) (active : Bool) (down : Option ℕ) (event : EventPlan) → active ≡ is_none down → slice_get events k ≡ Some event → is_at station event ≡ true
    → is_misplaced (Some active) (kinds_at station events) ≡ false → MayFollow (is_none (down_among station (take k events) e down)) event.kind
may-follow station [] k e active down event is there here ok = absurd cc
may-follow station (x ∷ xs) zero e active down event is there here ok =
    let same : x ≡ event = same_Some x event there in
    let at : is_at station x ≡ true = ap (is_at station) same ∙ here in
    subst (λ (z : EventPlan). MayFollow (is_none down) z.kind) same
    (subst (λ b. MayFollow b x.kind) is (first-may active x.kind (kinds_at station xs)
    (ap (λ b. is_misplaced (Some active) (map (λ (z : EventPlan). z.kind) (cond b (x ∷ filter (is_at station) xs) (filter (is_at station) xs)))) (sym at) ∙ ok)))
may-follow station (x ∷ xs) (suc k) e active down event is there here ok = go (λ active down is ok. may-follow station xs k (e + 1) active down event is there here ok) (is_at station x) refl
  where
    Rest : Type 0
    Rest = (active : Bool) (down : Option ℕ) → active ≡ is_none down → is_misplaced (Some active) (kinds_at station xs) ≡ false
        → MayFollow (is_none (down_among station (take k xs) (e + 1) down)) event.kind

    kinds : Bool → List EventKind
    kinds b = map (λ (z : EventPlan). z.kind) (cond b (x ∷ filter (is_at station) xs) (filter (is_at station) xs))

    go : Rest → (b : Bool) → is_at station x ≡ b → MayFollow (is_none (down_among station (take k xs) (e + 1) (down_with station e x down))) event.kind
    go after true at =
        let ok' : is_misplaced (Some active) (x.kind ∷ kinds_at station xs) ≡ false = ap (λ b. is_misplaced (Some active) (kinds b)) (sym at) ∙ ok in
        let may = first-may active x.kind (kinds_at station xs) ok' in
        let rest : is_misplaced (Some may.0) (kinds_at station xs) ≡ false = ap (λ o. is_misplaced o (kinds_at station xs)) (sym may.1) ∙ ok' in
        subst (λ b. MayFollow (is_none (down_among station (take k xs) (e + 1) (cond b (down_after x.kind e down) down))) event.kind) (sym at)
        (after may.0 (down_after x.kind e down) (follows active may.0 x.kind e down is may.1) rest)
    go after false at =
        subst (λ b. MayFollow (is_none (down_among station (take k xs) (e + 1) (cond b (down_after x.kind e down) down))) event.kind) (sym at)
        (after active down is (ap (λ b. is_misplaced (Some active) (kinds b)) (sym at) ∙ ok))

-- so the plan's next event may be done to its station
may-do : (kind : EventKind) (down : Option ℕ) (trail : _) → down_of trail ≡ down → MayFollow (is_none down) kind → MayDoEvent kind trail
may-do Down None trail is may = is
may-do Down (Some k) trail is may = absurd (let m = may.1 in cc)
may-do Up None trail is may = absurd (let m = may.1 in cc)
may-do Up (Some k) trail is may = (k, is)
may-do (Resize len) None trail is may = is
may-do (Resize len) (Some k) trail is may = absurd (let m = may.1 in cc)
may-do (TxQueueLen len) None trail is may = is
may-do (TxQueueLen len) (Some k) trail is may = absurd (let m = may.1 in cc)
may-do (Swap params) None trail is may = is
may-do (Swap params) (Some k) trail is may = absurd (let m = may.1 in cc)

pub may-do-next : (plan : Plan) (station count : ℕ) (event : EventPlan) (trail : _) → is_out_of_order plan.events ≡ false → slice_get plan.events count ≡ Some event
    → station < 8 → is_at station event ≡ true → down_of trail ≡ down_after_events plan station count → MayDoEvent event.kind trail
may-do-next plan station count event trail order there few at is =
    let ok = none-first (λ (j : ℕ). is_misplaced (Some true) (kinds_at j plan.events)) 8 station few (or-false _ _ order).1 in
    may-do event.kind (down_after_events plan station count) trail is (may-follow station plan.events count 0 true None event refl there at ok)

-- events stand in ascending order
first-rises : (last : ℕ) (x : EventPlan) (xs : List EventPlan) → falls_below last (x ∷ xs) ≡ false → last ≤ x.before
first-rises last x xs ok = elim (leb_tells (suc x.before) last) [ inl t ↦ absurd (let is = t.0 in let isn't = (or-false (nat_lt x.before last) (falls_below x.before xs) ok).0 in cc) | inr t ↦ (let lt = t.1 in omega arith) ]

rises : (last : ℕ) (events : List EventPlan) (k : ℕ) (event : EventPlan) → falls_below last events ≡ false → slice_get events k ≡ Some event → last ≤ event.before
rises last [] k event ok there = absurd cc
rises last (x ∷ xs) zero event ok there = subst (λ (z : EventPlan). last ≤ z.before) (same_Some x event there) (first-rises last x xs ok)
rises last (x ∷ xs) (suc k) event ok there = let first : last ≤ x.before = first-rises last x xs ok in let more : x.before ≤ event.before = rises x.before xs k event (or-false (nat_lt x.before last) (falls_below x.before xs) ok).1 there in omega arith

ascending : (last : ℕ) (events : List EventPlan) (i k : ℕ) (early late : EventPlan) → falls_below last events ≡ false → i ≤ k → slice_get events i ≡ Some early → slice_get events k ≡ Some late
    → early.before ≤ late.before
ascending last [] i k early late ok le first second = absurd cc
ascending last (x ∷ xs) zero k early late ok le first second = go k second
  where
    go : (k : ℕ) → slice_get (x ∷ xs) k ≡ Some late → early.before ≤ late.before
    go zero second = let same : early ≡ late = same_Some early late (sym first ∙ second) in subst (λ (z : EventPlan). early.before ≤ z.before) same (omega arith)
    go (suc k) second = subst (λ (z : EventPlan). z.before ≤ late.before) (same_Some x early first) (rises x.before xs k late (or-false (nat_lt x.before last) (falls_below x.before xs) ok).1 second)
ascending last (x ∷ xs) (suc i) zero early late ok le first second = absurd (omega arith)
ascending last (x ∷ xs) (suc i) (suc k) early late ok le first second = ascending x.before xs i k early late (or-false (nat_lt x.before last) (falls_below x.before xs) ok).1 (omega arith) first second

pub in-order : (plan : Plan) (i k : ℕ) (early late : EventPlan) → is_out_of_order plan.events ≡ false → i ≤ k → slice_get plan.events i ≡ Some early → slice_get plan.events k ≡ Some late
    → early.before ≤ late.before
in-order plan i k early late order le first second = ascending 0 plan.events i k early late (or-false _ _ order).0 le first second

-- where no event is left, or the next one stands after packet n, all that are left do
pub none-after : (plan : Plan) (next n : ℕ) → length plan.events ≤ next → StandAfter plan next n
none-after plan next n past k event above there = let within = slice_get_within plan.events k event there in absurd (omega arith)

pub all-after : (plan : Plan) (next n : ℕ) (first : EventPlan) → is_out_of_order plan.events ≡ false → slice_get plan.events next ≡ Some first → n < first.before → StandAfter plan next n
all-after plan next n first order at later k event above there = let le = in-order plan next k first event order above at there in omega arith
