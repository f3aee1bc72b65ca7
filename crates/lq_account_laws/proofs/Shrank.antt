-- Which events shrank a band: resizes to a length below the one before, in the plan's order.
use Rattle.std.proofs.Common.{◌≡◌, ℕ, ◌+◌, ◌<◌, ◌≤◌, zero, suc, Bool, true, false, List, [], ◌∷◌, ◌++◌, ◌⊎◌, inl, inr, take, filter, filter_map, length, Contains, Option, Some, None, refl, sym, ap, ◌∙◌, subst, slice_get, arith, cond, length-drop, length-take}
use Rattle.std.proofs.lemmas.Option.{same_Some}
use Rattle.std.proofs.lemmas.List.{length_push}
use Rattle.lq_model.specs.Band.{Band, held_of, joined, taken_by}
use Rattle.lq_model.specs.Account.{Account, Event, Join, Take, Send, Resize, Purge, held, held_in, dropped_in, sent_from_hand, new_account, after}
use Rattle.lq_model.specs.Legal.{resize_event, MayCome, IsPlanned, IsEventAt}
use Rattle.lq_model.specs.Plan.{Plan, is_at}
use Rattle.lq_model.specs.Settled.{length_after_event, length_after, LengthBefore, IsShrinking}
use Rattle.lq_model.specs.declared.fate.Fate.TheVariants as fate
use Rattle.lq_model.specs.declared.fate.Info.{Info}
use Rattle.lq_model.specs.declared.plan.EventKind.{EventKind}
use Rattle.lq_model.specs.declared.plan.EventKind.TheVariants as kind
use Rattle.lq_model.specs.declared.plan.EventPlan.{EventPlan}
use Rattle.lq_account_laws.specs.Controls.{controls_in, planned_controls}
use Rattle.lq_account_laws.proofs.Controlled.{length-came, resize-came}
use Rattle.lq_account_laws.specs.Progress.{len_of}
use Rattle.lq_account_laws.proofs.Lists.{none-in, here-in, cons-in, drop-in, drop-short, at-cases, mapped-before, mapped-cases}
use Rattle.lq_account_laws.proofs.Changes.{Gives, band-held, fate-cases}
use Rattle.lq_account_laws.proofs.Changes.Gives.{gives_shrunk}
use Rattle.lq_account_laws.proofs.Saw.{station-of}

-- LENGTHS ALONG THE PLAN'S EVENTS

abbrev KeepsLength : EventKind → Type 0
KeepsLength k = (len : ℕ) → length_after_event k len ≡ len

keeps-length : (k : EventKind) → ((len : ℕ) → k ≡ kind.Resize len → ⊥) → ((len : ℕ) → k ≡ kind.TxQueueLen len → ⊥) → KeepsLength k
keeps-length kind.Down no_resize no_change len = refl
keeps-length kind.Up no_resize no_change len = refl
keeps-length (kind.Resize new) no_resize no_change len = absurd (no_resize new refl)
keeps-length (kind.TxQueueLen new) no_resize no_change len = absurd (no_change new refl)
keeps-length (kind.Swap params) no_resize no_change len = refl

-- the station's events among these that stand below a place keep the length
abbrev AllKeep : List EventPlan → ℕ → ℕ → Type 0
AllKeep events station end = (e : ℕ) (x : EventPlan) → e < end → slice_get events e ≡ Some x → is_at station x ≡ true → KeepsLength x.kind

all-keep : (station : ℕ) (events : List EventPlan) (end len : ℕ) → AllKeep events station end → length_after (filter (is_at station) (take end events)) len ≡ len
all-keep station events zero len keep = refl
all-keep station [] (suc end) len keep = refl
all-keep station (x ∷ events) (suc end) len keep = go (λ len. all-keep station events end len (λ e y below there. keep (suc e) y (omega arith) there)) (is_at station x) refl
  where
    go : ((len : ℕ) → length_after (filter (is_at station) (take end events)) len ≡ len) → (b : Bool) → is_at station x ≡ b
        → length_after (cond b (x ∷ filter (is_at station) (take end events)) (filter (is_at station) (take end events))) len ≡ len
    go rest true at = rest (length_after_event x.kind len) ∙ keep 0 x (omega arith) refl at len
    go rest false at = rest len

-- after the last of them that sets the length
last-sets : (station : ℕ) (events : List EventPlan) (k end start len : ℕ) (x : EventPlan) → k < end → slice_get events k ≡ Some x → is_at station x ≡ true → ((l : ℕ) → length_after_event x.kind l ≡ len)
    → ((e : ℕ) (y : EventPlan) → k < e → e < end → slice_get events e ≡ Some y → is_at station y ≡ true → KeepsLength y.kind)
    → length_after (filter (is_at station) (take end events)) start ≡ len
last-sets station events k zero start len x below there at sets keep = absurd (omega arith)
last-sets station [] k (suc end) start len x below there at sets keep = absurd cc
last-sets station (y ∷ events) zero (suc end) start len x below there at sets keep = go (is_at station y) refl
  where
    is : y ≡ x
    is = same_Some y x there

    go : (b : Bool) → is_at station y ≡ b → length_after (cond b (y ∷ filter (is_at station) (take end events)) (filter (is_at station) (take end events))) start ≡ len
    go true here = all-keep station events end (length_after_event y.kind start) (λ e z under is_there. keep (suc e) z (omega arith) (omega arith) is_there) ∙ (ap (λ (w : EventPlan). length_after_event w.kind start) is ∙ sets start)
    go false here = absurd (let yes : is_at station y ≡ true = ap (is_at station) is ∙ at in cc)
last-sets station (y ∷ events) (suc k) (suc end) start len x below there at sets keep =
    go (λ start. last-sets station events k end start len x (omega arith) there at sets (λ e z above under. keep (suc e) z (omega arith) (omega arith))) (is_at station y)
  where
    go : ((start : ℕ) → length_after (filter (is_at station) (take end events)) start ≡ len) → (b : Bool)
        → length_after (cond b (y ∷ filter (is_at station) (take end events)) (filter (is_at station) (take end events))) start ≡ len
    go rest true = rest (length_after_event y.kind start)
    go rest false = rest start

-- THE SENTENCE

-- the events that resized
abbrev pub resizes : List Event → List ℕ
resizes past = filter_map resize_event past

-- the event sets the length of the station's rings
abbrev SetsLength : Plan → ℕ → ℕ → ℕ → Type 0
SetsLength plan station event len = IsEventAt plan station event (kind.Resize len) ⊎ IsEventAt plan station event (kind.TxQueueLen len)

-- all of the station's events below this one that set the length have come
abbrev HaveComeBelow : Plan → ℕ → List Event → ℕ → Type 0
HaveComeBelow plan station past event = (e len : ℕ) → e < event → SetsLength plan station e len → Contains (resizes past) e

pub record Shrank (plan : Plan) (station : ℕ) (past : List Event) (event : ℕ) : Type 0 where
  pub len : ℕ
  pub before : ℕ
  pub planned : IsEventAt plan station event (kind.Resize len)
  pub shorter : len < before
  pub came : Contains (resizes past) event
  pub before_is : HaveComeBelow plan station past event → LengthBefore plan station event before

pub record AreShrunk (plan : Plan) (station : ℕ) (past : List Event) (a : Account) : Type 0 where
  -- no band holds more than the length
  pub holds : (b : ℕ) → length (held_in a b) ≤ a.len
  -- the length is that after the events that have come
  pub len_is : (event : ℕ) → ((e : ℕ) → Contains (resizes past) e → e < event) → HaveComeBelow plan station past event → LengthBefore plan station event a.len
  pub shrunk : (n event : ℕ) → a.fates n ≡ Some (fate.Shrunk event) → Shrank plan station past event

is-resize : (e : Event) (k : ℕ) → resize_event e ≡ Some k → (len : ℕ) × (e ≡ Resize len k)
is-resize (Resize len event) k h = (len, ap (Resize len) (same_Some event k h))
is-resize e k h = absurd cc

-- an event that sets no length keeps it
still : (plan : Plan) (station e : ℕ) (x : EventPlan) → slice_get plan.events e ≡ Some x → is_at station x ≡ true → ((len : ℕ) → SetsLength plan station e len → ⊥) → KeepsLength x.kind
still plan station e x there at none = keeps-length x.kind (λ len is. none len (inl (x, there, at, is))) (λ len is. none len (inr (x, there, at, is)))

pub shrunk-start : (plan : Plan) (station queues : ℕ) → station < length plan.stations → AreShrunk plan station [] (new_account (len_of plan station) station queues)
shrunk-start plan station queues inside = record {
  holds = λ b. omega arith;
  len_is = λ event below come. let s = station-of plan station inside in (
    s.0,
    s.1,
    sym s.2 ∙ sym (all-keep station plan.events event s.0.len
        (λ e x under there at. still plan station e x there at (λ len sets. none-in [] e refl (come e len under sets)))),
  );
  shrunk = λ n event h. absurd cc;
}

module _ (plan : Plan) (infos : List Info) (station : ℕ) (past : List Event) (a : Account) (inside : station < length plan.stations) (h : AreShrunk plan station past a) where
  holds-step : (e : Event) → MayCome infos station past a e → (b : ℕ) → length (held_in (after e a) b) ≤ (after e a).len
  holds-step (Join m band) may b =
      at-cases (λ (x : Band). length (held_of x) ≤ a.len) band b (joined (a.bands band) m) a.bands
      (λ same. let room = may.has_room in
      omega (arith, length-drop (a.bands band).taken ((a.bands band).line ++ m ∷ []), length-drop (a.bands band).taken (a.bands band).line, length_push (a.bands band).line m))
      (λ other. h.holds b)
  holds-step (Take band) may b =
      at-cases (λ (x : Band). length (held_of x) ≤ a.len) band b (taken_by (a.bands band) 1) a.bands
      (λ same. let was = h.holds band in omega (arith, length-drop ((a.bands band).taken + 1) (a.bands band).line, length-drop (a.bands band).taken (a.bands band).line))
      (λ other. h.holds b)
  holds-step Send may b = go a.hand
    where
      go : (o : Option ℕ) → length (held_in (sent_from_hand o a) b) ≤ (sent_from_hand o a).len
      go None = h.holds b
      go (Some m) = h.holds b
  holds-step (Resize len event) may b = omega (arith, length-take len (held_in a b))
  holds-step (Purge cause) may b = omega (arith, length-drop (length (a.bands b).line) (a.bands b).line)
  holds-step e may b = h.holds b

  -- what a planned resize is: its event, which sets that length, and those that came before it
  sets-length : (len event : ℕ) → IsPlanned plan station past a (Resize len event) → (x : EventPlan) × (slice_get plan.events event ≡ Some x) × (is_at station x ≡ true) × ((l : ℕ) → length_after_event x.kind l ≡ len)
  sets-length len event (inl plans) = let at = plans.0 in (at.0, at.1, at.2, λ l. ap (λ k. length_after_event k l) at.3)
  sets-length len event (inr change) = let at = change.planned in (at.0, at.1, at.2, λ l. ap (λ k. length_after_event k l) at.3)

  above-resizes : (len event : ℕ) → IsPlanned plan station past a (Resize len event) → (e : ℕ) → Contains (resizes past) e → e < event
  above-resizes len event (inl plans) = plans.1.after_resizes
  above-resizes len event (inr change) = change.once

  resized-len : (len k : ℕ) → IsPlanned plan station past a (Resize len k) → (event : ℕ) → k < event → HaveComeBelow plan station (Resize len k ∷ past) event → LengthBefore plan station event len
  resized-len len k plans event below come =
      let x = sets-length len k plans in let s = station-of plan station inside in (
        s.0,
        s.1,
        sym (last-sets station plan.events k event s.0.len len x.0 below x.1 x.2 x.3
            (λ e y above under there at. still plan station e y there at (λ l sets. not-above e above (come e l under sets)))),
      )
    where
      not-above : (e : ℕ) → k < e → Contains (resizes (Resize len k ∷ past)) e → ⊥
      not-above e above here = elim (cons-in k (resizes past) e here) [
        | inl same ↦ omega arith
        | inr old ↦ let lower = above-resizes len k plans e old in omega arith
      ]

  len-is-step : (e : Event) → IsPlanned plan station past a e → (event : ℕ) → ((k : ℕ) → Contains (resizes (e ∷ past)) k → k < event) → HaveComeBelow plan station (e ∷ past) event → LengthBefore plan station event (after e a).len
  len-is-step (Resize len k) plans event below come = resized-len len k plans event (below k (here-in k (resizes past))) come
  len-is-step Send plans event below come = go a.hand
    where
      go : (o : Option ℕ) → LengthBefore plan station event (sent_from_hand o a).len
      go None = h.len_is event below come
      go (Some m) = h.len_is event below come
  len-is-step e plans event below come = h.len_is event below come

  -- a resize that comes now is above those that have come
  above-now : (e : Event) → IsPlanned plan station past a e → (k event : ℕ) → resize_event e ≡ Some k → Contains (resizes past) event → event < k
  above-now e plans k event now came = let resize = is-resize e k now in above-resizes resize.0 k (subst (λ e. IsPlanned plan station past a e) resize.1 plans) event came

  shrank-stays : (e : Event) → IsPlanned plan station past a e → (event : ℕ) → Shrank plan station past event → Shrank plan station (e ∷ past) event
  shrank-stays e plans event was = record {
    len = was.len;
    before = was.before;
    planned = was.planned;
    shorter = was.shorter;
    came = mapped-before resize_event e past event was.came;
    before_is = λ come. was.before_is (λ k len below sets. elim (mapped-cases resize_event e past k (come k len below sets)) [
      | inl old ↦ old
      | inr now ↦ absurd (let above = above-now e plans k event now was.came in omega arith)
    ]);
  }

  shrinks : (len event n b : ℕ) → b < 3 → Contains (dropped_in len a b) n → IsPlanned plan station past a (Resize len event) → Shrank plan station (Resize len event ∷ past) event
  shrinks len event n b below dropped (inl plans) = record {
    len = len;
    before = a.len;
    planned = plans.0;
    shorter = let most = h.holds b in let least = drop-short len (held_in a b) n dropped in omega arith;
    came = here-in event (resizes past);
    before_is = λ come. h.len_is event plans.1.after_resizes (λ k l under sets. elim (cons-in event (resizes past) k (come k l under sets)) [
      | inl same ↦ absurd (omega arith)
      | inr old ↦ old
    ]);
  }
  shrinks len event n b below dropped (inr change) = absurd (none-in (held a) n change.nothing_held (band-held a b n below (drop-in len (held_in a b) n dropped)))

  new-shrunk : (e : Event) → IsPlanned plan station past a e → (n event : ℕ) → Gives a e n (fate.Shrunk event) → Shrank plan station (e ∷ past) event
  new-shrunk e plans n event (gives_shrunk len k m b below dropped) = shrinks len event n b below dropped plans

  pub shrunk-step : (e : Event) → MayCome infos station past a e → IsPlanned plan station past a e → AreShrunk plan station (e ∷ past) (after e a)
  shrunk-step e may plans = record {
    holds = holds-step e may;
    len_is = len-is-step e plans;
    shrunk = λ n event here. elim (fate-cases e a n (fate.Shrunk event) here) [ inl old ↦ shrank-stays e plans event (h.shrunk n event old) | inr new ↦ new-shrunk e plans n event new ];
  }

-- where all of the plan's events have come
pub shrinking : (plan : Plan) (station : ℕ) (past : List Event) (event : ℕ) → controls_in past ≡ planned_controls plan station (length plan.events) → Shrank plan station past event → IsShrinking plan station event
shrinking plan station past event events shrank = (shrank.len, shrank.before, shrank.planned, shrank.before_is come, shrank.shorter)
  where
    come : HaveComeBelow plan station past event
    come e len below (inl resize) = resize-came plan station past events e len resize
    come e len below (inr change) = length-came plan station past events e len change
