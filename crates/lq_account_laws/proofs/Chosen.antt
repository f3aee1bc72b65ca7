-- Those of a list of events that pass a test, where what control does to resize, deactivate, swap and activate passes it.
use Rattle.std.proofs.Common.{◌≡◌, ℕ, Bool, true, false, List, [], ◌∷◌, ◌⊎◌, inl, inr, Contains, Option, Some, None, refl, sym, ap, ◌∙◌, subst, cond, filter, filter_map}
use Rattle.std.specs.List.{cons_option}
use Rattle.std.proofs.lemmas.Bool.{true≢false}
use Rattle.lq_model.specs.Account.{Account, Event, new_account, Join, Full, Refuse, Empty, Take, Pick, Direct, Send, Back, Stop, Wake, Resize, Down, Purge, Swap, Up, sent_from_hand, after, after_all}
use Rattle.lq_model.specs.Legal.{IsPlanned, IsNext, ArePlanned, resize_event, down_event}
use Rattle.lq_model.specs.Plan.{Plan}
use Rattle.lq_account_laws.specs.Trail.{down_of, FindNothing, FindsNothing}
use Rattle.lq_account_laws.proofs.Lists.{here-in, there-in, cons-in}

-- ONE EVENT MORE

module _ (own : Event → Bool) where
  pub one-own : (e : Event) (past : List Event) → own e ≡ true → filter own (e ∷ past) ≡ e ∷ filter own past
  one-own e past is = ap (λ b. cond b (e ∷ filter own past) (filter own past)) is

  pub one-other : (e : Event) (past : List Event) → own e ≡ false → filter own (e ∷ past) ≡ filter own past
  one-other e past other = ap (λ b. cond b (e ∷ filter own past) (filter own past)) other

  pub own-or-not : (e : Event) → (own e ≡ true) ⊎ (own e ≡ false)
  own-or-not e = go (own e) refl
    where
      go : (b : Bool) → own e ≡ b → (own e ≡ true) ⊎ (own e ≡ false)
      go true h = inl h
      go false h = inr h

  -- what a function gives of these events alone it gives of them among all
  pub kept-in : {Y : Type 0} (g : Event → Option Y) → ((e : Event) → own e ≡ false → g e ≡ None) → (past : List Event) → filter_map g (filter own past) ≡ filter_map g past
  kept-in g none [] = refl
  kept-in g none (e ∷ past) = elim (own-or-not e) [
    | inl is ↦ ap (filter_map g) (one-own e past is) ∙ ap (cons_option (g e)) (kept-in g none past)
    | inr other ↦ ap (filter_map g) (one-other e past other) ∙ (kept-in g none past ∙ ap (λ o. cons_option o (filter_map g past)) (sym (none e other)))
  ]

  pub own-in : (x : Event) → own x ≡ true → (past : List Event) → Contains past x → Contains (filter own past) x
  own-in x is [] h = h
  own-in x is (e ∷ past) h = elim (cons-in e past x h) [
    | inl same ↦ subst (λ l. Contains l x) (sym (one-own e past (subst (λ z. own z ≡ true) (sym same) is))) (subst (λ z. Contains (e ∷ filter own past) z) same (here-in e (filter own past)))
    | inr old ↦ elim (own-or-not e) [
      | inl mine ↦ subst (λ l. Contains l x) (sym (one-own e past mine)) (there-in e (filter own past) x (own-in x is past old))
      | inr other ↦ subst (λ l. Contains l x) (sym (one-other e past other)) (own-in x is past old)
    ]
  ]

-- WHAT CONTROL DOES

-- what it does to resize, deactivate, swap and activate passes the test
pub record HasControls (own : Event → Bool) : Type 0 where
  pub resizes : (len event : ℕ) → own (Resize len event) ≡ true
  pub downs : (event : ℕ) → own (Down event) ≡ true
  pub swaps : (unit : ℕ) → own (Swap unit) ≡ true
  pub ups : own Up ≡ true

-- an account that holds nothing, deactivated by this
abbrev bare : Option ℕ → Account
bare down = record (new_account 0 0 0) { down = down }

-- each is as the plan asks it behind those of them that came before it
abbrev pub ArePlannedAmong : Plan → ℕ → List Event → Type 0
ArePlannedAmong plan station [] = Unit {0}
ArePlannedAmong plan station (e ∷ trail) = ArePlannedAmong plan station trail × IsPlanned plan station trail (bare (down_of trail)) e

module _ (own : Event → Bool) (has : HasControls own) where
  no-resize-event : (e : Event) → own e ≡ false → resize_event e ≡ None
  no-resize-event (Resize len event) other = absurd (true≢false (sym (has.resizes len event) ∙ other))
  no-resize-event e other = refl

  no-down-event : (e : Event) → own e ≡ false → down_event e ≡ None
  no-down-event (Down event) other = absurd (true≢false (sym (has.downs event) ∙ other))
  no-down-event e other = refl

  pub same-resizes : (past : List Event) → filter_map resize_event (filter own past) ≡ filter_map resize_event past
  same-resizes past = kept-in own resize_event no-resize-event past

  pub same-downs : (past : List Event) → filter_map down_event (filter own past) ≡ filter_map down_event past
  same-downs past = kept-in own down_event no-down-event past

  down-own : (e : Event) (trail : List Event) (a : Account) → down_of trail ≡ a.down → down_of (e ∷ trail) ≡ (after e a).down
  down-own Send trail a h = go a.hand
    where
      go : (o : Option ℕ) → down_of trail ≡ (sent_from_hand o a).down
      go None = h
      go (Some n) = h
  down-own (Down event) trail a h = refl
  down-own Up trail a h = refl
  down-own e trail a h = h

  down-other : (e : Event) (a : Account) → own e ≡ false → (after e a).down ≡ a.down
  down-other (Down event) a other = absurd (true≢false (sym (has.downs event) ∙ other))
  down-other Up a other = absurd (true≢false (sym has.ups ∙ other))
  down-other Send a other = go a.hand
    where
      go : (o : Option ℕ) → (sent_from_hand o a).down ≡ a.down
      go None = refl
      go (Some n) = refl
  down-other e a other = refl

  pub down-among : (start : Account) → start.down ≡ None → (past : List Event) → down_of (filter own past) ≡ (after_all start past).down
  down-among start active [] = sym active
  down-among start active (e ∷ past) = elim (own-or-not own e) [
    | inl is ↦ ap down_of (one-own own e past is) ∙ down-own e (filter own past) (after_all start past) (down-among start active past)
    | inr other ↦ ap down_of (one-other own e past other) ∙ (down-among start active past ∙ sym (down-other e (after_all start past) other))
  ]

  planned-other : (plan : Plan) (station : ℕ) (past : List Event) (a : Account) (e : Event) → own e ≡ false → IsPlanned plan station past a e
  planned-other plan station past a (Resize len event) other = absurd (true≢false (sym (has.resizes len event) ∙ other))
  planned-other plan station past a (Down event) other = absurd (true≢false (sym (has.downs event) ∙ other))
  planned-other plan station past a (Swap unit) other = absurd (true≢false (sym (has.swaps unit) ∙ other))
  planned-other plan station past a e other = _

-- AS THE PLAN ASKS

module _ (plan : Plan) (station : ℕ) (trail past : List Event) (a : Account) (resizes : filter_map resize_event trail ≡ filter_map resize_event past)
    (downs : filter_map down_event trail ≡ filter_map down_event past) (swaps : (unit : ℕ) → Contains past (Swap unit) → Contains trail (Swap unit)) (down : down_of trail ≡ a.down) where
  next-too : (event : ℕ) → IsNext trail event → IsNext past event
  next-too event next = record {
    after_resizes = λ e h. next.after_resizes e (subst (λ l. Contains l e) (sym resizes) h);
    after_downs = λ e h. next.after_downs e (subst (λ l. Contains l e) (sym downs) h);
  }

  planned-own : (e : Event) → FindsNothing a e → IsPlanned plan station trail (bare (down_of trail)) e → IsPlanned plan station past a e
  planned-own (Resize len event) nothing (inl resize) = inl (resize.0, next-too event resize.1)
  planned-own (Resize len event) nothing (inr change) = inr (record {
    planned = change.planned;
    once = λ e h. change.once e (subst (λ l. Contains l e) (sym resizes) h);
    deactivated = sym down ∙ change.deactivated;
    nothing_held = nothing event (sym down ∙ change.deactivated);
  })
  planned-own (Down event) nothing p = (next-too event p.0, p.1)
  planned-own (Swap unit) nothing p = (p.0, sym down ∙ p.1, p.2, p.3, λ came. p.4 (swaps unit came))
  planned-own (Join n band) nothing p = _
  planned-own (Full n seen) nothing p = _
  planned-own (Refuse n event) nothing p = _
  planned-own (Empty band) nothing p = _
  planned-own (Take band) nothing p = _
  planned-own Pick nothing p = _
  planned-own (Direct n) nothing p = _
  planned-own Send nothing p = _
  planned-own Back nothing p = _
  planned-own (Stop queue value) nothing p = _
  planned-own (Wake queue) nothing p = _
  planned-own (Purge cause) nothing p = _
  planned-own Up nothing p = _

-- of a list in which resizes of a deactivated station find nothing, all are as the plan asks where those are that pass the test
pub are-planned : (own : Event → Bool) → HasControls own → (plan : Plan) (station : ℕ) (start : Account) → start.down ≡ None → (past : List Event)
    → FindNothing start past → ArePlannedAmong plan station (filter own past) → ArePlanned plan station start past
are-planned own has plan station start active [] nothing among = _
are-planned own has plan station start active (e ∷ past) nothing among = elim (own-or-not own e) [
  | inl is ↦
      let now = subst (ArePlannedAmong plan station) (one-own own e past is) among in (
        are-planned own has plan station start active past nothing.0 now.0,
        planned-own plan station (filter own past) past (after_all start past) (same-resizes own has past) (same-downs own has past) (λ unit. own-in own (Swap unit) (has.swaps unit) past)
            (down-among own has start active past) e nothing.1 now.1,
      )
  | inr other ↦ (
    are-planned own has plan station start active past nothing.0 (subst (ArePlannedAmong plan station) (one-other own e past other) among),
    planned-other own has plan station past (after_all start past) e other,
  )
]
