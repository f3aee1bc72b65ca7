-- Openings and interrupts, one after the other.
use Rattle.std.proofs.Common.{◌≡◌, ℕ, zero, suc, ◌+◌, ◌-◌, ◌<◌, ◌&&◌, Bool, true, false, List, [], ◌∷◌, Some, None, length, refl, sym, ap, subst, ◌∙◌, arith}
use Rattle.std.proofs.lemmas.Bool.{cond-false, cond-true}
use Rattle.lq_model.specs.Account.{held}
use Rattle.lq_model.specs.Alone.{opened, served}
use Rattle.lq_model.specs.Capture.{Packets}
use Rattle.lq_model.specs.Wire.{OpenedSoFar, delay, ring_has_room, interrupted, interrupted_while, is_shut, next_interrupt, opened_at, opened_while, made_at}
use Rattle.lq_model.specs.declared.fate.Info.{Info}
use Rattle.lq_model.specs.declared.flight.Flight.{Flight}
use Rattle.lq_model.specs.declared.plan.Card.{Card}
use Rattle.lq_wire.specs.Wire.{due_at}
use Rattle.lq_wire.specs.Wired.{InterruptsOn, HasOpened, IsWired, OpensOn, StepsTo}
use Rattle.lq_wire.specs.declared.wired.Wired.{Wired as Linked}

module _ (card : Card) (packets : Packets) (infos : List Info) where
  -- OPENINGS

  abbrev may-open : OpenedSoFar → Bool
  may-open o = is_shut o.wired.station && ring_has_room card o.wired.ring

  pub opens-first : (now left : ℕ) (o : OpenedSoFar) (m : Linked) → IsWired m o.wired → OpensOn card packets infos now (opened_while card packets infos now left o) o left 0 m
  opens-first now left o m wired = record { here = o; same = refl; opened = record { wired = wired; times = omega arith } }

  pub opens-stop : (now left count : ℕ) (last first : OpenedSoFar) (m : Linked) (on : OpensOn card packets infos now last first left count m) → may-open on.here ≡ false → HasOpened last first count m
  opens-stop now left count last first m on shut = record { wired = subst (λ (o : OpenedSoFar). IsWired m o.wired) (sym is) on.opened.wired; times = ap (λ (o : OpenedSoFar). o.times) is ∙ on.opened.times }
    where
      stays : (left : ℕ) (o : OpenedSoFar) → may-open o ≡ false → opened_while card packets infos now left o ≡ o
      stays zero o e = refl
      stays (suc left) o e = cond-false (may-open o) _ _ e

      is : last ≡ on.here
      is = on.same ∙ stays left on.here shut

  pub opens-end : (now count : ℕ) (last first : OpenedSoFar) (m : Linked) → OpensOn card packets infos now last first 0 count m → HasOpened last first count m
  opens-end now count last first m on = record { wired = subst (λ (o : OpenedSoFar). IsWired m o.wired) (sym on.same) on.opened.wired; times = ap (λ (o : OpenedSoFar). o.times) on.same ∙ on.opened.times }

  pub opens-more : (now left count : ℕ) (last first : OpenedSoFar) (m new : Linked) (on : OpensOn card packets infos now last first (suc left) count m) → may-open on.here ≡ true
      → StepsTo card packets now (λ s. served infos (opened s)) on.here.wired new → OpensOn card packets infos now last first left (count + 1) new
  opens-more now left count last first m new on may steps = record {
    here = record { times = on.here.times + 1; wired = made_at card packets now (λ s. served infos (opened s)) on.here.wired };
    same = on.same ∙ cond-true (may-open on.here) _ _ may;
    opened = record { wired = steps.wired; times = let is = on.opened.times in omega arith };
  }

  -- the same where some are left, and where none is
  pub opens-next : (now left count : ℕ) (last first : OpenedSoFar) (m new : Linked) (on : OpensOn card packets infos now last first left count m) → 0 < left → may-open on.here ≡ true
      → StepsTo card packets now (λ s. served infos (opened s)) on.here.wired new → OpensOn card packets infos now last first (left - 1) (count + 1) new
  opens-next now zero count last first m new on some may steps = absurd (omega arith)
  opens-next now (suc left) count last first m new on some may steps =
      let same : left ≡ suc left - 1 = omega arith in subst (λ (k : ℕ). OpensOn card packets infos now last first k (count + 1) new) same (opens-more now left count last first m new on may steps)

  pub opens-done : (now left count : ℕ) (last first : OpenedSoFar) (m : Linked) → OpensOn card packets infos now last first left count m → left ≡ 0 → HasOpened last first count m
  opens-done now left count last first m on none = opens-end now count last first m (subst (λ (k : ℕ). OpensOn card packets infos now last first k count m) none on)

  -- none
  pub opens-none : (now : ℕ) (o : OpenedSoFar) (m : Linked) → IsWired m o.wired → may-open o ≡ false → HasOpened (opened_at card packets infos now o) o 0 m
  unfolding opens-first
  opens-none now o m wired shut =
      let left = length (held o.wired.station.account) + 1 in opens-stop now left 0 (opened_at card packets infos now o) o m (opens-first now left o m wired) shut

  -- the first one
  pub opens-once : (now : ℕ) (o : OpenedSoFar) (m mid : Linked) → IsWired m o.wired → may-open o ≡ true → StepsTo card packets now (λ s. served infos (opened s)) o.wired mid
      → OpensOn card packets infos now (opened_at card packets infos now o) o (length (held o.wired.station.account)) 1 mid
  unfolding opens-first
  opens-once now o m mid wired may steps =
      let left = length (held o.wired.station.account) in let same : left + 1 - 1 ≡ left = omega arith in let some : 0 < left + 1 = omega arith in
      subst (λ (k : ℕ). OpensOn card packets infos now (opened_at card packets infos now o) o k 1 mid) same
      (opens-next now (left + 1) 0 (opened_at card packets infos now o) o m mid (opens-first now (left + 1) o m wired) some may steps)

  -- those that are left, from there on
  pub opens-rest : (now left rest count more : ℕ) (last first : OpenedSoFar) (m new : Linked) (on : OpensOn card packets infos now last first left count m) → left ≡ rest
      → HasOpened (opened_while card packets infos now rest on.here) on.here more new → HasOpened last first (more + count) new
  opens-rest now left rest count more last first m new on same has =
      let is = on.same ∙ ap (λ (k : ℕ). opened_while card packets infos now k on.here) same in record {
        wired = subst (λ (o : OpenedSoFar). IsWired new o.wired) (sym is) has.wired;
        times = let all = ap (λ (o : OpenedSoFar). o.times) is in let before = on.opened.times in let after = has.times in omega arith;
      }

  -- INTERRUPTS

  pub goes-first : (due : ℕ → Bool) (left : ℕ) (o : OpenedSoFar) (m : Linked) → IsWired m o.wired → InterruptsOn card packets infos due (interrupted_while card packets infos due left o) o left 0 m
  goes-first due left o m wired = record { here = o; same = refl; opened = record { wired = wired; times = omega arith } }

  none-due : (due : ℕ → Bool) (go_on : OpenedSoFar → OpenedSoFar) (ring : List Flight) (o : OpenedSoFar) → due_at card due ring ≡ None → next_interrupt card packets infos due go_on ring o ≡ o
  none-due due go_on [] o e = refl
  none-due due go_on (f ∷ ring) o e = by (due (f.ends + delay card)) refl
    where
      by : (b : Bool) → due (f.ends + delay card) ≡ b → next_interrupt card packets infos due go_on (f ∷ ring) o ≡ o
      by false late = cond-false (due (f.ends + delay card)) _ _ late
      by true early = absurd (let some = sym (cond-true (due (f.ends + delay card)) (Some (f.ends + delay card)) None early) ∙ e in cc)

  one-due : (due : ℕ → Bool) (now : ℕ) (go_on : OpenedSoFar → OpenedSoFar) (ring : List Flight) (o : OpenedSoFar) → due_at card due ring ≡ Some now
      → next_interrupt card packets infos due go_on ring o ≡ go_on (interrupted card packets infos now o)
  one-due due now go_on [] o e = absurd cc
  one-due due now go_on (f ∷ ring) o e = by (due (f.ends + delay card)) refl
    where
      by : (b : Bool) → due (f.ends + delay card) ≡ b → next_interrupt card packets infos due go_on (f ∷ ring) o ≡ go_on (interrupted card packets infos now o)
      by false late = absurd (let none = sym (cond-false (due (f.ends + delay card)) (Some (f.ends + delay card)) None late) ∙ e in cc)
      by true early =
          cond-true (due (f.ends + delay card)) _ _ early
          ∙ ap (λ (t : ℕ). go_on (interrupted card packets infos t o)) (some-is (sym (cond-true (due (f.ends + delay card)) (Some (f.ends + delay card)) None early) ∙ e))
        where
          some-is : {a b : ℕ} → Some a ≡ Some b → a ≡ b
          some-is is = cc

  pub goes-stop : (due : ℕ → Bool) (left count : ℕ) (last first : OpenedSoFar) (m : Linked) (on : InterruptsOn card packets infos due last first left count m) → due_at card due on.here.wired.ring ≡ None → HasOpened last first count m
  goes-stop due left count last first m on none = record { wired = subst (λ (o : OpenedSoFar). IsWired m o.wired) (sym is) on.opened.wired; times = ap (λ (o : OpenedSoFar). o.times) is ∙ on.opened.times }
    where
      stays : (left : ℕ) (o : OpenedSoFar) → due_at card due o.wired.ring ≡ None → interrupted_while card packets infos due left o ≡ o
      stays zero o e = refl
      stays (suc left) o e = none-due due (interrupted_while card packets infos due left) o.wired.ring o e

      is : last ≡ on.here
      is = on.same ∙ stays left on.here none

  pub goes-end : (due : ℕ → Bool) (count : ℕ) (last first : OpenedSoFar) (m : Linked) → InterruptsOn card packets infos due last first 0 count m → HasOpened last first count m
  goes-end due count last first m on = record { wired = subst (λ (o : OpenedSoFar). IsWired m o.wired) (sym on.same) on.opened.wired; times = ap (λ (o : OpenedSoFar). o.times) on.same ∙ on.opened.times }

  pub goes-more : (due : ℕ → Bool) (now left count more : ℕ) (last first : OpenedSoFar) (m new : Linked) (on : InterruptsOn card packets infos due last first (suc left) count m) → due_at card due on.here.wired.ring ≡ Some now
      → HasOpened (interrupted card packets infos now on.here) on.here more new → InterruptsOn card packets infos due last first left (count + more) new
  goes-more due now left count more last first m new on some has = record {
    here = interrupted card packets infos now on.here;
    same = on.same ∙ one-due due now (interrupted_while card packets infos due left) on.here.wired.ring on.here some;
    opened = record { wired = has.wired; times = let before = on.opened.times in let here = has.times in omega arith };
  }

  pub goes-next : (due : ℕ → Bool) (now left count more : ℕ) (last first : OpenedSoFar) (m new : Linked) (on : InterruptsOn card packets infos due last first left count m) → 0 < left → due_at card due on.here.wired.ring ≡ Some now
      → HasOpened (interrupted card packets infos now on.here) on.here more new → InterruptsOn card packets infos due last first (left - 1) (count + more) new
  goes-next due now zero count more last first m new on some comes has = absurd (omega arith)
  goes-next due now (suc left) count more last first m new on some comes has =
      let same : left ≡ suc left - 1 = omega arith in
      subst (λ (k : ℕ). InterruptsOn card packets infos due last first k (count + more) new) same (goes-more due now left count more last first m new on comes has)

  pub goes-done : (due : ℕ → Bool) (left count : ℕ) (last first : OpenedSoFar) (m : Linked) → InterruptsOn card packets infos due last first left count m → left ≡ 0 → HasOpened last first count m
  goes-done due left count last first m on none = goes-end due count last first m (subst (λ (k : ℕ). InterruptsOn card packets infos due last first k count m) none on)
