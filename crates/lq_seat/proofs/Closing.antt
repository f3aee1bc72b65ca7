-- What a sole first seat knows as its table is closed.
use Rattle.std.proofs.Common.{◌≡◌, ℕ, ◌+◌, ◌*◌, ◌<◌, ◌⊎◌, inl, inr, ⊎_elim, List, [], ◌∷◌, Contains, Option, Some, None, refl, sym, ap, ◌∙◌, subst, slice_index, length, arith}
use Rattle.lq_account_laws.proofs.Changes.{Gives, fate-cases}
use Rattle.lq_account_laws.proofs.Changes.Gives.{gives_purged, gives_sent}
use Rattle.lq_account_laws.proofs.Lists.{here-in, there-in}
use Rattle.lq_account_laws.proofs.Chosen.{own-in}
use Rattle.lq_account_laws.specs.Trail.{is_own, trail_of}
use Rattle.lq_band_laws.specs.Stored.{FateWords, word_or}
use Rattle.lq_model.specs.Account.{Account, Event, Purge, after, after_all}
use Rattle.lq_model.specs.Words.{HasWord, IsWordOf, word_of}
use Rattle.lq_model.specs.declared.fate.Cause.TheVariants as cause
use Rattle.lq_model.specs.declared.fate.Fate.{Fate}
use Rattle.lq_model.specs.declared.fate.Fate.TheVariants as fate
use Rattle.lq_seat.specs.Rests.{AreUnitsSmall}
use Rattle.lq_table.proofs.SettledKept.{word_positive}
use Rattle.lq_table.proofs.UnitsKept.{fewer, unit_is_latest, units_trail}
use Rattle.lq_table.specs.Rule.{latest_unit, units_of, waits}
use Rattle.lq_table.specs.Views.{Left, Setup, first_account}

-- WORDS

-- a word's kind with its 8 bits, and the rest
rest-of : (f : Fate) → HasWord f → (low : ℕ) × (rest : ℕ) × (low < 2048) × (rest < 4294967296) × (word_of f ≡ low + 2048 * rest)
rest-of (fate.Sent unit serial) h = let u = h.0 in let s = h.1 in (1 + 8 * unit, serial, omega arith, omega arith, omega arith)
rest-of (fate.Full seen) h = (2, seen, omega arith, omega arith, omega arith)
rest-of (fate.Shrunk event) h = (3, event, omega arith, omega arith, omega arith)
rest-of (fate.Purged (cause.Event event)) h = (4, event, omega arith, omega arith, omega arith)
rest-of (fate.Purged (cause.Hung unit)) h = (12, unit, omega arith, omega arith, omega arith)
rest-of (fate.Refused event) h = (5, event, omega arith, omega arith, omega arith)

-- the unit that sent has 8 bits
abbrev IsUnitSmall : Fate → Type 0
IsUnitSmall (fate.Sent unit serial) = unit < 256
IsUnitSmall (fate.Full seen) = Unit {0}
IsUnitSmall (fate.Shrunk event) = Unit {0}
IsUnitSmall (fate.Purged cause) = Unit {0}
IsUnitSmall (fate.Refused event) = Unit {0}

-- two fates of one word: where one has it, so has the other
has-word : (f g : Fate) → IsUnitSmall f → HasWord g → word_of f ≡ word_of g → HasWord f
has-word (fate.Sent unit serial) g small h same = let w = rest-of g h in let low = w.2 in let rest = w.3 in let is = w.4 in (small, omega arith)
has-word (fate.Full seen) g small h same = let w = rest-of g h in let low = w.2 in let rest = w.3 in let is = w.4 in omega arith
has-word (fate.Shrunk event) g small h same = let w = rest-of g h in let low = w.2 in let rest = w.3 in let is = w.4 in omega arith
has-word (fate.Purged (cause.Event event)) g small h same = let w = rest-of g h in let low = w.2 in let rest = w.3 in let is = w.4 in omega arith
has-word (fate.Purged (cause.Hung unit)) g small h same = let w = rest-of g h in let low = w.2 in let rest = w.3 in let is = w.4 in omega arith
has-word (fate.Refused event) g small h same = let w = rest-of g h in let low = w.2 in let rest = w.3 in let is = w.4 in omega arith

-- FATES

-- a unit that sent is the station's first, or a swap brought it; and what was purged as hung has such an event
record AreCaused (station : ℕ) (past : List Event) (a : Account) : Type 0 where
  pub sent : (n unit serial : ℕ) → a.fates n ≡ Some (fate.Sent unit serial) → (unit ≡ station) ⊎ Contains (units_of past) unit
  pub hung : (n unit : ℕ) → a.fates n ≡ Some (fate.Purged (cause.Hung unit)) → Contains past (Purge (cause.Hung unit))

latest-known : (station : ℕ) (units : List ℕ) → (latest_unit station units ≡ station) ⊎ Contains units (latest_unit station units)
latest-known station [] = inl refl
latest-known station (unit ∷ units) = inr (here-in unit units)

module _ (k : Setup) where
  module _ (e : Event) (past : List Event) (was : AreCaused k.station past (after_all (first_account k) past)) where
    abbrev a : Account
    a = after_all (first_account k) past

    more : (unit : ℕ) → (unit ≡ k.station) ⊎ Contains (units_of past) unit → (unit ≡ k.station) ⊎ Contains (units_of (e ∷ past)) unit
    more unit known = ⊎_elim (λ first. inl first) (λ later. inr (fewer e past unit later)) known

    known : (a.unit ≡ k.station) ⊎ Contains (units_of past) a.unit
    known = subst (λ u. (u ≡ k.station) ⊎ Contains (units_of past) u) (sym (unit_is_latest k past)) (latest-known k.station (units_of past))

    new-sent : (event : Event) (n unit serial : ℕ) → Gives a event n (fate.Sent unit serial) → (unit ≡ k.station) ⊎ Contains (units_of past) unit
    new-sent event n unit serial (gives_sent m u s hand unit_is serial_is) = subst (λ u. (u ≡ k.station) ⊎ Contains (units_of past) u) (sym unit_is) known

    new-hung : (event : Event) (n unit : ℕ) → Gives a event n (fate.Purged (cause.Hung unit)) → Contains (event ∷ past) (Purge (cause.Hung unit))
    new-hung event n unit (gives_purged c m held) = here-in (Purge (cause.Hung unit)) past

    caused-next : AreCaused k.station (e ∷ past) (after e a)
    caused-next = record {
      sent = λ n unit serial is. ⊎_elim (λ old. more unit (was.sent n unit serial old)) (λ new. more unit (new-sent e n unit serial new)) (fate-cases e a n (fate.Sent unit serial) is);
      hung = λ n unit is. ⊎_elim (λ old. there-in e past (Purge (cause.Hung unit)) (was.hung n unit old)) (new-hung e n unit) (fate-cases e a n (fate.Purged (cause.Hung unit)) is);
    }

  caused : (past : List Event) → AreCaused k.station past (after_all (first_account k) past)
  caused [] = record { sent = λ n unit serial is. absurd cc; hung = λ n unit is. absurd cc }
  caused (e ∷ past) = caused-next e past (caused past)

  -- what was purged as hung was so by an event of the trail
  pub hung-on-trail : (past trail : List Event) → trail ≡ trail_of k.infos past → (n unit : ℕ) → (after_all (first_account k) past).fates n ≡ Some (fate.Purged (cause.Hung unit)) → Contains trail (Purge (cause.Hung unit))
  hung-on-trail past trail is n unit fate = subst (λ es. Contains es (Purge (cause.Hung unit))) (sym is) (own-in (is_own k.infos) (Purge (cause.Hung unit)) refl past ((caused past).hung n unit fate))

  unit-small : (past : List Event) → AreUnitsSmall k.station (units_of past) → (n : ℕ) (f : Fate) → (after_all (first_account k) past).fates n ≡ Some f → IsUnitSmall f
  unit-small past small n (fate.Sent unit serial) is = ⊎_elim (λ first. subst (λ u. u < 256) (sym first) small.first) (small.later unit) ((caused past).sent n unit serial is)
  unit-small past small n (fate.Full seen) is = tt
  unit-small past small n (fate.Shrunk event) is = tt
  unit-small past small n (fate.Purged cause) is = tt
  unit-small past small n (fate.Refused event) is = tt

  -- where no purge is half done each fate of the account stands in its packet's word
  pub fate-word : (words : List ℕ) (left : Option Left) (past trail : List Event) → FateWords (length k.infos) words (λ n. waits n left) (after_all (first_account k) past).fates
      → ((n : ℕ) → (slice_index words n ≡ 0) ⊎ ((f : Fate) × IsWordOf f (slice_index words n))) → left ≡ None → trail ≡ trail_of k.infos past → AreUnitsSmall k.station (units_of trail)
      → (n : ℕ) (f : Fate) → (after_all (first_account k) past).fates n ≡ Some f → IsWordOf f (slice_index words n)
  fate-word words left past trail fates written none trail_is small n f is = ⊎_elim
      (λ zero_. absurd (word_positive f (sym word_is ∙ zero_)))
      (λ (w : (g : Fate) × IsWordOf g (slice_index words n)). record { has_word = has-word f w.0 (unit-small past small' n f is) w.1.has_word (sym word_is ∙ w.1.word_is); word_is = word_is })
      (written n)
    where
      small' : AreUnitsSmall k.station (units_of past)
      small' = subst (AreUnitsSmall k.station) (ap units_of trail_is ∙ units_trail k.infos past) small

      word_is : slice_index words n ≡ word_of f
      word_is = fates.stored n (ap (waits n) none) ∙ ap word_or is
