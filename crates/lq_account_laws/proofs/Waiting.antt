-- What waits in a station has no fate, and a fate stays.
use Rattle.std.proofs.Common.{◌≡◌, ℕ, ◌<◌, List, ◌++◌, ◌⊎◌, inl, inr, length, Contains, Option, Some, None, refl, sym, ap, ◌∙◌, subst, arith}
use Rattle.std.proofs.lemmas.List.{drop_all}
use Rattle.lq_model.specs.Account.{Account, Event, Full, Refuse, Send, Resize, Purge, held, held_in, dropped_in, sent_from_hand, with_at, new_account, after}
use Rattle.lq_model.specs.Legal.{brought, brought_by, IsNew, MayCome, IsInTurn}
use Rattle.lq_model.specs.declared.fate.Cause.{Cause}
use Rattle.lq_model.specs.declared.fate.Fate.{Fate}
use Rattle.lq_model.specs.declared.fate.Fate.TheVariants as fate
use Rattle.lq_model.specs.declared.fate.Info.{Info}
use Rattle.lq_account_laws.specs.Places.{AreBrought, KeepsOrder, Precedes, Undecided, Waits}
use Rattle.lq_account_laws.proofs.Lists.{none-in, take-in, drop-in, first-in, pairs-apart, at-cases, fates-cases}
use Rattle.lq_account_laws.proofs.Changes.{Joins, ComesToHand, ComesToSlot, Gives, three-in, slot-held, band-held, held-cases, holds-cases, hand-cases, slot-cases, fate-cases}
use Rattle.lq_account_laws.proofs.Changes.Joins.{joins}
use Rattle.lq_account_laws.proofs.Changes.ComesToHand.{taken, picked, direct}
use Rattle.lq_account_laws.proofs.Changes.ComesToSlot.{laid_back}
use Rattle.lq_account_laws.proofs.Changes.Gives.{gives_sent, gives_full, gives_refused, gives_shrunk, gives_purged}
use Rattle.lq_account_laws.proofs.Brought.{not-before, held-brought}
use Rattle.lq_account_laws.proofs.Order.{never-itself, held-band, held-pairs}
use Rattle.lq_account_laws.specs.Places.Waits.{in_band, in_hand, in_slot}

pub waits-held : (a : Account) (n : ℕ) → Contains (held a) n → Waits a n
waits-held a n held = elim (held-cases a n held) [ inl slot ↦ in_slot slot | inr place ↦ in_band place.band place.below place.holds ]

pub waits-dropped : (len : ℕ) (a : Account) (n : ℕ) → Contains (dropped_in len a 0 ++ (dropped_in len a 1 ++ dropped_in len a 2)) n → Waits a n
waits-dropped len a n dropped = elim (three-in (dropped_in len a 0) (dropped_in len a 1) (dropped_in len a 2) n dropped) [
  | inl p ↦ in_band 0 (omega arith) (drop-in len (held_in a 0) n p)
  | inr (inl p) ↦ in_band 1 (omega arith) (drop-in len (held_in a 1) n p)
  | inr (inr p) ↦ in_band 2 (omega arith) (drop-in len (held_in a 2) n p)
]

pub waits-brought : {infos : List Info} {station : ℕ} {past : List Event} {a : Account} → AreBrought infos station past a → (n : ℕ) → Waits a n → Contains (brought_by past) n
waits-brought known n (in_hand hand) = known.hand n hand
waits-brought known n (in_slot slot) = known.slot n slot
waits-brought known n (in_band b below held) = held-brought known b n held

-- WHERE IT CAME FROM

joins-brings : (e : Event) (b n : ℕ) → Joins e b n → brought e ≡ Some n
joins-brings e b n (joins m k) = refl

hand-from : (infos : List Info) (station : ℕ) (past : List Event) (a : Account) (e : Event) → MayCome infos station past a e → (n : ℕ) → ComesToHand a e n → Waits a n ⊎ (brought e ≡ Some n)
hand-from infos station past a e may n (taken b m first) = inl (in_band b may.one_of_three (first-in (held_in a b) n first))
hand-from infos station past a e may n (picked m slot) = inl (in_slot slot)
hand-from infos station past a e may n (direct m) = inr refl

from-slot : (a : Account) (e : Event) (n : ℕ) → ComesToSlot a e n → Waits a n
from-slot a e n (laid_back m hand) = in_hand hand

module _ (infos : List Info) (station : ℕ) (past : List Event) (a : Account) (e : Event) (may : MayCome infos station past a e) where
  from-hand : (n : ℕ) → ComesToHand a e n → Waits a n ⊎ (brought e ≡ Some n)
  from-hand n comes = hand-from infos station past a e may n comes

  -- what waits after an event waited before, or is brought by it
  pub waits-cases : (n : ℕ) → Waits (after e a) n → Waits a n ⊎ (brought e ≡ Some n)
  waits-cases n (in_hand hand) = elim (hand-cases e a n hand) [ inl old ↦ inl (in_hand old) | inr new ↦ from-hand n new ]
  waits-cases n (in_slot slot) = elim (slot-cases e a n slot) [ inl old ↦ inl (in_slot old) | inr new ↦ inl (from-slot a e n new) ]
  waits-cases n (in_band b below held) = elim (holds-cases e a b n held) [ inl old ↦ inl (in_band b below old) | inr new ↦ inr (joins-brings e b n new) ]

-- NO FATE

pub undecided-start : (len unit queues : ℕ) → Undecided (new_account len unit queues)
undecided-start len unit queues n f waits fate = cc

new-waits : (infos : List Info) (station : ℕ) (a : Account) (n : ℕ) → IsNew infos station a n → Waits a n → ⊥
new-waits infos station a n new (in_hand hand) = new.not_in_hand hand
new-waits infos station a n new (in_slot slot) = new.not_held (slot-held a n slot)
new-waits infos station a n new (in_band b below held) = new.not_held (band-held a b n below held)

-- the fates are no place
with-fates : (a b : Account) (n : ℕ) → b.hand ≡ a.hand → b.slot ≡ a.slot → b.bands ≡ a.bands → Waits b n → Waits a n
with-fates a b n hand slot bands (in_hand h) = in_hand (sym hand ∙ h)
with-fates a b n hand slot bands (in_slot h) = in_slot (sym slot ∙ h)
with-fates a b n hand slot bands (in_band k below h) = in_band k below (subst (λ w. Contains (held_in (record a { bands = w }) k) n) bands h)

module _ (infos : List Info) (station : ℕ) (past : List Event) (a : Account) (known : AreBrought infos station past a) (order : KeepsOrder infos a) (free : Undecided a) where
  -- what is sent waits no more
  sent-waits-not : (n : ℕ) → a.hand ≡ Some n → Waits (sent_from_hand (Some n) a) n → ⊥
  sent-waits-not n hand (in_hand h) = cc
  sent-waits-not n hand (in_slot slot) = order.one n n hand slot
  sent-waits-not n hand (in_band b below held) = never-itself infos n (order.hand_ahead n hand b n below held)

  dropped-waits-not : (len event n b : ℕ) → a.hand ≡ None → b < 3 → Contains (dropped_in len a b) n → Waits (after (Resize len event) a) n → ⊥
  dropped-waits-not len event n b none below dropped (in_hand h) = let hand : a.hand ≡ Some n = h in cc
  dropped-waits-not len event n b none below dropped (in_slot slot) = never-itself infos n (order.slot_ahead n slot b n below (drop-in len (held_in a b) n dropped))
  dropped-waits-not len event n b none below dropped (in_band k under held) =
      let same : b ≡ k = sym (held-band infos station past a known order b n (drop-in len (held_in a b) n dropped)) ∙ held-band infos station past a known order k n (take-in len (held_in a k) n held) in
      never-itself infos n (pairs-apart (Precedes infos) len (held_in a k) n n (held-pairs infos station past a known order k) held (subst (λ l. Contains (dropped_in len a l) n) same dropped))

  purged-waits-not : (cause : Cause) (n : ℕ) → a.hand ≡ None → Waits (after (Purge cause) a) n → ⊥
  purged-waits-not cause n none (in_hand h) = let hand : a.hand ≡ Some n = h in cc
  purged-waits-not cause n none (in_slot slot) = cc
  purged-waits-not cause n none (in_band b below held) = none-in _ n (drop_all (length (a.bands b).line) (a.bands b).line (omega arith)) held

  given-waits-not : (e : Event) → MayCome infos station past a e → (n : ℕ) (f : Fate) → Gives a e n f → Waits (after e a) n → ⊥
  given-waits-not e may n f (gives_sent m u s hand unit serial) waits = sent-waits-not n hand (subst (λ (o : Option ℕ). Waits (sent_from_hand o a) n) hand waits)
  given-waits-not e may n f (gives_full m seen) waits = new-waits infos station a n may.new (with-fates a (after e a) n refl refl refl waits)
  given-waits-not e may n f (gives_refused m event) waits = new-waits infos station a n may.0 (with-fates a (after e a) n refl refl refl waits)
  given-waits-not e may n f (gives_shrunk len event m b below dropped) waits = dropped-waits-not len event n b may below dropped waits
  given-waits-not e may n f (gives_purged cause m held) waits = purged-waits-not cause n may.0 waits

  pub undecided-step : (e : Event) → MayCome infos station past a e → IsInTurn infos past (brought e) → Undecided (after e a)
  undecided-step e may turn n f waits fate = elim (fate-cases e a n f fate) [
    | inl old ↦ elim (waits-cases infos station past a e may n waits) [ inl before ↦ free n f before old | inr now ↦ not-before infos past e n turn now (known.fates n f old) ]
    | inr new ↦ given-waits-not e may n f new waits
  ]

  -- a fate stays
  kept-at : (m n : ℕ) (g f : Fate) → (a.fates m ≡ Some f → ⊥) → a.fates n ≡ Some f → with_at m (Some g) a.fates n ≡ Some f
  kept-at m n g f none fate = at-cases (λ (o : Option Fate). o ≡ Some f) m n (Some g) a.fates (λ same. absurd (none (ap a.fates (sym same) ∙ fate))) (λ other. fate)

  pub fate-stays : (e : Event) → MayCome infos station past a e → (n : ℕ) (f : Fate) → a.fates n ≡ Some f → (after e a).fates n ≡ Some f
  fate-stays (Full m seen) may n f was = kept-at m n (fate.Full seen) f (λ h. let none : a.fates m ≡ None = may.new.no_fate in cc) was
  fate-stays (Refuse m event) may n f was = kept-at m n (fate.Refused event) f (λ h. let none : a.fates m ≡ None = may.0.no_fate in cc) was
  fate-stays Send may n f was = go a.hand refl
    where
      go : (o : Option ℕ) → a.hand ≡ o → (sent_from_hand o a).fates n ≡ Some f
      go None e = was
      go (Some m) e = kept-at m n (fate.Sent a.unit (length (a.sent a.unit))) f (λ h. free m f (in_hand e) h) was
  fate-stays (Resize len event) may n f was =
      fates-cases (λ (o : Option Fate). o ≡ Some f) (dropped_in len a 0 ++ (dropped_in len a 1 ++ dropped_in len a 2)) n (fate.Shrunk event) a.fates
      (λ dropped. absurd (free n f (waits-dropped len a n dropped) was)) (λ out. was)
  fate-stays (Purge cause) may n f was =
      fates-cases (λ (o : Option Fate). o ≡ Some f) (held a) n (fate.Purged cause) a.fates (λ held. absurd (free n f (waits-held a n held) was)) (λ out. was)
  fate-stays e may n f was = was
