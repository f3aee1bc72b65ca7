-- What waits in a station, in its bands, the requeue slot or the hand, stands in each owner's order.
use Rattle.std.proofs.Common.{◌≡◌, ℕ, ◌<◌, List, [], inl, inr, Contains, AllPairs, Option, Some, None, refl, sym, ◌∙◌, subst, get_or, arith}
use Rattle.std.proofs.lemmas.List.{drop-drop}
use Rattle.std.proofs.lemmas.List.Elements.{Contains-get_or}
use Rattle.std.proofs.lemmas.List.Quantifiers.{all_pairs_push}
use Rattle.lq_model.specs.Band.{Band, held_of, taken_by, joined}
use Rattle.lq_model.specs.Account.{Account, Event, Join, Take, Pick, Direct, Send, Back, Resize, Purge, held_in, sent_from_hand, new_account, after}
use Rattle.lq_model.specs.Legal.{brought, brought_by, MayCome, IsInTurn}
use Rattle.lq_model.specs.Plan.{band_in}
use Rattle.lq_model.specs.declared.fate.Info.{Info}
use Rattle.lq_account_laws.specs.Places.{AreBrought, KeepsOrder, Precedes}
use Rattle.lq_account_laws.proofs.Lists.{none-in, drop-in, first-in, first-taken, pairs-drop, pairs-take, pairs-apart, at-cases}
use Rattle.lq_account_laws.proofs.Changes.{Joins, ComesToHand, ComesToSlot, band-held, line-cases, holds-cases, hand-cases, slot-cases}
use Rattle.lq_account_laws.proofs.Changes.Joins.{joins}
use Rattle.lq_account_laws.proofs.Changes.ComesToHand.{taken, picked, direct}
use Rattle.lq_account_laws.proofs.Changes.ComesToSlot.{laid_back}
use Rattle.lq_account_laws.proofs.Brought.{above-before}

pub never-itself : (infos : List Info) (n : ℕ) → Precedes infos n n → ⊥
never-itself infos n h = let below : n < n = h refl refl in omega arith

pub order-start : (infos : List Info) (len unit queues : ℕ) → KeepsOrder infos (new_account len unit queues)
order-start infos len unit queues = record {
  bands = λ b n h. absurd (none-in [] n refl h);
  lines = λ b i j d below within. absurd (omega arith);
  one = λ m n hand. absurd cc;
  hand_ahead = λ n hand. absurd cc;
  slot_ahead = λ n slot. absurd cc;
}

module _ (infos : List Info) (station : ℕ) (past : List Event) (a : Account) (known : AreBrought infos station past a) (h : KeepsOrder infos a) where
  pub held-band : (b n : ℕ) → Contains (held_in a b) n → band_in infos n ≡ b
  held-band b n held = h.bands b n (drop-in (a.bands b).taken (a.bands b).line n held)

  pub held-pairs : (b : ℕ) → AllPairs (Precedes infos) (held_in a b)
  held-pairs b = pairs-drop (Precedes infos) (a.bands b).taken (a.bands b).line (h.lines b)

  band-step : (e : Event) → MayCome infos station past a e → (b n : ℕ) → Joins e b n → band_in infos n ≡ b
  band-step e may b n (joins m k) = may.band_is

  lines-step : (e : Event) → IsInTurn infos past (brought e) → (b : ℕ) → AllPairs (Precedes infos) ((after e a).bands b).line
  lines-step (Join m band) turn b =
      at-cases (λ (x : Band). AllPairs (Precedes infos) x.line) band b (joined (a.bands band) m) a.bands
      (λ same. all_pairs_push (Precedes infos) (a.bands band).line m (h.lines band)
      (λ k d below owner bands. above-before infos past (Join m band) (get_or (a.bands band).line k d) m turn refl (known.lines band (get_or (a.bands band).line k d) (Contains-get_or (a.bands band).line k d below)) owner))
      (λ other. h.lines b)
  lines-step (Take band) turn b = at-cases (λ (x : Band). AllPairs (Precedes infos) x.line) band b (taken_by (a.bands band) 1) a.bands (λ same. h.lines band) (λ other. h.lines b)
  lines-step Send turn b = go a.hand
    where
      go : (o : Option ℕ) → AllPairs (Precedes infos) ((sent_from_hand o a).bands b).line
      go None = h.lines b
      go (Some m) = h.lines b
  lines-step (Resize len event) turn b = pairs-take (Precedes infos) len (held_in a b) (held-pairs b)
  lines-step e turn b = h.lines b

  one-step : (e : Event) → MayCome infos station past a e → (m n : ℕ) → (after e a).hand ≡ Some m → (after e a).slot ≡ Some n → ⊥
  one-step (Take band) may m n hand slot = let empty : a.slot ≡ None = may.slot_empty in cc
  one-step Pick may m n hand slot = cc
  one-step (Direct k) may m n hand slot = let empty : a.slot ≡ None = may.slot_empty in cc
  one-step Send may m n hand slot = go a.hand refl hand slot
    where
      go : (o : Option ℕ) → a.hand ≡ o → (sent_from_hand o a).hand ≡ Some m → (sent_from_hand o a).slot ≡ Some n → ⊥
      go None e hand slot = h.one m n hand slot
      go (Some k) e hand slot = cc
  one-step Back may m n hand slot = cc
  one-step (Purge cause) may m n hand slot = cc
  one-step e may m n hand slot = h.one m n hand slot

  -- what was brought before a packet that joins
  before-join : (e : Event) → IsInTurn infos past (brought e) → (n b m : ℕ) → Contains (brought_by past) n → Joins e b m → Precedes infos n m
  before-join e turn n b m old (joins k l) owner bands = above-before infos past (Join m b) n m turn refl old owner

  new-hand : (e : Event) → MayCome infos station past a e → (n b m : ℕ) → ComesToHand a e n → b < 3 → Contains (held_in (after e a) b) m → Precedes infos n m
  new-hand e may n b m (taken k l first) below held =
      at-cases (λ (x : Band). Contains (held_of x) m → Precedes infos n m) k b (taken_by (a.bands k) 1) a.bands
      (λ same held. pairs-apart (Precedes infos) 1 (held_in a k) n m (held-pairs k) (first-taken (held_in a k) n first)
      (subst (λ xs. Contains xs m) (sym (drop-drop 1 (a.bands k).taken (a.bands k).line)) held))
      (λ other held owner bands. absurd (other (sym (held-band b m held) ∙ (sym bands ∙ held-band k n (first-in (held_in a k) n first)))))
      held
  new-hand e may n b m (picked l slot) below held = h.slot_ahead n slot b m below held
  new-hand e may n b m (direct l) below held = λ owner bands. absurd (may.none_held m (band-held a b m below held) (sym owner))

  new-slot : (e : Event) → (n b m : ℕ) → ComesToSlot a e n → b < 3 → Contains (held_in (after e a) b) m → Precedes infos n m
  new-slot e n b m (laid_back l hand) below held = h.hand_ahead n hand b m below held

  pub order-step : (e : Event) → MayCome infos station past a e → IsInTurn infos past (brought e) → KeepsOrder infos (after e a)
  order-step e may turn = record {
    bands = λ b n here. elim (line-cases e a b n here) [ inl old ↦ h.bands b n old | inr new ↦ band-step e may b n new ];
    lines = lines-step e turn;
    one = one-step e may;
    hand_ahead = λ n hand b m below held. elim (hand-cases e a n hand) [
      | inl old ↦ elim (holds-cases e a b m held) [ inl there ↦ h.hand_ahead n old b m below there | inr new ↦ before-join e turn n b m (known.hand n old) new ]
      | inr new ↦ new-hand e may n b m new below held
    ];
    slot_ahead = λ n slot b m below held. elim (slot-cases e a n slot) [
      | inl old ↦ elim (holds-cases e a b m held) [ inl there ↦ h.slot_ahead n old b m below there | inr new ↦ before-join e turn n b m (known.slot n old) new ]
      | inr new ↦ new-slot e n b m new below held
    ];
  }
