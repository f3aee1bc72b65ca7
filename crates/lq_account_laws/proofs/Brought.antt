-- Only packets that were brought have a place or a fate, and they are packets of the station.
use Rattle.std.proofs.Common.{◌≡◌, ℕ, ◌<◌, List, [], ◌∷◌, ◌⊎◌, inl, inr, length, Contains, Option, Some, None, refl, sym, subst, arith}
use Rattle.std.proofs.lemmas.Option.{same_Some}
use Rattle.lq_model.specs.Account.{Account, Event, Join, Full, Refuse, Direct, held, held_in, new_account, after, after_all}
use Rattle.lq_model.specs.Legal.{brought, brought_by, IsNew, MayCome, IsInTurn, IsLegal}
use Rattle.lq_model.specs.Plan.{Plan, queues_at, owner_in, station_in}
use Rattle.lq_model.specs.declared.fate.Fate.{Fate}
use Rattle.lq_model.specs.declared.fate.Info.{Info}
use Rattle.lq_account_laws.specs.Places.{InBand, AreBrought}
use Rattle.lq_account_laws.specs.Progress.{start_of}
use Rattle.lq_account_laws.proofs.Lists.{none-in, here-in, drop-in, first-in, mapped-before, mapped-now, mapped-cases}
use Rattle.lq_account_laws.proofs.Changes.{Joins, ComesToHand, ComesToSlot, Gives, held-cases, line-cases, hand-cases, slot-cases, fate-cases}
use Rattle.lq_account_laws.proofs.Changes.Joins.{joins}
use Rattle.lq_account_laws.proofs.Changes.ComesToHand.{taken, picked, direct}
use Rattle.lq_account_laws.proofs.Changes.ComesToSlot.{laid_back}
use Rattle.lq_account_laws.proofs.Changes.Gives.{gives_sent, gives_full, gives_refused, gives_shrunk, gives_purged}
use Rattle.lq_account_laws.proofs.Legal.{legal-before}

-- WHAT WAS BROUGHT

pub brought-before : (e : Event) (past : List Event) (n : ℕ) → Contains (brought_by past) n → Contains (brought_by (e ∷ past)) n
brought-before e past n h = mapped-before brought e past n h

pub brought-now : (e : Event) (past : List Event) (n : ℕ) → brought e ≡ Some n → Contains (brought_by (e ∷ past)) n
brought-now e past n now = mapped-now brought e past n now

pub brought-cases : (e : Event) (past : List Event) (n : ℕ) → Contains (brought_by (e ∷ past)) n → Contains (brought_by past) n ⊎ (brought e ≡ Some n)
brought-cases e past n h = mapped-cases brought e past n h

-- the packet that is brought now is above those of its owner that were brought before
pub above-before : (infos : List Info) (past : List Event) (e : Event) (m n : ℕ) → IsInTurn infos past (brought e) → brought e ≡ Some n
    → Contains (brought_by past) m → owner_in infos m ≡ owner_in infos n → m < n
above-before infos past e m n turn now old = (subst (λ (o : Option ℕ). IsInTurn infos past o) now turn) m old

pub not-before : (infos : List Info) (past : List Event) (e : Event) (n : ℕ) → IsInTurn infos past (brought e) → brought e ≡ Some n → Contains (brought_by past) n → ⊥
not-before infos past e n turn now old = let below : n < n = above-before infos past e n n turn now old refl in omega arith

pub new-packet : (infos : List Info) (station : ℕ) (past : List Event) (a : Account) (e : Event) (n : ℕ) → MayCome infos station past a e → brought e ≡ Some n → IsNew infos station a n
new-packet infos station past a (Join m band) n may now = subst (IsNew infos station a) (same_Some m n now) may.new
new-packet infos station past a (Full m seen) n may now = subst (IsNew infos station a) (same_Some m n now) may.new
new-packet infos station past a (Refuse m event) n may now = subst (IsNew infos station a) (same_Some m n now) may.0
new-packet infos station past a (Direct m) n may now = subst (IsNew infos station a) (same_Some m n now) may.new
new-packet infos station past a e n may now = absurd cc

-- THE SENTENCE

pub held-brought : {infos : List Info} {station : ℕ} {past : List Event} {a : Account} → AreBrought infos station past a → (b n : ℕ) → Contains (held_in a b) n → Contains (brought_by past) n
held-brought {a = a} h b n held = h.lines b n (drop-in (a.bands b).taken (a.bands b).line n held)

pub brought-start : (infos : List Info) (station len unit queues : ℕ) → AreBrought infos station [] (new_account len unit queues)
brought-start infos station len unit queues = record {
  packets = λ n h. absurd (none-in [] n refl h);
  lines = λ b n h. absurd (none-in [] n refl h);
  slot = λ n h. absurd cc;
  hand = λ n h. absurd cc;
  fates = λ n f h. absurd cc;
}

module _ (infos : List Info) (station : ℕ) (past : List Event) (a : Account) (h : AreBrought infos station past a) where
  line-step : (e : Event) (b n : ℕ) → Joins e b n → Contains (brought_by (e ∷ past)) n
  line-step e b n (joins m k) = here-in n (brought_by past)

  hand-step : (e : Event) (n : ℕ) → ComesToHand a e n → Contains (brought_by (e ∷ past)) n
  hand-step e n (taken b m first) = held-brought h b n (first-in (held_in a b) n first)
  hand-step e n (picked m slot) = h.slot n slot
  hand-step e n (direct m) = here-in n (brought_by past)

  slot-step : (e : Event) (n : ℕ) → ComesToSlot a e n → Contains (brought_by (e ∷ past)) n
  slot-step e n (laid_back m hand) = h.hand n hand

  fate-step : (e : Event) (n : ℕ) (f : Fate) → Gives a e n f → Contains (brought_by (e ∷ past)) n
  fate-step e n f (gives_sent m u s hand unit serial) = h.hand n hand
  fate-step e n f (gives_full m seen) = here-in n (brought_by past)
  fate-step e n f (gives_refused m event) = here-in n (brought_by past)
  fate-step e n f (gives_shrunk len event m b below dropped) = held-brought h b n (drop-in len (held_in a b) n dropped)
  fate-step e n f (gives_purged cause m held) = elim (held-cases a n held) [ inl slot ↦ h.slot n slot | inr place ↦ held-brought h place.band n place.holds ]

  pub brought-step : (e : Event) → MayCome infos station past a e → AreBrought infos station (e ∷ past) (after e a)
  brought-step e may = record {
    packets = λ n here. elim (brought-cases e past n here) [ inl old ↦ h.packets n old | inr now ↦ let new = new-packet infos station past a e n may now in (new.is_packet, new.of_station) ];
    lines = λ b n here. elim (line-cases e a b n here) [ inl old ↦ brought-before e past n (h.lines b n old) | inr new ↦ line-step e b n new ];
    slot = λ n here. elim (slot-cases e a n here) [ inl old ↦ brought-before e past n (h.slot n old) | inr new ↦ slot-step e n new ];
    hand = λ n here. elim (hand-cases e a n here) [ inl old ↦ brought-before e past n (h.hand n old) | inr new ↦ hand-step e n new ];
    fates = λ n f here. elim (fate-cases e a n f here) [ inl old ↦ brought-before e past n (h.fates n f old) | inr new ↦ fate-step e n f new ];
  }

-- ALL LEGAL LISTS

pub are-brought : (plan : Plan) (infos : List Info) (station : ℕ) (past : List Event) → IsLegal plan infos station (start_of plan station) past
    → AreBrought infos station past (after_all (start_of plan station) past)
are-brought plan infos station [] legal = brought-start infos station _ station (queues_at plan.stations station)
are-brought plan infos station (e ∷ past) legal =
    brought-step infos station past (after_all (start_of plan station) past) (are-brought plan infos station past (legal-before legal)) e legal.comes.1.0

-- a packet that was not brought has no fate and no place
pub only_brought : (plan : Plan) (infos : List Info) (station : ℕ) (past : List Event) (a : Account) → IsLegal plan infos station (start_of plan station) past
    → a ≡ after_all (start_of plan station) past → (n : ℕ) → (Contains (brought_by past) n → ⊥)
    → (a.fates n ≡ None) × ((Contains (held a) n → ⊥) × (a.hand ≡ Some n → ⊥))
only_brought plan infos station past a legal is n out = (none (a.fates n) refl, (λ held. out (holds (held-cases a n held)), λ hand. out (h.hand n hand)))
  where
    h : AreBrought infos station past a
    h = subst (AreBrought infos station past) (sym is) (are-brought plan infos station past legal)

    none : (o : Option Fate) → a.fates n ≡ o → o ≡ None
    none None e = refl
    none (Some f) e = absurd (out (h.fates n f e))

    holds : (a.slot ≡ Some n) ⊎ InBand a n → Contains (brought_by past) n
    holds (inl slot) = h.slot n slot
    holds (inr place) = held-brought h place.band n place.holds

-- a packet that is held, in hand or has a fate is a packet of the station
pub of_station : (plan : Plan) (infos : List Info) (station : ℕ) (past : List Event) (a : Account) → IsLegal plan infos station (start_of plan station) past
    → a ≡ after_all (start_of plan station) past → (n : ℕ) → Contains (held a) n ⊎ ((a.hand ≡ Some n) ⊎ ((f : Fate) × (a.fates n ≡ Some f)))
    → (n < length infos) × (station_in infos n ≡ station)
of_station plan infos station past a legal is n place = h.packets n (go place)
  where
    h : AreBrought infos station past a
    h = subst (AreBrought infos station past) (sym is) (are-brought plan infos station past legal)

    go : Contains (held a) n ⊎ ((a.hand ≡ Some n) ⊎ ((f : Fate) × (a.fates n ≡ Some f))) → Contains (brought_by past) n
    go (inl held) = elim (held-cases a n held) [ inl slot ↦ h.slot n slot | inr there ↦ held-brought h there.band n there.holds ]
    go (inr (inl hand)) = h.hand n hand
    go (inr (inr (f, is))) = h.fates n f is
