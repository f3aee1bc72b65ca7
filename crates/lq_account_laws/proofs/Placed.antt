-- Each packet that was brought has a fate, is held or is in hand.
use Rattle.std.proofs.Common.{◌≡◌, ℕ, zero, suc, ◌<◌, ◌≤◌, List, [], ◌∷◌, ◌++◌, ◌⊎◌, inl, inr, length, take, drop, Option, Some, None, Contains, slice_get, refl, sym, ap, subst, ◌∙◌, arith, length-append, length-drop, drop-drop, take-append-drop}
use Rattle.std.proofs.lemmas.Bool.{cases_eq}
use Rattle.std.proofs.lemmas.List.Elements.{Contains-append_left, Contains-append_right, Contains-append_cases, Contains-push}
use Rattle.std.proofs.lemmas.Option.{same_Some}
use Rattle.lq_model.specs.Band.{held_of}
use Rattle.lq_model.specs.Account.{Account, Event, Fates, Join, Full, Refuse, Empty, Take, Pick, Direct, Send, Back, Stop, Wake, Resize, Down, Purge, Swap, Up, held, held_in, dropped_in, after, after_all, sent_from_hand, with_at, with_fates}
use Rattle.lq_model.specs.Legal.{IsLegal, MayCome, brought, brought_by}
use Rattle.lq_model.specs.Plan.{Plan, station_in, band_in}
use Rattle.lq_model.specs.declared.fate.Fate.{Fate}
use Rattle.lq_model.specs.declared.fate.Info.{Info}
use Rattle.lq_account_laws.specs.Progress.{IsAt, start_of}
use Rattle.lq_account_laws.proofs.Answers.{with_at_same}
use Rattle.lq_account_laws.proofs.Brought.{brought-cases}
use Rattle.lq_account_laws.proofs.Changes.{slot-held, band-held, held-cases}
use Rattle.lq_account_laws.proofs.Lists.{none-in, cons-in, drop-in, at-cases, fates-cases}
use Rattle.lq_account_laws.proofs.Purges.{with_fates_in}
use Rattle.lq_account_laws.specs.Places.{IsPlaced, IsWithin}
use Rattle.lq_account_laws.proofs.Legal.{legal-before}

-- FATES AND LISTS

abbrev HasFate : Option Fate → Type 0
HasFate o = (fate : Fate) × (o ≡ Some fate)

set-keeps : (n m : ℕ) (f : Fate) (fates : Fates) → HasFate (fates m) → HasFate (with_at n (Some f) fates m)
set-keeps n m f fates old = at-cases HasFate n m (Some f) fates (λ same. (f, refl)) (λ other. old)

all-keep : (ns : List ℕ) (m : ℕ) (f : Fate) (fates : Fates) → HasFate (fates m) → HasFate (with_fates ns f fates m)
all-keep ns m f fates old = fates-cases HasFate ns m f fates (λ is_in. (f, refl)) (λ out. old)

drop-more : (k : ℕ) (xs : List ℕ) (y m : ℕ) → Contains (drop k xs) m → Contains (drop k (xs ++ y ∷ [])) m
drop-more zero xs y m h = Contains-append_left xs (y ∷ []) m h
drop-more (suc k) [] y m h = absurd (none-in [] m refl (drop-in (suc k) [] m h))
drop-more (suc k) (x ∷ xs) y m h = drop-more k xs y m h

drop-last : (k : ℕ) (xs : List ℕ) (y : ℕ) → k ≤ length xs → Contains (drop k (xs ++ y ∷ [])) y
drop-last zero xs y within = Contains-push xs y
drop-last (suc k) [] y within = absurd (omega arith)
drop-last (suc k) (x ∷ xs) y within = drop-last k xs y (omega arith)

first-or-rest : (xs : List ℕ) (m : ℕ) → Contains xs m → (slice_get xs 0 ≡ Some m) ⊎ Contains (drop 1 xs) m
first-or-rest [] m h = absurd (none-in [] m refl h)
first-or-rest (x ∷ xs) m h = elim (cons-in x xs m h) [ inl same ↦ inl (ap Some same) | inr rest ↦ inr rest ]

none-some : {X : Type 0} (o : Option X) (x : X) → o ≡ None → o ≡ Some x → ⊥
none-some o x none some = cc

-- BANDS

pub within-step : (infos : List Info) (station : ℕ) (past : List Event) (a : Account) (e : Event) → MayCome infos station past a e → ((b : ℕ) → IsWithin (a.bands b)) → (b : ℕ) → IsWithin ((after e a).bands b)
within-step infos station past a (Join n band) may h b =
    at-cases IsWithin band b _ a.bands (λ same. (let old = h band in omega (arith, length-append (a.bands band).line (n ∷ [])))) (λ other. h b)
within-step infos station past a (Full n seen) may h b = h b
within-step infos station past a (Refuse n event) may h b = h b
within-step infos station past a (Empty band) may h b = h b
within-step infos station past a (Take band) may h b =
    at-cases IsWithin band b _ a.bands (λ same. (let some = may.something in omega (arith, length-drop (a.bands band).taken (a.bands band).line))) (λ other. h b)
within-step infos station past a Pick may h b = h b
within-step infos station past a (Direct n) may h b = h b
within-step infos station past a Send may h b = subst (λ hand. IsWithin ((sent_from_hand hand a).bands b)) (sym may.1) (h b)
within-step infos station past a Back may h b = h b
within-step infos station past a (Stop queue value) may h b = h b
within-step infos station past a (Wake queue) may h b = h b
within-step infos station past a (Resize len event) may h b = omega arith
within-step infos station past a (Down event) may h b = h b
within-step infos station past a (Purge cause) may h b = omega arith
within-step infos station past a (Swap unit) may h b = h b
within-step infos station past a Up may h b = h b

-- EVENTS KEEP PLACES

-- what is held stays placed where the slot's packet and each band's do
held-stays : (a b : Account) (m : ℕ) → (a.slot ≡ Some m → IsPlaced b m) → ((band : ℕ) → band < 3 → Contains (held_in a band) m → IsPlaced b m) → Contains (held a) m → IsPlaced b m
held-stays a b m slot bands h = elim (held-cases a m h) [ inl in_slot ↦ slot in_slot | inr in_band ↦ bands in_band.band in_band.below in_band.holds ]

in-three : (xs : ℕ → List ℕ) (b m : ℕ) → b < 3 → Contains (xs b) m → Contains (xs 0 ++ (xs 1 ++ xs 2)) m
in-three xs zero m below h = Contains-append_left (xs 0) _ m h
in-three xs (suc zero) m below h = Contains-append_right (xs 0) _ m (Contains-append_left (xs 1) (xs 2) m h)
in-three xs (suc (suc zero)) m below h = Contains-append_right (xs 0) _ m (Contains-append_right (xs 1) (xs 2) m h)
in-three xs (suc (suc (suc b))) m below h = absurd (omega arith)

module _ (infos : List Info) (station : ℕ) (past : List Event) (a : Account) (m : ℕ) where
  joins : (n band : ℕ) → IsPlaced a m → IsPlaced (after (Join n band) a) m
  joins n band (inl fate) = inl fate
  joins n band (inr (inr hand)) = inr (inr hand)
  joins n band (inr (inl h)) = held-stays a (after (Join n band) a) m (λ slot. inr (inl (slot-held (after (Join n band) a) m slot)))
      (λ b below in_band. inr (inl (band-held (after (Join n band) a) b m below
      (at-cases (λ x. Contains (held_of x) m) band b _ a.bands (λ same. drop-more (a.bands band).taken (a.bands band).line n m (subst (λ k. Contains (held_in a k) m) same in_band)) (λ other. in_band)))))
      h

  taken : (band : ℕ) → a.hand ≡ None → a.slot ≡ None → IsPlaced a m → IsPlaced (after (Take band) a) m
  taken band hand slot (inl fate) = inl fate
  taken band hand slot (inr (inr h)) = absurd (none-some a.hand m hand h)
  taken band hand slot (inr (inl h)) = held-stays a (after (Take band) a) m (λ in_slot. absurd (none-some a.slot m slot in_slot))
      (λ b below in_band. by_band b below in_band (cases_eq b band)) h
    where
      by_band : (b : ℕ) → b < 3 → Contains (held_in a b) m → (b ≡ band) ⊎ (b ≡ band → ⊥) → IsPlaced (after (Take band) a) m
      by_band b below in_band (inr other) = inr (inl (band-held (after (Take band) a) b m below
          (at-cases (λ x. Contains (held_of x) m) band b _ a.bands (λ same. absurd (other same)) (λ differs. in_band))))
      by_band b below in_band (inl same) = elim (first-or-rest (held_in a band) m (subst (λ k. Contains (held_in a k) m) same in_band)) [
        | inl first ↦ inr (inr first)
        | inr rest ↦ inr (inl (band-held (after (Take band) a) b m below
            (at-cases (λ x. Contains (held_of x) m) band b _ a.bands (λ at. subst (λ xs. Contains xs m) (drop-drop 1 (a.bands band).taken (a.bands band).line) rest) (λ differs. absurd (differs same)))))
      ]

  picked : a.hand ≡ None → IsPlaced a m → IsPlaced (after Pick a) m
  picked hand (inl fate) = inl fate
  picked hand (inr (inr h)) = absurd (none-some a.hand m hand h)
  picked hand (inr (inl h)) = held-stays a (after Pick a) m (λ in_slot. inr (inr in_slot)) (λ b below in_band. inr (inl (band-held (after Pick a) b m below in_band))) h

  sent : (n : ℕ) → a.hand ≡ Some n → IsPlaced a m → IsPlaced (sent_from_hand (Some n) a) m
  sent n hand (inl fate) = inl (set-keeps n m _ a.fates fate)
  sent n hand (inr (inl h)) = inr (inl h)
  sent n hand (inr (inr h)) = inl (subst (λ k. HasFate ((sent_from_hand (Some n) a).fates k)) (same_Some n m (sym hand ∙ h)) (_, with_at_same n _ a.fates))

  laid_back : a.slot ≡ None → IsPlaced a m → IsPlaced (after Back a) m
  laid_back slot (inl fate) = inl fate
  laid_back slot (inr (inr h)) = inr (inl (slot-held (after Back a) m h))
  laid_back slot (inr (inl h)) = held-stays a (after Back a) m (λ in_slot. absurd (none-some a.slot m slot in_slot)) (λ b below in_band. inr (inl (band-held (after Back a) b m below in_band))) h

  resized : (len event : ℕ) → IsPlaced a m → IsPlaced (after (Resize len event) a) m
  resized len event (inl fate) = inl (all-keep (dropped_in len a 0 ++ (dropped_in len a 1 ++ dropped_in len a 2)) m _ a.fates fate)
  resized len event (inr (inr h)) = inr (inr h)
  resized len event (inr (inl h)) = held-stays a (after (Resize len event) a) m (λ in_slot. inr (inl (slot-held (after (Resize len event) a) m in_slot))) by_band h
    where
      by_band : (b : ℕ) → b < 3 → Contains (held_in a b) m → IsPlaced (after (Resize len event) a) m
      by_band b below in_band = elim (Contains-append_cases (take len (held_in a b)) (drop len (held_in a b)) m
          (subst (λ xs. Contains xs m) (sym (take-append-drop len (held_in a b))) in_band)) [
            | inl kept ↦ inr (inl (band-held (after (Resize len event) a) b m below kept))
            | inr dropped ↦ inl (_, with_fates_in (dropped_in len a 0 ++ (dropped_in len a 1 ++ dropped_in len a 2)) m _ a.fates (in-three (dropped_in len a) b m below dropped))
          ]

  pub stays : (e : Event) → MayCome infos station past a e → IsPlaced a m → IsPlaced (after e a) m
  stays (Join n band) may h = joins n band h
  stays (Full n seen) may (inl fate) = inl (set-keeps n m _ a.fates fate)
  stays (Full n seen) may (inr place) = inr place
  stays (Refuse n event) may (inl fate) = inl (set-keeps n m _ a.fates fate)
  stays (Refuse n event) may (inr place) = inr place
  stays (Empty band) may h = h
  stays (Take band) may h = taken band may.hand_empty may.slot_empty h
  stays Pick may h = picked may.0 h
  stays (Direct n) may (inl fate) = inl fate
  stays (Direct n) may (inr (inl h)) = inr (inl h)
  stays (Direct n) may (inr (inr h)) = absurd (none-some a.hand m may.hand_empty h)
  stays Send may h = subst (λ hand. IsPlaced (sent_from_hand hand a) m) (sym may.1) (sent may.0 may.1 h)
  stays Back may h = laid_back may.1 h
  stays (Stop queue value) may h = h
  stays (Wake queue) may h = h
  stays (Resize len event) may h = resized len event h
  stays (Down event) may h = h
  stays (Purge cause) may (inl fate) = inl (all-keep (held a) m _ a.fates fate)
  stays (Purge cause) may (inr (inl h)) = inl (_, with_fates_in (held a) m _ a.fates h)
  stays (Purge cause) may (inr (inr h)) = inr (inr h)
  stays (Swap unit) may h = h
  stays Up may h = h

  -- a packet that is brought now
  pub comes : (e : Event) → MayCome infos station past a e → ((b : ℕ) → IsWithin (a.bands b)) → ((n : ℕ) → band_in infos n < 3) → brought e ≡ Some m → IsPlaced (after e a) m
  comes (Join n band) may within three now = inr (inl (band-held (after (Join n band) a) band m (subst (λ b. b < 3) may.band_is (three n))
      (at-cases (λ x. Contains (held_of x) m) band band _ a.bands
      (λ same. subst (λ k. Contains (drop (a.bands band).taken ((a.bands band).line ++ n ∷ [])) k) (same_Some n m now) (drop-last (a.bands band).taken (a.bands band).line n (within band)))
      (λ other. absurd (other refl)))))
  comes (Full n seen) may within three now = inl (subst (λ k. HasFate ((after (Full n seen) a).fates k)) (same_Some n m now) (_, with_at_same n _ a.fates))
  comes (Refuse n event) may within three now = inl (subst (λ k. HasFate ((after (Refuse n event) a).fates k)) (same_Some n m now) (_, with_at_same n _ a.fates))
  comes (Direct n) may within three now = inr (inr now)
  comes (Empty band) may within three now = cc
  comes (Take band) may within three now = cc
  comes Pick may within three now = cc
  comes Send may within three now = cc
  comes Back may within three now = cc
  comes (Stop queue value) may within three now = cc
  comes (Wake queue) may within three now = cc
  comes (Resize len event) may within three now = cc
  comes (Down event) may within three now = cc
  comes (Purge cause) may within three now = cc
  comes (Swap unit) may within three now = cc
  comes Up may within three now = cc

-- ALL LEGAL LISTS

all-within : (plan : Plan) (infos : List Info) (station : ℕ) (past : List Event) → IsLegal plan infos station (start_of plan station) past
    → (b : ℕ) → IsWithin ((after_all (start_of plan station) past).bands b)
all-within plan infos station [] legal b = omega arith
all-within plan infos station (e ∷ past) legal b =
    within-step infos station past (after_all (start_of plan station) past) e legal.comes.1.0 (all-within plan infos station past (legal-before legal)) b

all-placed : (plan : Plan) (infos : List Info) (station : ℕ) (past : List Event) → ((n : ℕ) → band_in infos n < 3) → IsLegal plan infos station (start_of plan station) past
    → (m : ℕ) → Contains (brought_by past) m → IsPlaced (after_all (start_of plan station) past) m
all-placed plan infos station [] three legal m came = absurd (none-in [] m refl came)
all-placed plan infos station (e ∷ past) three legal m came = elim (brought-cases e past m came) [
  | inl before ↦ stays infos station past (after_all (start_of plan station) past) m e legal.comes.1.0 (all-placed plan infos station past three (legal-before legal) m before)
  | inr now ↦ comes infos station past (after_all (start_of plan station) past) m e legal.comes.1.0 (all-within plan infos station past (legal-before legal)) three now
]

-- each packet of the station below n has a fate, is held or is in hand
pub placed : {plan : Plan} {infos : List Info} {station n : ℕ} {a : Account} → ((m : ℕ) → band_in infos m < 3) → IsAt plan infos station n a
    → (m : ℕ) → m < n → station_in infos m ≡ station → IsPlaced a m
placed {plan = plan} {infos = infos} {station = station} three h m below at =
    subst (λ a. IsPlaced a m) (sym h.account) (all-placed plan infos station h.past three h.legal m (h.came m below at))

-- so with nothing held and nothing in hand it has a fate
pub decided : {plan : Plan} {infos : List Info} {station n : ℕ} {a : Account} → ((m : ℕ) → band_in infos m < 3) → IsAt plan infos station n a → held a ≡ [] → a.hand ≡ None
    → (m : ℕ) → m < n → station_in infos m ≡ station → (fate : Fate) × (a.fates m ≡ Some fate)
decided {a = a} three h none hand m below at = elim (placed three h m below at) [
  | inl fate ↦ fate
  | inr (inl in_held) ↦ absurd (none-in (held a) m none in_held)
  | inr (inr in_hand) ↦ absurd (none-some a.hand m hand in_hand)
]
