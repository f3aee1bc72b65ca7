-- What an event changes of an account: which packets join a band, come into the hand or the requeue slot, stand in a
-- sent list or get a fate. All else is as it was.
use Rattle.std.proofs.Common.{◌≡◌, ℕ, ◌<◌, zero, suc, List, [], ◌∷◌, ◌++◌, ◌⊎◌, inl, inr, length, Contains, Option, Some, None, refl, sym, ap, ◌∙◌, subst, slice_get, option_to_list, arith}
use Rattle.std.proofs.lemmas.Option.{same_Some}
use Rattle.std.proofs.lemmas.List.{drop-drop, drop_all}
use Rattle.std.proofs.lemmas.List.Elements.{Contains-append_left, Contains-append_right, Contains-append_cases, Contains-push_cases}
use Rattle.lq_model.specs.Band.{Band, held_of, taken_by, joined}
use Rattle.lq_model.specs.Account.{Account, Event, Join, Full, Refuse, Take, Pick, Direct, Send, Back, Resize, Down, Purge, Swap, Up, held, held_in, dropped_in, sent_from_hand, with_at, after}
use Rattle.lq_model.specs.declared.fate.Cause.{Cause}
use Rattle.lq_model.specs.declared.fate.Fate.{Fate}
use Rattle.lq_model.specs.declared.fate.Fate.TheVariants as fate
use Rattle.lq_account_laws.proofs.Lists.{none-in, one-in, here-in, take-in, drop-in, at-cases, fates-cases, drop-push-in, get-push-cases, get-push-old, get-push-new}
use Rattle.lq_account_laws.specs.Places.{InBand}

-- WHAT COMES WHERE

-- the event has the packet join the band
pub data Joins : Event → ℕ → ℕ → Type 0 where
  joins : (n b : ℕ) → Joins (Join n b) b n

-- the packet comes into the hand
pub data ComesToHand (a : Account) : Event → ℕ → Type 0 where
  taken : (b n : ℕ) → slice_get (held_in a b) 0 ≡ Some n → ComesToHand a (Take b) n
  picked : (n : ℕ) → a.slot ≡ Some n → ComesToHand a Pick n
  direct : (n : ℕ) → ComesToHand a (Direct n) n

-- the packet is laid into the requeue slot
pub data ComesToSlot (a : Account) : Event → ℕ → Type 0 where
  laid_back : (n : ℕ) → a.hand ≡ Some n → ComesToSlot a Back n

-- the packet is sent by the unit, with the serial
pub data Sends (a : Account) : Event → ℕ → ℕ → ℕ → Type 0 where
  sends : (n u s : ℕ) → a.hand ≡ Some n → u ≡ a.unit → s ≡ length (a.sent a.unit) → Sends a Send u s n

-- the packet gets the fate
pub data Gives (a : Account) : Event → ℕ → Fate → Type 0 where
  gives_sent : (n u s : ℕ) → a.hand ≡ Some n → u ≡ a.unit → s ≡ length (a.sent a.unit) → Gives a Send n (fate.Sent u s)
  gives_full : (n seen : ℕ) → Gives a (Full n seen) n (fate.Full seen)
  gives_refused : (n event : ℕ) → Gives a (Refuse n event) n (fate.Refused event)
  gives_shrunk : (len event n b : ℕ) → b < 3 → Contains (dropped_in len a b) n → Gives a (Resize len event) n (fate.Shrunk event)
  gives_purged : (cause : Cause) (n : ℕ) → Contains (held a) n → Gives a (Purge cause) n (fate.Purged cause)

-- WHAT IS HELD

three-cases : (P : ℕ → Type 0) (b : ℕ) → b < 3 → P 0 → P 1 → P 2 → P b
three-cases P b below p q r = go b below
  where
    go : (b : ℕ) → b < 3 → P b
    go zero h = p
    go (suc zero) h = q
    go (suc (suc zero)) h = r
    go (suc (suc (suc b))) h = absurd (omega arith)

pub slot-held : (a : Account) (n : ℕ) → a.slot ≡ Some n → Contains (held a) n
slot-held a n e = Contains-append_left (option_to_list a.slot) _ n (subst (λ o. Contains (option_to_list o) n) (sym e) (here-in n []))

pub band-held : (a : Account) (b n : ℕ) → b < 3 → Contains (held_in a b) n → Contains (held a) n
band-held a b n below h = Contains-append_right (option_to_list a.slot) _ n (three-cases (λ b. Contains (held_in a b) n → Contains (held_in a 0 ++ (held_in a 1 ++ held_in a 2)) n) b below
    (λ h. Contains-append_left (held_in a 0) _ n h)
    (λ h. Contains-append_right (held_in a 0) _ n (Contains-append_left (held_in a 1) _ n h))
    (λ h. Contains-append_right (held_in a 0) _ n (Contains-append_right (held_in a 1) _ n h)) h)

pub three-in : (x y z : List ℕ) (n : ℕ) → Contains (x ++ (y ++ z)) n → Contains x n ⊎ (Contains y n ⊎ Contains z n)
three-in x y z n h = elim (Contains-append_cases x (y ++ z) n h) [ inl p ↦ inl p | inr rest ↦ inr (Contains-append_cases y z n rest) ]

pub held-cases : (a : Account) (n : ℕ) → Contains (held a) n → (a.slot ≡ Some n) ⊎ InBand a n
held-cases a n h = go a.slot refl (Contains-append_cases (option_to_list a.slot) _ n h)
  where
    go : (o : Option ℕ) → a.slot ≡ o → Contains (option_to_list o) n ⊎ Contains (held_in a 0 ++ (held_in a 1 ++ held_in a 2)) n → (a.slot ≡ Some n) ⊎ InBand a n
    go None e (inl p) = absurd (none-in [] n refl p)
    go (Some m) e (inl p) = inl (e ∙ ap Some (one-in m n p))
    go o e (inr rest) = elim (three-in (held_in a 0) (held_in a 1) (held_in a 2) n rest) [
      | inl p ↦ inr (record { band = 0; below = omega arith; holds = p })
      | inr (inl p) ↦ inr (record { band = 1; below = omega arith; holds = p })
      | inr (inr p) ↦ inr (record { band = 2; below = omega arith; holds = p })
    ]

-- LINES

pub line-cases : (e : Event) (a : Account) (b n : ℕ) → Contains ((after e a).bands b).line n → Contains (a.bands b).line n ⊎ Joins e b n
line-cases (Join m band) a b n =
    at-cases (λ (x : Band). Contains x.line n → Contains (a.bands b).line n ⊎ Joins (Join m band) b n) band b (joined (a.bands band) m) a.bands
    (λ same h. elim (Contains-push_cases (a.bands band).line m n h) [
      | inl old ↦ inl (subst (λ k. Contains (a.bands k).line n) (sym same) old)
      | inr new ↦ inr (subst (λ k. Joins (Join m band) k n) (sym same) (subst (λ k. Joins (Join m band) band k) new (joins m band)))
    ])
    (λ other h. inl h)
line-cases (Take band) a b n =
    at-cases (λ (x : Band). Contains x.line n → Contains (a.bands b).line n ⊎ Joins (Take band) b n) band b (taken_by (a.bands band) 1) a.bands
    (λ same h. inl (subst (λ k. Contains (a.bands k).line n) (sym same) h)) (λ other h. inl h)
line-cases Send a b n = go a.hand
  where
    go : (o : Option ℕ) → Contains ((sent_from_hand o a).bands b).line n → Contains (a.bands b).line n ⊎ Joins Send b n
    go None h = inl h
    go (Some m) h = inl h
line-cases (Resize len event) a b n = λ h. inl (drop-in (a.bands b).taken (a.bands b).line n (take-in len (held_in a b) n h))
line-cases e a b n = inl

-- what a band holds after an event it held before, unless it joined
pub holds-cases : (e : Event) (a : Account) (b n : ℕ) → Contains (held_in (after e a) b) n → Contains (held_in a b) n ⊎ Joins e b n
holds-cases (Join m band) a b n =
    at-cases (λ (x : Band). Contains (held_of x) n → Contains (held_in a b) n ⊎ Joins (Join m band) b n) band b (joined (a.bands band) m) a.bands
    (λ same h. elim (drop-push-in (a.bands band).taken (a.bands band).line m n h) [
      | inl old ↦ inl (subst (λ k. Contains (held_in a k) n) (sym same) old)
      | inr new ↦ inr (subst (λ k. Joins (Join m band) k n) (sym same) (subst (λ k. Joins (Join m band) band k) new (joins m band)))
    ])
    (λ other h. inl h)
holds-cases (Take band) a b n =
    at-cases (λ (x : Band). Contains (held_of x) n → Contains (held_in a b) n ⊎ Joins (Take band) b n) band b (taken_by (a.bands band) 1) a.bands
    (λ same h. inl (subst (λ k. Contains (held_in a k) n) (sym same)
    (drop-in 1 (held_in a band) n (subst (λ xs. Contains xs n) (sym (drop-drop 1 (a.bands band).taken (a.bands band).line)) h))))
    (λ other h. inl h)
holds-cases Send a b n = go a.hand
  where
    go : (o : Option ℕ) → Contains (held_in (sent_from_hand o a) b) n → Contains (held_in a b) n ⊎ Joins Send b n
    go None h = inl h
    go (Some m) h = inl h
holds-cases (Resize len event) a b n = λ h. inl (take-in len (held_in a b) n h)
holds-cases (Purge cause) a b n = λ h. absurd (none-in _ n (drop_all (length (a.bands b).line) (a.bands b).line (omega arith)) h)
holds-cases e a b n = inl

-- HAND AND SLOT

pub hand-cases : (e : Event) (a : Account) (n : ℕ) → (after e a).hand ≡ Some n → (a.hand ≡ Some n) ⊎ ComesToHand a e n
hand-cases (Take b) a n = λ h. inr (taken b n h)
hand-cases Pick a n = λ h. inr (picked n h)
hand-cases (Direct m) a n = λ h. inr (subst (λ k. ComesToHand a (Direct m) k) (same_Some m n h) (direct m))
hand-cases Send a n = go a.hand refl
  where
    go : (o : Option ℕ) → a.hand ≡ o → (sent_from_hand o a).hand ≡ Some n → (a.hand ≡ Some n) ⊎ ComesToHand a Send n
    go None e h = inl h
    go (Some m) e h = absurd cc
hand-cases Back a n = λ h. absurd cc
hand-cases e a n = inl

pub slot-cases : (e : Event) (a : Account) (n : ℕ) → (after e a).slot ≡ Some n → (a.slot ≡ Some n) ⊎ ComesToSlot a e n
slot-cases Back a n = λ h. inr (laid_back n h)
slot-cases Pick a n = λ h. absurd cc
slot-cases (Purge cause) a n = λ h. absurd cc
slot-cases Send a n = go a.hand
  where
    go : (o : Option ℕ) → (sent_from_hand o a).slot ≡ Some n → (a.slot ≡ Some n) ⊎ ComesToSlot a Send n
    go None h = inl h
    go (Some m) h = inl h
slot-cases e a n = inl

-- FATES AND SENT LISTS

set-fate : (e : Event) (a : Account) (m n : ℕ) (g f : Fate) → Gives a e m g → with_at m (Some g) a.fates n ≡ Some f → (a.fates n ≡ Some f) ⊎ Gives a e n f
set-fate e a m n g f given =
    at-cases (λ (o : Option Fate). o ≡ Some f → (a.fates n ≡ Some f) ⊎ Gives a e n f) m n (Some g) a.fates
    (λ same h. inr (subst (λ k. Gives a e k f) (sym same) (subst (λ w. Gives a e m w) (same_Some g f h) given))) (λ other h. inl h)

dropped-in : (len : ℕ) (a : Account) (event n : ℕ) → Contains (dropped_in len a 0 ++ (dropped_in len a 1 ++ dropped_in len a 2)) n → Gives a (Resize len event) n (fate.Shrunk event)
dropped-in len a event n h = elim (three-in (dropped_in len a 0) (dropped_in len a 1) (dropped_in len a 2) n h) [
  | inl p ↦ gives_shrunk len event n 0 (omega arith) p
  | inr (inl p) ↦ gives_shrunk len event n 1 (omega arith) p
  | inr (inr p) ↦ gives_shrunk len event n 2 (omega arith) p
]

pub fate-cases : (e : Event) (a : Account) (n : ℕ) (f : Fate) → (after e a).fates n ≡ Some f → (a.fates n ≡ Some f) ⊎ Gives a e n f
fate-cases (Full m seen) a n f = set-fate (Full m seen) a m n (fate.Full seen) f (gives_full m seen)
fate-cases (Refuse m event) a n f = set-fate (Refuse m event) a m n (fate.Refused event) f (gives_refused m event)
fate-cases Send a n f = go a.hand refl
  where
    go : (o : Option ℕ) → a.hand ≡ o → (sent_from_hand o a).fates n ≡ Some f → (a.fates n ≡ Some f) ⊎ Gives a Send n f
    go None e h = inl h
    go (Some m) e h = set-fate Send a m n (fate.Sent a.unit (length (a.sent a.unit))) f (gives_sent m _ _ e refl refl) h
fate-cases (Resize len event) a n f =
    fates-cases (λ (o : Option Fate). o ≡ Some f → (a.fates n ≡ Some f) ⊎ Gives a (Resize len event) n f)
    (dropped_in len a 0 ++ (dropped_in len a 1 ++ dropped_in len a 2)) n (fate.Shrunk event) a.fates
    (λ h e. inr (subst (λ w. Gives a (Resize len event) n w) (same_Some _ _ e) (dropped-in len a event n h))) (λ out e. inl e)
fate-cases (Purge cause) a n f =
    fates-cases (λ (o : Option Fate). o ≡ Some f → (a.fates n ≡ Some f) ⊎ Gives a (Purge cause) n f) (held a) n (fate.Purged cause) a.fates
    (λ h e. inr (subst (λ w. Gives a (Purge cause) n w) (same_Some _ _ e) (gives_purged cause n h))) (λ out e. inl e)
fate-cases e a n f = inl

-- a fate that is settled goes to the end of what the unit sent
pub sent-cases : (e : Event) (a : Account) (u s n : ℕ) → slice_get ((after e a).sent u) s ≡ Some n → (slice_get (a.sent u) s ≡ Some n) ⊎ Sends a e u s n
sent-cases Send a u s n = go a.hand refl
  where
    go : (o : Option ℕ) → a.hand ≡ o → slice_get ((sent_from_hand o a).sent u) s ≡ Some n → (slice_get (a.sent u) s ≡ Some n) ⊎ Sends a Send u s n
    go None e = inl
    go (Some m) e =
        at-cases (λ (xs : List ℕ). slice_get xs s ≡ Some n → (slice_get (a.sent u) s ≡ Some n) ⊎ Sends a Send u s n) a.unit u (a.sent a.unit ++ m ∷ []) a.sent
        (λ same h. elim (get-push-cases (a.sent a.unit) m n s h) [
          | inl old ↦ inl (ap (λ k. slice_get (a.sent k) s) same ∙ old)
          | inr new ↦ inr (sends n u s (e ∙ ap Some new.1) same new.0)
        ])
        (λ other h. inl h)
sent-cases e a u s n = inl

pub sent-stays : (e : Event) (a : Account) (u s n : ℕ) → slice_get (a.sent u) s ≡ Some n → slice_get ((after e a).sent u) s ≡ Some n
sent-stays Send a u s n was = go a.hand
  where
    go : (o : Option ℕ) → slice_get ((sent_from_hand o a).sent u) s ≡ Some n
    go None = was
    go (Some m) =
        at-cases (λ (xs : List ℕ). slice_get xs s ≡ Some n) a.unit u (a.sent a.unit ++ m ∷ []) a.sent
        (λ same. get-push-old (a.sent a.unit) (m ∷ []) n s (ap (λ k. slice_get (a.sent k) s) (sym same) ∙ was)) (λ other. was)
sent-stays e a u s n was = was

-- the packet that is sent
pub sent-is : (a : Account) (n : ℕ) → a.hand ≡ Some n
    → (slice_get ((after Send a).sent a.unit) (length (a.sent a.unit)) ≡ Some n) × ((after Send a).fates n ≡ Some (fate.Sent a.unit (length (a.sent a.unit))))
sent-is a n hand = subst (λ (o : Option ℕ). (slice_get ((sent_from_hand o a).sent a.unit) (length (a.sent a.unit)) ≡ Some n) × ((sent_from_hand o a).fates n ≡ Some (fate.Sent a.unit (length (a.sent a.unit))))) (sym hand) (
  at-cases (λ (xs : List ℕ). slice_get xs (length (a.sent a.unit)) ≡ Some n) a.unit a.unit (a.sent a.unit ++ n ∷ []) a.sent (λ same. get-push-new (a.sent a.unit) n) (λ other. absurd (other refl)),
  at-cases (λ (o : Option Fate). o ≡ Some (fate.Sent a.unit (length (a.sent a.unit)))) n n (Some (fate.Sent a.unit (length (a.sent a.unit)))) a.fates (λ same. refl) (λ other. absurd (other refl)),
)

-- UNIT AND DEACTIVATION

pub unit-cases : (e : Event) (a : Account) → ((after e a).unit ≡ a.unit) ⊎ ((u : ℕ) × (e ≡ Swap u))
unit-cases (Swap u) a = inr (u, refl)
unit-cases Send a = inl (go a.hand)
  where
    go : (o : Option ℕ) → (sent_from_hand o a).unit ≡ a.unit
    go None = refl
    go (Some m) = refl
unit-cases e a = inl refl

pub down-cases : (e : Event) (a : Account) (event : ℕ) → (after e a).down ≡ Some event → (a.down ≡ Some event) ⊎ (e ≡ Down event)
down-cases (Down k) a event h = inr (ap Down (same_Some k event h))
down-cases Up a event h = absurd cc
down-cases Send a event h = inl (go a.hand h)
  where
    go : (o : Option ℕ) → (sent_from_hand o a).down ≡ Some event → a.down ≡ Some event
    go None h = h
    go (Some m) h = h
down-cases e a event h = inl h

pub len-cases : (e : Event) (a : Account) → ((after e a).len ≡ a.len) ⊎ ((len : ℕ) × (event : ℕ) × (e ≡ Resize len event))
len-cases (Resize len event) a = inr (len, event, refl)
len-cases Send a = inl (go a.hand)
  where
    go : (o : Option ℕ) → (sent_from_hand o a).len ≡ a.len
    go None = refl
    go (Some m) = refl
len-cases e a = inl refl
