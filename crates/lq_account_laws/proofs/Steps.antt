-- A station on its way through the packets makes one more event, or several.
use Rattle.std.proofs.Common.{◌≡◌, ◌≢◌, ℕ, zero, suc, ◌+◌, ◌-◌, ◌<◌, true, List, [], ◌∷◌, ◌++◌, ◌⊎◌, inl, inr, length, Some, None, Contains, slice_get, refl, sym, ap, ap₂, subst, ◌∙◌, arith, length-append}
use Rattle.std.specs.Prelude.{slice_index}
use Rattle.std.specs.List.{cons_option}
use Rattle.std.proofs.lemmas.Bool.{cases_lt, cases_eq}
use Rattle.lq_model.specs.Band.{MayBeFull}
use Rattle.lq_model.specs.Account.{Account, Event, Join, Full, Empty, Take, Pick, Direct, Send, Back, Stop, Wake, Purge, held, held_in, is_hung, after, sent_from_hand}
use Rattle.lq_model.specs.Alone.{answered, next_taken, hung_up_to}
use Rattle.lq_model.specs.Legal.{IsQueueSentOn, MayCome, IsPlanned, IsInTurn, IsNew, MayTake, brought, brought_by, was_empty}
use Rattle.lq_model.specs.Plan.{Plan, station_in, band_in, queue_in}
use Rattle.lq_model.specs.declared.device.Tx.{Tx}
use Rattle.lq_model.specs.declared.device.Tx.TheVariants.{Sent, SentStop, SentHang, Busy}
use Rattle.lq_model.specs.declared.fate.Cause.TheVariants.{Hung}
use Rattle.lq_model.specs.declared.fate.Info.{Info}
use Rattle.lq_account_laws.specs.Progress.{IsAt, start_of}
use Rattle.lq_account_laws.proofs.Answers.{with_at_same}
use Rattle.lq_account_laws.proofs.Brought.{only_brought}
use Rattle.lq_account_laws.proofs.Lists.{none-in, there-in, cons-in}
use Rattle.lq_account_laws.proofs.Taken.{IsTurn, picks, takes_0, takes_1, takes_2, turn_of, slot_none}
use Rattle.lq_account_laws.proofs.Legal.{IsLegalNext, legal-more}

-- ONE MORE EVENT

-- an event that brings no packet
abbrev more : {plan : Plan} {infos : List Info} {station n : ℕ} {a : Account} (event : Event) (h : IsAt plan infos station n a)
    → brought event ≡ None → IsLegalNext plan infos station h.past a event → IsAt plan infos station n (after event a)
more {plan = plan} {infos = infos} {station = station} event h none next = record {
  past = event ∷ h.past;
  legal = legal-more h.legal (subst (λ b. IsLegalNext plan infos station h.past b event) h.account next);
  account = ap (after event) h.account;
  came = λ m below at. subst (λ o. Contains (cons_option o (brought_by h.past)) m) (sym none) (h.came m below at);
  below = λ m in_it. h.below m (subst (λ o. Contains (cons_option o (brought_by h.past)) m) none in_it);
}

-- the packet n is brought
came-next : (xs : List ℕ) (n m : ℕ) → (m < n → Contains xs m) → m < n + 1 → Contains (n ∷ xs) m
came-next xs n m old below = elim (cases_lt m n) [
  | inl lower ↦ there-in n xs m (old lower)
  | inr higher ↦ (0, omega arith, omega arith)
]

below-next : (xs : List ℕ) (n m : ℕ) → (Contains xs m → m < n) → Contains (n ∷ xs) m → m < n + 1
below-next xs n m old in_it = elim (cons-in n xs m in_it) [
  | inl first ↦ omega arith
  | inr rest ↦ (let l : m < n = old rest in omega arith)
]

abbrev brings : {plan : Plan} {infos : List Info} {station n : ℕ} {a : Account} (event : Event) (h : IsAt plan infos station n a)
    → brought event ≡ Some n → MayCome infos station h.past a event → IsPlanned plan station h.past a event → IsAt plan infos station (n + 1) (after event a)
brings {plan = plan} {infos = infos} {station = station} {n = n} {a = a} event h some may planned = record {
  past = event ∷ h.past;
  legal = legal-more h.legal (subst (λ b. IsLegalNext plan infos station h.past b event) h.account next);
  account = ap (after event) h.account;
  came = λ m below at. subst (λ o. Contains (cons_option o (brought_by h.past)) m) (sym some) (came-next (brought_by h.past) n m (λ lower. h.came m lower at) below);
  below = λ m in_it. below-next (brought_by h.past) n m (h.below m) (subst (λ o. Contains (cons_option o (brought_by h.past)) m) some in_it);
}
  where
    next : IsLegalNext plan infos station h.past a event
    next = record {
      may_come = may;
      planned = planned;
      in_turn = subst (IsInTurn infos h.past) (sym some) (λ m came same. h.below m came);
    }

-- a packet that was not brought is new
new : {plan : Plan} {infos : List Info} {station n : ℕ} {a : Account} → n < length infos → station_in infos n ≡ station → IsAt plan infos station n a → IsNew infos station a n
new {plan = plan} {infos = infos} {station = station} {n = n} {a = a} within at h =
    let none = only_brought plan infos station h.past a h.legal h.account n (λ came. (let below : n < n = h.below n came in omega arith)) in
    record { is_packet = within; of_station = at; no_fate = none.0; not_held = none.1.0; not_in_hand = none.1.1 }

-- it begins before packet 0
pub at_start : (plan : Plan) (infos : List Info) (station : ℕ) → IsAt plan infos station 0 (start_of plan station)
at_start plan infos station = record {
  past = [];
  legal = record { comes = tt; planned = tt };
  account = refl;
  came = λ m below at. absurd (omega arith);
  below = λ m in_it. absurd (omega arith);
}

-- PACKETS ARE BROUGHT

-- a packet of another station passes it by
pub at_other : {plan : Plan} {infos : List Info} {station n : ℕ} {a : Account} → station_in infos n ≢ station → IsAt plan infos station n a → IsAt plan infos station (n + 1) a
at_other {infos = infos} {station = station} {n = n} other h = record {
  past = h.past;
  legal = h.legal;
  account = h.account;
  came = λ m below at. h.came m (lower m below at (cases_eq m n)) at;
  below = λ m in_it. (let l : m < n = h.below m in_it in omega arith);
}
  where
    lower : (m : ℕ) → m < n + 1 → station_in infos m ≡ station → (m ≡ n) ⊎ (m ≢ n) → m < n
    lower m below at (inl same) = absurd (other (ap (station_in infos) (sym same) ∙ at))
    lower m below at (inr differs) = omega arith

pub at_join : {plan : Plan} {infos : List Info} {station n : ℕ} {a : Account} → n < length infos → station_in infos n ≡ station
    → length (held_in a (band_in infos n)) < a.len → IsAt plan infos station n a → IsAt plan infos station (n + 1) (after (Join n (band_in infos n)) a)
at_join {infos = infos} {n = n} within at room h = brings (Join n (band_in infos n)) h refl (record { new = new within at h; band_is = refl; has_room = room }) tt

pub at_full : {plan : Plan} {infos : List Info} {station n : ℕ} {a : Account} (seen : ℕ) → n < length infos → station_in infos n ≡ station
    → MayBeFull a.len (a.bands (band_in infos n)) seen → IsAt plan infos station n a → IsAt plan infos station (n + 1) (after (Full n seen) a)
at_full {n = n} seen within at full h = brings (Full n seen) h refl (record { new = new within at h; full = full }) tt

pub at_direct : {plan : Plan} {infos : List Info} {station n : ℕ} {a : Account} → n < length infos → station_in infos n ≡ station
    → a.hand ≡ None → held a ≡ [] → IsAt plan infos station n a → IsAt plan infos station (n + 1) (after (Direct n) a)
at_direct {n = n} {a = a} within at hand none h = brings (Direct n) h refl
    (record { new = new within at h; hand_empty = hand; slot_empty = slot_none a.slot _ none; none_held = λ m in_it same. none-in (held a) m none in_it })
    tt

-- THE HOLDER WORKS

-- a band is found empty, and nothing changes
abbrev finds-empty : {plan : Plan} {infos : List Info} {station n : ℕ} {a : Account} (band : ℕ) (h : IsAt plan infos station n a)
    → held_in a band ≡ [] → IsAt plan infos station n a
finds-empty band h none = more (Empty band) h refl (record { may_come = none; planned = tt; in_turn = tt })

at-turn : {plan : Plan} {infos : List Info} {station n : ℕ} {a : Account} {event : Event}
    → a.hand ≡ None → IsTurn a event → IsAt plan infos station n a → IsAt plan infos station n (after event a)
at-turn hand (picks n slot) h = more Pick h refl (record { may_come = (hand, (n, slot)); planned = tt; in_turn = tt })
at-turn {infos = infos} {station = station} {a = a} hand (takes_0 slot some) h = more (Take 0) h refl (record { may_come = may; planned = tt; in_turn = tt })
  where
    may : MayTake h.past a 0
    may = record { one_of_three = omega arith; hand_empty = hand; slot_empty = slot; something = some; lower_empty = λ b lower. absurd (omega arith) }
at-turn {infos = infos} {station = station} {a = a} hand (takes_1 slot empty_0 some) h =
    more (Take 1) (finds-empty 0 h empty_0) refl (record { may_come = may; planned = tt; in_turn = tt })
  where
    found : (b : ℕ) → b < 1 → was_empty b (Empty 0 ∷ h.past) ≡ true
    found zero lower = refl
    found (suc b) lower = absurd (omega arith)

    may : MayTake (Empty 0 ∷ h.past) a 1
    may = record { one_of_three = omega arith; hand_empty = hand; slot_empty = slot; something = some; lower_empty = found }
at-turn {infos = infos} {station = station} {a = a} hand (takes_2 slot empty_0 empty_1 some) h =
    more (Take 2) (finds-empty 1 (finds-empty 0 h empty_0) empty_1) refl (record { may_come = may; planned = tt; in_turn = tt })
  where
    found : (b : ℕ) → b < 2 → was_empty b (Empty 1 ∷ Empty 0 ∷ h.past) ≡ true
    found zero lower = refl
    found (suc zero) lower = refl
    found (suc (suc b)) lower = absurd (omega arith)

    may : MayTake (Empty 1 ∷ Empty 0 ∷ h.past) a 2
    may = record { one_of_three = omega arith; hand_empty = hand; slot_empty = slot; something = some; lower_empty = found }

-- the packet that is served next comes into the hand; the bands that are passed over are found empty
pub at_taken : {plan : Plan} {infos : List Info} {station n : ℕ} {a : Account} (event : Event)
    → a.hand ≡ None → next_taken a ≡ Some event → IsAt plan infos station n a → IsAt plan infos station n (after event a)
at_taken {a = a} event hand next h = at-turn hand (turn_of a event next) h

-- the packet in hand is laid into the requeue slot
pub at_back : {plan : Plan} {infos : List Info} {station n : ℕ} {a : Account} (m : ℕ)
    → a.hand ≡ Some m → a.slot ≡ None → IsAt plan infos station n a → IsAt plan infos station n (after Back a)
at_back m hand slot h = more Back h refl (record { may_come = ((m, hand), slot); planned = tt; in_turn = tt })

-- the packet in hand is sent
abbrev sends : {plan : Plan} {infos : List Info} {station n : ℕ} {a : Account} (m : ℕ) (h : IsAt plan infos station n a)
    → a.hand ≡ Some m → a.stops ≡ 0 ∷ [] → queue_in infos m ≡ 0 → IsAt plan infos station n (after Send a)
sends {infos = infos} {a = a} m h hand stops queue = more Send h refl (record { may_come = (m, hand, opened); planned = tt; in_turn = tt })
  where
    opened : slice_index a.stops (queue_in infos m) ≡ 0
    opened = ap₂ (λ stops queue. slice_index stops queue) stops queue

at-end : (xs : List ℕ) (m : ℕ) → slice_get (xs ++ m ∷ []) (length xs) ≡ Some m
at-end [] m = refl
at-end (x ∷ xs) m = at-end xs m

last-is : (xs : List ℕ) (m : ℕ) → slice_get (xs ++ m ∷ []) (length (xs ++ m ∷ []) - 1) ≡ Some m
last-is xs m = ap (slice_get (xs ++ m ∷ [])) (omega (arith, length-append xs (m ∷ []))) ∙ at-end xs m

-- the last that the unit sent is the packet that was in hand
pub sent_last : (infos : List Info) (a : Account) (m : ℕ) → a.hand ≡ Some m → queue_in infos m ≡ 0 → IsQueueSentOn infos (after Send a) 0
sent_last infos a m hand queue = subst (λ h. IsQueueSentOn infos (sent_from_hand h a) 0) (sym hand)
    (m, subst (λ sent. slice_get sent (length sent - 1) ≡ Some m) (sym (with_at_same a.unit (a.sent a.unit ++ m ∷ []) a.sent)) (last-is (a.sent a.unit) m), queue)

-- the device answers to the packet in hand, with one queue that is open
pub at_answer : {plan : Plan} {infos : List Info} {station n : ℕ} {a : Account} (answer : Tx) (m : ℕ)
    → a.hand ≡ Some m → a.slot ≡ None → a.stops ≡ 0 ∷ [] → queue_in infos m ≡ 0 → IsAt plan infos station n a → IsAt plan infos station n (answered answer 0 a)
at_answer Sent m hand slot stops queue h = sends m h hand stops queue
at_answer {infos = infos} {a = a} SentStop m hand slot stops queue h = more (Stop 0 1) (sends m h hand stops queue) refl
    (record { may_come = inl (refl, refl, sent_last infos a m hand queue); planned = tt; in_turn = tt })
at_answer {plan = plan} {infos = infos} {station = station} {n = n} {a = a} SentHang m hand slot stops queue h =
    subst (λ queues. IsAt plan infos station n (hung_up_to queues (after Send a))) (sym (ap length stops))
    (more (Stop 0 2) (sends m h hand stops queue) refl (record { may_come = inr (refl, refl); planned = tt; in_turn = tt }))
at_answer Busy m hand slot stops queue h = at_back m hand slot h

pub at_wake : {plan : Plan} {infos : List Info} {station n : ℕ} {a : Account} → a.stops ≡ 1 ∷ [] → IsAt plan infos station n a → IsAt plan infos station n (after (Wake 0) a)
at_wake stops h = more (Wake 0) h refl (record { may_come = ap (λ stops. slice_index stops 0) stops; planned = tt; in_turn = tt })

pub at_purge : {plan : Plan} {infos : List Info} {station n : ℕ} {a : Account}
    → a.hand ≡ None → is_hung a ≡ true → IsAt plan infos station n a → IsAt plan infos station n (after (Purge (Hung a.unit)) a)
at_purge {a = a} hand hung h = more (Purge (Hung a.unit)) h refl (record { may_come = (hand, (refl, hung)); planned = tt; in_turn = tt })
