-- What an answer of the device leaves of the account, with one queue or several.
use Rattle.std.proofs.Common.{◌≡◌, ◌≢◌, ◌⊎◌, inl, inr, ℕ, zero, suc, ◌+◌, ◌<◌, ◌≤◌, true, List, [], ◌∷◌, length, Option, Some, None, option_to_list, refl, sym, ap, ap₂, ◌∙◌, subst, arith, length-set, get_or-set_same, get_or-set_other}
use Rattle.std.specs.Prelude.{slice_index, slice_set}
use Rattle.std.proofs.lemmas.Bool.{cases_eq, cases_lt}
use Rattle.std.proofs.lemmas.List.{length-map, set_past}
use Rattle.lq_account_laws.proofs.Answers.{slot_after}
use Rattle.lq_account_laws.proofs.Taken.{length_held}
use Rattle.lq_model.specs.Account.{Account, Event, Join, Full, Refuse, Empty, Take, Pick, Direct, Send, Back, Stop, Wake, Resize, Down, Purge, Swap, Up, after, after_all, held, sent_from_hand}
use Rattle.lq_model.specs.Alone.{answered, hung_up_to}
use Rattle.lq_model.specs.Band.{held_of}
use Rattle.lq_model.specs.Device.{is_busy}
use Rattle.lq_model.specs.declared.device.Tx.{Tx}
use Rattle.lq_model.specs.declared.device.Tx.TheVariants.{Sent, SentStop, SentHang, Busy}
use Rattle.lq_qdisc.specs.Stations.{AreStopValues}

-- STOP VALUES

-- a queue is open or stopped now, which wasn't hung
pub stops_set : (stops : List ℕ) (queue value : ℕ) → AreStopValues stops → slice_index stops queue ≤ 1 → value ≤ 1 → AreStopValues (slice_set stops queue value)
stops_set stops queue value (inl low) here small = inl each
  where
    each : (q : ℕ) → slice_index (slice_set stops queue value) q ≤ 1
    each q = by_same (cases_eq q queue) (cases_lt queue (length stops))
      where
        by_same : (q ≡ queue) ⊎ (q ≢ queue) → (queue < length stops) ⊎ (length stops ≤ queue) → slice_index (slice_set stops queue value) q ≤ 1
        by_same (inl same) (inl below) = subst (λ (x : ℕ). x ≤ 1) (sym (ap (λ (y : ℕ). slice_index (slice_set stops queue value) y) same ∙ get_or-set_same stops queue value 0 below)) small
        by_same (inl same) (inr past) = subst (λ (xs : List ℕ). slice_index xs q ≤ 1) (sym (set_past stops queue value past)) (low q)
        by_same (inr other) below = subst (λ (x : ℕ). x ≤ 1) (sym (get_or-set_other stops queue q value 0 other)) (low q)
stops_set stops queue value (inr hung) here small = by_below (cases_lt queue (length stops))
  where
    by_below : (queue < length stops) ⊎ (length stops ≤ queue) → AreStopValues (slice_set stops queue value)
    by_below (inl below) = absurd (let two = hung queue below in omega arith)
    by_below (inr past) = inr (subst (λ (xs : List ℕ). (q : ℕ) → q < length xs → slice_index xs q ≡ 2) (sym (set_past stops queue value past)) hung)

-- PARTS OF THE ACCOUNT

-- all but the stop values and what is in hand, sent and settled is as it was
pub record HoldsSame (a b : Account) : Type 0 where
  pub len : b.len ≡ a.len
  pub bands : b.bands ≡ a.bands
  pub slot : b.slot ≡ a.slot
  pub down : b.down ≡ a.down
  pub count : length b.stops ≡ length a.stops

pub sent_same : (hand : Option ℕ) (a : Account) → HoldsSame a (sent_from_hand hand a) × ((sent_from_hand hand a).stops ≡ a.stops)
sent_same None a = (record { len = refl; bands = refl; slot = refl; down = refl; count = refl }, refl)
sent_same (Some n) a = (record { len = refl; bands = refl; slot = refl; down = refl; count = refl }, refl)

sent_hand : (hand : Option ℕ) (m : ℕ) (a : Account) → hand ≡ Some m → (sent_from_hand hand a).hand ≡ None
sent_hand (Some n) m a e = refl
sent_hand None m a e = cc

pub hung_same : (n : ℕ) (a : Account) → HoldsSame a (hung_up_to n a) × ((hung_up_to n a).hand ≡ a.hand)
hung_same zero a = (record { len = refl; bands = refl; slot = refl; down = refl; count = refl }, refl)
hung_same (suc n) a =
    let h = hung_same n a in
    (record { len = h.0.len; bands = h.0.bands; slot = h.0.slot; down = h.0.down; count = length-set (hung_up_to n a).stops n 2 ∙ h.0.count }, h.1)

hung_at : (n : ℕ) (a : Account) (q : ℕ) → q < n → n ≤ length a.stops → slice_index (hung_up_to n a).stops q ≡ 2
hung_at zero a q below within = absurd (omega arith)
hung_at (suc n) a q below within = by_same (λ lower. hung_at n a q lower (omega arith)) (cases_eq q n)
  where
    inside : n < length (hung_up_to n a).stops
    inside = let count : length (hung_up_to n a).stops ≡ length a.stops = (hung_same n a).0.count in omega arith

    by_same : (q < n → slice_index (hung_up_to n a).stops q ≡ 2) → (q ≡ n) ⊎ (q ≢ n) → slice_index (slice_set (hung_up_to n a).stops n 2) q ≡ 2
    by_same lower (inl same) = ap (λ (y : ℕ). slice_index (slice_set (hung_up_to n a).stops n 2) y) same ∙ get_or-set_same (hung_up_to n a).stops n 2 0 inside
    by_same lower (inr other) = get_or-set_other (hung_up_to n a).stops n q 2 0 other ∙ lower (omega arith)

-- no event changes how many queues there are
count_after : (e : Event) (a : Account) → length (after e a).stops ≡ length a.stops
count_after (Join n band) a = refl
count_after (Full n seen) a = refl
count_after (Refuse n event) a = refl
count_after (Empty band) a = refl
count_after (Take band) a = refl
count_after Pick a = refl
count_after (Direct n) a = refl
count_after Send a = (sent_same a.hand a).0.count
count_after Back a = refl
count_after (Stop queue value) a = length-set a.stops queue value
count_after (Wake queue) a = length-set a.stops queue 0
count_after (Resize len event) a = refl
count_after (Down event) a = refl
count_after (Purge cause) a = refl
count_after (Swap unit) a = length-map a.stops (λ (_ : ℕ). 0)
count_after Up a = refl

pub count_all : (start : Account) (past : List Event) → length (after_all start past).stops ≡ length start.stops
count_all start [] = refl
count_all start (e ∷ past) = count_after e (after_all start past) ∙ count_all start past

-- ANSWERS

-- The packet m was in hand. It is sent, or lies in the requeue slot.
pub record IsOffered (answer : Tx) (m : ℕ) (a b : Account) : Type 0 where
  pub bands : b.bands ≡ a.bands
  pub slot : b.slot ≡ slot_after answer m
  pub hand : b.hand ≡ None
  pub down : b.down ≡ a.down
  pub count : length b.stops ≡ length a.stops
  pub known : AreStopValues b.stops
  -- an answer Busy stops no queue
  pub busy : is_busy answer ≡ true → b.stops ≡ a.stops

pub is_offered : (answer : Tx) (queue m : ℕ) (a : Account) → a.hand ≡ Some m → a.slot ≡ None → AreStopValues a.stops → slice_index a.stops queue ≡ 0 → IsOffered answer m a (answered answer queue a)
is_offered Sent queue m a hand empty known opens = let s = sent_same a.hand a in record {
  bands = s.0.bands;
  slot = s.0.slot ∙ empty;
  hand = sent_hand a.hand m a hand;
  down = s.0.down;
  count = s.0.count;
  known = subst AreStopValues (sym s.1) known;
  busy = λ e. cc;
}
is_offered SentStop queue m a hand empty known opens = let s = sent_same a.hand a in record {
  bands = s.0.bands;
  slot = s.0.slot ∙ empty;
  hand = sent_hand a.hand m a hand;
  down = s.0.down;
  count = length-set (after Send a).stops queue 1 ∙ s.0.count;
  known = subst (λ (xs : List ℕ). AreStopValues (slice_set xs queue 1)) (sym s.1) (stops_set a.stops queue 1 known (omega arith) (omega arith));
  busy = λ e. cc;
}
is_offered SentHang queue m a hand empty known opens =
    let s = sent_same a.hand a in let h = hung_same (length a.stops) (after Send a) in record {
      bands = h.0.bands ∙ s.0.bands;
      slot = h.0.slot ∙ (s.0.slot ∙ empty);
      hand = h.1 ∙ sent_hand a.hand m a hand;
      down = h.0.down ∙ s.0.down;
      count = h.0.count ∙ s.0.count;
      known = inr (λ q below. hung_at (length a.stops) (after Send a) q
          (let count : length (hung_up_to (length a.stops) (after Send a)).stops ≡ length a.stops = h.0.count ∙ s.0.count in omega arith)
          (let count : length (after Send a).stops ≡ length a.stops = s.0.count in omega arith));
      busy = λ e. cc;
    }
is_offered Busy queue m a hand empty known opens = record { bands = refl; slot = hand; hand = refl; down = refl; count = refl; known = known; busy = λ e. refl }

pub held_offered : (answer : Tx) (m : ℕ) (a b : Account) → a.slot ≡ None → IsOffered answer m a b → length (held b) ≡ length (option_to_list (slot_after answer m)) + length (held a)
held_offered answer m a b empty h =
    let now : length (held b) ≡ length (option_to_list (slot_after answer m)) + (length (held_of (a.bands 0)) + (length (held_of (a.bands 1)) + length (held_of (a.bands 2))))
    = length_held b ∙ ap₂ (λ slot bands. length (option_to_list slot) + (length (held_of (bands 0)) + (length (held_of (bands 1)) + length (held_of (bands 2))))) h.slot h.bands in
    let before : length (option_to_list a.slot) ≡ 0 = ap (λ slot. length (option_to_list slot)) empty in
    omega (arith, length_held a)
