-- The end of a station of the run of one sender: it is woken and served until it is done.
use Rattle.std.proofs.Common.{◌≡◌, ◌≢◌, ◌⊎◌, inl, inr, ℕ, zero, suc, ◌+◌, ◌<◌, ◌≤◌, ◌==◌, Bool, true, false, ◌&&◌, ◌||◌, List, [], ◌∷◌, length, Option, Some, None, is_some, is_none, option_to_list, if◌then◌else◌, refl, sym, ap, subst, ◌∙◌, arith, length-set, get_or-set_same, get_or-set_other}
use Rattle.std.specs.Prelude.{slice_index, slice_set}
use Rattle.std.specs.List.{list_all}
use Rattle.std.proofs.lemmas.Bool.{and_from, and_parts, cases_eq, cases_lt, cond-true, cond-false, eq-eqb, eqb-true, ne_eqb, or_right, or_parts, true≢false}
use Rattle.std.proofs.lemmas.List.{get_or_past}
use Rattle.lq_account_laws.proofs.EndRounds.{finished_round}
use Rattle.lq_account_laws.proofs.Taken.{IsInHand, held_none, in_hand, length_held, next_none, turn_of}
use Rattle.lq_account_laws.proofs.Turns.{served_left, served_open, turns_left, turns_none}
use Rattle.lq_model.specs.Account.{Account, Event, Wake, after, held, is_all_open, is_hung, is_open}
use Rattle.lq_model.specs.Alone.{RunningStation, cleaned, finished, is_done, next_taken, opened, opened_queue, opened_up_to, queue_in_hand, served, served_turns, turns_of}
use Rattle.lq_model.specs.declared.fate.Info.{Info}
use Rattle.lq_qdisc.specs.Stations.{AreStopValues, IsBetweenOffers, may_take}
use Rattle.lq_qdisc.proofs.AloneOffers.{HoldsSame}
use Rattle.lq_qdisc.proofs.AloneServed.{IsTurned, is_turned, laid_after, left_if, not_left, offered_on, served_none, turn_laid, turn_on}

-- STOP VALUES

-- every queue is open
abbrev pub AreOpen : List ℕ → Type 0
AreOpen stops = (queue : ℕ) → slice_index stops queue ≡ 0

pub all_of : (value : ℕ) (stops : List ℕ) → ((queue : ℕ) → queue < length stops → slice_index stops queue ≡ value) → list_all (λ stop. stop == value) stops ≡ true
all_of value [] each = refl
all_of value (stop ∷ stops) each = and_from (stop == value) _ (eq-eqb stop value (each 0 (omega arith))) (all_of value stops (λ queue below. each (suc queue) (omega arith)))

pub each_of : (value : ℕ) (stops : List ℕ) → list_all (λ stop. stop == value) stops ≡ true → (queue : ℕ) → queue < length stops → slice_index stops queue ≡ value
each_of value [] all queue below = absurd (omega arith)
each_of value (stop ∷ stops) all zero below = eqb-true stop value (and_parts (stop == value) _ all).0
each_of value (stop ∷ stops) all (suc queue) below = each_of value stops (and_parts (stop == value) _ all).1 queue (omega arith)

pub each_open : (stops : List ℕ) → ((queue : ℕ) → queue < length stops → slice_index stops queue ≡ 0) → AreOpen stops
each_open stops each queue = by_below (cases_lt queue (length stops))
  where
    by_below : (queue < length stops) ⊎ (length stops ≤ queue) → slice_index stops queue ≡ 0
    by_below (inl below) = each queue below
    by_below (inr past) = get_or_past stops queue 0 past

-- WAKES

opened_same : (queues : ℕ) (a : Account) → HoldsSame a (opened_up_to queues a) × ((opened_up_to queues a).hand ≡ a.hand)
opened_same zero a = (record { len = refl; bands = refl; slot = refl; down = refl; count = refl }, refl)
opened_same (suc queue) a = by_bool (slice_index (opened_up_to queue a).stops queue == 1) (opened_same queue a)
  where
    by_bool : (b : Bool) → HoldsSame a (opened_up_to queue a) × ((opened_up_to queue a).hand ≡ a.hand)
        → HoldsSame a (if b then after (Wake queue) (opened_up_to queue a) else opened_up_to queue a) × ((if b then after (Wake queue) (opened_up_to queue a) else opened_up_to queue a).hand ≡ a.hand)
    by_bool true h = (record { len = h.0.len; bands = h.0.bands; slot = h.0.slot; down = h.0.down; count = length-set (opened_up_to queue a).stops queue 0 ∙ h.0.count }, h.1)
    by_bool false h = h

-- queues that are open or stopped are open up to there
opened_low : (queues : ℕ) (a : Account) → ((q : ℕ) → slice_index a.stops q ≤ 1)
    → ((q : ℕ) → slice_index (opened_up_to queues a).stops q ≤ 1) × ((q : ℕ) → q < queues → slice_index (opened_up_to queues a).stops q ≡ 0)
opened_low zero a low = (low, λ q below. absurd (omega arith))
opened_low (suc queue) a low = by_value (opened_up_to queue a) (opened_low queue a low) (cases_eq (slice_index (opened_up_to queue a).stops queue) 1)
  where
    by_value : (b : Account) → ((q : ℕ) → slice_index b.stops q ≤ 1) × ((q : ℕ) → q < queue → slice_index b.stops q ≡ 0)
        → (slice_index b.stops queue ≡ 1) ⊎ (slice_index b.stops queue ≢ 1)
        → ((q : ℕ) → slice_index (opened_queue queue b).stops q ≤ 1) × ((q : ℕ) → q < suc queue → slice_index (opened_queue queue b).stops q ≡ 0)
    by_value b h (inr other) = subst (λ (c : Account). ((q : ℕ) → slice_index c.stops q ≤ 1) × ((q : ℕ) → q < suc queue → slice_index c.stops q ≡ 0)) (sym (cond-false _ _ _ (ne_eqb _ 1 other)))
        (h.0, λ q below. by_same q below (cases_eq q queue))
      where
        by_same : (q : ℕ) → q < suc queue → (q ≡ queue) ⊎ (q ≢ queue) → slice_index b.stops q ≡ 0
        by_same q below (inl same) = ap (λ (y : ℕ). slice_index b.stops y) same ∙ (let small = h.0 queue in omega arith)
        by_same q below (inr apart) = h.1 q (omega arith)
    by_value b h (inl one) = subst (λ (c : Account). ((q : ℕ) → slice_index c.stops q ≤ 1) × ((q : ℕ) → q < suc queue → slice_index c.stops q ≡ 0)) (sym (cond-true _ _ _ (eq-eqb _ 1 one)))
        ((λ q. small q (cases_eq q queue)), λ q below. by_same q below (cases_eq q queue))
      where
        inside : queue < length b.stops
        inside = by_below (cases_lt queue (length b.stops))
          where
            by_below : (queue < length b.stops) ⊎ (length b.stops ≤ queue) → queue < length b.stops
            by_below (inl below) = below
            by_below (inr past) = let none : slice_index b.stops queue ≡ 0 = get_or_past b.stops queue 0 past in absurd (omega (arith, one))

        by_same : (q : ℕ) → q < suc queue → (q ≡ queue) ⊎ (q ≢ queue) → slice_index (slice_set b.stops queue 0) q ≡ 0
        by_same q below (inl same) = ap (λ (y : ℕ). slice_index (slice_set b.stops queue 0) y) same ∙ get_or-set_same b.stops queue 0 0 inside
        by_same q below (inr apart) = get_or-set_other b.stops queue q 0 0 apart ∙ h.1 q (omega arith)

        small : (q : ℕ) → (q ≡ queue) ⊎ (q ≢ queue) → slice_index (slice_set b.stops queue 0) q ≤ 1
        small q (inl same) = let at_0 : slice_index (slice_set b.stops queue 0) q ≡ 0 = ap (λ (y : ℕ). slice_index (slice_set b.stops queue 0) y) same ∙ get_or-set_same b.stops queue 0 0 inside in omega arith
        small q (inr apart) = subst (λ (x : ℕ). x ≤ 1) (sym (get_or-set_other b.stops queue q 0 0 apart)) (h.0 q)

-- nothing is woken where no queue is stopped
opened-none : (queues : ℕ) (a : Account) → ((q : ℕ) → slice_index a.stops q ≢ 1) → opened_up_to queues a ≡ a
opened-none zero a other = refl
opened-none (suc queue) a other = ap (opened_queue queue) (opened-none queue a other) ∙ cond-false _ _ _ (ne_eqb _ 1 (other queue))

pub opened_none : (s : RunningStation) → ((q : ℕ) → slice_index s.account.stops q ≢ 1) → opened s ≡ s
opened_none s other = ap (λ (a : Account). record s { account = a }) (opened-none (length s.account.stops) s.account other)

-- WHAT SERVING LEAVES

pub record IsServed (s t : RunningStation) : Type 0 where
  pub between : IsBetweenOffers t
  pub active : t.account.down ≡ None
  pub no_more : length (held t.account) ≤ length (held s.account)
  -- something that was held is sent, where every queue was open
  pub fewer : AreOpen s.account.stops → 0 < length (held s.account) → length (held t.account) < length (held s.account)

served-none : (s : RunningStation) → IsBetweenOffers s → s.account.down ≡ None → (AreOpen s.account.stops → 0 < length (held s.account) → ⊥) → IsServed s s
served-none s one active none = record { between = one; active = active; no_more = omega arith; fewer = λ opens some. absurd (none opens some) }

after-turn : (s t u : RunningStation) → IsTurned s t → IsServed t u → IsServed s u
after-turn s t u turned h = record { between = h.between; active = h.active; no_more = no_more turned.fewer; fewer = λ opens some. fewer opens some turned.fewer }
  where
    no_more : (length (held t.account) + 1 ≡ length (held s.account)) ⊎ ((length (held t.account) ≡ length (held s.account)) × (t.account.stops ≡ s.account.stops)) → length (held u.account) ≤ length (held s.account)
    no_more (inl one_less) = (let below = h.no_more in omega arith)
    no_more (inr same) = (let below = h.no_more in let equal = same.0 in omega arith)

    fewer : AreOpen s.account.stops → 0 < length (held s.account)
        → (length (held t.account) + 1 ≡ length (held s.account)) ⊎ ((length (held t.account) ≡ length (held s.account)) × (t.account.stops ≡ s.account.stops)) → length (held u.account) < length (held s.account)
    fewer opens some (inl one_less) = (let below = h.no_more in omega arith)
    fewer opens some (inr same) =
        let equal = same.0 in let below : length (held u.account) < length (held t.account) = h.fewer (subst AreOpen (sym same.1) opens) (omega arith) in omega arith

no-length : (xs : List ℕ) → xs ≡ [] → 0 < length xs → ⊥
no-length xs none some = let zero_long : length xs ≡ 0 = ap length none in omega arith

no-element : (xs : List ℕ) → length xs ≤ 0 → xs ≡ []
no-element [] none = refl
no-element (x ∷ xs) none = absurd (omega arith)

takes-open : (a : Account) → AreOpen a.stops → may_take a ≡ true
takes-open a opens = or_right _ (is_open a 0) (eq-eqb _ 0 (opens 0))

turns-serve : (infos : List Info) (turns : ℕ) (s : RunningStation) → turns ≡ turns_of s → IsBetweenOffers s → s.account.down ≡ None → IsServed s (served_turns infos turns s)
turns-serve infos zero s enough one active = served-none s one active (λ opens some. omega arith)
turns-serve infos (suc turns) s enough one active = by_take (λ t. turns-serve infos turns t) (may_take s.account) refl
  where
    On : Type 0
    On = (t : RunningStation) → turns ≡ turns_of t → IsBetweenOffers t → t.account.down ≡ None → IsServed t (served_turns infos turns t)

    by_open : On → (takes : may_take s.account ≡ true) (event : Event) → next_taken s.account ≡ Some event
        → (b : Bool) → is_open (after event s.account) (queue_in_hand infos (after event s.account)) ≡ b → IsServed s (served_turns infos (suc turns) s)
    by_open on takes event next true opens =
        let queue : ℕ = queue_in_hand infos (after event s.account) in
        let t = is_turned s event queue one next opens in
        subst (IsServed s) (sym (turn_on infos turns s event (not_left s.account active takes) next opens))
        (after-turn s (offered_on queue event s) _ t (on (offered_on queue event s) (let more = t.turns in omega arith) t.between (t.down ∙ active)))
    by_open on takes event next false closed =
        let h : IsInHand s.account (after event s.account) = in_hand (turn_of s.account event next) in
        subst (IsServed s) (sym (turn_laid infos turns s event (not_left s.account active takes) next closed)) (record {
          between = record {
            queues = subst (λ (xs : List ℕ). 0 < length xs) (sym h.stops) one.queues;
            known = subst AreStopValues (sym h.stops) one.known;
            hand = refl;
            busies = one.busies;
          };
          active = h.down ∙ active;
          no_more = no_more h;
          fewer = λ opens some. absurd (true≢false (sym (eq-eqb _ 0 (ap (λ (xs : List ℕ). slice_index xs (queue_in_hand infos (after event s.account))) h.stops ∙ opens (queue_in_hand infos (after event s.account)))) ∙ closed));
        })
      where
        no_more : IsInHand s.account (after event s.account) → length (held (laid_after event s.account)) ≤ length (held s.account)
        no_more h =
            let fewer = h.fewer in
            let slot : length (option_to_list (after event s.account).hand) ≡ 1 = ap (λ (o : Option ℕ). length (option_to_list o)) h.hand in
            let before : length (option_to_list (after event s.account).slot) ≡ 0 = ap (λ (o : Option ℕ). length (option_to_list o)) h.slot in
            omega (arith, length_held (after event s.account), length_held (laid_after event s.account))

    by_next : On → (takes : may_take s.account ≡ true) → (o : Option Event) → next_taken s.account ≡ o → IsServed s (served_turns infos (suc turns) s)
    by_next on takes None next = subst (IsServed s) (sym (turns_none infos (suc turns) s (held_none s.account next))) (served-none s one active (λ opens some. no-length _ (held_none s.account next) some))
    by_next on takes (Some event) next = by_open on takes event next (is_open (after event s.account) (queue_in_hand infos (after event s.account))) refl

    by_take : On → (b : Bool) → may_take s.account ≡ b → IsServed s (served_turns infos (suc turns) s)
    by_take on true e = by_next on e (next_taken s.account) refl
    by_take on false e = subst (IsServed s) (sym (turns_left infos (suc turns) s (left_if s.account e))) (served-none s one active (λ opens some. true≢false (sym (takes-open s.account opens) ∙ e)))

pub is_served : (infos : List Info) (s : RunningStation) → IsBetweenOffers s → s.account.down ≡ None → IsServed s (served infos s)
is_served infos s one active = by_take (may_take s.account) refl
  where
    cleaned-too : (t : RunningStation) → IsServed s t → IsServed s (cleaned t)
    cleaned-too t h = record {
      between = record { queues = h.between.queues; known = h.between.known; hand = h.between.hand; busies = h.between.busies };
      active = h.active;
      no_more = h.no_more;
      fewer = h.fewer;
    }

    by_take : (b : Bool) → may_take s.account ≡ b → IsServed s (served infos s)
    by_take true e = subst (IsServed s) (sym (served_open infos s (not_left s.account active e))) (cleaned-too (served_turns infos (turns_of s) s) (turns-serve infos (turns_of s) s refl one active))
    by_take false e = subst (IsServed s) (sym (served_left infos s (left_if s.account e))) (served-none s one active (λ opens some. true≢false (sym (takes-open s.account opens) ∙ e)))

-- ROUNDS

-- a station that isn't done is active, and each queue is open after a wake
pub record IsWoken (s t : RunningStation) : Type 0 where
  pub between : IsBetweenOffers t
  pub active : t.account.down ≡ None
  pub opens : AreOpen t.account.stops
  pub same : held t.account ≡ held s.account

none-of : {X : Type 0} (o : Option X) → is_some o ≡ false → o ≡ None
none-of None e = refl
none-of (Some x) e = absurd (true≢false e)

pub is_woken : (s : RunningStation) → IsBetweenOffers s → is_done s.account ≡ false → IsWoken s (opened s)
is_woken s one not_done = by_known one.known
  where
    parts : (is_some s.account.down ≡ false) × ((is_hung s.account || (is_all_open s.account && is_none (next_taken s.account))) ≡ false)
    parts = or_parts (is_some s.account.down) _ not_done

    by_known : AreStopValues s.account.stops → IsWoken s (opened s)
    by_known (inr hung) = absurd (true≢false (sym (all_of 2 s.account.stops hung) ∙ (or_parts (is_hung s.account) _ parts.1).0))
    by_known (inl low) =
        let h = opened_same (length s.account.stops) s.account in let values = opened_low (length s.account.stops) s.account low in record {
          between = record {
            queues = subst (λ (n : ℕ). 0 < n) (sym h.0.count) one.queues;
            known = inl values.0;
            hand = h.1 ∙ one.hand;
            busies = one.busies;
          };
          active = h.0.down ∙ none-of s.account.down parts.0;
          opens = each_open (opened s).account.stops (λ q below. values.1 q (let count : length (opened s).account.stops ≡ length s.account.stops = h.0.count in omega arith));
          same = λ j. held (record s.account { slot = h.0.slot j; bands = h.0.bands j });
        }

-- a station that holds nothing is done, where every queue is open
done-open : (a : Account) → AreOpen a.stops → held a ≡ [] → is_done a ≡ true
done-open a opens none =
    or_right (is_some a.down) _ (or_right (is_hung a) _ (and_from (is_all_open a) _ (all_of 0 a.stops (λ q below. opens q)) (ap is_none (next_none a none))))

-- what a round leaves: less is held, or the station is done
pub record IsRound (s t : RunningStation) : Type 0 where
  pub between : IsBetweenOffers t
  pub active : t.account.down ≡ None
  pub fewer : (length (held t.account) < length (held s.account)) ⊎ (is_done t.account ≡ true)

module _ (infos : List Info) where
  pub is_round : (s : RunningStation) → IsBetweenOffers s → is_done s.account ≡ false → IsRound s (served infos (opened s))
  is_round s one not_done = record { between = after_it.between; active = after_it.active; fewer = fewer (cases_lt 0 (length (held (opened s).account))) }
    where
      woken : IsWoken s (opened s)
      woken = is_woken s one not_done

      after_it : IsServed (opened s) (served infos (opened s))
      after_it = is_served infos (opened s) woken.between woken.active

      same_length : length (held (opened s).account) ≡ length (held s.account)
      same_length = ap length woken.same

      stays : held (opened s).account ≡ [] → served infos (opened s) ≡ cleaned (opened s)
      stays none = served_none infos (opened s) (not_left (opened s).account woken.active (takes-open (opened s).account woken.opens)) none

      fewer : (0 < length (held (opened s).account)) ⊎ (length (held (opened s).account) ≤ 0)
          → (length (held (served infos (opened s)).account) < length (held s.account)) ⊎ (is_done (served infos (opened s)).account ≡ true)
      fewer (inl some) = inl (let below : length (held (served infos (opened s)).account) < length (held (opened s).account) = after_it.fewer woken.opens some in omega (arith, same_length))
      fewer (inr none) = let nothing = no-element _ none in inr (ap (λ (t : RunningStation). is_done t.account) (stays nothing) ∙ done-open (opened s).account woken.opens nothing)

  -- a station that isn't done is finished as it is after a round
  pub finished_next : (s : RunningStation) → IsBetweenOffers s → is_done s.account ≡ false → finished infos s ≡ finished infos (served infos (opened s))
  finished_next = finished_round infos IsBetweenOffers (λ s one not_done. let round = is_round s one not_done in (round.between, round.fewer))
