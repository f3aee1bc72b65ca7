-- What serving makes of a station, with one queue or several.
use Rattle.std.proofs.Common.{◌≡◌, ◌⊎◌, inl, inr, ℕ, zero, suc, ◌+◌, ◌-◌, ◌<◌, Bool, true, false, not, ◌&&◌, ◌||◌, List, [], ◌∷◌, length, Option, Some, None, is_some, is_none, option_to_list, if◌then◌else◌, refl, sym, ap, ◌∙◌, subst, arith, add-one}
use Rattle.std.specs.Option.{option_map_or}
use Rattle.std.proofs.lemmas.Bool.{cond-true, cond-false, eqb-true, true≢false}
use Rattle.lq_account_laws.proofs.Answers.{slot_after}
use Rattle.lq_account_laws.proofs.Taken.{IsInHand, held_none, in_hand, picks, turn_of}
use Rattle.lq_account_laws.proofs.Turns.{busy_answer, served_left, served_open, turns_left, turns_none}
use Rattle.lq_model.specs.Account.{Account, Event, Back, Pick, after, held, is_open, is_shared}
use Rattle.lq_model.specs.Alone.{RunningStation, answered, cleaned, is_clean, is_left, next_answer, next_taken, offered, queue_in_hand, taken_served, served, served_turns, turns_of}
use Rattle.lq_model.specs.Device.{is_busy, told_after}
use Rattle.lq_model.specs.Plan.{queue_in}
use Rattle.lq_model.specs.declared.device.Tx.{Tx}
use Rattle.lq_model.specs.declared.device.Tx.TheVariants.{Sent, SentStop, SentHang, Busy}
use Rattle.lq_model.specs.declared.fate.Info.{Info}
use Rattle.lq_qdisc.specs.Stations.{AreStopValues, IsBetweenOffers, dirty, may_take}
use Rattle.lq_qdisc.proofs.AloneOffers.{IsOffered, held_offered, is_offered}

abbrev with_clean : Bool → RunningStation → RunningStation
with_clean b s = record s { clean = b }

-- WHICH STATIONS ARE SERVED

pub taken_if : (a : Account) → a.down ≡ None → is_left a ≡ not (may_take a)
taken_if a active = ap (λ (o : Option ℕ). is_some o || (not (is_shared a) && not (is_open a 0))) active ∙ neither (is_shared a) (is_open a 0)
  where
    neither : (x y : Bool) → (false || (not x && not y)) ≡ not (x || y)
    neither true y = refl
    neither false y = refl

pub not_left : (a : Account) → a.down ≡ None → may_take a ≡ true → is_left a ≡ false
not_left a active takes = taken_if a active ∙ ap not takes

pub left_if : (a : Account) → may_take a ≡ false → is_left a ≡ true
left_if a shut = neither (is_some a.down) (is_shared a) (is_open a 0) shut
  where
    neither : (d x y : Bool) → (x || y) ≡ false → (d || (not x && not y)) ≡ true
    neither true x y shut = refl
    neither false true y shut = absurd (true≢false shut)
    neither false false true shut = absurd (true≢false shut)
    neither false false false shut = refl

-- after serving, the next packet may go past the bands where nothing is held, and not where none may be taken
pub clean_none : (a : Account) → may_take a ≡ true → next_taken a ≡ None → is_clean a ≡ true
clean_none a takes none = ap (λ (o : Option Event). if is_shared a then is_none o else is_open a 0) none ∙ either (is_shared a) (is_open a 0) takes
  where
    either : (x y : Bool) → (x || y) ≡ true → (if x then true else y) ≡ true
    either true y takes = refl
    either false y takes = takes

clean_left : (a : Account) → may_take a ≡ false → is_clean a ≡ false
clean_left a shut = neither (is_shared a) (is_open a 0) (is_none (next_taken a)) shut
  where
    neither : (x y z : Bool) → (x || y) ≡ false → (if x then z else y) ≡ false
    neither true y z shut = absurd (true≢false shut)
    neither false y z shut = shut

-- `clean` is no part of what is served
module _ (infos : List Info) (b : Bool) where
  turns-with : (turns : ℕ) (s : RunningStation) → served_turns infos turns (with_clean b s) ≡ with_clean b (served_turns infos turns s)
  turns-with zero s = refl
  turns-with (suc turns) s = by_left (turns-with turns) (is_left s.account)
    where
      On : Type 0
      On = (t : RunningStation) → served_turns infos turns (with_clean b t) ≡ with_clean b (served_turns infos turns t)

      by_open : On → (q : ℕ) (t : RunningStation) (opens : Bool)
          → (if opens then served_turns infos turns (offered q (with_clean b t)) else record (with_clean b t) { account = after Back t.account })
          ≡ with_clean b (if opens then served_turns infos turns (offered q t) else record t { account = after Back t.account })
      by_open on q t true = on (offered q t)
      by_open on q t false = refl

      by_next : On → (o : Option Event) → taken_served infos (served_turns infos turns) o (with_clean b s) ≡ with_clean b (taken_served infos (served_turns infos turns) o s)
      by_next on None = refl
      by_next on (Some event) = by_open on (queue_in_hand infos (after event s.account)) (record s { account = after event s.account }) (is_open (after event s.account) (queue_in_hand infos (after event s.account)))

      by_left : On → (left : Bool)
          → (if left then with_clean b s else taken_served infos (served_turns infos turns) (next_taken s.account) (with_clean b s))
          ≡ with_clean b (if left then s else taken_served infos (served_turns infos turns) (next_taken s.account) s)
      by_left on true = refl
      by_left on false = by_next on (next_taken s.account)

-- a station that is served
pub dirty_open : (infos : List Info) (s : RunningStation) → is_left s.account ≡ false → served infos (dirty s) ≡ served infos s
dirty_open infos s opens =
    served_open infos (dirty s) opens ∙ (ap cleaned (turns-with infos false (turns_of s) s) ∙ sym (served_open infos s opens))

-- a station that holds nothing is as it was, where it may let packets go past the bands
pub served_none : (infos : List Info) (s : RunningStation) → is_left s.account ≡ false → held s.account ≡ [] → served infos s ≡ cleaned s
served_none infos s opens none = served_open infos s opens ∙ ap cleaned (turns_none infos (turns_of s) s none)

-- ONE TURN

-- the next packet came into the hand, and was offered on this queue, or was laid into the requeue slot
abbrev pub offered_on : ℕ → Event → RunningStation → RunningStation
offered_on queue event s = offered queue (record s { account = after event s.account })

abbrev pub laid_after : Event → Account → Account
laid_after event a = after Back (after event a)

pub record IsTurned (s t : RunningStation) : Type 0 where
  pub between : IsBetweenOffers t
  pub down : t.account.down ≡ s.account.down
  pub turns : turns_of t + 1 ≡ turns_of s
  -- a packet less is held, or just as many are, and no queue was stopped
  pub fewer : (length (held t.account) + 1 ≡ length (held s.account)) ⊎ ((length (held t.account) ≡ length (held s.account)) × (t.account.stops ≡ s.account.stops))

turned-parts : (answer : Tx) (m : ℕ) (s : RunningStation) (a b : Account) → IsBetweenOffers s → IsInHand s.account a → IsOffered answer m a b
    → length (held b) ≡ length (option_to_list (slot_after answer m)) + length (held a)
    → (is_busy answer ≡ true → s.device.busies < s.device.params.busy_limit)
    → IsTurned s (record { account = b; clean = s.clean; device = told_after answer s.device })
turned-parts Sent m s a b one h h2 len limit = record {
  between = record { queues = subst (λ (n : ℕ). 0 < n) (sym (h2.count ∙ ap (λ (xs : List ℕ). length xs) h.stops)) one.queues; known = h2.known; hand = h2.hand; busies = (let within = one.busies in omega arith) };
  down = h2.down ∙ h.down;
  turns = (let fewer = h.fewer in omega arith);
  fewer = inl (let fewer = h.fewer in omega arith);
}
turned-parts SentStop m s a b one h h2 len limit = record {
  between = record { queues = subst (λ (n : ℕ). 0 < n) (sym (h2.count ∙ ap (λ (xs : List ℕ). length xs) h.stops)) one.queues; known = h2.known; hand = h2.hand; busies = (let within = one.busies in omega arith) };
  down = h2.down ∙ h.down;
  turns = (let fewer = h.fewer in omega arith);
  fewer = inl (let fewer = h.fewer in omega arith);
}
turned-parts SentHang m s a b one h h2 len limit = record {
  between = record { queues = subst (λ (n : ℕ). 0 < n) (sym (h2.count ∙ ap (λ (xs : List ℕ). length xs) h.stops)) one.queues; known = h2.known; hand = h2.hand; busies = (let within = one.busies in omega arith) };
  down = h2.down ∙ h.down;
  turns = (let fewer = h.fewer in omega arith);
  fewer = inl (let fewer = h.fewer in omega arith);
}
turned-parts Busy m s a b one h h2 len limit = record {
  between = record { queues = subst (λ (n : ℕ). 0 < n) (sym (h2.count ∙ ap (λ (xs : List ℕ). length xs) h.stops)) one.queues; known = h2.known; hand = h2.hand; busies = (let below = limit refl in omega arith) };
  down = h2.down ∙ h.down;
  turns = (let fewer = h.fewer in let below = limit refl in omega arith);
  fewer = inr ((let fewer = h.fewer in omega arith), h2.busy refl ∙ h.stops);
}

pub is_turned : (s : RunningStation) (event : Event) (queue : ℕ) → IsBetweenOffers s → next_taken s.account ≡ Some event → is_open (after event s.account) queue ≡ true → IsTurned s (offered_on queue event s)
is_turned s event queue one next opens =
    let h : IsInHand s.account (after event s.account) = in_hand (turn_of s.account event next) in
    let answer : Tx = next_answer (record s { account = after event s.account }) in
    let h2 : IsOffered answer h.packet (after event s.account) (answered answer queue (after event s.account))
    = is_offered answer queue h.packet (after event s.account) h.hand h.slot (subst AreStopValues (sym h.stops) one.known) (eqb-true _ 0 opens) in
    turned-parts answer h.packet s (after event s.account) _ one h h2 (held_offered answer h.packet _ _ h.slot h2) (busy_answer s.device _)

-- what a turn makes of the turns that are left
module _ (infos : List Info) (turns : ℕ) (s : RunningStation) (event : Event) (takes : is_left s.account ≡ false) (next : next_taken s.account ≡ Some event) where
  pub turn_on : is_open (after event s.account) (queue_in_hand infos (after event s.account)) ≡ true
      → served_turns infos (suc turns) s ≡ served_turns infos turns (offered_on (queue_in_hand infos (after event s.account)) event s)
  turn_on opens = cond-false _ _ _ takes ∙ (ap (λ o. taken_served infos (served_turns infos turns) o s) next ∙ cond-true _ _ _ opens)

  pub turn_laid : is_open (after event s.account) (queue_in_hand infos (after event s.account)) ≡ false
      → served_turns infos (suc turns) s ≡ record s { account = laid_after event s.account }
  turn_laid closed = cond-false _ _ _ takes ∙ (ap (λ o. taken_served infos (served_turns infos turns) o s) next ∙ cond-false _ _ _ closed)

-- A turn is passed over.
module _ (infos : List Info) (s : RunningStation) (event : Event) (one : IsBetweenOffers s) (active : s.account.down ≡ None) (takes : may_take s.account ≡ true) (next : next_taken s.account ≡ Some event) where
  opens-now : is_left s.account ≡ false
  opens-now = not_left s.account active takes

  pub dirty_turn : (queue : ℕ) → queue_in_hand infos (after event s.account) ≡ queue → is_open (after event s.account) queue ≡ true
      → served infos (dirty (offered_on queue event s)) ≡ served infos (dirty s)
  dirty_turn queue is opens = sym (at-once ∙ by_take (may_take (offered_on queue event s).account) refl)
    where
      t : IsTurned s (offered_on queue event s)
      t = is_turned s event queue one next opens

      at-once : served infos (dirty s) ≡ cleaned (served_turns infos (turns_of (offered_on queue event s)) (dirty (offered_on queue event s)))
      at-once =
          served_open infos (dirty s) opens-now
          ∙ (ap (λ (n : ℕ). cleaned (served_turns infos n (dirty s))) (sym t.turns ∙ add-one _)
          ∙ (ap cleaned (turn_on infos (turns_of (offered_on queue event s)) (dirty s) event opens-now next (ap (is_open (after event s.account)) is ∙ opens))
          ∙ ap (λ (q : ℕ). cleaned (served_turns infos (turns_of (offered_on queue event s)) (dirty (offered_on q event s)))) is))

      by_take : (b : Bool) → may_take (offered_on queue event s).account ≡ b
          → cleaned (served_turns infos (turns_of (offered_on queue event s)) (dirty (offered_on queue event s))) ≡ served infos (dirty (offered_on queue event s))
      by_take true e = sym (served_open infos (dirty (offered_on queue event s)) (not_left (offered_on queue event s).account (t.down ∙ active) e))
      by_take false e =
          let left = left_if (offered_on queue event s).account e in
          ap cleaned (turns_left infos (turns_of (offered_on queue event s)) (dirty (offered_on queue event s)) left)
          ∙ (ap (λ (b : Bool). record (offered_on queue event s) { clean = b }) (clean_left (offered_on queue event s).account e)
          ∙ sym (served_left infos (dirty (offered_on queue event s)) left))

-- THE PACKET IN THE REQUEUE SLOT WAITS

-- it is taken and laid back
module _ (infos : List Info) (s : RunningStation) (n : ℕ) (opens : is_left s.account ≡ false) (hand : s.account.hand ≡ None) (slot : s.account.slot ≡ Some n) (closed : is_open s.account (queue_in infos n) ≡ false) where
  pub served_waiting : served infos s ≡ cleaned s
  served_waiting =
      served_open infos s opens
      ∙ (ap (λ (m : ℕ). cleaned (served_turns infos m s)) more
      ∙ (ap cleaned (turn_laid infos (pred-turns) s Pick opens (ap (λ (o : Option ℕ). next_taken (record s.account { slot = o })) slot) (ap (λ (o : Option ℕ). is_open s.account (option_map_or (queue_in infos) o 0)) slot ∙ closed))
      ∙ ap (λ (h : Option ℕ). cleaned (record s { account = record s.account { hand = h } })) (sym hand)))
    where
      h : IsInHand s.account (after Pick s.account)
      h = in_hand (picks n slot)

      pred-turns : ℕ
      pred-turns = length (held (after Pick s.account)) + (s.device.params.busy_limit - s.device.busies)

      more : turns_of s ≡ suc pred-turns
      more = let fewer = h.fewer in omega arith

  -- so no packet may go past the bands of several queues
  pub waiting_clean : is_shared s.account ≡ true → is_clean s.account ≡ false
  waiting_clean shared =
      cond-true _ _ _ shared ∙ ap is_none (ap (λ (o : Option ℕ). next_taken (record s.account { slot = o })) slot)

-- A packet that was taken of a queue that isn't open.
module _ (infos : List Info) (s : RunningStation) (event : Event) (active : s.account.down ≡ None) (takes : may_take s.account ≡ true) (next : next_taken s.account ≡ Some event) where
  module _ (n : ℕ) (hand : (after event s.account).hand ≡ Some n) (closed : is_open (after event s.account) (queue_in infos n) ≡ false) where
    h : IsInHand s.account (after event s.account)
    h = in_hand (turn_of s.account event next)

    laid-opens : is_left (laid_after event s.account) ≡ false
    laid-opens = not_left (laid_after event s.account) (h.down ∙ active) (ap (λ (xs : List ℕ). may_take (record s.account { stops = xs })) h.stops ∙ takes)

    -- it goes no further
    pub laid_served : served infos (record s { account = laid_after event s.account }) ≡ cleaned (record s { account = laid_after event s.account })
    laid_served = served_waiting infos (record s { account = laid_after event s.account }) n laid-opens refl hand closed

    pub laid_turns : (turns : ℕ) → served_turns infos (suc turns) s ≡ record s { account = laid_after event s.account }
    laid_turns turns = turn_laid infos turns s event (not_left s.account active takes) next (ap (λ (o : Option ℕ). is_open (after event s.account) (option_map_or (queue_in infos) o 0)) hand ∙ closed)

    some-turns : (turns : ℕ) × (turns_of s ≡ suc turns)
    some-turns = (length (held (after event s.account)) + (s.device.params.busy_limit - s.device.busies), (let fewer = h.fewer in omega arith))

    pub dirty_laid : served infos (dirty (record s { account = laid_after event s.account })) ≡ served infos (dirty s)
    dirty_laid =
        dirty_open infos (record s { account = laid_after event s.account }) laid-opens
        ∙ (laid_served
        ∙ sym (dirty_open infos s (not_left s.account active takes) ∙ (served_open infos s (not_left s.account active takes)
        ∙ (ap (λ (m : ℕ). cleaned (served_turns infos m s)) some-turns.1 ∙ ap cleaned (laid_turns some-turns.0)))))

-- SERVED TWICE

abbrev IsRested : List Info → RunningStation → Type 0
IsRested infos s = served infos (cleaned s) ≡ cleaned s

rested-none : (infos : List Info) (s : RunningStation) → held s.account ≡ [] → IsRested infos s
rested-none infos s none = by_left (is_left s.account) refl
  where
    by_left : (b : Bool) → is_left s.account ≡ b → IsRested infos s
    by_left true e = served_left infos (cleaned s) e
    by_left false e = served_none infos (cleaned s) e none

-- served in so many turns, which are enough
rested : (infos : List Info) (turns : ℕ) (s : RunningStation) → turns ≡ turns_of s → IsBetweenOffers s → s.account.down ≡ None → IsRested infos (served_turns infos turns s)
rested infos zero s enough one active = rested-none infos s (none-of (held s.account) (omega arith))
  where
    none-of : (xs : List ℕ) → length xs ≡ 0 → xs ≡ []
    none-of [] e = refl
    none-of (x ∷ xs) e = absurd (omega arith)
rested infos (suc turns) s enough one active = by_take (λ t. rested infos turns t) (may_take s.account) refl
  where
    On : Type 0
    On = (t : RunningStation) → turns ≡ turns_of t → IsBetweenOffers t → t.account.down ≡ None → IsRested infos (served_turns infos turns t)

    by_open : On → (takes : may_take s.account ≡ true) (event : Event) → next_taken s.account ≡ Some event
        → (b : Bool) → is_open (after event s.account) (queue_in_hand infos (after event s.account)) ≡ b → IsRested infos (served_turns infos (suc turns) s)
    by_open on takes event next true opens =
        let queue : ℕ = queue_in_hand infos (after event s.account) in
        let t = is_turned s event queue one next opens in
        subst (IsRested infos) (sym (turn_on infos turns s event (not_left s.account active takes) next opens)) (on (offered_on queue event s) (let more = t.turns in omega arith) t.between (t.down ∙ active))
    by_open on takes event next false closed =
        let h = in_hand (turn_of s.account event next) in
        let shut = sym (ap (λ (o : Option ℕ). is_open (after event s.account) (option_map_or (queue_in infos) o 0)) h.hand) ∙ closed in
        subst (IsRested infos) (sym (laid_turns infos s event active takes next h.packet h.hand shut turns)) (
        served_waiting infos (cleaned (record s { account = laid_after event s.account })) h.packet
        (not_left (laid_after event s.account) (h.down ∙ active) (ap (λ (xs : List ℕ). may_take (record s.account { stops = xs })) h.stops ∙ takes)) refl h.hand shut
        )

    by_next : On → (takes : may_take s.account ≡ true) → (o : Option Event) → next_taken s.account ≡ o → IsRested infos (served_turns infos (suc turns) s)
    by_next on takes None next = subst (IsRested infos) (sym (turns_none infos (suc turns) s (held_none s.account next))) (rested-none infos s (held_none s.account next))
    by_next on takes (Some event) next = by_open on takes event next (is_open (after event s.account) (queue_in_hand infos (after event s.account))) refl

    by_take : On → (b : Bool) → may_take s.account ≡ b → IsRested infos (served_turns infos (suc turns) s)
    by_take on true e = by_next on e (next_taken s.account) refl
    by_take on false e = let left = left_if s.account e in
        subst (IsRested infos) (sym (turns_left infos (suc turns) s left)) (served_left infos (cleaned s) left)

pub served_twice : (infos : List Info) (s : RunningStation) → IsBetweenOffers s → s.account.down ≡ None → served infos (served infos s) ≡ served infos s
served_twice infos s one active = by_left (is_left s.account) refl
  where
    by_left : (b : Bool) → is_left s.account ≡ b → served infos (served infos s) ≡ served infos s
    by_left true e = ap (served infos) (served_left infos s e)
    by_left false e = let opened = served_open infos s e in
        ap (served infos) opened ∙ (rested infos (turns_of s) s refl one active ∙ sym opened)
