-- Serving a station with one queue, turn by turn.
use Rattle.std.proofs.Common.{◌≡◌, ◌≢◌, ℕ, zero, suc, ◌+◌, ◌<◌, ◌≤◌, ◌==◌, Bool, true, false, not, ◌&&◌, ◌||◌, List, [], ◌∷◌, ◌⊎◌, inl, inr, length, Some, None, is_some, nat_lt, if◌then◌else◌, option_to_list, refl, sym, ap, ap₂, ◌∙◌, add-one, arith}
use Rattle.std.specs.Option.{option_map_or}
use Rattle.std.proofs.lemmas.Bool.{cond-true, cond-false, and_parts, ne_eqb, ltb-true}
use Rattle.lq_model.specs.Band.{held_of}
use Rattle.lq_model.specs.Account.{Account, Event, Back, held, is_open, after}
use Rattle.lq_model.specs.Alone.{RunningStation, answered, cleaned, is_left, next_answer, next_taken, offered, queue_in_hand, hand_served, taken_served, served, served_turns, turns_of}
use Rattle.lq_model.specs.Device.{Telling, answer_of, is_busy, is_multiple, told_after}
use Rattle.lq_model.specs.Plan.{queue_in}
use Rattle.lq_model.specs.declared.device.Tx.{Tx}
use Rattle.lq_model.specs.declared.device.Tx.TheVariants.{Sent, SentStop, SentHang, Busy}
use Rattle.lq_model.specs.declared.fate.Info.{Info}
use Rattle.lq_account_laws.proofs.Answers.{IsAnswered, is_answered, slot_after}
use Rattle.lq_account_laws.proofs.OneQueue.{one_left, one_open}
use Rattle.lq_account_laws.proofs.Taken.{IsInHand, IsTurn, in_hand, length_held, next_none, turn_of}

-- STATIONS WITH ONE QUEUE

-- one stop value, nothing in hand, and no more answers Busy than the device's parameters allow
pub record HasOneQueue (s : RunningStation) : Type 0 where
  pub stop : ℕ
  pub stops : s.account.stops ≡ stop ∷ []
  pub known : stop ≤ 2
  pub hand : s.account.hand ≡ None
  pub busies : s.device.busies ≤ s.device.params.busy_limit

-- a station is served exactly where it is active and its queue is open
pub left_stopped : (a : Account) (stop : ℕ) → a.stops ≡ stop ∷ [] → stop ≢ 0 → is_left a ≡ true
left_stopped a stop stops closed = one_left a stop stops ∙ ap (λ (b : Bool). is_some a.down || not b) (ne_eqb stop 0 closed) ∙ or-true (is_some a.down)
  where
    or-true : (b : Bool) → (b || true) ≡ true
    or-true true = refl
    or-true false = refl

pub left_open : (a : Account) → a.down ≡ None → a.stops ≡ 0 ∷ [] → is_left a ≡ false
left_open a active stops = one_left a 0 stops ∙ ap (λ down. is_some down || false) active

-- ONE TURN

-- the next packet came into the hand and was offered
abbrev pub after_turn : Event → RunningStation → RunningStation
after_turn event s = offered 0 (record s { account = after event s.account })

pub busy_answer : (t : Telling) (n : ℕ) → is_busy (answer_of t n) ≡ true → t.busies < t.params.busy_limit
busy_answer t n busy =
    by_test (is_multiple (n + t.busies + 1) t.params.busy_every && nat_lt t.busies t.params.busy_limit) (nat_lt 0 t.params.hang_after && (n + 1 == t.params.hang_after))
    (is_multiple (n + 1) t.params.burst) refl busy
  where
    by_test : (b hang stop : Bool) → (is_multiple (n + t.busies + 1) t.params.busy_every && nat_lt t.busies t.params.busy_limit) ≡ b
        → is_busy (if b then Busy else if hang then SentHang else if stop then SentStop else Sent) ≡ true → t.busies < t.params.busy_limit
    by_test true hang stop e busy = ltb-true _ _ (and_parts _ _ e).1
    by_test false true stop e busy = cc
    by_test false false true e busy = cc
    by_test false false false e busy = cc

-- what a turn leaves
pub record IsTurned (s t : RunningStation) : Type 0 where
  pub one : HasOneQueue t
  pub down : t.account.down ≡ s.account.down
  pub turns : turns_of t + 1 ≡ turns_of s
  -- a packet less is held, or just as many are, one of them in the requeue slot of a queue that is open
  pub fewer : (length (held t.account) + 1 ≡ length (held s.account))
      ⊎ ((length (held t.account) ≡ length (held s.account)) × (t.account.stops ≡ 0 ∷ []))

held-after : (answer : Tx) (m : ℕ) (a b : Account) → a.slot ≡ None → IsAnswered answer m a b
    → length (held b) ≡ length (option_to_list (slot_after answer m)) + length (held a)
held-after answer m a b empty h =
    let now : length (held b) ≡ length (option_to_list (slot_after answer m)) + (length (held_of (a.bands 0)) + (length (held_of (a.bands 1)) + length (held_of (a.bands 2))))
    = length_held b ∙ ap₂ (λ slot bands. length (option_to_list slot) + (length (held_of (bands 0)) + (length (held_of (bands 1)) + length (held_of (bands 2))))) h.slot h.bands in
    let before : length (option_to_list a.slot) ≡ 0 = ap (λ slot. length (option_to_list slot)) empty in
    omega (arith, length_held a)

turned-parts : (answer : Tx) (m : ℕ) (s : RunningStation) (a b : Account) → HasOneQueue s → IsInHand s.account a → IsAnswered answer m a b
    → length (held b) ≡ length (option_to_list (slot_after answer m)) + length (held a)
    → (is_busy answer ≡ true → s.device.busies < s.device.params.busy_limit)
    → IsTurned s (record { account = b; clean = s.clean; device = told_after answer s.device })
turned-parts Sent m s a b one h h2 len limit = record {
  one = record { stop = 0; stops = h2.stops; known = omega arith; hand = h2.hand; busies = (let within = one.busies in omega arith) };
  down = h2.down ∙ h.down;
  turns = (let fewer = h.fewer in omega arith);
  fewer = inl (let fewer = h.fewer in omega arith);
}
turned-parts SentStop m s a b one h h2 len limit = record {
  one = record { stop = 1; stops = h2.stops; known = omega arith; hand = h2.hand; busies = (let within = one.busies in omega arith) };
  down = h2.down ∙ h.down;
  turns = (let fewer = h.fewer in omega arith);
  fewer = inl (let fewer = h.fewer in omega arith);
}
turned-parts SentHang m s a b one h h2 len limit = record {
  one = record { stop = 2; stops = h2.stops; known = omega arith; hand = h2.hand; busies = (let within = one.busies in omega arith) };
  down = h2.down ∙ h.down;
  turns = (let fewer = h.fewer in omega arith);
  fewer = inl (let fewer = h.fewer in omega arith);
}
turned-parts Busy m s a b one h h2 len limit = record {
  one = record { stop = 0; stops = h2.stops; known = omega arith; hand = h2.hand; busies = (let below = limit refl in omega arith) };
  down = h2.down ∙ h.down;
  turns = (let fewer = h.fewer in let below = limit refl in omega arith);
  fewer = inr ((let fewer = h.fewer in omega arith), h2.stops);
}

turned : (s : RunningStation) (event : Event) (answer : Tx) → HasOneQueue s → s.account.stops ≡ 0 ∷ [] → IsTurn s.account event
    → (is_busy answer ≡ true → s.device.busies < s.device.params.busy_limit)
    → IsTurned s (record { account = answered answer 0 (after event s.account); clean = s.clean; device = told_after answer s.device })
turned s event answer one stops turn limit =
    let h : IsInHand s.account (after event s.account) = in_hand turn in
    let h2 : IsAnswered answer h.packet (after event s.account) (answered answer 0 (after event s.account)) = is_answered h.packet (after event s.account) h.hand (h.stops ∙ stops) answer h.slot in
    turned-parts answer h.packet s _ _ one h h2 (held-after answer h.packet _ _ h.slot h2) limit

pub is_turned : (s : RunningStation) (event : Event) → HasOneQueue s → s.account.stops ≡ 0 ∷ [] → next_taken s.account ≡ Some event → IsTurned s (after_turn event s)
is_turned s event one stops next = turned s event (next_answer (record s { account = after event s.account })) one stops (turn_of s.account event next) (busy_answer s.device _)

-- SERVING

hand-offered : (infos : List Info) (serve_on : RunningStation → RunningStation) (t : RunningStation) → queue_in_hand infos t.account ≡ 0 → is_open t.account 0 ≡ true
    → hand_served infos serve_on t ≡ serve_on (offered 0 t)
hand-offered infos serve_on t queue opens =
    ap (λ queue. if is_open t.account queue then serve_on (offered queue t) else record t { account = after Back t.account }) queue ∙ cond-true _ _ _ opens

-- a station that isn't served, or holds nothing, stays as it is
pub turns_left : (infos : List Info) (turns : ℕ) (s : RunningStation) → is_left s.account ≡ true → served_turns infos turns s ≡ s
turns_left infos zero s left = refl
turns_left infos (suc turns) s left = cond-true _ _ _ left

pub turns_none : (infos : List Info) (turns : ℕ) (s : RunningStation) → held s.account ≡ [] → served_turns infos turns s ≡ s
turns_none infos zero s none = refl
turns_none infos (suc turns) s none =
    ap (λ o. if is_left s.account then s else taken_served infos (served_turns infos turns) o s) (next_none s.account none) ∙ same (is_left s.account)
  where
    same : (b : Bool) → (if b then s else s) ≡ s
    same true = refl
    same false = refl

pub served_left : (infos : List Info) (s : RunningStation) → is_left s.account ≡ true → served infos s ≡ s
served_left infos s left = cond-true _ _ _ left

pub served_open : (infos : List Info) (s : RunningStation) → is_left s.account ≡ false → served infos s ≡ cleaned (served_turns infos (turns_of s) s)
served_open infos s open_0 = cond-false _ _ _ open_0

module _ (infos : List Info) (queues : (m : ℕ) → queue_in infos m ≡ 0) where
  turn-served : (turns : ℕ) (s : RunningStation) (event : Event) → s.account.stops ≡ 0 ∷ [] → s.account.down ≡ None → next_taken s.account ≡ Some event
      → served_turns infos (suc turns) s ≡ served_turns infos turns (after_turn event s)
  turn-served turns s event stops active next =
      cond-false _ _ _ (left_open s.account active stops)
      ∙ ap (λ o. taken_served infos (served_turns infos turns) o s) next
      ∙ hand-offered infos (served_turns infos turns) (record s { account = after event s.account })
      (ap (λ hand. option_map_or (queue_in infos) hand 0) h.hand ∙ queues h.packet) (one_open (after event s.account) 0 (h.stops ∙ stops))
    where
      h : IsInHand s.account (after event s.account)
      h = in_hand (turn_of s.account event next)

  -- serving goes on after a turn
  pub turn_served : (s : RunningStation) (event : Event) → HasOneQueue s → s.account.stops ≡ 0 ∷ [] → s.account.down ≡ None → next_taken s.account ≡ Some event
      → served_turns infos (turns_of s) s ≡ served_turns infos (turns_of (after_turn event s)) (after_turn event s)
  turn_served s event one stops active next =
      ap (λ turns. served_turns infos turns s) (sym (is_turned s event one stops next).turns ∙ add-one _)
      ∙ turn-served (turns_of (after_turn event s)) s event stops active next
