-- With one queue serving goes packet by packet, and the end round by round.
use Rattle.std.proofs.Common.{◌≡◌, ◌≢◌, ℕ, ◌+◌, ◌==◌, Bool, true, false, not, ◌&&◌, ◌||◌, List, [], ◌∷◌, ◌⊎◌, inl, inr, length, Option, Some, None, is_some, is_none, if◌then◌else◌, refl, sym, ap, ◌∙◌, arith}
use Rattle.std.specs.Prelude.{slice_index}
use Rattle.std.proofs.lemmas.Bool.{and_from, and_parts, cases_eq, cond-true, cond-false, eq-eqb, eqb-true, ne_eqb, or_cases, or_left, or_right, true≢false}
use Rattle.lq_model.specs.Account.{Account, Event, Purge, Wake, held, is_open, is_shared, after}
use Rattle.lq_model.specs.Alone.{RunningStation, cleaned, finished_rounds, is_clean, is_done, is_left, next_taken, opened, purged_if_hung, served, served_turns, turns_of}
use Rattle.lq_model.specs.declared.fate.Cause.TheVariants.{Hung}
use Rattle.lq_model.specs.declared.fate.Info.{Info}
use Rattle.lq_account_laws.specs.OneQueue.{AreOfOneQueue, IsFinishedByRounds, IsOfOneQueue, IsServedByTurns, offered_next, stop_of}
use Rattle.lq_account_laws.proofs.OneQueue.{one_clean, one_done, one_opened, one_purged}
use Rattle.lq_account_laws.proofs.Purges.{purge_empties}
use Rattle.lq_account_laws.proofs.EndRounds.{finished_done}
use Rattle.lq_account_laws.proofs.Rounds.{IsEnded, IsServed, finished_next, is_served, rounds_end}
use Rattle.lq_account_laws.proofs.Taken.{held_none, next_none}
use Rattle.lq_account_laws.proofs.Turns.{HasOneQueue, is_turned, left_open, left_stopped, served_left, served_open, turn_served, turns_left, turns_none}

one-of : (xs : List ℕ) → length xs ≡ 1 → xs ≡ slice_index xs 0 ∷ []
one-of [] one = absurd (omega arith)
one-of (x ∷ []) one = refl
one-of (x ∷ y ∷ xs) one = absurd (omega arith)

pub has_one_queue : (s : RunningStation) → IsOfOneQueue s → HasOneQueue s
has_one_queue s h = record { stop = stop_of s.account; stops = one-of s.account.stops h.queues; known = h.known; hand = h.hand; busies = h.busies }

pub stop_is : (a : Account) (stop : ℕ) → a.stops ≡ stop ∷ [] → stop_of a ≡ stop
stop_is a stop stops = ap (λ stops. slice_index stops 0) stops

-- SERVING

module _ (infos : List Info) (queues : AreOfOneQueue infos) (s : RunningStation) (one : HasOneQueue s) where
  open-stops : stop_of s.account ≡ 0 → s.account.stops ≡ 0 ∷ []
  open-stops at_0 = one.stops ∙ ap (λ stop. stop ∷ []) (sym (stop_is s.account one.stop one.stops) ∙ at_0)

  left-down : (event : ℕ) → s.account.down ≡ Some event → is_left s.account ≡ true
  left-down event down = ap (λ down. is_some down || (not (is_shared s.account) && not (is_open s.account 0))) down

  left-closed : stop_of s.account ≢ 0 → is_left s.account ≡ true
  left-closed closed = left_stopped s.account one.stop one.stops (λ at_0. closed (stop_is s.account one.stop one.stops ∙ at_0))

module _ (infos : List Info) (queues : AreOfOneQueue infos) (s : RunningStation) (one : HasOneQueue s) (active : s.account.down ≡ None) (at_0 : stop_of s.account ≡ 0) where
  stops : s.account.stops ≡ 0 ∷ []
  stops = open-stops infos queues s one at_0

  serves : served infos s ≡ cleaned (served_turns infos (turns_of s) s)
  serves = served_open infos s (left_open s.account active stops)

  idle : held s.account ≡ [] → served infos s ≡ record s { clean = true }
  idle none = serves ∙ ap cleaned (turns_none infos (turns_of s) s none) ∙ ap (λ clean. record s { clean = clean }) (one_clean s.account 0 stops)

  goes-on : (event : Event) → next_taken s.account ≡ Some event → stop_of (offered_next event s).account ≡ 0 → served infos s ≡ served infos (offered_next event s)
  goes-on event next still =
      let turned = is_turned s event one stops next in
      serves ∙ ap cleaned (turn_served infos queues s event one stops active next)
      ∙ sym (served_open infos (offered_next event s) (left_open (offered_next event s).account (turned.down ∙ active) (open-stops infos queues (offered_next event s) turned.one still)))

  stops-there : (event : Event) → next_taken s.account ≡ Some event → stop_of (offered_next event s).account ≢ 0 → served infos s ≡ record (offered_next event s) { clean = false }
  stops-there event next closed =
      let turned = is_turned s event one stops next in
      serves ∙ ap cleaned (turn_served infos queues s event one stops active next)
      ∙ ap cleaned (turns_left infos (turns_of (offered_next event s)) (offered_next event s) (left-closed infos queues (offered_next event s) turned.one closed))
      ∙ ap (λ clean. record (offered_next event s) { clean = clean })
      (one_clean (offered_next event s).account turned.one.stop turned.one.stops
      ∙ ne_eqb turned.one.stop 0 (λ zero. closed (stop_is (offered_next event s).account turned.one.stop turned.one.stops ∙ zero)))

  after-it : IsServed s (served infos s)
  after-it = is_served infos queues s one active stops

  ends : stop_of (served infos s).account ≡ 0 → held (served infos s).account ≡ []
  ends still = by_end after-it.ends
    where
      by_end : (is_left (served infos s).account ≡ true) ⊎ (held (served infos s).account ≡ []) → held (served infos s).account ≡ []
      by_end (inr none) = none
      by_end (inl left) = absurd (true≢false (sym left ∙ left_open (served infos s).account after-it.active (open-stops infos queues (served infos s) after-it.one still)))

  clean-is : (served infos s).clean ≡ (stop_of (served infos s).account == 0)
  clean-is =
      ap (λ (t : RunningStation). t.clean) serves ∙ sym (ap (λ (t : RunningStation). is_clean t.account) serves)
      ∙ one_clean (served infos s).account after-it.one.stop after-it.one.stops ∙ ap (λ stop. stop == 0) (sym (stop_is (served infos s).account after-it.one.stop after-it.one.stops))

pub served_by_turns : (infos : List Info) (s : RunningStation) → AreOfOneQueue infos → IsOfOneQueue s → IsServedByTurns infos s
served_by_turns infos s queues of_one = record {
  deactivated = λ event down. served_left infos s (left-down infos queues s one event down);
  closed = λ closed. served_left infos s (left-closed infos queues s one closed);
  idle = idle infos queues s one;
  goes_on = λ event active at_0 next still. goes-on infos queues s one active at_0 event next still;
  stops = λ event active at_0 next closed. stops-there infos queues s one active at_0 event next closed;
  ends = ends infos queues s one;
  clean = λ active at_0. (
    λ e. eqb-true _ 0 (sym (clean-is infos queues s one active at_0) ∙ e),
    λ e. clean-is infos queues s one active at_0 ∙ eq-eqb _ 0 e,
  );
}
  where
    one : HasOneQueue s
    one = has_one_queue s of_one

-- THE END

module _ (infos : List Info) (queues : AreOfOneQueue infos) (s : RunningStation) (one : HasOneQueue s) where
  stop-same : stop_of s.account ≡ one.stop
  stop-same = stop_is s.account one.stop one.stops

  done-now : is_done s.account ≡ (is_some s.account.down || ((stop_of s.account == 2) || ((stop_of s.account == 0) && is_none (next_taken s.account))))
  done-now = one_done s.account one.stop one.stops ∙ ap (λ stop. is_some s.account.down || ((stop == 2) || ((stop == 0) && is_none (next_taken s.account)))) (sym stop-same)

  some-event : (down : Option ℕ) → is_some down ≡ true → (event : ℕ) × (down ≡ Some event)
  some-event None e = cc
  some-event (Some event) e = (event, refl)

  nothing-held : is_none (next_taken s.account) ≡ true → held s.account ≡ []
  nothing-held e = held_none s.account (none-is (next_taken s.account) e)
    where
      none-is : (o : Option Event) → is_none o ≡ true → o ≡ None
      none-is None e = refl
      none-is (Some event) e = cc

  done-to : is_done s.account ≡ true → ((event : ℕ) × (s.account.down ≡ Some event)) ⊎ ((stop_of s.account ≡ 2) ⊎ ((stop_of s.account ≡ 0) × (held s.account ≡ [])))
  done-to done = elim (or_cases (is_some s.account.down) _ (sym done-now ∙ done)) [
    | inl down ↦ inl (some-event s.account.down down)
    | inr rest ↦ inr (elim (or_cases (stop_of s.account == 2) _ rest) [
      | inl hung ↦ inl (eqb-true _ 2 hung)
      | inr idle ↦ inr (let parts = and_parts (stop_of s.account == 0) _ idle in (eqb-true _ 0 parts.0, nothing-held parts.1))
    ])
  ]

  done-from : ((event : ℕ) × (s.account.down ≡ Some event)) ⊎ ((stop_of s.account ≡ 2) ⊎ ((stop_of s.account ≡ 0) × (held s.account ≡ []))) → is_done s.account ≡ true
  done-from (inl down) = done-now ∙ or_left (is_some s.account.down) _ (ap is_some down.1)
  done-from (inr (inl hung)) = done-now ∙ or_right (is_some s.account.down) _ (or_left (stop_of s.account == 2) _ (eq-eqb _ 2 hung))
  done-from (inr (inr idle)) = done-now ∙ or_right (is_some s.account.down) _ (or_right (stop_of s.account == 2) _
      (and_from (stop_of s.account == 0) _ (eq-eqb _ 0 idle.0) (ap is_none (next_none s.account idle.1))))

  pub wakes : opened s ≡ (if stop_of s.account == 1 then record s { account = after (Wake 0) s.account } else s)
  wakes = one_opened s one.stop one.stops ∙ by_bool (one.stop == 1)
      ∙ ap {A = ℕ} {B = RunningStation} (λ stop. if stop == 1 then record s { account = after (Wake 0) s.account } else s) (sym stop-same)
    where
      by_bool : (b : Bool) → record s { account = if b then after (Wake 0) s.account else s.account } ≡ (if b then record s { account = after (Wake 0) s.account } else s)
      by_bool true = refl
      by_bool false = refl

  pub purges : stop_of s.account ≡ 2 → purged_if_hung s.account ≡ after (Purge (Hung s.account.unit)) s.account
  purges hung = one_purged s.account one.stop one.stops ∙ cond-true _ _ _ (eq-eqb one.stop 2 (sym stop-same ∙ hung))

  pub keeps : stop_of s.account ≢ 2 → purged_if_hung s.account ≡ s.account
  keeps other = one_purged s.account one.stop one.stops ∙ cond-false _ _ _ (ne_eqb one.stop 2 (λ hung. other (stop-same ∙ hung)))

-- an active station that is done holds nothing after its purge
purged-holds-nothing : (infos : List Info) (queues : AreOfOneQueue infos) (s : RunningStation) → IsEnded s → held (purged_if_hung s.account) ≡ []
purged-holds-nothing infos queues s ended = by_done (done-to infos queues s ended.one ended.done) (cases_eq (stop_of s.account) 2)
  where
    empty : held s.account ≡ [] → stop_of s.account ≢ 2 → held (purged_if_hung s.account) ≡ []
    empty none other = ap held (keeps infos queues s ended.one other) ∙ none

    none-some : (o : Option ℕ) (n : ℕ) → o ≡ None → o ≡ Some n → ⊥
    none-some o n none some = cc

    by_done : ((event : ℕ) × (s.account.down ≡ Some event)) ⊎ ((stop_of s.account ≡ 2) ⊎ ((stop_of s.account ≡ 0) × (held s.account ≡ [])))
        → (stop_of s.account ≡ 2) ⊎ (stop_of s.account ≢ 2) → held (purged_if_hung s.account) ≡ []
    by_done why (inl hung) = ap held (purges infos queues s ended.one hung) ∙ purge_empties (Hung s.account.unit) s.account
    by_done (inl down) (inr other) = (let active = ended.active in absurd (none-some s.account.down down.0 active down.1))
    by_done (inr (inl hung)) (inr other) = absurd (other hung)
    by_done (inr (inr idle)) (inr other) = empty idle.1 other

pub finished_by_rounds : (infos : List Info) (s : RunningStation) → AreOfOneQueue infos → IsOfOneQueue s → IsFinishedByRounds infos s
finished_by_rounds infos s queues of_one = record {
  done = (done-to infos queues s one, done-from infos queues s one);
  wakes = wakes infos queues s one;
  goes_on = finished_next infos queues s one;
  hung = λ done hung. finished_done infos s done ∙ ap (λ account. record s { account = account }) (purges infos queues s one hung);
  ends = λ done other. finished_done infos s done ∙ ap (λ account. record s { account = account }) (keeps infos queues s one other);
  nothing_held = λ active. purged-holds-nothing infos queues (finished_rounds infos (length (held s.account) + 1) s)
      (rounds_end infos queues (length (held s.account) + 1) s one active (omega arith));
}
  where
    one : HasOneQueue s
    one = has_one_queue s of_one
