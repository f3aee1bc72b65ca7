-- The end of a station with one queue: it is woken and served until it is done.
use Rattle.std.proofs.Common.{◌≡◌, ◌≢◌, ℕ, zero, suc, ◌+◌, ◌<◌, ◌≤◌, Bool, true, false, ◌||◌, List, [], ◌∷◌, ◌⊎◌, inl, inr, length, Option, Some, None, is_some, is_none, refl, sym, ap, subst, ◌∙◌, arith}
use Rattle.std.specs.Prelude.{slice_set}
use Rattle.std.proofs.lemmas.Bool.{cases_eq, cases_lt, cases_Bool, or_parts, true≢false}
use Rattle.lq_model.specs.Account.{Account, Event, Wake, held, after}
use Rattle.lq_model.specs.Alone.{RunningStation, cleaned, finished, finished_rounds, is_done, is_left, next_taken, opened, served, served_turns, turns_of}
use Rattle.lq_model.specs.Plan.{queue_in}
use Rattle.lq_model.specs.declared.fate.Info.{Info}
use Rattle.lq_account_laws.proofs.EndRounds.{finished_round, rounds_done, rounds_next}
use Rattle.lq_account_laws.proofs.OneQueue.{one_done, one_opened}
use Rattle.lq_account_laws.proofs.Taken.{held_none, next_none}
use Rattle.lq_account_laws.proofs.Turns.{HasOneQueue, IsTurned, after_turn, is_turned, left_open, left_stopped, served_open, turn_served, turns_left, turns_none}

-- WHAT SERVING LEAVES

-- an active station was served, as long as it could be
pub record IsServed (s t : RunningStation) : Type 0 where
  pub one : HasOneQueue t
  pub active : t.account.down ≡ None
  pub no_more : length (held t.account) ≤ length (held s.account)
  -- something that was held is sent, where the queue was open
  pub fewer : s.account.stops ≡ 0 ∷ [] → 0 < length (held s.account) → length (held t.account) < length (held s.account)
  -- it ends where the queue isn't open or nothing is held
  pub ends : (is_left t.account ≡ true) ⊎ (held t.account ≡ [])

is-served : (s t : RunningStation) → HasOneQueue s → s.account.down ≡ None → t ≡ s → (s.account.stops ≡ 0 ∷ [] → 0 < length (held s.account) → ⊥)
    → (is_left s.account ≡ true) ⊎ (held s.account ≡ []) → IsServed s t
is-served s t one active same none ends = subst (IsServed s) (sym same)
    (record { one = one; active = active; no_more = omega arith; fewer = λ stops some. absurd (none stops some); ends = ends })

-- serving goes on after a turn
after-turn : (s t u : RunningStation) → IsTurned s t → IsServed t u → IsServed s u
after-turn s t u turned h = record {
  one = h.one;
  active = h.active;
  no_more = no_more turned.fewer;
  fewer = λ stops some. fewer some turned.fewer;
  ends = h.ends;
}
  where
    no_more : (length (held t.account) + 1 ≡ length (held s.account)) ⊎ ((length (held t.account) ≡ length (held s.account)) × (t.account.stops ≡ 0 ∷ []))
        → length (held u.account) ≤ length (held s.account)
    no_more (inl one_less) = (let below = h.no_more in omega arith)
    no_more (inr same) = (let below = h.no_more in let equal = same.0 in omega arith)

    fewer : 0 < length (held s.account)
        → (length (held t.account) + 1 ≡ length (held s.account)) ⊎ ((length (held t.account) ≡ length (held s.account)) × (t.account.stops ≡ 0 ∷ []))
        → length (held u.account) < length (held s.account)
    fewer some (inl one_less) = (let below = h.no_more in omega arith)
    fewer some (inr same) = (let equal = same.0 in let below : length (held u.account) < length (held t.account) = h.fewer same.1 (omega arith) in omega arith)

same-stop : (xs : List ℕ) (m n : ℕ) → xs ≡ m ∷ [] → xs ≡ n ∷ [] → m ≡ n
same-stop xs m n a b = cc

no-length : (xs : List ℕ) → xs ≡ [] → 0 < length xs → ⊥
no-length xs none some = let zero_long : length xs ≡ 0 = ap length none in omega arith

no-element : (xs : List ℕ) → length xs ≤ 0 → xs ≡ []
no-element [] none = refl
no-element (x ∷ xs) none = absurd (omega arith)

module _ (infos : List Info) (queues : (m : ℕ) → queue_in infos m ≡ 0) where
  -- what holds of a station that isn't served further, and where it holds of serving after the next turn
  pub by_turn : (P : RunningStation → Type 0) (s : RunningStation) → HasOneQueue s → s.account.down ≡ None → P s
      → ((event : Event) → IsTurned s (after_turn event s) → s.account.stops ≡ 0 ∷ [] → next_taken s.account ≡ Some event
      → P (served_turns infos (turns_of (after_turn event s)) (after_turn event s)))
      → P (served_turns infos (turns_of s) s)
  by_turn P s one active here on = by_stop (cases_eq one.stop 0)
    where
      by_next : (o : Option Event) → next_taken s.account ≡ o → s.account.stops ≡ 0 ∷ [] → P (served_turns infos (turns_of s) s)
      by_next None next stops = subst P (sym (turns_none infos (turns_of s) s (held_none s.account next))) here
      by_next (Some event) next stops = subst P (sym (turn_served infos queues s event one stops active next)) (on event (is_turned s event one stops next) stops next)

      by_stop : (one.stop ≡ 0) ⊎ (one.stop ≢ 0) → P (served_turns infos (turns_of s) s)
      by_stop (inl at_0) = by_next (next_taken s.account) refl (one.stops ∙ ap (λ stop. stop ∷ []) at_0)
      by_stop (inr closed) = subst P (sym (turns_left infos (turns_of s) s (left_stopped s.account one.stop one.stops closed))) here

  serves-by-turn : (s : RunningStation) → HasOneQueue s → s.account.down ≡ None
      → ((event : Event) → IsTurned s (after_turn event s) → IsServed (after_turn event s) (served_turns infos (turns_of (after_turn event s)) (after_turn event s)))
      → IsServed s (served_turns infos (turns_of s) s)
  serves-by-turn s one active on = by_stop (cases_eq one.stop 0)
    where
      by_next : (o : Option Event) → next_taken s.account ≡ o → s.account.stops ≡ 0 ∷ [] → IsServed s (served_turns infos (turns_of s) s)
      by_next None next stops = let none = held_none s.account next in
          is-served s _ one active (turns_none infos (turns_of s) s none) (λ stops some. no-length _ none some) (inr none)
      by_next (Some event) next stops = let turned = is_turned s event one stops next in
          subst (IsServed s) (sym (turn_served infos queues s event one stops active next)) (after-turn s (after_turn event s) _ turned (on event turned))

      by_stop : (one.stop ≡ 0) ⊎ (one.stop ≢ 0) → IsServed s (served_turns infos (turns_of s) s)
      by_stop (inl at_0) = by_next (next_taken s.account) refl (one.stops ∙ ap (λ stop. stop ∷ []) at_0)
      by_stop (inr closed) = let left = left_stopped s.account one.stop one.stops closed in
          is-served s _ one active (turns_left infos (turns_of s) s left) (λ stops some. closed (same-stop _ _ _ one.stops stops)) (inl left)

  turns-serve : (turns : ℕ) (s : RunningStation) → turns ≡ turns_of s → HasOneQueue s → s.account.down ≡ None → IsServed s (served_turns infos (turns_of s) s)
  turns-serve zero s e one active = serves-by-turn s one active (λ event turned. absurd (let more = turned.turns in omega arith))
  turns-serve (suc turns) s e one active = serves-by-turn s one active (λ event turned.
      turns-serve turns (after_turn event s) (let more = turned.turns in omega arith) turned.one (turned.down ∙ active))

  pub is_served : (s : RunningStation) → HasOneQueue s → s.account.down ≡ None → s.account.stops ≡ 0 ∷ [] → IsServed s (served infos s)
  is_served s one active stops = subst (IsServed s) (sym (served_open infos s (left_open s.account active stops)))
      (cleaned-too (served_turns infos (turns_of s) s) (turns-serve (turns_of s) s refl one active))
    where
      cleaned-too : (t : RunningStation) → IsServed s t → IsServed s (cleaned t)
      cleaned-too t h = record {
        one = record { stop = h.one.stop; stops = h.one.stops; known = h.one.known; hand = h.one.hand; busies = h.one.busies };
        active = h.active;
        no_more = h.no_more;
        fewer = h.fewer;
        ends = h.ends;
      }

-- ROUNDS

-- A station that isn't done is active, and open after a wake.
pub record IsWoken (s t : RunningStation) : Type 0 where
  pub one : HasOneQueue t
  pub active : t.account.down ≡ None
  pub stops : t.account.stops ≡ 0 ∷ []
  pub same : held t.account ≡ held s.account

pub is_woken : (s : RunningStation) → HasOneQueue s → is_done s.account ≡ false → IsWoken s (opened s)
is_woken s one not_done = by_stop one.stop one.stops one.known
  where
    down-none : (down : Option ℕ) → is_some down ≡ false → down ≡ None
    down-none None e = refl
    down-none (Some event) e = cc

    woken : (t : RunningStation) → opened s ≡ t → t.account.down ≡ s.account.down → t.account.stops ≡ 0 ∷ [] → held t.account ≡ held s.account → t.account.hand ≡ s.account.hand → t.device ≡ s.device
        → is_some s.account.down ≡ false → IsWoken s (opened s)
    woken t is down stops same hand device active = subst (IsWoken s) (sym is) (record {
      one = record { stop = 0; stops = stops; known = omega arith; hand = hand ∙ one.hand; busies = subst (λ d. d.busies ≤ d.params.busy_limit) (sym device) one.busies };
      active = down ∙ down-none s.account.down active;
      stops = stops;
      same = same;
    })

    by_stop : (stop : ℕ) → s.account.stops ≡ stop ∷ [] → stop ≤ 2 → IsWoken s (opened s)
    by_stop zero stops known =
        let parts = or_parts (is_some s.account.down) _ (sym (one_done s.account 0 stops) ∙ not_done) in
        woken s (one_opened s 0 stops) refl stops refl refl refl parts.0
    by_stop (suc zero) stops known =
        let parts = or_parts (is_some s.account.down) _ (sym (one_done s.account 1 stops) ∙ not_done) in
        woken (record s { account = after (Wake 0) s.account }) (one_opened s 1 stops) refl (ap (λ stops. slice_set stops 0 0) stops) refl refl refl parts.0
    by_stop (suc (suc zero)) stops known =
        let parts = or_parts (is_some s.account.down) _ (sym (one_done s.account 2 stops) ∙ not_done) in
        absurd (true≢false parts.1)
    by_stop (suc (suc (suc more))) stops known = absurd (omega arith)

-- an open station that holds nothing is done
done-open : (a : Account) → a.stops ≡ 0 ∷ [] → held a ≡ [] → is_done a ≡ true
done-open a stops none = one_done a 0 stops ∙ ap (λ next. is_some a.down || is_none next) (next_none a none) ∙ or-true (is_some a.down)
  where
    or-true : (b : Bool) → (b || true) ≡ true
    or-true true = refl
    or-true false = refl

-- what a round leaves: less is held, or the station is done
pub record IsRound (s t : RunningStation) : Type 0 where
  pub one : HasOneQueue t
  pub active : t.account.down ≡ None
  pub fewer : (length (held t.account) < length (held s.account)) ⊎ (is_done t.account ≡ true)

-- an active station is done
pub record IsEnded (s : RunningStation) : Type 0 where
  pub one : HasOneQueue s
  pub active : s.account.down ≡ None
  pub done : is_done s.account ≡ true

module _ (infos : List Info) (queues : (m : ℕ) → queue_in infos m ≡ 0) where
  pub is_round : (s : RunningStation) → HasOneQueue s → is_done s.account ≡ false → IsRound s (served infos (opened s))
  is_round s one not_done = record { one = after_it.one; active = after_it.active; fewer = fewer (cases_lt 0 (length (held (opened s).account))) }
    where
      woken : IsWoken s (opened s)
      woken = is_woken s one not_done

      after_it : IsServed (opened s) (served infos (opened s))
      after_it = is_served infos queues (opened s) woken.one woken.active woken.stops

      same_length : length (held (opened s).account) ≡ length (held s.account)
      same_length = ap length woken.same

      stays : held (opened s).account ≡ [] → served infos (opened s) ≡ cleaned (opened s)
      stays none = served_open infos (opened s) (left_open (opened s).account woken.active woken.stops) ∙ ap cleaned (turns_none infos (turns_of (opened s)) (opened s) none)

      fewer : (0 < length (held (opened s).account)) ⊎ (length (held (opened s).account) ≤ 0)
          → (length (held (served infos (opened s)).account) < length (held s.account)) ⊎ (is_done (served infos (opened s)).account ≡ true)
      fewer (inl some) = inl (let below : length (held (served infos (opened s)).account) < length (held (opened s).account) = after_it.fewer woken.stops some in omega (arith, same_length))
      fewer (inr none) = let nothing = no-element _ none in inr (ap (λ (t : RunningStation). is_done t.account) (stays nothing) ∙ done-open (opened s).account woken.stops nothing)

  -- they leave the station done, and an active one active
  pub rounds_end : (rounds : ℕ) (s : RunningStation) → HasOneQueue s → s.account.down ≡ None → length (held s.account) < rounds → IsEnded (finished_rounds infos rounds s)
  rounds_end zero s one active enough = absurd (omega arith)
  rounds_end (suc rounds) s one active enough = by_done (λ fewer next still. rounds_end rounds (served infos (opened s)) next still (omega arith)) (cases_Bool (is_done s.account))
    where
      goes-on : (length (held (served infos (opened s)).account) < length (held s.account) → IsEnded (finished_rounds infos rounds (served infos (opened s))))
          → IsRound s (served infos (opened s)) → (length (held (served infos (opened s)).account) < length (held s.account)) ⊎ (is_done (served infos (opened s)).account ≡ true)
          → IsEnded (finished_rounds infos rounds (served infos (opened s)))
      goes-on again round (inl fewer) = again fewer
      goes-on again round (inr done) = subst IsEnded (sym (rounds_done infos rounds (served infos (opened s)) done)) (record { one = round.one; active = round.active; done = done })

      by_done : (length (held (served infos (opened s)).account) < length (held s.account) → HasOneQueue (served infos (opened s)) → (served infos (opened s)).account.down ≡ None
          → IsEnded (finished_rounds infos rounds (served infos (opened s))))
          → (is_done s.account ≡ true) ⊎ (is_done s.account ≡ false) → IsEnded (finished_rounds infos (suc rounds) s)
      by_done again (inl done) = subst IsEnded (sym (rounds_done infos (suc rounds) s done)) (record { one = one; active = active; done = done })
      by_done again (inr not_done) = let round = is_round s one not_done in
          subst IsEnded (sym (rounds_next infos rounds s not_done)) (goes-on (λ fewer. again fewer round.one round.active) round round.fewer)

  -- and one that isn't done is finished as it is after a round
  pub finished_next : (s : RunningStation) → HasOneQueue s → is_done s.account ≡ false → finished infos s ≡ finished infos (served infos (opened s))
  finished_next = finished_round infos HasOneQueue (λ s one not_done. let round = is_round s one not_done in (round.one, round.fewer))
