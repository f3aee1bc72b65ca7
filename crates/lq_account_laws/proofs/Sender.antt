-- The run of one sender makes legal events: serving, wakes, offers and the end lead from account to account by them.
use Rattle.std.proofs.Common.{◌≡◌, ◌≢◌, ℕ, zero, suc, ◌+◌, ◌-◌, ◌%◌, ◌<◌, ◌≤◌, nat_le, Bool, true, false, not, ◌&&◌, List, [], ◌∷◌, ◌++◌, ◌⊎◌, inl, inr, length, drop, Some, None, option_to_list, slice_get, refl, sym, ap, ap₂, subst, ◌∙◌, arith, length-append, length-drop, mod-lt, mod-eq_of_lt}
use Rattle.std.specs.Option.{option_map_or}
use Rattle.std.specs.Prelude.{slice_set}
use Rattle.std.proofs.Math.Nat.{mod-le, mod_self, suc-mod}
use Rattle.std.proofs.lemmas.Bool.{cond-false, cond-true, cond_both, eq-eqb, ne_eqb, cases_Bool, cases_eq, and_parts, true≢false}
use Rattle.std.proofs.lemmas.Option.{slice_get-get_or}
use Rattle.lq_model.specs.Account.{Account, Event, Direct, held, is_hung, new_account, emptied, after}
use Rattle.lq_model.specs.Alone.{RunningStation, answered, brought_in, finished, finished_rounds, is_occupied, purged_if_hung, gone_direct, gone_through, is_done, is_left, new_station, next_answer, next_taken, opened, joined_or_full, seen_in, served, served_turns, turns_of}
use Rattle.lq_model.specs.Band.{Band, IsOccupied, MayBeFull, batch, held_of, joined, stale_count, taken_by}
use Rattle.lq_model.specs.Device.{Telling, is_busy, told_after}
use Rattle.lq_model.specs.Plan.{Plan, band_in, station_in}
use Rattle.lq_model.specs.declared.device.Tx.{Tx}
use Rattle.lq_model.specs.declared.device.Tx.TheVariants.{Sent, SentStop, SentHang, Busy}
use Rattle.lq_model.specs.declared.fate.Cause.TheVariants.{Hung}
use Rattle.lq_model.specs.declared.fate.Info.{Info}
use Rattle.lq_model.specs.declared.plan.StationPlan.{StationPlan}
use Rattle.lq_account_laws.specs.OneQueue.{AreOfOneQueue, IsOfOneQueue, stop_of}
use Rattle.lq_account_laws.specs.Progress.{IsAt, start_of}
use Rattle.lq_account_laws.specs.Sender.{FitsRing, IsInRun}
use Rattle.lq_account_laws.proofs.Answers.{IsAnswered, is_answered}
use Rattle.lq_account_laws.proofs.Lists.{at-cases}
use Rattle.lq_account_laws.proofs.Offers.{brought_direct, brought_through, direct_closed, direct_open, queued_full, queued_join, served_after, through_closed, through_open}
use Rattle.lq_account_laws.proofs.OneStopRun.{has_one_queue, keeps, purges, served_by_turns, stop_is, wakes}
use Rattle.lq_account_laws.proofs.OneQueue.{one_hung}
use Rattle.lq_account_laws.proofs.Purges.{purge_empties}
use Rattle.lq_account_laws.proofs.Rounds.{IsServed, by_turn, is_served}
use Rattle.lq_account_laws.proofs.Steps.{at_answer, at_back, at_direct, at_full, at_join, at_other, at_purge, at_start, at_taken, at_wake}
use Rattle.lq_account_laws.proofs.Taken.{IsInHand, IsTurn, picks, takes_0, takes_1, takes_2, in_hand, slot_none, turn_of}
use Rattle.lq_account_laws.proofs.Turns.{HasOneQueue, after_turn, busy_answer, left_open, left_stopped, served_left, served_open}

-- BANDS

-- a remainder is one more, or begins again
mod-next : (t m : ℕ) → 0 < m → ((t + 1) % m ≡ t % m + 1) ⊎ ((t + 1) % m ≡ 0)
mod-next t m some = by_end (cases_eq (t % m + 1) m)
  where
    next : (t + 1) % m ≡ (t % m + 1) % m
    next = ap (λ n. n % m) (omega arith) ∙ suc-mod t m ∙ ap (λ n. n % m) (omega arith)

    by_end : (t % m + 1 ≡ m) ⊎ (t % m + 1 ≢ m) → ((t + 1) % m ≡ t % m + 1) ⊎ ((t + 1) % m ≡ 0)
    by_end (inl at_end) = inr (next ∙ ap (λ n. n % m) at_end ∙ mod_self m)
    by_end (inr before) = inl (next ∙ mod-eq_of_lt {n = t % m + 1} {m = m} (omega (arith, mod-lt t {m = m} some, before)))

batch-some : (len : ℕ) → 0 < batch len
batch-some len = cond_both (nat_le 32 len) 16 1 (λ n. 0 < n) (λ e. omega arith) (λ e. omega arith)

stale-grows : (len t : ℕ) → 0 < len → stale_count len (t + 1) ≤ stale_count len t + 1
stale-grows len t some = by_place (mod-next t len some)
  where
    by_place : ((t + 1) % len ≡ t % len + 1) ⊎ ((t + 1) % len ≡ 0) → stale_count len (t + 1) ≤ stale_count len t + 1
    by_place (inl more) = within (mod-next (t % len) (batch len) (batch-some len))
      where
        same : stale_count len (t + 1) ≡ (t % len + 1) % batch len
        same = ap (λ n. n % batch len) more

        within : ((t % len + 1) % batch len ≡ t % len % batch len + 1) ⊎ ((t % len + 1) % batch len ≡ 0) → stale_count len (t + 1) ≤ stale_count len t + 1
        within (inl one) = omega (arith, same, one)
        within (inr none) = omega (arith, same, none)
    by_place (inr again) = (let same : stale_count len (t + 1) ≡ 0 % batch len = ap (λ n. n % batch len) again in omega (arith, mod-le 0 (batch len)))

fits-taken : (len : ℕ) (band : Band) → 0 < len → 0 < length (held_of band) → FitsRing len band → FitsRing len (taken_by band 1)
fits-taken len band some held h = record {
  taken = (let within = h.taken in omega (arith, length-drop band.taken band.line));
  slots = (let slots = h.slots in omega (arith, stale-grows len band.taken some, length-drop band.taken band.line, length-drop (band.taken + 1) band.line));
}

fits-joined : (len n : ℕ) (band : Band) → (IsOccupied len band → ⊥) → FitsRing len band → FitsRing len (joined band n)
fits-joined len n band room h = record {
  taken = (let within = h.taken in omega (arith, length-append band.line (n ∷ [])));
  slots = (let slots = h.slots in let within = h.taken in omega (arith, room, length-append band.line (n ∷ []), length-drop band.taken band.line, length-drop band.taken (band.line ++ n ∷ [])));
}

fits-emptied : (len : ℕ) (band : Band) → 0 < len → FitsRing len (emptied band)
fits-emptied len band some = record { taken = omega arith; slots = slots }
  where
    slots : length (drop (length band.line) band.line) + length band.line % len % batch len ≤ len
    slots = omega (arith, length-drop (length band.line) band.line, mod-le (length band.line % len) (batch len), mod-lt (length band.line) {m = len} some)

-- a full band shows the packet in its slot
may-be-full : (len : ℕ) (band : Band) → 0 < len → FitsRing len band → IsOccupied len band → MayBeFull len band (seen_in len band)
may-be-full len band some h occupied = record {
  again = again;
  seen_is = slice_get-get_or band.line (length band.line - len) 0 (omega (arith, again));
  holds = omega (arith, occupied, mod-lt (band.taken % len) {m = batch len} (batch-some len));
}
  where
    again : len ≤ length band.line
    again = (let within = h.taken in omega (arith, occupied, length-drop band.taken band.line, mod-le band.taken len, mod-le (band.taken % len) (batch len)))

-- THE HOLDER WORKS

-- an active account on its way, with rings
record IsAtWork (plan : Plan) (infos : List Info) (station n : ℕ) (a : Account) : Type 0 where
  at : IsAt plan infos station n a
  active : a.down ≡ None
  has_slots : 0 < a.len
  bands : (band : ℕ) → FitsRing a.len (a.bands band)

-- after serving
record IsServedWell (plan : Plan) (infos : List Info) (station n : ℕ) (s : RunningStation) : Type 0 where
  one : HasOneQueue s
  work : IsAtWork plan infos station n s.account
  holds : stop_of s.account ≡ 0 → held s.account ≡ []

fits-turn : {a : Account} {event : Event} → IsTurn a event → 0 < a.len → ((band : ℕ) → FitsRing a.len (a.bands band)) → (band : ℕ) → FitsRing a.len ((after event a).bands band)
fits-turn (picks m slot) some fits band = fits band
fits-turn {a = a} (takes_0 slot held) some fits band = at-cases (FitsRing a.len) 0 band _ a.bands (λ same. fits-taken a.len (a.bands 0) some held (fits 0)) (λ other. fits band)
fits-turn {a = a} (takes_1 slot empty_0 held) some fits band = at-cases (FitsRing a.len) 1 band _ a.bands (λ same. fits-taken a.len (a.bands 1) some held (fits 1)) (λ other. fits band)
fits-turn {a = a} (takes_2 slot empty_0 empty_1 held) some fits band = at-cases (FitsRing a.len) 2 band _ a.bands (λ same. fits-taken a.len (a.bands 2) some held (fits 2)) (λ other. fits band)

module _ (plan : Plan) (infos : List Info) (station n : ℕ) (queues : AreOfOneQueue infos) where
  -- an answer to the packet in hand
  at-work-answer : (answer : Tx) (m : ℕ) (a : Account) → a.hand ≡ Some m → a.slot ≡ None → a.stops ≡ 0 ∷ [] → IsAtWork plan infos station n a
      → IsAtWork plan infos station n (answered answer 0 a)
  at-work-answer answer m a hand slot stops h =
      let now : IsAnswered answer m a (answered answer 0 a) = is_answered m a hand stops answer slot in
      record {
        at = at_answer answer m hand slot stops (queues m) h.at;
        active = now.down ∙ h.active;
        has_slots = subst (λ len. 0 < len) (sym now.len) h.has_slots;
        bands = λ band. subst (λ len. FitsRing len ((answered answer 0 a).bands band)) (sym now.len) (subst (λ bands. FitsRing a.len (bands band)) (sym now.bands) (h.bands band));
      }

  -- a packet comes into the hand
  at-work-turn : (event : Event) (a : Account) → a.hand ≡ None → next_taken a ≡ Some event → IsAtWork plan infos station n a → IsAtWork plan infos station n (after event a)
  at-work-turn event a hand next h =
      let turn : IsTurn a event = turn_of a event next in
      let now : IsInHand a (after event a) = in_hand turn in
      record {
        at = at_taken event hand next h.at;
        active = now.down ∙ h.active;
        has_slots = subst (λ len. 0 < len) (sym now.len) h.has_slots;
        bands = λ band. subst (λ len. FitsRing len ((after event a).bands band)) (sym now.len) (fits-turn turn h.has_slots h.bands band);
      }

  at-work-offer : (event : Event) (s : RunningStation) → HasOneQueue s → s.account.stops ≡ 0 ∷ [] → next_taken s.account ≡ Some event → IsAtWork plan infos station n s.account
      → IsAtWork plan infos station n (after_turn event s).account
  at-work-offer event s one stops next h =
      let now : IsInHand s.account (after event s.account) = in_hand (turn_of s.account event next) in
      at-work-answer (next_answer (record s { account = after event s.account })) now.packet (after event s.account) now.hand now.slot (now.stops ∙ stops)
      (at-work-turn event s.account one.hand next h)

  -- serving
  at-work-turns : (turns : ℕ) (s : RunningStation) → turns ≡ turns_of s → HasOneQueue s → s.account.down ≡ None → IsAtWork plan infos station n s.account
      → IsAtWork plan infos station n (served_turns infos (turns_of s) s).account
  at-work-turns zero s e one active h = by_turn infos queues (λ t. IsAtWork plan infos station n t.account) s one active h
      (λ event turned stops next. absurd (let more = turned.turns in omega arith))
  at-work-turns (suc turns) s e one active h = by_turn infos queues (λ t. IsAtWork plan infos station n t.account) s one active h (λ event turned stops next.
      at-work-turns turns (after_turn event s) (let more = turned.turns in omega arith) turned.one (turned.down ∙ active) (at-work-offer event s one stops next h))

  -- what serving leaves: nothing is held where the queue is open
  at-work-served : (s : RunningStation) → HasOneQueue s → IsAtWork plan infos station n s.account → IsServedWell plan infos station n (served infos s)
  at-work-served s one h = by_stop (cases_eq one.stop 0)
    where
      closed-well : one.stop ≢ 0 → IsServedWell plan infos station n s
      closed-well closed = record { one = one; work = h; holds = λ at_0. absurd (closed (sym (stop_is s.account one.stop one.stops) ∙ at_0)) }

      open-well : s.account.stops ≡ 0 ∷ [] → IsServedWell plan infos station n (served infos s)
      open-well stops =
          let after_it : IsServed s (served infos s) = is_served infos queues s one h.active stops in
          record {
            one = after_it.one;
            work = subst (λ t. IsAtWork plan infos station n t.account) (sym (served_open infos s (left_open s.account h.active stops))) (at-work-turns (turns_of s) s refl one h.active h);
            holds = holds_none after_it after_it.ends;
          }
        where
          holds_none : IsServed s (served infos s) → (is_left (served infos s).account ≡ true) ⊎ (held (served infos s).account ≡ []) → stop_of (served infos s).account ≡ 0 → held (served infos s).account ≡ []
          holds_none after_it (inr none) at_0 = none
          holds_none after_it (inl left) at_0 = absurd (true≢false (sym left ∙ left_open (served infos s).account after_it.active
              (after_it.one.stops ∙ ap (λ stop. stop ∷ []) (sym (stop_is (served infos s).account after_it.one.stop after_it.one.stops) ∙ at_0))))

      by_stop : (one.stop ≡ 0) ⊎ (one.stop ≢ 0) → IsServedWell plan infos station n (served infos s)
      by_stop (inl at_0) = open-well (one.stops ∙ ap (λ stop. stop ∷ []) at_0)
      by_stop (inr closed) = subst (IsServedWell plan infos station n) (sym (served_left infos s (left_stopped s.account one.stop one.stops closed))) (closed-well closed)

-- STATIONS IN THE RUN

of-one-queue : (s : RunningStation) → HasOneQueue s → IsOfOneQueue s
of-one-queue s one = record { queues = ap length one.stops; known = subst (λ stop. stop ≤ 2) (sym (stop_is s.account one.stop one.stops)) one.known; hand = one.hand; busies = one.busies }

-- it has one queue whatever it lets past
same-one : {a : Account} {d : Telling} {old new : Bool} → HasOneQueue (record { account = a; clean = old; device = d }) → HasOneQueue (record { account = a; clean = new; device = d })
same-one one = record { stop = one.stop; stops = one.stops; known = one.known; hand = one.hand; busies = one.busies }

in-run : {plan : Plan} {infos : List Info} {station n : ℕ} {s : RunningStation} → HasOneQueue s → IsAtWork plan infos station n s.account → (s.clean ≡ true → held s.account ≡ [])
    → IsInRun plan infos station n s
in-run {s = s} one h clean = record { at = h.at; active = h.active; one_queue = of-one-queue s one; has_slots = h.has_slots; bands = h.bands; clean = clean }

at-work : {plan : Plan} {infos : List Info} {station n : ℕ} {s : RunningStation} → IsInRun plan infos station n s → IsAtWork plan infos station n s.account
at-work h = record { at = h.at; active = h.active; has_slots = h.has_slots; bands = h.bands }

queued-stops : (n band : ℕ) (a : Account) → (joined_or_full n band a).stops ≡ a.stops
queued-stops n band a = cond_both (is_occupied a.len (a.bands band)) _ _ (λ (t : Account). t.stops ≡ a.stops) (λ full. refl) (λ room. refl)

queued-hand : (n band : ℕ) (a : Account) → (joined_or_full n band a).hand ≡ a.hand
queued-hand n band a = cond_both (is_occupied a.len (a.bands band)) _ _ (λ (t : Account). t.hand ≡ a.hand) (λ full. refl) (λ room. refl)

-- an answer leaves one queue, and what was held if it isn't Busy
answer-one : (answer : Tx) (m : ℕ) (a b : Account) (clean : Bool) (d : Telling) → IsAnswered answer m a b → d.busies ≤ d.params.busy_limit → (is_busy answer ≡ true → d.busies < d.params.busy_limit)
    → HasOneQueue (record { account = b; clean = clean; device = told_after answer d })
answer-one Sent m a b clean d h within limit = record { stop = 0; stops = h.stops; known = omega arith; hand = h.hand; busies = omega arith }
answer-one SentStop m a b clean d h within limit = record { stop = 1; stops = h.stops; known = omega arith; hand = h.hand; busies = omega arith }
answer-one SentHang m a b clean d h within limit = record { stop = 2; stops = h.stops; known = omega arith; hand = h.hand; busies = omega arith }
answer-one Busy m a b clean d h within limit = record { stop = 0; stops = h.stops; known = omega arith; hand = h.hand; busies = (let below = limit refl in omega arith) }

held-same : (a b : Account) → b.slot ≡ a.slot → b.bands ≡ a.bands → held b ≡ held a
held-same a b slot bands = ap₂ (λ slot bands. option_to_list slot ++ (held_of (bands 0) ++ (held_of (bands 1) ++ held_of (bands 2)))) slot bands

answer-holds : (answer : Tx) (m : ℕ) (a b : Account) → a.slot ≡ None → IsAnswered answer m a b → not (is_busy answer) ≡ true → held b ≡ held a
answer-holds Sent m a b slot h passes = held-same a b (h.slot ∙ sym slot) h.bands
answer-holds SentStop m a b slot h passes = held-same a b (h.slot ∙ sym slot) h.bands
answer-holds SentHang m a b slot h passes = held-same a b (h.slot ∙ sym slot) h.bands
answer-holds Busy m a b slot h passes = absurd (true≢false (sym passes))

-- it begins
begins-with : (plan : Plan) (infos : List Info) (station : ℕ) (s : StationPlan) → IsAt plan infos station 0 (new_account s.len station 1) → 0 < s.len
    → IsInRun plan infos station 0 (record (new_station station s) { account = new_account s.len station 1 })
begins-with plan infos station s at some = in-run (record { stop = 0; stops = refl; known = omega arith; hand = refl; busies = omega arith })
    (record {
      at = at;
      active = refl;
      has_slots = some;
      bands = λ band. record { taken = omega arith; slots = omega (arith, mod-le 0 s.len, mod-le (0 % s.len) (batch s.len)) };
    })
    (λ clean. refl)

pub begins_in_run : (plan : Plan) (infos : List Info) (station : ℕ) (s : StationPlan) → slice_get plan.stations station ≡ Some s → 0 < s.len → s.queues ≡ 1
    → IsInRun plan infos station 0 (new_station station s)
begins_in_run plan infos station s planned some one =
    let begins : start_of plan station ≡ new_account s.len station s.queues =
    ap (λ o. new_account (option_map_or (λ (s : StationPlan). s.len) o 0) station (option_map_or (λ (s : StationPlan). s.queues) o 1)) planned
    in
    let at = subst (IsAt plan infos station 0) (begins ∙ ap (new_account s.len station) one) (at_start plan infos station) in
    subst (λ queues. IsInRun plan infos station 0 (record (new_station station s) { account = new_account s.len station queues })) (sym one) (begins-with plan infos station s at some)

-- a packet of another station passes it by
pub passes_in_run : {plan : Plan} {infos : List Info} {station n : ℕ} {s : RunningStation} → station_in infos n ≢ station → IsInRun plan infos station n s → IsInRun plan infos station (n + 1) s
passes_in_run other h = record { at = at_other other h.at; active = h.active; one_queue = h.one_queue; has_slots = h.has_slots; bands = h.bands; clean = h.clean }

module _ (plan : Plan) (infos : List Info) (station : ℕ) (queues : AreOfOneQueue infos) where
  pub served_in_run : (n : ℕ) (s : RunningStation) → IsInRun plan infos station n s → IsInRun plan infos station n (served infos s)
  served_in_run n s h = by_stop (cases_eq one.stop 0)
    where
      one : HasOneQueue s
      one = has_one_queue s h.one_queue

      well : IsServedWell plan infos station n (served infos s)
      well = at-work-served plan infos station n queues s one (at-work h)

      by_stop : (one.stop ≡ 0) ⊎ (one.stop ≢ 0) → IsInRun plan infos station n (served infos s)
      by_stop (inl at_0) = in-run well.one well.work (λ clean. well.holds (((served_by_turns infos s queues h.one_queue).clean h.active (stop_is s.account one.stop one.stops ∙ at_0)).0 clean))
      by_stop (inr closed) = subst (IsInRun plan infos station n) (sym (served_left infos s (left_stopped s.account one.stop one.stops closed))) h

  pub opened_in_run : (n : ℕ) (s : RunningStation) → IsInRun plan infos station n s → IsInRun plan infos station n (opened s)
  opened_in_run n s h = by_stop (cases_eq (stop_of s.account) 1)
    where
      one : HasOneQueue s
      one = has_one_queue s h.one_queue

      by_stop : (stop_of s.account ≡ 1) ⊎ (stop_of s.account ≢ 1) → IsInRun plan infos station n (opened s)
      by_stop (inr other) = subst (IsInRun plan infos station n) (sym (wakes infos queues s one ∙ cond-false _ _ _ (ne_eqb (stop_of s.account) 1 other))) h
      by_stop (inl at_1) = subst (IsInRun plan infos station n) (sym (wakes infos queues s one ∙ cond-true _ _ _ (eq-eqb (stop_of s.account) 1 at_1)))
          (let stops : s.account.stops ≡ 1 ∷ [] = one.stops ∙ ap (λ stop. stop ∷ []) (sym (stop_is s.account one.stop one.stops) ∙ at_1) in
          in-run (record { stop = 0; stops = ap (λ stops. slice_set stops 0 0) stops; known = omega arith; hand = one.hand; busies = one.busies })
          (record { at = at_wake stops h.at; active = h.active; has_slots = h.has_slots; bands = h.bands }) h.clean)

  -- OFFERS

  -- the packet joined its band, or was dropped as full
  queued-works : (n : ℕ) (a : Account) → n < length infos → station_in infos n ≡ station → IsAtWork plan infos station n a → IsAtWork plan infos station (n + 1) (joined_or_full n (band_in infos n) a)
  queued-works n a within at h = by_room (cases_eq (length (held_of band) + stale_count a.len band.taken) a.len)
    where
      band : Band
      band = a.bands (band_in infos n)

      by_room : IsOccupied a.len (a.bands (band_in infos n)) ⊎ (IsOccupied a.len (a.bands (band_in infos n)) → ⊥) → IsAtWork plan infos station (n + 1) (joined_or_full n (band_in infos n) a)
      by_room (inl occupied) =
          let full = may-be-full a.len (a.bands (band_in infos n)) h.has_slots (h.bands (band_in infos n)) occupied in
          subst (IsAtWork plan infos station (n + 1)) (sym (queued_full n (band_in infos n) _ a occupied full))
          (record { at = at_full _ within at full h.at; active = h.active; has_slots = h.has_slots; bands = h.bands })
      by_room (inr room) =
          let fits = h.bands (band_in infos n) in
          subst (IsAtWork plan infos station (n + 1)) (sym (queued_join n (band_in infos n) a room))
          (record {
            at = at_join within at (let slots = fits.slots in omega (arith, room)) h.at;
            active = h.active;
            has_slots = h.has_slots;
            bands = λ b. at-cases (FitsRing a.len) (band_in infos n) b _ a.bands (λ same. fits-joined a.len n (a.bands (band_in infos n)) room fits) (λ other. h.bands b);
          })

  through-in-run : (n : ℕ) (s : RunningStation) → n < length infos → station_in infos n ≡ station → IsInRun plan infos station n s → IsInRun plan infos station (n + 1) (gone_through infos n s)
  through-in-run n s within at h = by_stop (cases_eq well.one.stop 0)
    where
      one : HasOneQueue s
      one = has_one_queue s h.one_queue

      one_queued : HasOneQueue (record s { account = joined_or_full n (band_in infos n) s.account })
      one_queued = record {
        stop = one.stop;
        known = one.known;
        busies = one.busies;
        stops = queued-stops n (band_in infos n) s.account ∙ one.stops;
        hand = queued-hand n (band_in infos n) s.account ∙ one.hand;
      }

      well : IsServedWell plan infos station (n + 1) (served_after infos n s)
      well = at-work-served plan infos station (n + 1) queues (record s { account = joined_or_full n (band_in infos n) s.account }) one_queued (queued-works n s.account within at (at-work h))

      by_stop : (well.one.stop ≡ 0) ⊎ (well.one.stop ≢ 0) → IsInRun plan infos station (n + 1) (gone_through infos n s)
      by_stop (inl at_0) = subst (IsInRun plan infos station (n + 1)) (sym (through_open infos n s (well.one.stops ∙ ap (λ stop. stop ∷ []) at_0)))
          (in-run well.one well.work (λ clean. well.holds (stop_is (served_after infos n s).account well.one.stop well.one.stops ∙ at_0)))
      by_stop (inr closed) = subst (IsInRun plan infos station (n + 1)) (sym (through_closed infos n s well.one.stop well.one.stops closed))
          (in-run (same-one well.one) well.work (λ clean. absurd (true≢false (sym clean))))

  direct-in-run : (n : ℕ) (s : RunningStation) → n < length infos → station_in infos n ≡ station → s.clean ≡ true → IsInRun plan infos station n s → IsInRun plan infos station (n + 1) (gone_direct infos n s)
  direct-in-run n s within at clean h = by_stop (cases_eq one.stop 0)
    where
      one : HasOneQueue s
      one = has_one_queue s h.one_queue

      none : held s.account ≡ []
      none = h.clean clean

      slot : s.account.slot ≡ None
      slot = slot_none s.account.slot _ none

      work : IsAtWork plan infos station (n + 1) (after (Direct n) s.account)
      work = record { at = at_direct within at one.hand none h.at; active = h.active; has_slots = h.has_slots; bands = h.bands }

      answered_in_run : (answer : Tx) → s.account.stops ≡ 0 ∷ [] → (is_busy answer ≡ true → s.device.busies < s.device.params.busy_limit)
          → IsInRun plan infos station (n + 1) (record { account = answered answer 0 (after (Direct n) s.account); clean = not (is_busy answer); device = told_after answer s.device })
      answered_in_run answer stops limit =
          let now : IsAnswered answer n (after (Direct n) s.account) (answered answer 0 (after (Direct n) s.account)) = is_answered n (after (Direct n) s.account) refl stops answer slot in
          in-run (answer-one answer n _ _ (not (is_busy answer)) s.device now one.busies limit)
          (at-work-answer plan infos station (n + 1) queues answer n (after (Direct n) s.account) refl slot stops work)
          (λ passes. answer-holds answer n _ _ slot now passes ∙ none)

      by_stop : (one.stop ≡ 0) ⊎ (one.stop ≢ 0) → IsInRun plan infos station (n + 1) (gone_direct infos n s)
      by_stop (inl at_0) =
          let stops : s.account.stops ≡ 0 ∷ [] = one.stops ∙ ap (λ stop. stop ∷ []) at_0 in
          subst (IsInRun plan infos station (n + 1)) (sym (direct_open infos n s (queues n) stops)) (answered_in_run (next_answer s) stops (busy_answer s.device _))
      by_stop (inr closed) = subst (IsInRun plan infos station (n + 1)) (sym (direct_closed infos n s one.stop (queues n) one.stops closed))
          (in-run (record { stop = one.stop; stops = one.stops; known = one.known; hand = refl; busies = one.busies })
          (record { at = at_back n refl slot work.at; active = h.active; has_slots = h.has_slots; bands = h.bands }) (λ clean. absurd (true≢false (sym clean))))

  pub brought_in_run : (bypass : Bool) (n : ℕ) (s : RunningStation) → n < length infos → station_in infos n ≡ station → IsInRun plan infos station n s
      → IsInRun plan infos station (n + 1) (brought_in infos bypass n s)
  brought_in_run bypass n s within at h = by_way (cases_Bool (bypass && s.clean))
    where
      by_way : ((bypass && s.clean) ≡ true) ⊎ ((bypass && s.clean) ≡ false) → IsInRun plan infos station (n + 1) (brought_in infos bypass n s)
      by_way (inl past) = subst (IsInRun plan infos station (n + 1)) (sym (brought_direct infos bypass n s h.active past)) (direct-in-run n s within at (and_parts bypass s.clean past).1 h)
      by_way (inr through) = subst (IsInRun plan infos station (n + 1)) (sym (brought_through infos bypass n s h.active through)) (through-in-run n s within at h)

  -- THE END

  rounds-in-run : (rounds n : ℕ) (s : RunningStation) → IsInRun plan infos station n s → IsInRun plan infos station n (finished_rounds infos rounds s)
  rounds-in-run zero n s h = h
  rounds-in-run (suc rounds) n s h =
      cond_both (is_done s.account) s (finished_rounds infos rounds (served infos (opened s))) (IsInRun plan infos station n) (λ done. h)
      (λ not_done. rounds-in-run rounds n (served infos (opened s)) (served_in_run n (opened s) (opened_in_run n s h)))

  purged-in-run : (n : ℕ) (s : RunningStation) → IsInRun plan infos station n s → IsInRun plan infos station n (record s { account = purged_if_hung s.account })
  purged-in-run n s h = by_stop (cases_eq (stop_of s.account) 2)
    where
      one : HasOneQueue s
      one = has_one_queue s h.one_queue

      by_stop : (stop_of s.account ≡ 2) ⊎ (stop_of s.account ≢ 2) → IsInRun plan infos station n (record s { account = purged_if_hung s.account })
      by_stop (inr other) = subst (λ account. IsInRun plan infos station n (record s { account = account })) (sym (keeps infos queues s one other)) h
      by_stop (inl hung) = subst (λ account. IsInRun plan infos station n (record s { account = account })) (sym (purges infos queues s one hung))
          (in-run (record { stop = one.stop; stops = one.stops; known = one.known; hand = one.hand; busies = one.busies })
          (record {
            at = at_purge one.hand ((meets_hung hung)) h.at;
            active = h.active;
            has_slots = h.has_slots;
            bands = λ band. fits-emptied s.account.len (s.account.bands band) h.has_slots;
          })
          (λ clean. purge_empties (Hung s.account.unit) s.account))
        where
          meets_hung : stop_of s.account ≡ 2 → is_hung s.account ≡ true
          meets_hung hung = one_hung s.account one.stop one.stops ∙ eq-eqb one.stop 2 (sym (stop_is s.account one.stop one.stops) ∙ hung)

  pub finished_in_run : (n : ℕ) (s : RunningStation) → IsInRun plan infos station n s → IsInRun plan infos station n (finished infos s)
  finished_in_run n s h = purged-in-run n (finished_rounds infos (length (held s.account) + 1) s) (rounds-in-run (length (held s.account) + 1) n s h)
