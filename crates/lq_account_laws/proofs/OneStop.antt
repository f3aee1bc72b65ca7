-- With one queue a station's events, its serving and its end are a matter of its one stop value.
use Rattle.std.proofs.Common.{◌≡◌, ℕ, zero, suc, ◌≤◌, true, List, [], ◌∷◌, ◌⊎◌, ◌↔◌, inl, inr, filter, map, refl, sym, ap, subst, ◌∙◌, arith}
use Rattle.std.specs.Prelude.{replicate, slice_index, slice_set}
use Rattle.std.proofs.lemmas.Bool.{eq-eqb, eqb-true}
use Rattle.lq_model.specs.Account.{Account, Event, Join, Full, Refuse, Empty, Take, Pick, Direct, Send, Back, Stop, Wake, Resize, Down, Purge, Swap, Up, after, after_all, is_hung, sent_from_hand}
use Rattle.lq_model.specs.Legal.{IsLegal, IsQueueSentOn, MayCome, begins_with_hang, begins_with_send, is_after_send, is_hanging_past, is_holders}
use Rattle.lq_model.specs.Plan.{Plan, queue_in, queues_at}
use Rattle.lq_model.specs.declared.fate.Info.{Info}
use Rattle.lq_account_laws.specs.OneQueue.{AreOfOneQueue, MeetsOneStopValue, stop_of}
use Rattle.lq_account_laws.specs.Progress.{start_of}
use Rattle.lq_account_laws.proofs.OneQueue.{one_hung, one_open}
use Rattle.lq_account_laws.proofs.Steps.{sent_last}
use Rattle.lq_account_laws.proofs.Legal.{legal-before}

-- THE ONE STOP VALUE

-- there is one, and it is 0, 1 or 2
record HasOneStop (a : Account) : Type 0 where
  stop : ℕ
  stops : a.stops ≡ stop ∷ []
  known : stop ≤ 2

stop-set : (stops : List ℕ) (stop queue value : ℕ) → stops ≡ stop ∷ [] → value ≤ 2 → stop ≤ 2 → (new : ℕ) × (slice_set stops queue value ≡ new ∷ []) × (new ≤ 2)
stop-set stops stop zero value is value_known stop_known = (value, ap (λ xs. slice_set xs 0 value) is, value_known)
stop-set stops stop (suc queue) value is value_known stop_known = (stop, ap (λ xs. slice_set xs (suc queue) value) is, stop_known)

module _ (infos : List Info) (station : ℕ) (past : List Event) (a : Account) (h : HasOneStop a) where
  set-one : (queue value : ℕ) → value ≤ 2 → HasOneStop (record a { stops = slice_set a.stops queue value })
  set-one queue value known = let new = stop-set a.stops h.stop queue value h.stops known h.known in record { stop = new.0; stops = new.1; known = new.2 }

  one-stop-step : (e : Event) → MayCome infos station past a e → HasOneStop (after e a)
  one-stop-step (Join n band) may = record { stop = h.stop; stops = h.stops; known = h.known }
  one-stop-step (Full n seen) may = record { stop = h.stop; stops = h.stops; known = h.known }
  one-stop-step (Refuse n event) may = record { stop = h.stop; stops = h.stops; known = h.known }
  one-stop-step (Empty band) may = h
  one-stop-step (Take band) may = record { stop = h.stop; stops = h.stops; known = h.known }
  one-stop-step Pick may = record { stop = h.stop; stops = h.stops; known = h.known }
  one-stop-step (Direct n) may = record { stop = h.stop; stops = h.stops; known = h.known }
  one-stop-step Send may = subst (λ hand. HasOneStop (sent_from_hand hand a)) (sym may.1) (record { stop = h.stop; stops = h.stops; known = h.known })
  one-stop-step Back may = record { stop = h.stop; stops = h.stops; known = h.known }
  one-stop-step (Stop queue value) (inl may) = (let is : value ≡ 1 = may.0 in set-one queue value (omega arith))
  one-stop-step (Stop queue value) (inr may) = (let is : value ≡ 2 = may.0 in set-one queue value (omega arith))
  one-stop-step (Wake queue) may = set-one queue 0 (omega arith)
  one-stop-step (Resize len event) may = record { stop = h.stop; stops = h.stops; known = h.known }
  one-stop-step (Down event) may = record { stop = h.stop; stops = h.stops; known = h.known }
  one-stop-step (Purge cause) may = record { stop = h.stop; stops = h.stops; known = h.known }
  one-stop-step (Swap unit) may = record { stop = 0; stops = ap (map (λ _. 0)) h.stops; known = omega arith }
  one-stop-step Up may = record { stop = h.stop; stops = h.stops; known = h.known }

has-one-stop : (plan : Plan) (infos : List Info) (station : ℕ) (past : List Event) → queues_at plan.stations station ≡ 1 → IsLegal plan infos station (start_of plan station) past
    → HasOneStop (after_all (start_of plan station) past)
has-one-stop plan infos station [] single legal = record { stop = 0; stops = ap (λ (queues : ℕ). replicate queues 0) single; known = omega arith }
has-one-stop plan infos station (e ∷ past) single legal =
    one-stop-step infos station past (after_all (start_of plan station) past) (has-one-stop plan infos station past single (legal-before legal)) e legal.comes.1.0

-- AFTER A SEND

-- the holder's last event was a send: what the unit sent last is the packet that was in hand then
queue-sent-on : (plan : Plan) (infos : List Info) (station : ℕ) (start : Account) (past : List Event) → AreOfOneQueue infos → IsLegal plan infos station start past
    → is_after_send past ≡ true → IsQueueSentOn infos (after_all start past) 0
queue-sent-on plan infos station start [] one legal follows = cc
queue-sent-on plan infos station start (Send ∷ past) one legal follows = sent_last infos (after_all start past) legal.comes.1.0.0 legal.comes.1.0.1 (one legal.comes.1.0.0)
queue-sent-on plan infos station start (Join n band ∷ past) one legal follows = queue-sent-on plan infos station start past one (legal-before legal) follows
queue-sent-on plan infos station start (Full n seen ∷ past) one legal follows = queue-sent-on plan infos station start past one (legal-before legal) follows
queue-sent-on plan infos station start (Refuse n event ∷ past) one legal follows = queue-sent-on plan infos station start past one (legal-before legal) follows
queue-sent-on plan infos station start (Wake queue ∷ past) one legal follows = queue-sent-on plan infos station start past one (legal-before legal) follows
queue-sent-on plan infos station start (Down event ∷ past) one legal follows = queue-sent-on plan infos station start past one (legal-before legal) follows
queue-sent-on plan infos station start (Up ∷ past) one legal follows = queue-sent-on plan infos station start past one (legal-before legal) follows
queue-sent-on plan infos station start (Empty band ∷ past) one legal follows = cc
queue-sent-on plan infos station start (Take band ∷ past) one legal follows = cc
queue-sent-on plan infos station start (Pick ∷ past) one legal follows = cc
queue-sent-on plan infos station start (Direct n ∷ past) one legal follows = cc
queue-sent-on plan infos station start (Back ∷ past) one legal follows = cc
queue-sent-on plan infos station start (Stop queue value ∷ past) one legal follows = cc
queue-sent-on plan infos station start (Resize len event ∷ past) one legal follows = cc
queue-sent-on plan infos station start (Purge cause ∷ past) one legal follows = cc
queue-sent-on plan infos station start (Swap unit ∷ past) one legal follows = cc

hang-after-send : (past : List Event) → begins_with_send past ≡ true → begins_with_hang past ≡ true
hang-after-send [] follows = cc
hang-after-send (Send ∷ past) follows = refl
hang-after-send (e ∷ past) follows = cc

-- EVENTS

pub meets_one_stop_value : (plan : Plan) (infos : List Info) (station : ℕ) (past : List Event) (a : Account) → AreOfOneQueue infos → queues_at plan.stations station ≡ 1
    → IsLegal plan infos station (start_of plan station) past → a ≡ after_all (start_of plan station) past → MeetsOneStopValue infos station past a
meets_one_stop_value plan infos station past a one single legal is = record {
  queues = queues;
  known = subst (λ stop. stop ≤ 2) (sym stop_is) h.known;
  opens = (λ e. stop_is ∙ eqb-true h.stop 0 (sym (one_open a h.stop h.stops) ∙ e), λ e. one_open a h.stop h.stops ∙ eq-eqb h.stop 0 (sym stop_is ∙ e));
  hung = hung;
  may_send = (λ may. ((may.0, may.1), sym (at may.0) ∙ may.2), λ may. (may.0.0, may.0.1, at may.0.0 ∙ may.1));
  may_stop = λ value. (stop-to value, stop-from value);
  may_hang = hang-after-send (filter is_holders past);
  may_wake = (λ may. may, λ may. may);
  may_purge = λ unit. (λ may. (may.0, (may.1.0, hung.0 may.1.1)), λ may. (may.0, (may.1.0, hung.1 may.1.1)));
}
  where
    h : HasOneStop a
    h = subst HasOneStop (sym is) (has-one-stop plan infos station past single legal)

    stop_is : stop_of a ≡ h.stop
    stop_is = ap (λ stops. slice_index stops 0) h.stops

    queues : a.stops ≡ stop_of a ∷ []
    queues = h.stops ∙ ap (λ stop. stop ∷ []) (sym stop_is)

    hung : (is_hung a ≡ true) ↔ (stop_of a ≡ 2)
    hung = (λ e. stop_is ∙ eqb-true h.stop 2 (sym (one_hung a h.stop h.stops) ∙ e), λ e. one_hung a h.stop h.stops ∙ eq-eqb h.stop 2 (sym stop_is ∙ e))

    at : (n : ℕ) → slice_index a.stops (queue_in infos n) ≡ stop_of a
    at n = ap (λ queue. slice_index a.stops queue) (one n)

    stop-to : (value : ℕ) → MayCome infos station past a (Stop 0 value) → ((value ≡ 1) × (is_after_send past ≡ true)) ⊎ ((value ≡ 2) × (is_hanging_past past ≡ true))
    stop-to value (inl may) = inl (may.0, may.1)
    stop-to value (inr may) = inr may

    stop-from : (value : ℕ) → ((value ≡ 1) × (is_after_send past ≡ true)) ⊎ ((value ≡ 2) × (is_hanging_past past ≡ true)) → MayCome infos station past a (Stop 0 value)
    stop-from value (inl may) = inl (may.0, may.1, subst (λ b. IsQueueSentOn infos b 0) (sym is) (queue-sent-on plan infos station (start_of plan station) past one legal may.1))
    stop-from value (inr may) = inr may
