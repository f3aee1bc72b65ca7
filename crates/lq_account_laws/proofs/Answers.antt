-- What an answer of the device leaves of the account, with one queue that is open.
use Rattle.std.proofs.Common.{◌≡◌, ◌≢◌, ℕ, true, false, [], ◌∷◌, ◌++◌, length, Option, Some, None, refl, sym, ap, subst, ◌∙◌, append-nil}
use Rattle.std.proofs.lemmas.Bool.{eq-eqb, ne_eqb, cond-true, cond-false}
use Rattle.lq_model.specs.Account.{Account, Send, Stop, after, sent_from_hand, with_at}
use Rattle.lq_model.specs.Alone.{answered, hung_up_to}
use Rattle.lq_model.specs.Device.{is_busy, taken}
use Rattle.lq_model.specs.declared.device.Tx.{Tx}
use Rattle.lq_model.specs.declared.device.Tx.TheVariants.{Sent, SentStop, SentHang, Busy}
use Rattle.lq_model.specs.declared.fate.Fate.TheVariants as fate

-- the value at the changed number, and at the others
pub with_at_same : {X : Type 0} (n : ℕ) (x : X) (f : ℕ → X) → with_at n x f n ≡ x
with_at_same n x f = cond-true _ _ _ (eq-eqb n n refl)

pub with_at_other : {X : Type 0} (n k : ℕ) (x : X) (f : ℕ → X) → k ≢ n → with_at n x f k ≡ f k
with_at_other n k x f other = cond-false _ _ _ (ne_eqb k n other)

-- what lies in the requeue slot, and the stop value, after an answer
abbrev pub slot_after : Tx → ℕ → Option ℕ
slot_after Sent m = None
slot_after SentStop m = None
slot_after SentHang m = None
slot_after Busy m = Some m

abbrev pub stop_number_after : Tx → ℕ
stop_number_after Sent = 0
stop_number_after SentStop = 1
stop_number_after SentHang = 2
stop_number_after Busy = 0

-- The packet m was in hand. It is sent, or lies in the requeue slot, and nothing else has changed but the stop value.
pub record IsAnswered (answer : Tx) (m : ℕ) (a b : Account) : Type 0 where
  pub len : b.len ≡ a.len
  pub bands : b.bands ≡ a.bands
  pub slot : b.slot ≡ slot_after answer m
  pub hand : b.hand ≡ None
  pub unit : b.unit ≡ a.unit
  pub sent : b.sent a.unit ≡ a.sent a.unit ++ taken answer m
  pub sent_others : (unit : ℕ) → unit ≢ a.unit → b.sent unit ≡ a.sent unit
  pub fate : is_busy answer ≡ false → b.fates m ≡ Some (fate.Sent a.unit (length (a.sent a.unit)))
  pub fate_others : (n : ℕ) → n ≢ m → b.fates n ≡ a.fates n
  pub fate_busy : is_busy answer ≡ true → b.fates ≡ a.fates
  pub stops : b.stops ≡ stop_number_after answer ∷ []
  pub down : b.down ≡ a.down

module _ (m : ℕ) (a : Account) (hand : a.hand ≡ Some m) (stops : a.stops ≡ 0 ∷ []) where
  -- as terms
  pub answered_sent : answered Sent 0 a ≡ sent_from_hand (Some m) a
  answered_sent = ap (λ hand. sent_from_hand hand a) hand

  pub answered_stop : answered SentStop 0 a ≡ record (sent_from_hand (Some m) a) { stops = 1 ∷ [] }
  answered_stop = ap (λ hand. after (Stop 0 1) (sent_from_hand hand a)) hand ∙ ap (λ stops. after (Stop 0 1) (sent_from_hand (Some m) (record a { stops = stops }))) stops

  pub answered_hang : answered SentHang 0 a ≡ record (sent_from_hand (Some m) a) { stops = 2 ∷ [] }
  answered_hang =
      ap (λ stops. hung_up_to (length stops) (after Send a)) stops
      ∙ ap (λ hand. after (Stop 0 2) (sent_from_hand hand a)) hand ∙ ap (λ stops. after (Stop 0 2) (sent_from_hand (Some m) (record a { stops = stops }))) stops

  pub answered_busy : answered Busy 0 a ≡ record a { slot = Some m; hand = None }
  answered_busy = ap (λ hand. record a { slot = hand; hand = None }) hand

  -- by parts
  sent-after : (answer : Tx) (stop : ℕ) → slot_after answer m ≡ None → taken answer m ≡ m ∷ [] → is_busy answer ≡ false → stop_number_after answer ≡ stop → a.slot ≡ None
      → IsAnswered answer m a (record (sent_from_hand (Some m) a) { stops = stop ∷ [] })
  sent-after answer stop slot takes busy stop_is empty = record {
    len = refl;
    bands = refl;
    hand = refl;
    unit = refl;
    down = refl;
    slot = empty ∙ sym slot;
    sent = with_at_same a.unit _ a.sent ∙ ap (λ new. a.sent a.unit ++ new) (sym takes);
    sent_others = λ unit other. with_at_other a.unit unit _ a.sent other;
    fate = λ e. with_at_same m _ a.fates;
    fate_others = λ n other. with_at_other m n _ a.fates other;
    fate_busy = λ e. cc;
    stops = ap (λ word. word ∷ []) (sym stop_is);
  }

  pub is_answered : (answer : Tx) → a.slot ≡ None → IsAnswered answer m a (answered answer 0 a)
  is_answered Sent empty = subst (IsAnswered Sent m a) (ap (λ stops. record (sent_from_hand (Some m) a) { stops = stops }) (sym stops) ∙ sym answered_sent)
      (sent-after Sent 0 refl refl refl refl empty)
  is_answered SentStop empty = subst (IsAnswered SentStop m a) (sym answered_stop) (sent-after SentStop 1 refl refl refl refl empty)
  is_answered SentHang empty = subst (IsAnswered SentHang m a) (sym answered_hang) (sent-after SentHang 2 refl refl refl refl empty)
  is_answered Busy empty = subst (IsAnswered Busy m a) (sym answered_busy) (record {
    len = refl;
    bands = refl;
    slot = refl;
    hand = refl;
    unit = refl;
    down = refl;
    sent = sym (append-nil (a.sent a.unit));
    sent_others = λ unit other. refl;
    fate = λ e. cc;
    fate_others = λ n other. refl;
    fate_busy = λ e. refl;
    stops = stops;
  })
