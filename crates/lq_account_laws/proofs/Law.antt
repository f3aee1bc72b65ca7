-- The law of accounts: the closed account of a station settles the fates of its packets.
use Rattle.std.proofs.Common.{◌≡◌, ℕ, ◌<◌, List, [], ◌∷◌, ◌⊎◌, inl, inr, length, Some, sym, ap, ◌∙◌, subst, slice_get, arith}
use Rattle.std.proofs.lemmas.Bool.{cases_order}
use Rattle.std.proofs.lemmas.Option.{same_Some}
use Rattle.lq_model.specs.Account.{Account, Event, after, after_all}
use Rattle.lq_model.specs.Legal.{IsLegal}
use Rattle.lq_model.specs.Plan.{Plan, queues_at, owner_in, station_in, band_in}
use Rattle.lq_model.specs.Settled.{IsFateAt, IsUnitOf}
use Rattle.lq_model.specs.declared.fate.Cause.TheVariants as cause
use Rattle.lq_model.specs.declared.fate.Fate.{Fate}
use Rattle.lq_model.specs.declared.fate.Fate.TheVariants as fate
use Rattle.lq_model.specs.declared.fate.Info.{Info}
use Rattle.lq_account_laws.specs.Places.{AreBrought, KeepsOrder, Undecided}
use Rattle.lq_account_laws.specs.Accounts.{IsClosed, IsSettledStation}
use Rattle.lq_account_laws.specs.Progress.{start_of, len_of}
use Rattle.lq_account_laws.proofs.Brought.{brought-start, brought-step}
use Rattle.lq_account_laws.proofs.Order.{order-start, order-step}
use Rattle.lq_account_laws.proofs.Waiting.{undecided-start, undecided-step}
use Rattle.lq_account_laws.proofs.Used.{AreUsed, used-start, used-step}
use Rattle.lq_account_laws.proofs.SentBy.{AreSent, IsEarlier, sent-start, sent-step}
use Rattle.lq_account_laws.proofs.Saw.{AreSeen, seen-start, seen-step, full-fate}
use Rattle.lq_account_laws.proofs.AsPlanned.{legal-of}
use Rattle.lq_account_laws.proofs.Shrank.{AreShrunk, shrunk-start, shrunk-step, shrinking}
use Rattle.lq_account_laws.proofs.Causes.{AreCaused, caused-start, caused-step, last-unit}
use Rattle.lq_account_laws.proofs.Legal.{IsLegalNext, legal-before, legal-next}

-- what holds of an account that a legal list of events leaves
pub record IsSound (plan : Plan) (infos : List Info) (station : ℕ) (past : List Event) (a : Account) : Type 0 where
  pub known : AreBrought infos station past a
  pub order : KeepsOrder infos a
  pub free : Undecided a
  pub used : AreUsed plan station past a
  pub sent : AreSent infos a
  pub seen : AreSeen plan infos station past a
  pub shrunk : AreShrunk plan station past a
  pub caused : AreCaused plan station past a

sound-step : (plan : Plan) (infos : List Info) (station : ℕ) (past : List Event) (a : Account) (e : Event) → station < length plan.stations → IsSound plan infos station past a
    → IsLegalNext plan infos station past a e → IsSound plan infos station (e ∷ past) (after e a)
sound-step plan infos station past a e inside h next = record {
  known = brought-step infos station past a h.known e next.may_come;
  order = order-step infos station past a h.known h.order e next.may_come next.in_turn;
  free = undecided-step infos station past a h.known h.order h.free e next.may_come next.in_turn;
  used = used-step plan infos station past a inside h.used e next.may_come next.planned;
  sent = sent-step plan infos station past a h.known h.order h.free h.used h.sent e next.may_come next.in_turn;
  seen = seen-step plan infos station past a h.known h.order h.seen e next.may_come next.planned next.in_turn;
  shrunk = shrunk-step plan infos station past a inside h.shrunk e next.may_come next.planned;
  caused = caused-step plan infos station past a h.used h.caused e next.may_come;
}

pub sound : (plan : Plan) (infos : List Info) (station : ℕ) (past : List Event) → station < length plan.stations → IsLegal plan infos station (start_of plan station) past
    → IsSound plan infos station past (after_all (start_of plan station) past)
sound plan infos station [] inside legal = let queues = queues_at plan.stations station in record {
  known = brought-start infos station (len_of plan station) station queues;
  order = order-start infos (len_of plan station) station queues;
  free = undecided-start (len_of plan station) station queues;
  used = used-start plan station (len_of plan station) queues;
  sent = sent-start infos (len_of plan station) station queues;
  seen = seen-start plan infos station queues inside;
  shrunk = shrunk-start plan station queues inside;
  caused = caused-start plan station (len_of plan station) station queues;
}
sound plan infos station (e ∷ past) inside legal =
    sound-step plan infos station past (after_all (start_of plan station) past) e inside (sound plan infos station past inside (legal-before legal)) (legal-next legal)

-- what a unit sent are packets of the station, and the unit is one of the station
pub sent_of_station : (plan : Plan) (infos : List Info) (station : ℕ) (past : List Event) (a : Account) → IsSound plan infos station past a
    → (n unit serial : ℕ) → slice_get (a.sent unit) serial ≡ Some n → (n < length infos) × ((station_in infos n ≡ station) × IsUnitOf plan station unit)
sent_of_station plan infos station past a h n unit serial there =
    let packet = h.known.packets n (h.known.fates n (fate.Sent unit serial) (h.sent.has_fate n unit serial there)) in
    (packet.0, (packet.1, (h.used.sent unit serial n there).1))

module _ (plan : Plan) (infos : List Info) (fates : List Fate) (station : ℕ) (past : List Event) (a : Account) (inside : station < length plan.stations) (closed : IsClosed plan infos fates station past a) where
  whole : IsSound plan infos station past a
  whole = subst (IsSound plan infos station past) (sym closed.account) (sound plan infos station past inside (legal-of plan infos fates station past a closed))

  -- the account has the fate that the list has
  same-fate : (n : ℕ) (f : Fate) → n < length infos → station_in infos n ≡ station → slice_get fates n ≡ Some f → a.fates n ≡ Some f
  same-fate n f below at there =
      let settled = closed.decided n below at in settled.2 ∙ (sym settled.1 ∙ there)

  listed-fate : (n : ℕ) (f : Fate) → n < length infos → station_in infos n ≡ station → a.fates n ≡ Some f → slice_get fates n ≡ Some f
  listed-fate n f below at there =
      let settled = closed.decided n below at in settled.1 ∙ (sym settled.2 ∙ there)

  fate-at : (n : ℕ) (f : Fate) → a.fates n ≡ Some f → IsFateAt plan infos fates station n f
  fate-at n (fate.Sent unit serial) is = (whole.used.sent unit serial n (whole.sent.stands n unit serial is)).1
  fate-at n (fate.Full seen) is = full-fate plan infos fates station past a whole.known closed.decided n seen (whole.seen.full n seen is)
  fate-at n (fate.Shrunk event) is = shrinking plan station past event closed.events (whole.shrunk.shrunk n event is)
  fate-at n (fate.Purged (cause.Event event)) is = whole.caused.purged n event is
  fate-at n (fate.Purged (cause.Hung unit)) is = last-unit plan station past a whole.used whole.caused closed.events closed.no_swap_after_hang n unit is
  fate-at n (fate.Refused event) is = whole.caused.refused n event is

  places : (u s v t : ℕ) → IsEarlier u s v t ⊎ (((u ≡ v) × (s ≡ t)) ⊎ IsEarlier v t u s)
  places u s v t = elim (cases_order u v) [
    | inl same ↦ elim (cases_order s t) [
      | inl equal ↦ inr (inl (same, equal))
      | inr (inl below) ↦ inl (inr (same, below))
      | inr (inr above) ↦ inr (inr (inr (sym same, above)))
    ]
    | inr (inl below) ↦ inl (inl below)
    | inr (inr above) ↦ inr (inr (inl above))
  ]

  in-order : (m n u v s t : ℕ) → m < n → owner_in infos m ≡ owner_in infos n → band_in infos m ≡ band_in infos n
      → slice_get (a.sent u) s ≡ Some m → slice_get (a.sent v) t ≡ Some n → IsEarlier u s v t
  in-order m n u v s t below owner band first second = elim (places u s v t) [
    | inl earlier ↦ earlier
    | inr (inl same) ↦ absurd (let both : Some m ≡ Some n = sym first ∙ (ap (λ w. slice_get (a.sent w) s) same.0 ∙ (ap (slice_get (a.sent v)) same.1 ∙ second)) in
        let equal : m ≡ n = same_Some m n both in omega arith)
    | inr (inr later) ↦ absurd (let above = whole.sent.order n m v u t s second first later (sym owner) (sym band) in omega arith)
  ]

  pub law_of_accounts : IsSettledStation plan infos fates station a
  law_of_accounts = record {
    each = λ n f below at there. fate-at n f (same-fate n f below at there);
    sent = λ n unit serial below at. (
      λ there. whole.sent.stands n unit serial (same-fate n (fate.Sent unit serial) below at there),
      λ there. listed-fate n (fate.Sent unit serial) below at (whole.sent.has_fate n unit serial there),
    );
    of_station = sent_of_station plan infos station past a whole;
    in_order = λ m n u v s t below within at_m at_n owner band first second.
        in-order m n u v s t below owner band
        (whole.sent.stands m u s (same-fate m (fate.Sent u s) (omega arith) at_m first))
        (whole.sent.stands n v t (same-fate n (fate.Sent v t) within at_n second));
  }
