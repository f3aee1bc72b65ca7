-- Serving a station with one queue whose device accepts each packet and stops the queue at it: one packet is taken, or none.
use Rattle.std.proofs.Common.{◌≡◌, ℕ, zero, suc, ◌+◌, ◌-◌, ◌%◌, ◌<◌, ◌≤◌, ◌==◌, ◌&&◌, ◌||◌, Bool, true, false, cond, List, [], ◌∷◌, ◌++◌, length, Option, Some, None, nat_lt, slice_get, refl, sym, ap, ap₂, subst, ◌∙◌, arith}
use Rattle.std.specs.Prelude.{is_some, option_to_list}
use Rattle.lq_model.specs.Account.{Account, Back, Event, Pick, Take, after, held, held_in, is_open, with_at}
use Rattle.lq_model.specs.Alone.{RunningStation, answered, cleaned, hand_served, next_answer, next_taken, offered, served, served_turns, taken_served, turns_of}
use Rattle.lq_model.specs.Band.{Band, held_of, taken_by}
use Rattle.lq_model.specs.Device.{answer_of, told_after}
use Rattle.lq_model.specs.Plan.{queue_in}
use Rattle.lq_model.specs.declared.device.Tx.{Tx}
use Rattle.lq_model.specs.declared.device.Tx.TheVariants.{Sent, SentStop, SentHang, Busy}
use Rattle.lq_model.specs.declared.fate.Fate.TheVariants as fate
use Rattle.lq_model.specs.declared.fate.Info.{Info}
use Rattle.lq_lone.specs.Lone.{HaveOneQueue, Rest, station_with}

-- what the device answers: each packet stops the queue
each-stops : (n : ℕ) → ((n + 1) % 1 == 0) ≡ true
each-stops n = grind arith

pub stops-at : (x : Rest) (len : ℕ) (slot : Option ℕ) (stopped clean : Bool) → next_answer (station_with x len slot stopped clean) ≡ SentStop
stops-at x len slot stopped clean = ap (λ b. cond b SentStop Sent) (each-stops (length (x.sent x.unit)))

turns-stopped : (infos : List Info) (k : ℕ) (x : Rest) (len : ℕ) (slot : Option ℕ) (clean : Bool) → served_turns infos k (station_with x len slot true clean) ≡ station_with x len slot true clean
turns-stopped infos zero x len slot clean = refl
turns-stopped infos (suc k) x len slot clean = go x.down
  where
    go : (o : Option ℕ) → served_turns infos (suc k) (station_with (record x { down = o }) len slot true clean) ≡ station_with (record x { down = o }) len slot true clean
    go None = refl
    go (Some e) = refl

-- what was sent behind a packet that the device accepted
abbrev pub sent-on : Rest → ℕ → Rest
sent-on x n = record x {
  sent = with_at x.unit (x.sent x.unit ++ n ∷ []) x.sent;
  fates = with_at n (Some (fate.Sent x.unit (length (x.sent x.unit)))) x.fates;
  busies = x.busies + 0;
}

-- with this packet in hand
abbrev in-hand : Rest → ℕ → ℕ → Option ℕ → Bool → RunningStation
in-hand x n len slot clean = record (station_with x len slot false clean) { account = record (station_with x len slot false clean).account { hand = Some n } }

-- a packet in hand is offered, and the station is stopped behind it
offered-on : (infos : List Info) (x : Rest) (k len n : ℕ) (slot : Option ℕ) (clean : Bool) → HaveOneQueue infos
    → hand_served infos (served_turns infos k) (in-hand x n len slot clean) ≡ station_with (sent-on x n) len slot true clean
offered-on infos x k len n slot clean queues =
    let s = in-hand x n len slot clean in
    ap (λ (q : ℕ). cond (is_open s.account q) (served_turns infos k (offered q s)) (record s { account = after Back s.account })) (queues n)
    ∙ (ap (λ (answer : Tx). served_turns infos k (record { account = answered answer 0 s.account; clean = clean; device = told_after answer s.device })) (stops-at x len slot false clean)
    ∙ turns-stopped infos k (sent-on x n) len slot clean)

-- by the packet of the requeue slot
turn-slot : (infos : List Info) (x : Rest) (k len n : ℕ) (clean : Bool) → HaveOneQueue infos → x.down ≡ None
    → served_turns infos (suc k) (station_with x len (Some n) false clean) ≡ station_with (sent-on x n) len None true clean
turn-slot infos x k len n clean queues active =
    ap (λ (o : Option ℕ). cond (is_some o || false) (station_with x len (Some n) false clean) (hand_served infos (served_turns infos k) (in-hand x n len None clean))) active
    ∙ offered-on infos x k len n None clean queues

-- by the first packet of a band
turn-band : (infos : List Info) (x : Rest) (k len band n : ℕ) (clean : Bool) → HaveOneQueue infos → x.down ≡ None
    → next_taken (station_with x len None false clean).account ≡ Some (Take band) → slice_get (held_of (x.bands band)) 0 ≡ Some n
    → served_turns infos (suc k) (station_with x len None false clean) ≡ station_with (sent-on (record x { bands = with_at band (taken_by (x.bands band) 1) x.bands }) n) len None true clean
turn-band infos x k len band n clean queues active next first =
    let s = station_with x len None false clean in
    ap₂ (λ (o : Option ℕ) (t : Option Event). cond (is_some o || false) s (taken_served infos (served_turns infos k) t s)) active next
    ∙ (ap (λ (h : Option ℕ). hand_served infos (served_turns infos k) (record s { account = record s.account { bands = with_at band (taken_by (x.bands band) 1) x.bands; hand = h } })) first
    ∙ offered-on infos (record x { bands = with_at band (taken_by (x.bands band) 1) x.bands }) k len n None clean queues)

turn-none : (infos : List Info) (x : Rest) (k len : ℕ) (clean : Bool) → x.down ≡ None → next_taken (station_with x len None false clean).account ≡ None
    → served_turns infos k (station_with x len None false clean) ≡ station_with x len None false clean
turn-none infos x zero len clean active next = refl
turn-none infos x (suc k) len clean active next =
    let s = station_with x len None false clean in
    ap₂ (λ (o : Option ℕ) (t : Option Event). cond (is_some o || false) s (taken_served infos (served_turns infos k) t s)) active next

-- SERVED

served-by : (infos : List Info) (x : Rest) (len k : ℕ) (slot : Option ℕ) (clean : Bool) (t : RunningStation) → x.down ≡ None → turns_of (station_with x len slot false clean) ≡ k
    → served_turns infos k (station_with x len slot false clean) ≡ t → served infos (station_with x len slot false clean) ≡ cleaned t
served-by infos x len k slot clean t active turns is =
    let s = station_with x len slot false clean in
    ap₂ (λ (o : Option ℕ) (k : ℕ). cond (is_some o || false) s (cleaned (served_turns infos k s))) active turns ∙ ap cleaned is

pub served-slot : (infos : List Info) (x : Rest) (len n : ℕ) (clean : Bool) → HaveOneQueue infos → x.down ≡ None
    → served infos (station_with x len (Some n) false clean) ≡ station_with (sent-on x n) len None true false
served-slot infos x len n clean queues active =
    served-by infos x len (suc (turns_of (station_with x len (Some n) false clean) - 1)) (Some n) clean _ active (grind arith) (turn-slot infos x _ len n clean queues active)

pub served-band : (infos : List Info) (x : Rest) (len band n : ℕ) (clean : Bool) → HaveOneQueue infos → x.down ≡ None
    → next_taken (station_with x len None false clean).account ≡ Some (Take band) → slice_get (held_of (x.bands band)) 0 ≡ Some n → 0 < length (held (station_with x len None false clean).account)
    → served infos (station_with x len None false clean) ≡ station_with (sent-on (record x { bands = with_at band (taken_by (x.bands band) 1) x.bands }) n) len None true false
served-band infos x len band n clean queues active next first some =
    served-by infos x len (suc (turns_of (station_with x len None false clean) - 1)) None clean _ active (omega (arith, some)) (turn-band infos x _ len band n clean queues active next first)

pub served-none : (infos : List Info) (x : Rest) (len : ℕ) (clean : Bool) → x.down ≡ None → next_taken (station_with x len None false clean).account ≡ None
    → served infos (station_with x len None false clean) ≡ station_with x len None false true
served-none infos x len clean active next = served-by infos x len _ None clean _ active refl (turn-none infos x _ len clean active next)
