-- A packet is brought to a station, with one queue or several; and a station that rests.
use Rattle.std.proofs.Common.{◌≡◌, ℕ, ◌<◌, Bool, true, false, not, ◌&&◌, ◌||◌, List, [], length, Option, Some, None, is_none, if◌then◌else◌, refl, sym, ap, ◌∙◌, subst}
use Rattle.std.specs.Option.{option_map_or}
use Rattle.std.proofs.lemmas.Bool.{cond-true, cond-false, true≢false}
use Rattle.lq_account_laws.proofs.Taken.{next_none}
use Rattle.lq_account_laws.proofs.Turns.{served_left, served_open}
use Rattle.lq_model.specs.Account.{Account, Back, Direct, Full, Join, after, held, is_open, is_shared}
use Rattle.lq_model.specs.Alone.{RunningStation, gone_direct, gone_through, is_clean, is_left, is_occupied, joined_or_full, next_answer, next_taken, offered, seen_in, served, served_turns, turns_of}
use Rattle.lq_model.specs.Device.{is_busy}
use Rattle.lq_model.specs.Plan.{band_in, queue_in}
use Rattle.lq_model.specs.declared.fate.Info.{Info}
use Rattle.lq_qdisc.specs.Stations.{AreStopValues, IsBetweenOffers, dirty, is_waiting, may_take}
use Rattle.lq_qdisc.proofs.AloneServed.{clean_none, dirty_open, left_if, not_left, served_none, served_twice, served_waiting, waiting_clean}

-- A STATION THAT RESTS

takes-if : (a : Account) → is_left a ≡ false → may_take a ≡ true
takes-if a opens = by_take (may_take a) refl
  where
    by_take : (b : Bool) → may_take a ≡ b → may_take a ≡ true
    by_take true e = e
    by_take false e = absurd (true≢false (sym (left_if a e) ∙ opens))

-- with several queues the packet that waits lies in the requeue slot
record Waits (infos : List Info) (a : Account) : Type 0 where
  packet : ℕ
  slot : a.slot ≡ Some packet
  closed : is_open a (queue_in infos packet) ≡ false

not-true : (b : Bool) → not b ≡ true → b ≡ false
not-true true e = absurd (true≢false (sym e))
not-true false e = refl

waits-shared : (infos : List Info) (a : Account) → is_shared a ≡ true → is_waiting infos a ≡ true → Waits infos a
waits-shared infos a shared waits = by_slot a.slot refl (sym (cond-true _ _ _ shared) ∙ waits)
  where
    by_slot : (o : Option ℕ) → a.slot ≡ o → option_map_or (λ n. not (is_open a (queue_in infos n))) o false ≡ true → Waits infos a
    by_slot None slot waits = absurd (true≢false (sym waits))
    by_slot (Some n) slot waits = record { packet = n; slot = slot; closed = not-true (is_open a (queue_in infos n)) waits }

-- serving changes nothing where nothing is held and packets may go past the bands, or where the next packet waits
pub served_rests : (infos : List Info) (s : RunningStation) → s.account.hand ≡ None → (s.clean ≡ true → held s.account ≡ []) → (s.clean ≡ false → is_waiting infos s.account ≡ true) → served infos s ≡ s
served_rests infos s hand empty waits = by_left (is_left s.account) refl
  where
    by_shared : is_left s.account ≡ false → s.clean ≡ false → (b : Bool) → is_shared s.account ≡ b → served infos s ≡ s
    by_shared opens clean true shared =
        let w = waits-shared infos s.account shared (waits clean) in
        served_waiting infos s w.packet opens hand w.slot w.closed
        ∙ ap (λ (b : Bool). record s { clean = b }) (waiting_clean infos s w.packet opens hand w.slot w.closed shared ∙ sym clean)
    by_shared opens clean false alone =
        let shut = not-true (is_open s.account 0) (sym (cond-false _ _ _ alone) ∙ waits clean) in
        absurd (true≢false (sym (takes-if s.account opens) ∙ (ap (λ (b : Bool). b || is_open s.account 0) alone ∙ shut)))

    by_clean : is_left s.account ≡ false → (b : Bool) → s.clean ≡ b → served infos s ≡ s
    by_clean opens true clean =
        let none = empty clean in
        served_none infos s opens none
        ∙ ap (λ (b : Bool). record s { clean = b }) (clean_none s.account (takes-if s.account opens) (next_none s.account none) ∙ sym clean)
    by_clean opens false clean = by_shared opens clean (is_shared s.account) refl

    by_left : (b : Bool) → is_left s.account ≡ b → served infos s ≡ s
    by_left true e = served_left infos s e
    by_left false e = by_clean e s.clean refl

-- a station that is served as it is: either no packet may go past the bands, or its next packet may be taken
pub same_dirty : (infos : List Info) (s : RunningStation) → s.account.down ≡ None → (s.clean ≡ true → may_take s.account ≡ true) → served infos s ≡ served infos (dirty s)
same_dirty infos s active shut = by_clean s.clean refl
  where
    by_clean : (b : Bool) → s.clean ≡ b → served infos s ≡ served infos (dirty s)
    by_clean true e = sym (dirty_open infos s (not_left s.account active (shut e)))
    by_clean false e = ap (λ (b : Bool). served infos (record s { clean = b })) e

-- PAST THE BANDS

-- the packet is offered to the device
pub direct_open : (infos : List Info) (n : ℕ) (s : RunningStation) → is_open s.account (queue_in infos n) ≡ true
    → gone_direct infos n s ≡ record (offered (queue_in infos n) (record s { account = after (Direct n) s.account })) { clean = not (is_busy (next_answer s)) }
direct_open infos n s opens = cond-true _ _ _ opens

-- or it is laid into the requeue slot
pub direct_closed : (infos : List Info) (n : ℕ) (s : RunningStation) → is_open s.account (queue_in infos n) ≡ false
    → gone_direct infos n s ≡ record s { account = after Back (after (Direct n) s.account); clean = false }
direct_closed infos n s closed = cond-false _ _ _ closed

-- THROUGH THE BANDS

pub record KeepsBut (a b : Account) : Type 0 where
  pub stops : b.stops ≡ a.stops
  pub hand : b.hand ≡ a.hand
  pub down : b.down ≡ a.down
  pub slot : b.slot ≡ a.slot

pub queued_keeps : (n band : ℕ) (a : Account) → KeepsBut a (joined_or_full n band a)
queued_keeps n band a = by_bool (is_occupied a.len (a.bands band))
  where
    by_bool : (b : Bool) → KeepsBut a (if b then after (Full n (seen_in a.len (a.bands band))) a else after (Join n band) a)
    by_bool true = record { stops = refl; hand = refl; down = refl; slot = refl }
    by_bool false = record { stops = refl; hand = refl; down = refl; slot = refl }

abbrev pub queued_in : List Info → ℕ → RunningStation → RunningStation
queued_in infos n s = record s { account = joined_or_full n (band_in infos n) s.account }

pub queued_between : (infos : List Info) (n : ℕ) (s : RunningStation) → IsBetweenOffers s → IsBetweenOffers (queued_in infos n s)
queued_between infos n s one = let k = queued_keeps n (band_in infos n) s.account in record {
  queues = subst (λ (xs : List ℕ). 0 < length xs) (sym k.stops) one.queues;
  known = subst AreStopValues (sym k.stops) one.known;
  hand = k.hand ∙ one.hand;
  busies = one.busies;
}

clean-takes : (a : Account) → (is_clean a && may_take a) ≡ is_clean a
clean-takes a = by_parts (is_shared a) (is_open a 0) (is_none (next_taken a))
  where
    and-true : (b : Bool) → (b && true) ≡ b
    and-true true = refl
    and-true false = refl

    same : (b : Bool) → (b && b) ≡ b
    same true = refl
    same false = refl

    by_parts : (x y z : Bool) → ((if x then z else y) && (x || y)) ≡ (if x then z else y)
    by_parts true y z = and-true z
    by_parts false y z = same y

-- a packet that goes through its band: it joins, and a run attempt is made
module _ (infos : List Info) (n : ℕ) (s : RunningStation) (one : IsBetweenOffers s) (active : s.account.down ≡ None) where
  pub queued_active : (queued_in infos n s).account.down ≡ None
  queued_active = (queued_keeps n (band_in infos n) s.account).down ∙ active

  abbrev end-clean : RunningStation → RunningStation
  end-clean t = record t { clean = t.clean && may_take t.account }

  pub through_served : served infos (gone_through infos n s) ≡ served infos (dirty (queued_in infos n s))
  through_served = by_take (may_take (queued_in infos n s).account) refl
    where
      and-false : (b : Bool) → (b && false) ≡ false
      and-false true = refl
      and-false false = refl

      by_take : (b : Bool) → may_take (queued_in infos n s).account ≡ b → served infos (gone_through infos n s) ≡ served infos (dirty (queued_in infos n s))
      by_take true e =
          let opens = not_left (queued_in infos n s).account queued_active e in
          let law = served_open infos (queued_in infos n s) opens in
          let v : RunningStation = served_turns infos (turns_of (queued_in infos n s)) (queued_in infos n s) in
          ap (served infos) (ap end-clean law ∙ (ap (λ (b : Bool). record v { clean = b }) (clean-takes v.account) ∙ sym law))
          ∙ (served_twice infos (queued_in infos n s) (queued_between infos n s one) queued_active
          ∙ sym (dirty_open infos (queued_in infos n s) opens))
      by_take false e =
          ap (served infos) (ap end-clean (served_left infos (queued_in infos n s) (left_if (queued_in infos n s).account e))
          ∙ ap (λ (b : Bool). record (queued_in infos n s) { clean = b }) (ap (λ (b : Bool). (queued_in infos n s).clean && b) e ∙ and-false (queued_in infos n s).clean))
