-- From what the steps tell any seat to what a seat alone sees.
use Rattle.std.proofs.Common.{◌≡◌, ◌≢◌, ◌⊎◌, ℕ, zero, suc, ◌<◌, Bool, true, false, not, ◌||◌, if◌then◌else◌, refl, sym, ap, ◌∙◌, subst, arith, List, [], ◌∷◌, length, None, Some, IsSome, Option, inl, inr}
use Rattle.std.specs.Prelude.{nat_lt, is_some, slice_get, slice_index, filter, MatchOption, IfSome}
use Rattle.std.specs.Option.{option_map, option_map_or}
use Rattle.std.proofs.lemmas.List.{length-replicate}
use Rattle.std.proofs.lemmas.Bool.{cases_eq, cond-true, cond-false, eq-eqb, lt-ltb, ne_eqb, or_right, true≢false}
use Rattle.lq_account_laws.proofs.Taken.{first_of_some}
use Rattle.lq_device.specs.Station.{StationState, HasAnswered}
use Rattle.lq_model.specs.Account.{Account, Event, Join, Full, Refuse, Empty, Take, Pick, Direct, Send, Back, Stop, Wake, Resize, Down, Purge, Swap, Up, after, after_all, held_in, is_open, is_shared}
use Rattle.lq_model.specs.Alone.{next_answer, next_taken}
use Rattle.lq_model.specs.Device.{DeviceState, Telling, answer_of, is_busy, told_after}
use Rattle.lq_model.specs.Plan.{queue_in}
use Rattle.lq_model.specs.declared.device.Tx.{Tx}
use Rattle.lq_model.specs.declared.device.Tx.TheVariants.{Sent, SentStop, SentHang, Busy}
use Rattle.lq_model.specs.declared.fate.Info.{Info}
use Rattle.lq_table.specs.Views.{View, HolderPart, Setup, SharePart, first_account}
use Rattle.lq_table.specs.Rule.{shown}
use Rattle.lq_table.specs.Sees.{Solo, IsSole, IsAccounts, HasSent, account_of, solo, is_heard, heard, device_to}
use Rattle.lq_qdisc.proofs.ViewRelations.{Hands, LastTurn, Runs, Sends}
use Rattle.lq_qdisc.specs.Stations.{is_waiting, may_take}
use Rattle.lq_qdisc.specs.Alone.{IsOneSender, RunsAlone, RunsOn, account_in, running, telling_of}
use Rattle.lq_qdisc.specs.Calls.{AreNone, Dequeues, FindsPacket, Picks, SeesOneQueue}
use Rattle.lq_qdisc.specs.Direct.{Directs, hearing_stops, hung_below, stopped_by}
use Rattle.lq_qdisc.specs.declared.answers.Ran.{Ran}
use Rattle.lq_qdisc.specs.declared.answers.RunEnd.{RunEnd}
use Rattle.lq_qdisc.specs.declared.answers.RunEnd.TheVariants as end
use Rattle.lq_qdisc.specs.declared.answers.Taken.{Taken}
use Rattle.lq_qdisc.specs.declared.answers.Taken.TheVariants as taken
use Rattle.lq_qdisc.specs.declared.answers.Through.{Through}
use Rattle.lq_qdisc.specs.declared.answers.Through.TheVariants as through
use Rattle.lq_qdisc.specs.declared.answers.Why.TheVariants as why
use Rattle.lq_qdisc.proofs.AloneForms.{DirectsAlone, TakesAlone, TakesPacket, answering, through_of}
use Rattle.lq_qdisc.proofs.AloneTurns.{ends_busy, ends_empty, ends_laid, ends_quota, ends_stopped, run_begins, run_turns, turn_may}
use Rattle.lq_qdisc.proofs.AloneOffers.{count_all, sent_same}

-- THE ACCOUNT

-- looks that found a band empty changed no account
heard_past : (start : Account) (past : List Event) → after_all start (filter is_heard past) ≡ after_all start past
heard_past start [] = refl
heard_past start (Empty band ∷ past) = heard_past start past
heard_past start (Join n band ∷ past) = ap (after (Join n band)) (heard_past start past)
heard_past start (Full n seen ∷ past) = ap (after (Full n seen)) (heard_past start past)
heard_past start (Refuse n event ∷ past) = ap (after (Refuse n event)) (heard_past start past)
heard_past start (Take band ∷ past) = ap (after (Take band)) (heard_past start past)
heard_past start (Pick ∷ past) = ap (after Pick) (heard_past start past)
heard_past start (Direct n ∷ past) = ap (after (Direct n)) (heard_past start past)
heard_past start (Send ∷ past) = ap (after Send) (heard_past start past)
heard_past start (Back ∷ past) = ap (after Back) (heard_past start past)
heard_past start (Stop queue value ∷ past) = ap (after (Stop queue value)) (heard_past start past)
heard_past start (Wake queue ∷ past) = ap (after (Wake queue)) (heard_past start past)
heard_past start (Resize len event ∷ past) = ap (after (Resize len event)) (heard_past start past)
heard_past start (Down event ∷ past) = ap (after (Down event)) (heard_past start past)
heard_past start (Purge cause ∷ past) = ap (after (Purge cause)) (heard_past start past)
heard_past start (Swap unit ∷ past) = ap (after (Swap unit)) (heard_past start past)
heard_past start (Up ∷ past) = ap (after Up) (heard_past start past)

pub account_at : (k : Setup) (v : View) → v.share.about ≡ k → account_in (first_account k) (solo v) ≡ account_of v
account_at k v about = ap (λ (x : Setup). account_in (first_account x) (solo v)) (sym about) ∙ heard_past (first_account v.share.about) v.whole.state.past

-- WHAT IS TAKEN NEXT

first_none : (xs : List ℕ) → slice_get xs 0 ≡ None → nat_lt 0 (length xs) ≡ false
first_none [] e = refl
first_none (x ∷ xs) e = (let f = first_of_some (x ∷ xs) (omega arith) in cc)

first_some : (xs : List ℕ) (n : ℕ) → slice_get xs 0 ≡ Some n → nat_lt 0 (length xs) ≡ true
first_some [] n e = cc
first_some (x ∷ xs) n e = lt-ltb 0 (length (x ∷ xs)) (omega arith)

takes_none : (a : Account) → a.slot ≡ None → AreNone a 3 → next_taken a ≡ None
takes_none a slot none =
    λ j. if is_some (slot j) then Some Pick
    else if first_none (held_in a 0) none.0.0.1 j then Some (Take 0)
    else if first_none (held_in a 1) none.0.1 j then Some (Take 1)
    else if first_none (held_in a 2) none.1 j then Some (Take 2) else None

takes_next : (a : Account) (band n : ℕ) → band < 3 → a.slot ≡ None → AreNone a band → slice_get (held_in a band) 0 ≡ Some n → next_taken a ≡ Some (Take band)
takes_next a zero n below slot none first =
    λ j. if is_some (slot j) then Some Pick
    else if first_some (held_in a 0) n first j then Some (Take 0)
    else if nat_lt 0 (length (held_in a 1)) then Some (Take 1)
    else if nat_lt 0 (length (held_in a 2)) then Some (Take 2) else None
takes_next a (suc zero) n below slot none first =
    λ j. if is_some (slot j) then Some Pick
    else if first_none (held_in a 0) none.1 j then Some (Take 0)
    else if first_some (held_in a 1) n first j then Some (Take 1)
    else if nat_lt 0 (length (held_in a 2)) then Some (Take 2) else None
takes_next a (suc (suc zero)) n below slot none first =
    λ j. if is_some (slot j) then Some Pick
    else if first_none (held_in a 0) none.0.1 j then Some (Take 0)
    else if first_none (held_in a 1) none.1 j then Some (Take 1)
    else if first_some (held_in a 2) n first j then Some (Take 2) else None
takes_next a (suc (suc (suc band))) n below slot none first = absurd (omega arith)

takes_slot : (a : Account) (n : ℕ) → a.slot ≡ Some n → next_taken a ≡ Some Pick
takes_slot a n slot =
    λ j. if is_some (slot j) then Some Pick
    else if nat_lt 0 (length (held_in a 0)) then Some (Take 0)
    else if nat_lt 0 (length (held_in a 1)) then Some (Take 1)
    else if nat_lt 0 (length (held_in a 2)) then Some (Take 2) else None

-- HOW MANY QUEUES

pub count_of : (k : Setup) (v : Solo) → length (account_in (first_account k) v).stops ≡ k.queues
count_of k v = count_all (first_account k) v.whole.past ∙ length-replicate k.queues 0

one_alone : (k : Setup) (v : Solo) → k.queues ≡ 1 → is_shared (account_in (first_account k) v) ≡ false
one_alone k v one = ap (λ (n : ℕ). nat_lt 1 n) (count_of k v ∙ one)

several_shared : (k : Setup) (v : Solo) → 1 < k.queues → is_shared (account_in (first_account k) v) ≡ true
several_shared k v several = ap (λ (n : ℕ). nat_lt 1 n) (count_of k v) ∙ lt-ltb 1 k.queues several

-- DEQUEUE

-- what it has in the requeue slot is the account's
abbrev pub KnowsSlot : View → Type 0
KnowsSlot v = v.holder.slot ≡ (account_of v).slot

pub accounts_slot : (v : View) → IsAccounts v → KnowsSlot v
accounts_slot v accounts = ap (λ (h : HolderPart). h.slot) accounts

module _ (k : Setup) (infos : List Info) (old new : View) (about : old.share.about ≡ k) (alone : IsSole old) where
  account-is : account_in (first_account k) (solo old) ≡ account_of old
  account-is = account_at k old about

  hand-is : (event : Event) (n : ℕ) → (after event (account_of old)).hand ≡ Some n → (after event (account_in (first_account k) (solo old))).hand ≡ Some n
  hand-is event n hand = ap (λ (a : Account). (after event a).hand) account-is ∙ hand

  packet_alone : (n : ℕ) (o : Option ℕ) → KnowsSlot old → old.holder.slot ≡ o → MatchOption o (FindsPacket n old new) (λ m. (m ≡ n) × Picks n old new) → TakesPacket (first_account k) n (solo old) (solo new)
  packet_alone n None knows slot d = let s = d.sole alone in record {
    event = Take d.band;
    next = ap next_taken account-is ∙ takes_next (account_of old) d.band n d.below (sym knows ∙ slot) s.0 s.1;
    hand = hand-is (Take d.band) n s.1;
    is = s.2;
  }
  packet_alone n (Some m) knows slot d = record {
    event = Pick;
    next = ap next_taken account-is ∙ takes_slot (account_of old) m (sym knows ∙ slot);
    hand = hand-is Pick n (sym knows ∙ slot ∙ ap (λ (x : ℕ). Some x) d.0);
    is = d.1.step;
  }

  -- one queue
  module _ (one : k.queues ≡ 1) where
    about-one : old.share.about.queues ≡ 1
    about-one = ap (λ (x : Setup). x.queues) about ∙ one

    takes-one : slice_index (account_of old).stops 0 ≡ 0 → may_take (account_in (first_account k) (solo old)) ≡ true
    takes-one at_0 = or_right (is_shared (account_in (first_account k) (solo old))) _ (ap (λ (a : Account). is_open a 0) account-is ∙ eq-eqb _ 0 at_0)

    one-takes : (t : Taken) → Dequeues t infos old new → SeesOneQueue t old → TakesAlone infos (first_account k) t (solo old) (solo new)
    one-takes taken.Empty d sees = let see = sees about-one alone in let s = d.1.sole alone in (
      takes-one see.2,
      ap next_taken account-is ∙ takes_none (account_of old) (sym (accounts_slot old see.0) ∙ d.0) s.0,
      s.1,
    )
    one-takes taken.Stopped d sees = let see = sees about-one alone in (
      cond-false _ _ _ (one_alone k (solo old) one) ∙ ap not (ap (λ (a : Account). is_open a 0) account-is ∙ ne_eqb (slice_index (account_of old).stops 0) 0 see.2),
      (d.1.sole alone).1,
    )
    one-takes (taken.Packet n) d sees = let see = sees about-one alone in (takes-one see.2, packet_alone n old.holder.slot (accounts_slot old see.0) refl d)

  -- several queues
  module _ (several : 1 < k.queues) (knows : KnowsSlot old) where
    takes-any : may_take (account_in (first_account k) (solo old)) ≡ true
    takes-any = ap (λ (b : Bool). b || is_open (account_in (first_account k) (solo old)) 0) (several_shared k (solo old) several)

    stopped-slot : (o : Option ℕ) → (account_of old).slot ≡ o → is_some o ≡ true → slice_index (account_of old).stops (option_map_or (queue_in infos) o 0) ≢ 0
        → is_waiting infos (account_in (first_account k) (solo old)) ≡ true
    stopped-slot None slot some closed = absurd (true≢false (sym some))
    stopped-slot (Some n) slot some closed =
        cond-true _ _ _ (several_shared k (solo old) several)
        ∙ (ap (λ (a : Account). option_map_or (λ m. not (is_open a (queue_in infos m))) a.slot false) account-is
        ∙ (ap (λ (o : Option ℕ). option_map_or (λ m. not (is_open (account_of old) (queue_in infos m))) o false) slot
        ∙ ap not (ne_eqb (slice_index (account_of old).stops (queue_in infos n)) 0 closed)))

    several-takes : (t : Taken) → Dequeues t infos old new → TakesAlone infos (first_account k) t (solo old) (solo new)
    several-takes taken.Empty d = let s = d.1.sole alone in (takes-any, ap next_taken account-is ∙ takes_none (account_of old) (sym knows ∙ d.0) s.0, s.1)
    several-takes taken.Stopped d =
        let s = d.1.sole alone in
        let some = d.0 (subst (λ (x : Setup). 1 < x.queues) (sym about) several) in
        (stopped-slot (account_of old).slot refl (ap (λ (o : Option ℕ). is_some o) (sym knows) ∙ some) (λ at_0. s.0 (ap (λ (o : Option ℕ). slice_index (account_of old).stops (option_map_or (queue_in infos) o 0)) knows ∙ at_0)), s.1)
    several-takes (taken.Packet n) d = (takes-any, packet_alone n old.holder.slot knows refl d)

  pub takes_alone : (t : Taken) → IsOneSender (first_account k) (solo old) → (k.queues ≢ 1 → KnowsSlot old) → Dequeues t infos old new → SeesOneQueue t old → TakesAlone infos (first_account k) t (solo old) (solo new)
  takes_alone t sender knows d sees = by_queues (cases_eq k.queues 1)
    where
      some : 0 < k.queues
      some = subst (λ (n : ℕ). 0 < n) (count_of k (solo old)) sender.station.queues

      by_queues : (k.queues ≡ 1) ⊎ (k.queues ≢ 1) → TakesAlone infos (first_account k) t (solo old) (solo new)
      by_queues (inl one) = one-takes one t d sees
      by_queues (inr other) = several-takes (let more = some in omega arith) (knows other) t d

-- DIRECT TRANSMIT

rule_told : (o : Option Telling) (answer : Tx) (count : ℕ) → IsSome o → IfSome o (λ t. answer ≡ answer_of t count) → answer ≡ answer_of (telling_of o) count
rule_told (Some t) answer count some rule = rule
rule_told None answer count some rule = absurd (true≢false (sym some))

answered_through : (answer : Tx) → is_busy answer ≡ false → through.Yes ≡ through_of answer
answered_through Sent e = refl
answered_through SentStop e = refl
answered_through SentHang e = refl
answered_through Busy e = absurd (true≢false e)

answered_as : (answer : Tx) (queue queues count : ℕ) (d : DeviceState) (v w : Solo) → is_busy answer ≡ false → queues ≡ count → w ≡ hearing_stops answer queue queues (device_to d (heard Send v)) → w.whole.device ≡ d
    → w ≡ answering answer queue count w.whole.device v
answered_as Sent queue queues count d v w accepted same is dev = is ∙ ap (λ (x : DeviceState). answering Sent queue count x v) (sym dev)
answered_as SentStop queue queues count d v w accepted same is dev = is ∙ ap (λ (x : DeviceState). answering SentStop queue count x v) (sym dev)
answered_as SentHang queue queues count d v w accepted same is dev = is ∙ (ap (λ (y : ℕ). hearing_stops SentHang queue y (device_to d (heard Send v))) same ∙ ap (λ (x : DeviceState). answering SentHang queue count x v) (sym dev))
answered_as Busy queue queues count d v w accepted same is dev = absurd (true≢false accepted)

module _ (k : Setup) (old : View) (about : old.share.about ≡ k) (alone : IsSole old) (tells : IsSome (solo old).whole.device.told) where
  next_is : (answer : Tx) (queue n : ℕ) (st : StationState) → IsAccounts old → HasSent old → HasAnswered answer queue n (shown old.holder) st → answer ≡ next_answer (running (first_account k) (solo old))
  next_is answer queue n st accounts sent called =
      let station = ap (λ (h : HolderPart). h.station) accounts in
      rule_told (solo old).whole.device.told answer (length old.holder.station.device.accepted) tells
      (subst (λ (s : StationState). IfSome s.device.told (λ t. answer ≡ answer_of t (length old.holder.station.device.accepted))) station called.answers.rule)
      ∙ ap (λ (c : ℕ). answer_of (telling_of (solo old).whole.device.told) c) (ap (λ (ns : List ℕ). length ns) (sym sent) ∙ ap (λ (a : Account). length (a.sent a.unit)) (sym (account_at k old about)))

  told_is : (answer : Tx) (queue n : ℕ) (st : StationState) → IsAccounts old → HasAnswered answer queue n (shown old.holder) st → st.device.told ≡ option_map (told_after answer) (solo old).whole.device.told
  told_is answer queue n st accounts called = called.answers.told ∙ ap (λ (h : HolderPart). option_map (told_after answer) h.station.device.told) accounts

  open-is : (queue : ℕ) → slice_index (account_of old).stops queue ≡ 0 → is_open (account_in (first_account k) (solo old)) queue ≡ true
  open-is queue at_0 = ap (λ (a : Account). is_open a queue) (account_at k old about) ∙ eq-eqb _ 0 at_0

  pub directs_alone : (t : Through) (n queue : ℕ) (new : View) → Directs t n queue old new → DirectsAlone (first_account k) queue t (solo old) (solo new)
  directs_alone through.Yes n queue new a =
      let see = a.sole alone in let dev = ap (λ (s : Solo). s.whole.device) a.step in record {
        opens = open-is queue see.0;
        answer = a.answer;
        is = next_is a.answer queue n a.station see.1 see.2 a.called;
        told = ap (λ (d : DeviceState). d.told) dev ∙ told_is a.answer queue n a.station see.1 a.called;
        view_is = answered_as a.answer queue old.share.about.queues (length (account_in (first_account k) (solo old)).stops) a.station.device (solo old) (solo new) a.accepted
            (ap (λ (x : Setup). x.queues) about ∙ sym (count_of k (solo old))) a.step dev;
        through = answered_through a.answer a.accepted;
      }
  directs_alone (through.Back why.Busy) n queue new b =
      let see = b.sole alone in let dev = ap (λ (s : Solo). s.whole.device) b.step in record {
        opens = open-is queue see.0;
        answer = Busy;
        is = next_is Busy queue n b.station see.1 see.2 b.called;
        told = ap (λ (d : DeviceState). d.told) dev ∙ told_is Busy queue n b.station see.1 b.called;
        view_is = b.step ∙ ap (λ (x : DeviceState). answering Busy queue (length (account_in (first_account k) (solo old)).stops) x (solo old)) (sym dev);
        through = refl;
      }
  directs_alone (through.Back why.Stopped) n queue new l =
      let s = l.sole alone in (ap (λ (a : Account). is_open a queue) (account_at k old about) ∙ ne_eqb _ 0 s.0, s.1)

-- a packet that was sent leaves the requeue slot as it was
hung_slot : (start : Account) (queues : ℕ) (past : List Event) → (after_all start (hung_below queues past)).slot ≡ (after_all start past).slot
hung_slot start zero past = refl
hung_slot start (suc queue) past = hung_slot start queue past

stopped_slot : (start : Account) (answer : Tx) (queue queues : ℕ) (past : List Event) → (after_all start (stopped_by answer queue queues (Send ∷ past))).slot ≡ (after_all start past).slot
stopped_slot start Sent queue queues past = (sent_same (after_all start past).hand (after_all start past)).0.slot
stopped_slot start SentStop queue queues past = (sent_same (after_all start past).hand (after_all start past)).0.slot
stopped_slot start SentHang queue queues past = hung_slot start queues (Send ∷ past) ∙ (sent_same (after_all start past).hand (after_all start past)).0.slot
stopped_slot start Busy queue queues past = (sent_same (after_all start past).hand (after_all start past)).0.slot

accepted_knows : (n queue : ℕ) (old new : View) → IsSole old → new.share ≡ old.share → Directs through.Yes n queue old new → KnowsSlot new
accepted_knows n queue old new alone share a =
    ap (λ (h : HolderPart). h.slot) a.holder
    ∙ (accounts_slot old (a.sole alone).1
    ∙ (sym (stopped_slot (first_account old.share.about) a.answer queue old.share.about.queues old.whole.state.past)
    ∙ (ap (λ (past : List Event). (after_all (first_account old.share.about) past).slot) (sym a.past)
    ∙ ap (λ (s : SharePart). (after_all (first_account s.about) new.whole.state.past).slot) (sym share))))

-- RUNS

-- what a seat knows of its run: it goes on, and with several queues it knows the requeue slot
record KnowsRun (k : Setup) (infos : List Info) (first last : View) : Type 0 where
  share : last.share ≡ first.share
  on : RunsOn infos (first_account k) (solo first) (solo last)
  knows : k.queues ≢ 1 → KnowsSlot last

module _ (k : Setup) (infos : List Info) (first : View) (about : first.share.about ≡ k) (sender : IsOneSender (first_account k) (solo first)) (active : (account_in (first_account k) (solo first)).down ≡ None)
    (knows : k.queues ≢ 1 → KnowsSlot first) where
  about_of : (v : View) → v.share ≡ first.share → v.share.about ≡ k
  about_of v share = ap (λ (s : SharePart). s.about) share ∙ about

  -- one packet more was dequeued and handed to the device
  module _ (old : View) (r : KnowsRun k infos first old) (t : Through) (new : View) (h : Hands (Directs t) infos old new) where
    taken_one : TakesAlone infos (first_account k) (taken.Packet h.packet) (solo old) (solo h.between)
    taken_one = takes_alone k infos old h.between (about_of old r.share) r.on.sender.sole (taken.Packet h.packet) r.on.sender r.knows h.dequeued h.one

    handed_one : DirectsAlone (first_account k) (queue_in infos h.packet) t (solo h.between) (solo new)
    handed_one =
        let may = turn_may infos (first_account k) (solo first) (solo old) (solo h.between) h.packet r.on taken_one in
        directs_alone k h.between (about_of h.between (h.same ∙ r.share)) may.0 may.1 t h.packet (queue_in infos h.packet) new h.is

  sends_alone : (sent : ℕ) (last : View) → Sends sent infos first last → KnowsRun k infos first last
  sends_alone zero last s = subst (λ (v : View). KnowsRun k infos first v) (sym s) (record { share = refl; on = run_begins infos (first_account k) (solo first) sender active; knows = knows })
  sends_alone (suc sent) last s =
      let r = sends_alone sent s.0 s.1 in
      let taken_ = taken_one s.0 r through.Yes last s.2 in
      let may = turn_may infos (first_account k) (solo first) (solo s.0) (solo s.2.between) s.2.packet r.on taken_ in record {
        share = s.2.share ∙ r.share;
        on = run_turns infos (first_account k) (solo first) (solo s.0) (solo s.2.between) s.2.packet r.on taken_ (solo last) through.Yes (handed_one s.0 r through.Yes last s.2);
        knows = λ _. accepted_knows s.2.packet (queue_in infos s.2.packet) s.2.between last may.0 (s.2.share ∙ sym s.2.same) s.2.is;
      }

  ends_alone : (e : RunEnd) (last new : View) → KnowsRun k infos first last → LastTurn e infos last new → RunsAlone infos (first_account k) (solo first) (solo new)
  ends_alone end.Empty last new r d =
      ends_empty infos (first_account k) (solo first) (solo last) (solo new) r.on (takes_alone k infos last new (about_of last r.share) r.on.sender.sole taken.Empty r.on.sender r.knows d.0 d.1)
  ends_alone end.Quota last new r d = ends_quota infos (first_account k) (solo first) (solo last) (solo new) r.on d.1
  ends_alone end.Stopped last new r (inl d) =
      ends_stopped infos (first_account k) (solo first) (solo last) (solo new) r.on (takes_alone k infos last new (about_of last r.share) r.on.sender.sole taken.Stopped r.on.sender r.knows d.0 d.1)
  ends_alone end.Stopped last new r (inr h) =
      ends_laid infos (first_account k) (solo first) (solo last) (solo h.between) (solo new) h.packet r.on (taken_one last r (through.Back why.Stopped) new h) (handed_one last r (through.Back why.Stopped) new h)
  ends_alone end.Busy last new r h =
      ends_busy infos (first_account k) (solo first) (solo last) (solo h.between) (solo new) h.packet r.on (taken_one last r (through.Back why.Busy) new h) (handed_one last r (through.Back why.Busy) new h)

  pub runs_alone : (ran : Ran) (new : View) → Runs infos ran first new → RunsAlone infos (first_account k) (solo first) (solo new)
  runs_alone ran new r = ends_alone ran.end r.last new (sends_alone ran.sent r.last r.sent) r.ends
