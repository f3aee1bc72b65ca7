-- A sender on its way through the packets.
use Rattle.std.proofs.Common.{◌≡◌, ◌≢◌, ℕ, zero, suc, ◌+◌, ◌-◌, ◌<◌, ◌≤◌, ◌==◌, Bool, true, false, List, [], ◌∷◌, ◌++◌, ◌⊎◌, inl, inr, length, Some, refl, sym, ap, ◌∙◌, subst, filter, slice_get, nat_le, arith, eq-eqb}
use Rattle.std.specs.Option.{option_map_or}
use Rattle.std.proofs.lemmas.Bool.{ne_eqb, le-leb, cases_order}
use Rattle.std.proofs.lemmas.Bool.Decides.{leb_tells}
use Rattle.std.proofs.lemmas.List.{append-nil}
use Rattle.std.proofs.lemmas.List.Elements.{filter-append}
use Rattle.std.proofs.lemmas.Option.{slice_get_within}
use Rattle.lq_model.specs.Alone.{RunningStation, after_packets, before_of, events_before, events_after, turn_ended, with_events, with_packet}
use Rattle.lq_model.specs.Device.{DeviceState}
use Rattle.lq_model.specs.Numbers.{first_numbers}
use Rattle.lq_model.specs.Plan.{Plan}
use Rattle.lq_model.specs.declared.fate.Info.{Info}
use Rattle.lq_model.specs.declared.plan.EventPlan.{EventPlan}
use Rattle.lq_plan.specs.Openings.{opens_while_stopped}
use Rattle.lq_seat.specs.State.{SeatState, TableState}
use Rattle.lq_senders.specs.Senders.{SenderStands, KeepSeats, AreRunAlone, ComesPast, IsSending, SendsAndOpens}
use Rattle.lq_senders.specs.Units.{DevicesStand, DoTell}
use Rattle.lq_senders.specs.Way.{numbers_from}
use Rattle.lq_senders.proofs.Lists.{one-fails, one-passes}
use Rattle.lq_senders.proofs.Seats.{seats-kept}
use Rattle.lq_senders.proofs.Sent.{sender-past, owner-is}
use Rattle.lq_senders.proofs.Turns.{event-there, keep-none, numbers-more, seats-on}
use Rattle.lq_senders.proofs.Woken.{count-sent-other, count-sent-own}

-- NUMBERS THAT A TEST PASSES

-- a test that passes just the numbers from a on below b
pub passes-range : (test : ℕ → Bool) (len a b : ℕ) → a ≤ b → b ≤ len → ((j : ℕ) → j < len → j < a → test j ≡ false) → ((j : ℕ) → a ≤ j → j < b → test j ≡ true)
    → ((j : ℕ) → b ≤ j → j < len → test j ≡ false) → filter test (first_numbers len) ≡ numbers_from a (b - a)
passes-range test zero a b ab b-len below inside above = let none : b - a ≡ 0 = omega arith in ap (numbers_from a) (sym none)
passes-range test (suc n) a b ab b-len below inside above = elim (cases_order b (suc n)) [
  | inl full ↦ elim (cases_order a (suc n)) [
    | inl none ↦
        (let same : b - a ≡ 0 = omega arith in let shorter : n - n ≡ 0 = omega arith in
        filter-append test (first_numbers n) (n ∷ [])
        ∙ (ap (λ l. filter test (first_numbers n) ++ l) (one-fails test n (below n (omega arith) (omega arith)))
        ∙ (append-nil (filter test (first_numbers n))
        ∙ (passes-range test n n n (omega arith) (omega arith) (λ j l k. below j (omega arith) (omega arith)) (λ j l k. absurd (omega arith)) (λ j l k. absurd (omega arith))
        ∙ (ap (numbers_from n) shorter ∙ ap (numbers_from a) (sym same))))))
    | inr (inl some) ↦
        (let more : b - a ≡ suc (n - a) = omega arith in let there : a + (n - a) ≡ n = omega arith in
        filter-append test (first_numbers n) (n ∷ [])
        ∙ (ap (λ l. filter test (first_numbers n) ++ l) (one-passes test n (inside n (omega arith) (omega arith)))
        ∙ (ap (λ l. l ++ n ∷ []) (passes-range test n a n (omega arith) (omega arith) (λ j l k. below j (omega arith) k) (λ j l k. inside j l (omega arith)) (λ j l k. absurd (omega arith)))
        ∙ (ap (λ k. numbers_from a (n - a) ++ k ∷ []) (sym there)
        ∙ (sym (numbers-more a (n - a)) ∙ ap (numbers_from a) (sym more))))))
    | inr (inr beyond) ↦ absurd (omega arith)
  ]
  | inr (inl short) ↦
      filter-append test (first_numbers n) (n ∷ [])
      ∙ (ap (λ l. filter test (first_numbers n) ++ l) (one-fails test n (above n (omega arith) (omega arith)))
      ∙ (append-nil (filter test (first_numbers n))
      ∙ passes-range test n a b ab (omega arith) (λ j l k. below j (omega arith) k) inside (λ j l k. above j l (omega arith))))
  | inr (inr beyond) ↦ absurd (omega arith)
]

before-is : (plan : Plan) (j : ℕ) (event : EventPlan) → slice_get plan.events j ≡ Some event → before_of plan j ≡ event.before
before-is plan j event there = ap (λ o. option_map_or (λ (e : EventPlan). e.before) o 0) there

not-equal : (a b : ℕ) → (a < b) ⊎ (b < a) → (a == b) ≡ false
not-equal a b (inl lt) = ne_eqb a b (λ same. absurd (omega arith))
not-equal a b (inr gt) = ne_eqb a b (λ same. absurd (omega arith))

pub events-before-are : (plan : Plan) (n next last : ℕ) → next ≤ last → last ≤ length plan.events
    → ((j : ℕ) (event : EventPlan) → j < next → slice_get plan.events j ≡ Some event → event.before < n)
    → ((j : ℕ) (event : EventPlan) → next ≤ j → slice_get plan.events j ≡ Some event → n ≤ event.before)
    → ((j : ℕ) (event : EventPlan) → j < last → slice_get plan.events j ≡ Some event → event.before ≤ n)
    → ((j : ℕ) (event : EventPlan) → last ≤ j → slice_get plan.events j ≡ Some event → n < event.before)
    → events_before plan n ≡ numbers_from next (last - next)
events-before-are plan n next last order within earlier not-earlier done left =
    passes-range (λ event. before_of plan event == n) (length plan.events) next last order within
    (λ j inside below. let e = event-there plan.events j inside in let lt = earlier j e.0 below e.1 in let is = before-is plan j e.0 e.1 in not-equal (before_of plan j) n (inl (omega arith)))
    (λ j above below. let e = event-there plan.events j (omega arith) in let lo = not-earlier j e.0 above e.1 in let hi = done j e.0 below e.1 in let is = before-is plan j e.0 e.1 in
    eq-eqb (before_of plan j) n (omega arith))
    (λ j above inside. let e = event-there plan.events j inside in let gt = left j e.0 above e.1 in let is = before-is plan j e.0 e.1 in not-equal (before_of plan j) n (inr (omega arith)))

pub events-after-are : (plan : Plan) (n next : ℕ) → next ≤ length plan.events
    → ((j : ℕ) (event : EventPlan) → j < next → slice_get plan.events j ≡ Some event → event.before < n)
    → ((j : ℕ) (event : EventPlan) → next ≤ j → slice_get plan.events j ≡ Some event → n ≤ event.before)
    → events_after plan n ≡ numbers_from next (length plan.events - next)
events-after-are plan n next within earlier left =
    passes-range (λ event. nat_le n (before_of plan event)) (length plan.events) next (length plan.events) within (omega arith)
    (λ j inside below. let e = event-there plan.events j inside in let lt = earlier j e.0 below e.1 in let is = before-is plan j e.0 e.1 in
    elim (leb_tells n (before_of plan j)) [ inl t ↦ absurd (let le = t.1 in omega arith) | inr t ↦ t.0 ])
    (λ j above below. let e = event-there plan.events j below in let lo = left j e.0 above e.1 in let is = before-is plan j e.0 e.1 in le-leb n (before_of plan j) (omega arith))
    (λ j above inside. absurd (omega arith))

-- ONE PACKET MORE

pub sending-own : (plan : Plan) (infos : List Info) (opens : ℕ → ℕ) (tables : List TableState) (sender n k next last : ℕ) (start : List SeatState) (brought : List DeviceState) (now : List SeatState) (spares : List DeviceState)
    (new : List SeatState) (left_over : List DeviceState) → next ≤ last → last ≤ length plan.events
    → ((j : ℕ) (event : EventPlan) → j < last → slice_get plan.events j ≡ Some event → event.before ≤ n)
    → (sender ≡ 0 → (j : ℕ) (event : EventPlan) → last ≤ j → slice_get plan.events j ≡ Some event → n < event.before)
    → SenderStands plan infos sender last (n + 1) tables new → KeepSeats now new → (info : Info) → slice_get infos n ≡ Some info → info.owner ≡ sender
    → SendsAndOpens infos (opens_while_stopped plan) sender n (opens n) now new
    → ((units : List DeviceState) → DevicesStand plan infos units next now spares → DevicesStand plan infos units last new left_over)
    → ((units : List DeviceState) → DevicesStand plan infos units next now spares → DoTell plan units → (stations : List RunningStation) → AreRunAlone plan infos now stations
    → AreRunAlone plan infos new (turn_ended infos (opens n) (with_packet plan infos n (with_events plan infos (numbers_from next (last - next)) stations))))
    → IsSending plan infos opens tables sender n k next start brought now spares → IsSending plan infos opens tables sender (n + 1) (k + 1) last start brought new left_over
sending-own plan infos opens tables sender n k next last start brought now spares new left_over order within done left stands keeps info there own calls devices runs was = record {
  within = within;
  few = let few = was.few in omega arith;
  sent = ap (λ i. i + 1) was.sent ∙ sym (count-sent-own infos sender n info there own);
  came = let more : suc n ≡ n + 1 = omega arith in subst (λ m. ComesPast infos (opens_while_stopped plan) opens sender m start new) more
      (now, (was.came, ((λ _. calls), (λ other. absurd (other (owner-is infos n info there ∙ own))))));
  stands = stands;
  earlier = λ j event below there. let le = done j event below there in omega arith;
  keeps = seats-on start now new was.keeps keeps;
  devices = λ units stand. devices units (was.devices units stand);
  alone = λ units stand tell z own from begins. let alone = was.alone units stand tell z own from begins in let all = alone.0 in (
    (omega arith),
    (λ j event above there. let gt = left z j event above there in omega arith),
    subst (λ i. AreRunAlone plan infos new (after_packets plan infos opens (λ n. true) from i)) (let more : suc n ≡ n + 1 = omega arith in more)
        (subst (λ l. AreRunAlone plan infos new (turn_ended infos (opens n) (with_packet plan infos n (with_events plan infos l (after_packets plan infos opens (λ n. true) from n)))))
        (sym (events-before-are plan n next last order within was.earlier alone.1 done (left z)))
        (runs units (was.devices units stand) tell (after_packets plan infos opens (λ n. true) from n) alone.2)),
  );
}

pub sending-past : (plan : Plan) (infos : List Info) (opens : ℕ → ℕ) (tables : List TableState) (sender n k next : ℕ) (start : List SeatState) (brought : List DeviceState) (now : List SeatState) (spares : List DeviceState) (info : Info)
    → slice_get infos n ≡ Some info → info.owner ≢ sender
    → IsSending plan infos opens tables sender n k next start brought now spares → IsSending plan infos opens tables sender (n + 1) k next start brought now spares
sending-past plan infos opens tables sender n k next start brought now spares info there other was = record {
  within = was.within;
  few = let few = was.few in omega arith;
  sent = was.sent ∙ sym (count-sent-other infos sender n info there other);
  came = let more : suc n ≡ n + 1 = omega arith in subst (λ m. ComesPast infos (opens_while_stopped plan) opens sender m start now) more
      (now, (was.came, ((λ same. absurd (other (sym (owner-is infos n info there) ∙ same))), (λ _. refl))));
  stands = sender-past plan infos sender next n tables now info there other was.stands;
  earlier = λ j event below at. let lt = was.earlier j event below at in omega arith;
  keeps = was.keeps;
  devices = was.devices;
  alone = λ units stand tell z own from begins. absurd (other (sym (owner-is infos n info there) ∙ (own n (slice_get_within infos n info there) ∙ sym z)));
}

pub sending-start : (plan : Plan) (infos : List Info) (opens : ℕ → ℕ) (tables : List TableState) (sender : ℕ) (seats : List SeatState) (spares : List DeviceState) → SenderStands plan infos sender 0 0 tables seats
    → IsSending plan infos opens tables sender 0 0 0 seats spares seats spares
sending-start plan infos opens tables sender seats spares standing = record {
  within = omega arith;
  few = omega arith;
  sent = refl;
  came = refl;
  stands = standing;
  earlier = λ j event below there. absurd (omega arith);
  keeps = seats-kept seats seats (keep-none seats);
  devices = λ units stand. stand;
  alone = λ units stand tell z own from begins. (refl, (λ j event above there. omega arith), begins);
}

-- after the last event of the plan
pub at-last : (plan : Plan) (last n : ℕ) → last ≤ length plan.events → ((j : ℕ) (event : EventPlan) → last ≤ j → slice_get plan.events j ≡ Some event → n < event.before)
    → ((j : ℕ) (event : EventPlan) → slice_get plan.events j ≡ Some event → event.before ≤ n) → last ≡ length plan.events
at-last plan last n within left all = elim (cases_order last (length plan.events)) [
  | inl same ↦ same
  | inr (inl less) ↦ absurd (let e = event-there plan.events last less in let gt = left last e.0 (omega arith) e.1 in let le = all last e.0 e.1 in omega arith)
  | inr (inr more) ↦ absurd (omega arith)
]

-- the events are the first sender's alone
pub sender-any : (plan : Plan) (infos : List Info) (sender a b n : ℕ) (tables : List TableState) (seats : List SeatState) → sender ≢ 0 → SenderStands plan infos sender a n tables seats → SenderStands plan infos sender b n tables seats
sender-any plan infos sender a b n tables seats other standing = record {
  long = standing.long;
  all = standing.all;
  each = λ j t c at at'. let was = standing.each j t c at at' in record {
    table = was.table;
    seat = was.seat;
    stands = record { is_sender = was.stands.is_sender; owner = was.stands.owner; wide = was.stands.wide; turn = was.stands.turn; raised = was.stands.raised; way = λ z. absurd (other z) };
  };
}
