-- What handing a packet to the device leaves.
use Rattle.std.proofs.Common.{◌≡◌, ◌≢◌, ℕ, ◌+◌, ◌<◌, ◌==◌, Bool, true, false, if◌then◌else◌, refl, sym, ap, ◌∙◌, subst, arith, List, [], ◌∷◌, None, Some, Option}
use Rattle.std.specs.Prelude.{nat_lt, slice_index}
use Rattle.lq_model.specs.Positions.{holds_lock}
use Rattle.std.specs.Option.{option_map, unwrap_or}
use Rattle.std.proofs.lemmas.Bool.{lt-ltb, true≢false}
use Rattle.lq_device.specs.Station.{StationState, HasAnswered, with_slot}
use Rattle.lq_model.specs.Device.{is_busy}
use Rattle.lq_model.specs.Words.{HasWord}
use Rattle.lq_model.specs.declared.device.Tx.{Tx}
use Rattle.lq_model.specs.declared.device.Tx.TheVariants.{Sent, SentStop, SentHang, Busy}
use Rattle.lq_model.specs.declared.fate.Fate.{Fate}
use Rattle.lq_model.specs.Account.{Event, Back, Send, Stop}
use Rattle.lq_model.specs.Steps.{after_sent, run_counted, step_at}
use Rattle.lq_model.specs.declared.machine.Blocked.TheVariants.{InHand}
use Rattle.lq_model.specs.declared.machine.Packet.{Packet}
use Rattle.lq_model.specs.declared.machine.Position.{Position}
use Rattle.lq_model.specs.declared.machine.Position.TheVariants.{BlockedClear, Gate, StoreXoff, Xmit}
use Rattle.lq_table.specs.Views.{View, HolderPart, no_station}
use Rattle.lq_table.specs.States.{CarriesBusyDevice, carried_but_for_slot, requeue_view, missed_to, draining_to}
use Rattle.lq_table.specs.Rule.{shown, IsResting}
use Rattle.lq_table.specs.Sees.{view, slot, position, carried, packet_at, IsSameSeat, IsElseSame, Solo, IsSole, account_of, solo, heard, device_to}
use Rattle.lq_table.specs.declared.shared.Cpu.{Cpu}
use Rattle.lq_table.specs.declared.shared.Shared.{Shared}
use Rattle.lq_model.specs.Plan.{band_in, queue_in}
use Rattle.lq_qdisc.specs.Calls.{IsKeptInRun, IsServing, IsSettledSame}
use Rattle.lq_table.specs.Fates.{MaySettle, machine_answer, fate_sent, settle_alone, settle_view, settle_view_sent}
use Rattle.lq_table.specs.Step.{MakesSteps, Settle}
use Rattle.lq_table.specs.Stops.{HasRoom, load_xoff_view, load_xoff_view_from, store_xoff_view, store_xoff_view_from, SeesXoff}
use Rattle.lq_table.specs.Moves.{and_settled, seen_by}
use Rattle.lq_qdisc.specs.Direct.{Accepts, IsBusyAt, LaysAside, SeesOpen, StaysAt, hearing_stops, hung_below, position_after, sent_leads, stopped_by}
use Rattle.lq_qdisc.proofs.TakeLemmas.{one, stop_is}
use Rattle.lq_qdisc.specs.declared.answers.Through.TheVariants as through

-- only where the seat stands changes
abbrev pub moved_to : Position → View → View
moved_to position v = record v { place = record v.place { position = position } }

pub loaded_at_gate : (x : ℕ) (v : View) (p : Packet) (direct : Bool) → v.place.position ≡ Gate p direct → load_xoff_view x v ≡ moved_to (if x == 0 then Xmit p direct else BlockedClear (InHand p direct)) v
loaded_at_gate x v p direct here = ap (λ (position : Position). load_xoff_view_from position v.holder.slot x v) here

-- STOP WORDS

pub stored_at : (v w : View) (queue : ℕ) (hung direct : Bool) → v.place.position ≡ StoreXoff queue hung direct → w ≡ store_xoff_view v → w ≡ store_xoff_view_from (StoreXoff queue hung direct) v
stored_at v w queue hung direct here is = is ∙ ap (λ (position : Position). store_xoff_view_from position v) here

pub stored_stays : (v w : View) (queue : ℕ) (hung direct : Bool) → w ≡ store_xoff_view_from (StoreXoff queue hung direct) v → StaysAt v w
stored_stays v w queue hung direct is = record {
  share = ap (λ (x : View). x.share) is;
  packets = ap (λ (x : View). x.packets) is;
  locks = ap (λ (x : View). x.locks) is;
  holder = ap (λ (x : View). x.holder) is;
  control = ap (λ (x : View). x.control) is;
  turns = ap (λ (x : View). x.turns) is;
  settled = ap (λ (x : View). x.settled) is;
  trail = ap (λ (x : View). x.trail) is;
  told = ap (λ (x : View). x.whole.told) is;
  raised = ap (λ (x : View). x.place.raised) is;
  run = ap (λ (x : View). x.place.run) is;
}

pub stays_then : (u v w : View) → StaysAt u v → StaysAt v w → StaysAt u w
stays_then u v w x y = record {
  share = y.share ∙ x.share;
  packets = y.packets ∙ x.packets;
  locks = y.locks ∙ x.locks;
  holder = y.holder ∙ x.holder;
  control = y.control ∙ x.control;
  turns = y.turns ∙ x.turns;
  settled = y.settled ∙ x.settled;
  trail = y.trail ∙ x.trail;
  told = y.told ∙ x.told;
  raised = y.raised ∙ x.raised;
  run = y.run ∙ x.run;
}

-- after the store for a queue of a device that hangs, the next queue's comes, until there is none
pub hung_leads : (v w : View) (queue queues : ℕ) (direct : Bool) → v.share.about.queues ≡ queues → w ≡ store_xoff_view_from (StoreXoff queue true direct) v
    → w.place.position ≡ (if nat_lt (queue + 1) queues then StoreXoff (queue + 1) true direct else position_after through.Yes direct w)
hung_leads v w queue queues direct many is =
    ap (λ (x : View). x.place.position) is
    ∙ ap (λ (n : ℕ). if nat_lt (queue + 1) n then StoreXoff (queue + 1) true direct else after_sent direct (seen_by v) v.place) many
    ∙ sym (ap (λ (x : View). if nat_lt (queue + 1) queues then StoreXoff (queue + 1) true direct else position_after through.Yes direct x) is)

pub if_below : {A : Type 0} (n m : ℕ) (x y : A) → n < m → (if nat_lt n m then x else y) ≡ x
if_below {A} n m x y h = ap (λ (b : Bool). if b then x else y) (lt-ltb n m h)

pub hung_more : (queue : ℕ) (past : List Event) → Stop queue 2 ∷ hung_below queue past ≡ hung_below (queue + 1) past
hung_more queue past = ap (λ (n : ℕ). hung_below n past) (one queue)

abbrev pub hearing_hung : ℕ → Solo → Solo
hearing_hung queues v = record v { whole = record v.whole { past = hung_below queues v.whole.past } }

pub hearing_more : (queue : ℕ) (s : Solo) → heard (Stop queue 2) (hearing_hung queue s) ≡ hearing_hung (queue + 1) s
hearing_more queue s = ap (λ (n : ℕ). hearing_hung n s) (one queue)

-- A PACKET THAT WAS SENT

-- The fate of the packet n is stored, which the device accepted with this answer; the station is as st says.
pub record IsSentAs (answer : Tx) (n queue : ℕ) (direct : Bool) (st : StationState) (old new : View) : Type 0 where
  pub share : new.share ≡ old.share
  pub packets : new.packets ≡ old.packets
  pub locks : new.locks ≡ old.locks
  pub control : new.control ≡ old.control
  pub turns : new.turns ≡ old.turns
  pub trail : new.trail ≡ old.trail
  pub told : new.whole.told ≡ old.whole.told
  pub raised : new.place.raised ≡ old.place.raised
  pub run : new.place.run ≡ run_counted old.place.run
  pub at : new.place.position ≡ sent_leads answer queue direct new
  pub past : new.whole.state.past ≡ Send ∷ old.whole.state.past
  pub holder : new.holder ≡ record old.holder { station = st; hand = None; last = Some n }
  pub settled : new.settled ≡ (n, fate_sent old.holder.station) ∷ old.settled
  pub step : solo new ≡ device_to st.device (heard Send (solo old))

abbrev settling_at : Position → Option Tx → Option ℕ → StationState → View → View
settling_at position last hand st v = record v {
  place = (step_at position (machine_answer last) (seen_by v) v.place).seat;
  holder = record v.holder { station = st; hand = None; last = hand };
  whole = record v.whole { qdisc = (step_at position (machine_answer last) v.whole.qdisc v.place).qdisc; state = record v.whole.state { past = Send ∷ v.whole.state.past; station = st } };
  settled = and_settled (option_map (λ n. (n, fate_sent v.holder.station)) hand) v.settled;
}

module _ (n : ℕ) (p : Packet) (direct : Bool) (st : StationState) (v w : View) (here : v.place.position ≡ Xmit p direct) (hand : v.holder.hand ≡ Some n) where
  sent_is : (answer : Tx) → st.last ≡ Some answer → w ≡ settle_view_sent st v → w ≡ settling_at (Xmit p direct) (Some answer) (Some n) st v
  sent_is answer last is = is ∙ (λ j. settling_at (here j) (last j) (hand j) st v)

  sent_fields : (answer : Tx) → w ≡ settling_at (Xmit p direct) (Some answer) (Some n) st v
      → w.place.raised ≡ v.place.raised → w.place.run ≡ run_counted v.place.run → w.place.position ≡ sent_leads answer p.queue direct w
      → solo w ≡ device_to st.device (heard Send (solo v)) → IsSentAs answer n p.queue direct st v w
  sent_fields answer e raised run at step = record {
    share = ap (λ (x : View). x.share) e;
    packets = ap (λ (x : View). x.packets) e;
    locks = ap (λ (x : View). x.locks) e;
    control = ap (λ (x : View). x.control) e;
    turns = ap (λ (x : View). x.turns) e;
    trail = ap (λ (x : View). x.trail) e;
    told = ap (λ (x : View). x.whole.told) e;
    raised = raised;
    run = run;
    at = at;
    past = ap (λ (x : View). x.whole.state.past) e;
    holder = ap (λ (x : View). x.holder) e;
    settled = ap (λ (x : View). x.settled) e;
    step = step;
  }

  pub sent_as : (answer : Tx) → is_busy answer ≡ false → st.last ≡ Some answer → w ≡ settle_view_sent st v → solo w ≡ device_to st.device (heard Send (solo v)) → IsSentAs answer n p.queue direct st v w
  sent_as Sent accepted last is step = let e = sent_is Sent last is in
      sent_fields Sent e (ap (λ (x : View). x.place.raised) e) (ap (λ (x : View). x.place.run) e) (ap (λ (x : View). x.place.position) e ∙ sym (ap (λ (x : View). position_after through.Yes direct x) e)) step
  sent_as SentStop accepted last is step = let e = sent_is SentStop last is in
      sent_fields SentStop e (ap (λ (x : View). x.place.raised) e) (ap (λ (x : View). x.place.run) e) (ap (λ (x : View). x.place.position) e) step
  sent_as SentHang accepted last is step = let e = sent_is SentHang last is in
      sent_fields SentHang e (ap (λ (x : View). x.place.raised) e) (ap (λ (x : View). x.place.run) e) (ap (λ (x : View). x.place.position) e) step
  sent_as Busy accepted last is step = absurd (true≢false accepted)

-- the station as the next step wants it, where the device has answered
pub shown_answered : (answer : Tx) (queue n : ℕ) (hand last : Option ℕ) (h : HolderPart) (st : StationState) → HasAnswered answer queue n (shown h) st → shown (record h { station = st; hand = hand; last = last }) ≡ st
shown_answered answer queue n hand last h st t =
    ap (λ (s : StationState). record s { slot = h.slot; heads = (shown h).heads; tails = (shown h).tails }) t.rest ∙ sym t.rest

-- the fate of a packet that was just sent has a word, and may be stored
pub sent_has_word : (h : HolderPart) (fate : Fate) → HasRoom h → fate ≡ fate_sent h.station → HasWord fate
sent_has_word h fate room is = subst (λ (f : Fate). HasWord f) (sym is) (room.3, omega (arith, room.1))

pub may_settle : (b n : ℕ) (p : Packet) (direct : Bool) (answer : Tx) (fate : Fate) (st : StationState) (v : View) → v.place.position ≡ Xmit p direct → v.holder.hand ≡ Some n → is_busy answer ≡ false
    → HasAnswered answer p.queue n (shown v.holder) st → fate ≡ fate_sent v.holder.station → MaySettle b n fate st v
may_settle b n p direct answer fate st v here hand accepted called is = subst (λ (f : Fate). MaySettle b n f st v) (sym is) (record {
  packet = p;
  direct = direct;
  answer = answer;
  position = here;
  in_hand = hand;
  called = called;
  accepted = accepted;
  fate_is = refl;
})

pub busy_is : (answer : Tx) → is_busy answer ≡ true → answer ≡ Busy
busy_is Sent e = absurd (true≢false (sym e))
busy_is SentStop e = absurd (true≢false (sym e))
busy_is SentHang e = absurd (true≢false (sym e))
busy_is Busy e = refl

-- OFFERS

-- the packet was sent, and what follows the device's answer is stored
abbrev pub accepts : (answer : Tx) (n queue queues : ℕ) (direct : Bool) (st : StationState) (v m w : View) → is_busy answer ≡ false → HasAnswered answer queue n (shown v.holder) st
    → v.share.about.queues ≡ queues → IsSentAs answer n queue direct st v m → StaysAt m w → w.whole.state.past ≡ stopped_by answer queue queues m.whole.state.past
    → solo w ≡ hearing_stops answer queue queues (solo m) → SeesOpen queue v → Accepts n queue v w
accepts answer n queue queues direct st v m w accepted called many sent stays heard_ step sole = record {
  answer = answer;
  station = st;
  called = called;
  accepted = accepted;
  past = heard_ ∙ (λ j. stopped_by answer queue (sym many j) (sent.past j));
  holder = stays.holder ∙ sent.holder;
  settled = stays.settled ∙ sent.settled;
  step = step ∙ (λ j. hearing_stops answer queue (sym many j) (sent.step j));
  sole = sole;
}

pub busy_at : (n queue : ℕ) (st : StationState) (v w : View) → v.holder.hand ≡ Some n → HasAnswered Busy queue n (shown v.holder) st → w ≡ requeue_view st v
    → solo w ≡ device_to st.device (heard Back (missed_to true (solo v))) → SeesOpen queue v → IsBusyAt n queue v w
busy_at n queue st v w hand called is step sole = record {
  station = st;
  called = called;
  holder = ap (λ (x : View). x.holder) is ∙ ap (λ (o : Option ℕ). record v.holder { station = st; slot = o; hand = None }) hand;
  settled = ap (λ (x : View). x.settled) is;
  step = step;
  sole = sole;
}

module _ {D : Type 0} where
  pub called_at : (t : Shared D) (b m : Cpu D) (n queue : ℕ) (answer : Tx) → queue ≡ queue_in t.infos.now n → view m ≡ view b → HasAnswered answer queue n (shown (view b).holder) (carried m)
      → HasAnswered answer (queue_in t.infos.now n) n (shown (view m).holder) (carried m)
  called_at t b m n queue answer queue_is same called =
      subst (λ (v : View). HasAnswered answer (queue_in t.infos.now n) n (shown v.holder) (carried m)) (sym same)
      (subst (λ (q : ℕ). HasAnswered answer q n (shown (view b).holder) (carried m)) queue_is called)

  -- a packet that the busy device gave back was laid into the requeue slot: but for the slot the station is as the device left it
  but_for_slot : (b m : Cpu D) (n queue : ℕ) → view m ≡ view b → HasAnswered Busy queue n (shown (view b).holder) (carried b) → m.station ≡ Some (with_slot (carried b) (Some n))
      → carried_but_for_slot m ≡ carried b
  but_for_slot b m n queue same called laid =
      (λ j. with_slot (unwrap_or (laid j) no_station) (same j).holder.slot) ∙ ap (λ (o : Option ℕ). with_slot (carried b) o) (sym (ap (λ (s : StationState). s.slot) called.rest))

  pub carries_busy : (b m : Cpu D) (n : ℕ) (p : Packet) (direct : Bool) → view m ≡ view b → position b ≡ Xmit p direct → (view b).holder.hand ≡ Some n
      → HasAnswered Busy p.queue n (shown (view b).holder) (carried b) → m.station ≡ Some (with_slot (carried b) (Some n)) → CarriesBusyDevice m
  carries_busy b m n p direct same here hand called laid = (
    n,
    p,
    direct,
    laid ∙ ap (λ (s : Option StationState). Some (with_slot (unwrap_or s no_station) (Some n))) (sym laid),
    ap (λ (v : View). v.place.position) same ∙ here,
    ap (λ (v : View). v.holder.hand) same ∙ hand,
    subst (λ (z : View × StationState). HasAnswered Busy p.queue n (shown z.0.holder) z.1) (λ j. (sym same j, sym (but_for_slot b m n p.queue same called laid) j)) called,
  )

  pub sent_from : (t : Shared D) (b m s : Cpu D) (n queue : ℕ) (answer : Tx) → queue ≡ queue_in t.infos.now n → view m ≡ view b → is_busy answer ≡ false
      → HasAnswered answer queue n (shown (view b).holder) (carried m)
      → ((a : Tx) → (direct : Bool) → is_busy a ≡ false → HasAnswered a (queue_in t.infos.now n) n (shown (view m).holder) (carried m) → position m ≡ Xmit (packet_at t n) direct
      → IsSentAs a n (queue_in t.infos.now n) direct (carried m) (view m) (view s))
      → (direct : Bool) → position b ≡ Xmit (packet_at t n) direct → IsSentAs answer n queue direct (carried m) (view b) (view s)
  sent_from t b m s n queue answer queue_is same accepted called sent direct here =
      subst (λ (v : View). IsSentAs answer n queue direct (carried m) v (view s)) same
      (subst (λ (q : ℕ). IsSentAs answer n q direct (carried m) (view m) (view s)) (sym queue_is)
      (sent answer direct accepted (called_at t b m n queue answer queue_is same called) (ap (λ (v : View). v.place.position) same ∙ here)))

  pub kept_sent : (answer : Tx) (n queue : ℕ) (direct : Bool) (st : StationState) (b m s w : Cpu D) → IsSameSeat b m → m.indices ≡ b.indices → IsElseSame m s → IsElseSame s w
      → IsSentAs answer n queue direct st (view b) (view s) → StaysAt (view s) (view w) → IsKeptInRun b w
  kept_sent answer n queue direct st b m s w seat indices first second sent stays = record {
    seat = (second.0.0 ∙ (first.0.0 ∙ seat.0), second.0.1 ∙ (first.0.1 ∙ seat.1));
    indices = second.2 ∙ (first.2 ∙ indices);
    share = stays.share ∙ sent.share;
    packets = stays.packets ∙ sent.packets;
    locks = stays.locks ∙ sent.locks;
    control = stays.control ∙ sent.control;
    turns = stays.turns ∙ sent.turns;
    told = stays.told ∙ sent.told;
    raised = stays.raised ∙ sent.raised;
  }

  pub serves_sent : (answer : Tx) (n queue : ℕ) (direct : Bool) (b m s w : Cpu D) → IsServing b → slot m ≡ slot b → m.station ≡ Some (carried m) → HasAnswered answer queue n (shown (view b).holder) (carried m)
      → IsElseSame m s → IsElseSame s w → IsSentAs answer n queue direct (carried m) (view b) (view s) → StaysAt (view s) (view w) → IsServing w
  serves_sent answer n queue direct b m s w sv slots station called first second sent stays =
      let holder = stays.holder ∙ sent.holder in (
        (second.3 ∙ (first.3 ∙ (slots ∙ sv.0.0)), second.1 ∙ (first.1 ∙ (station ∙ ap (λ (x : StationState). Some x) (sym (ap shown holder ∙ shown_answered answer queue n None (Some n) (view b).holder (carried m) called))))),
        subst (λ (h : HolderPart). IsResting h.size h.ends × (h.resizing ≡ None)) (sym holder) sv.1,
        stays.locks ∙ (sent.locks ∙ sv.2),
        ap (λ (h : HolderPart). h.shut) holder ∙ sv.3,
      )

  -- the queue of the packet in hand was found stopped
  abbrev pub lays_aside : (n queue first : ℕ) (p : Packet) (direct : Bool) (b m w : Cpu D) → first ≢ 0 → position b ≡ Gate p direct → (view b).holder.shut ≡ None → view m ≡ load_xoff_view first (view b) → SeesXoff queue (view b) first
      → IsSettledSame m w → (view w).holder ≡ record (view m).holder { slot = Some n; hand = None }
      → (IsSole (view m) → slice_index (account_of (view m)).stops queue ≢ 0 → solo (view w) ≡ missed_to true (heard Back (draining_to true (missed_to false (solo (view m))))))
      → LaysAside n queue (view b) (view w)
  lays_aside n queue first p direct b m w closed here shut loaded sees fates holder sole =
      let e : view m ≡ moved_to (if first == 0 then Xmit p direct else BlockedClear (InHand p direct)) (view b) = loaded ∙ loaded_at_gate first (view b) p direct here in record {
        holder = holder ∙ ap (λ (v : View). record v.holder { slot = Some n; hand = None }) e;
        settled = fates.0 ∙ ap (λ (v : View). v.settled) e;
        sole = λ alone.
            let stop = stop_is queue first (view b) sees alone (ap (λ (y : Position). holds_lock y) here) shut in
            let other : slice_index (account_of (view b)).stops queue ≢ 0 = λ z. closed (stop ∙ z) in (
              other,
              sole (ap (λ (v : View). v.share.shares) e ∙ alone.0, ap (λ (v : View). v.whole.told) e ∙ alone.1) (λ z. other (sym (ap (λ (v : View). slice_index (account_of v).stops queue) e) ∙ z))
                  ∙ ap (λ (v : View). missed_to true (heard Back (draining_to true (missed_to false (solo v))))) e,
            );
      }

  -- it was found open
  pub sees_open : (queue first : ℕ) (p : Packet) (direct : Bool) (b m : Cpu D) → first ≡ 0 → position b ≡ Gate p direct → (view b).holder.shut ≡ None → view m ≡ load_xoff_view first (view b) → SeesXoff queue (view b) first → SeesOpen queue (view m)
  sees_open queue first p direct b m opened here shut loaded sees =
      let e : view m ≡ moved_to (Xmit p direct) (view b) = loaded ∙ (loaded_at_gate first (view b) p direct here ∙ ap (λ (x : ℕ). moved_to (if x == 0 then Xmit p direct else BlockedClear (InHand p direct)) (view b)) opened) in
      subst (λ (v : View). SeesOpen queue v) (sym e) (λ alone.
      let holds = ap (λ (y : Position). holds_lock y) here in
      (sym (stop_is queue first (view b) sees alone holds shut) ∙ opened, sees.1 alone holds, sees.2 alone holds))

  -- where the fate was stored, which is that of a packet that the device accepted
  pub sent_settled : (t : Shared D) (n : ℕ) (f : Fate) (m s : Cpu D) → MakesSteps (Settle n f ∷ []) m s → (view m).holder.hand ≡ Some n → f ≡ fate_sent (view m).holder.station
      → (answer : Tx) → (direct : Bool) → is_busy answer ≡ false → HasAnswered answer (queue_in t.infos.now n) n (shown (view m).holder) (carried m) → position m ≡ Xmit (packet_at t n) direct
      → IsSentAs answer n (queue_in t.infos.now n) direct (carried m) (view m) (view s)
  sent_settled t n f m s made hand is answer direct accepted called here =
      let v = view m in let st = carried m in let b = band_in v.share.about.infos n in
      sent_as n (packet_at t n) direct st v (view s) here hand answer accepted (ap (λ (x : StationState). x.last) called.rest)
      (made.knows ∙ ap (λ (x : Fate). settle_view st b n x v) is)
      (ap solo made.knows ∙ (made.told.0 ∙ ap (λ (x : Fate). settle_alone st x (solo v)) is))

  -- a stored fate changes the view alone
  pub else_same : {n : ℕ} {f : Fate} {b a : Cpu D} → MakesSteps (Settle n f ∷ []) b a → IsElseSame b a
  else_same m = (m.seat, m.carries, m.places, m.has)
