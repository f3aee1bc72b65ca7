-- The steps at the stop words and at the device.
use Rattle.std.proofs.Common.{◌≡◌, ℕ, ◌+◌, ◌<◌, Bool, true, false, List, [], ◌∷◌, length, length-set, set, get_or, get_or-set_same, refl, sym, ap, ap₂, ◌∙◌, subst, arith, Option, Some}
use Rattle.std.specs.Prelude.{if◌then◌else◌, ◌==◌, ◌&&◌, bit_or, nat_lt, slice_index, slice_set}
use Rattle.std.specs.Option.{option_map}
use Rattle.std.proofs.lemmas.Option.{same_Some}
use mathlib.Core.Option.{some}
use mathlib.Core.Option as maybe
use lib.ListN.{get_elem?}
use Rattle.lq_device.specs.Station.{StationState}
use Rattle.lq_model.specs.Device.{is_busy}
use Rattle.lq_model.specs.declared.device.Tx.{Tx}
use Rattle.lq_model.specs.declared.device.Tx.TheVariants.{Sent, SentStop, SentHang, Busy}
use Rattle.lq_model.specs.declared.machine.Answer.TheVariants.{Plain, Busy as IsBusy}
use Rattle.lq_model.specs.declared.machine.Beginning.TheVariants.{Wakes}
use Rattle.lq_model.specs.declared.machine.Blocked.{Blocked}
use Rattle.lq_model.specs.declared.machine.Blocked.TheVariants.{InHand}
use Rattle.lq_model.specs.declared.machine.Packet.{Packet}
use Rattle.lq_model.specs.declared.machine.Position.{Position}
use Rattle.lq_model.specs.declared.machine.Position.TheVariants.{Again, BlockedClear, BlockedDrain, BlockedLoad, BlockedMiss, Gate, Idle, Post, Quota, Sched, StoreXoff, Unlock, Wake, Xmit}
use Rattle.lq_model.specs.declared.machine.Seat.{Seat}
use Rattle.lq_model.specs.declared.state.TheConstants.{QUOTA}
use Rattle.lq_model.specs.Machine.{Qdisc, idle_seat}
use Rattle.lq_model.specs.Positions.{holds_lock, in_hand}
use Rattle.lq_model.specs.Steps.{accepted, counted, goes_to, is_idle, may_answer, queue_of_blocked, step_at}
use Rattle.lq_run_core.specs.Progress.{accepted_at, step_cost}
use Rattle.lq_table.specs.Places.{fates_offset, state_place, xoff_word}
use Rattle.lq_table.specs.Views.{HolderPart, Setup, View, machine_packet}
use Rattle.lq_table.specs.Rule.{Words, words_of, account, event_word, holders, is_live, machine_of, seats_of, Holder, Rule}
use Rattle.lq_table.specs.States.{backing, requeue_view}
use Rattle.lq_table.specs.Stops.{load_xoff_view, load_xoff_view_from, stop_value, wake_view}
use Rattle.lq_table.specs.Fates.{machine_answer, settle_view_sent}
use Rattle.lq_table.specs.Moves.{seen_by}
use Rattle.lq_table.proofs.Bits.{or_missed}
use Rattle.lq_table.proofs.SetBitKept.{Backs}
use Rattle.lq_table.proofs.ByName.{set_back, set_fate, set_state, set_xoff, xoff_of, xoff_within}
use Rattle.lq_table.proofs.Frames.{Fits}
use Rattle.lq_table.proofs.Shows.{Shows, begins_alike, holder_shows}
use Rattle.lq_table_laws.specs.Stands.{Table}
use Rattle.lq_table_laws.specs.Stepped.{Leads, none_sent, one_sent}
use Rattle.lq_table_laws.proofs.Calls.{Beside, alike_holder, alike_still, by_fits, moves_beside}
use Rattle.lq_table_laws.proofs.Moves.{Costs, by_start, by_step, inside, leads_twice, moved_to, one_move, place, still_serves, there}

xmit_fits : (q seen : Qdisc) → Shows q seen → (tx : Tx) → is_busy tx ≡ false → (p : Packet) (direct : Bool) (s : Seat) → Fits q seen (machine_answer (Some tx)) (Xmit p direct) s (accepted q)
xmit_fits q seen e Sent sent p direct s = record { may = refl; seat = ap (λ (d : Position). record (counted s) { position = if direct then Post else if (counted s).run == QUOTA then Quota else d }) (begins_alike q seen e); words = refl }
xmit_fits q seen e SentStop sent p direct s = record { may = refl; seat = refl; words = refl }
xmit_fits q seen e SentHang sent p direct s = record { may = refl; seat = refl; words = refl }
xmit_fits q seen e Busy sent p direct s = absurd cc

free_answer : (tx : Tx) → is_busy tx ≡ false → step_cost (machine_answer (Some tx)) ≡ 0
free_answer Sent e = refl
free_answer SentStop e = refl
free_answer SentHang e = refl
free_answer Busy e = absurd cc

accepts : (tx : Tx) → is_busy tx ≡ false → (p : Packet) (direct : Bool) → accepted_at (Xmit p direct) (machine_answer (Some tx)) ≡ p ∷ []
accepts Sent e p direct = refl
accepts SentStop e p direct = refl
accepts SentHang e p direct = refl
accepts Busy e p direct = absurd cc

store_fits : (q seen : Qdisc) → Shows q seen → (queue : ℕ) (hung direct : Bool) (s : Seat) → Fits q seen Plain (StoreXoff queue hung direct) s (record q { xoff = slice_set q.xoff queue (stop_value hung) })
store_fits q seen e queue hung direct s = record {
  may = refl;
  seat = λ j. record s { position = if hung && nat_lt (queue + 1) (e.queues j) then StoreXoff (queue + 1) hung direct else if direct then Post else if s.run == QUOTA then Quota else begins_alike q seen e j };
  words = refl;
}

module _ (k : Setup) (s : Table) (r : Rule k s) (x id : ℕ) (v w : View) (homes : List (maybe.Option (Option StationState))) (here : get_elem? s.views id ≡ some v) (live : is_live v ≡ true) (same : homes ≡ s.homes) where
  abbrev q : Qdisc
  q = r.qdisc

  abbrev W : Words
  W = words_of k s.words

  abbrev AfterAt : ℕ → Type 0
  AfterAt i = Rule k (record { words = set s.words i x; homes = homes; views = set s.views id w })

  -- what the holder has is what the account and the device have
  knows : holds_lock v.place.position ≡ true → Holder k.infos W.xoff r.state.past (holders r.state (account k r.state) W.size) v.place.position v.holder
  knows holds = r.parts.station.lends.knows id v here live holds

  hand_is : holds_lock v.place.position ≡ true → option_map (machine_packet k.infos) v.holder.hand ≡ in_hand v.place.position
  hand_is holds = let at = knows holds in ap (λ (d : HolderPart). option_map (machine_packet k.infos) d.hand) at.is ∙ sym at.in_hand

  pub slot_is : holds_lock v.place.position ≡ true → option_map (machine_packet k.infos) v.holder.slot ≡ q.slot
  slot_is holds = let at = knows holds in ap (λ (d : HolderPart). option_map (machine_packet k.infos) d.slot) at.is ∙ sym r.parts.station.ties.slot

  -- A PACKET IN HAND GOES BACK

  pub backs_move : (at_place : Packet → Bool → Position) (f : ℕ → ℕ) (to : Qdisc → Qdisc) (b : Backs at_place f to) (r' : AfterAt state_place) (p : Packet) (direct : Bool) → accepted_at (at_place p direct) Plain ≡ [] → ((z : Qdisc) → ◌≡◌ {A = Qdisc} (record (to z) { missed = z.missed; draining = z.draining }) z)
      → w ≡ backing v → x ≡ f (get_or s.words state_place 0) → v.place.position ≡ at_place p direct → Leads (none_sent 1 0) (machine_of q s.views) (machine_of r'.qdisc (set s.views id w))
  backs_move at_place f to b r' p direct none bits is word at =
      let of_place = b.holds p direct in let holds : holds_lock v.place.position ≡ true = ap holds_lock at ∙ of_place.0 in let q' : Qdisc = record (to q) { slot = Some p } in
      let live' : is_live w ≡ true = ap is_live is ∙ live in
      let fits : Fits q (seen_by v) Plain v.place.position v.place q' = subst (λ (z : Position). Fits q (seen_by v) Plain z v.place q') (sym at) (b.fits (seen_by v) q p direct v.place) in
      let again : w.place.position ≡ Again = ap (λ (u : View). u.place.position) is ∙ (ap (λ (z : Position). (step_at z Plain (seen_by v) v.place).seat.position) at ∙ b.seat (seen_by v) p direct v.place) in
      let stands = b.word k W q (account k r.state).down r.parts.station.stands in let rest = bits q in
      by_fits k s r state_place x id v w homes r' here live live' (seen_by v) Plain (ap (λ (z : Position). accepted_at z Plain) at ∙ none) q' fits (ap (λ (u : View). u.place) is)
      (alike_holder k s r state_place x id v w homes r' here live live' q' (record W { state = x }) (account k r.state).down (set_state k s.words x (let wide = r.wide in omega arith)) (record { slots = refl; size = refl })
      (record { state = word ∙ stands.state; lock = stands.lock; xoff = stands.xoff; inside = stands.inside; bypass = stands.bypass }) holds (ap holds_lock again)
      (ap (λ (u : View). u.holder.ends) is) (ap (λ (u : View). u.holder.resizing) is) (ap (λ (u : View). option_map (machine_packet k.infos) u.holder.slot) is ∙ (hand_is holds ∙ (ap in_hand at ∙ of_place.2)))
      (ap (λ (u : View). u.control.first) is) (ap (λ (u : View). u.control.phase) is) (ap (λ (u : View). u.control.purge) is)
      (ap (λ (z : Qdisc). (z.bands, z.len, z.phase, z.purge)) rest))

  -- THE STOP WORD

  pub loaded : (queue : ℕ) → slice_index q.xoff queue ≡ get_or s.words (xoff_word k queue) 0
  loaded queue = ap (λ (ls : List ℕ). slice_index ls queue) r.parts.station.stands.xoff ∙ sym (xoff_of k s.words queue)

  -- it is loaded where nothing comes into the hand
  pub loads_only : (queue : ℕ) (r' : AfterAt (xoff_word k queue)) → accepted_at v.place.position Plain ≡ [] → x ≡ get_or s.words (xoff_word k queue) 0 → is_live w ≡ true → Fits q q Plain v.place.position v.place q → w.place ≡ (step_at v.place.position Plain q v.place).seat → Beside v w
      → Leads (none_sent 1 0) (machine_of q s.views) (machine_of r'.qdisc (set s.views id w))
  loads_only queue r' none word live' fits to b =
      moves_beside k s r (xoff_word k queue) x id v w homes r' here live live' q Plain none q W (account k r.state).down fits to (ap (λ (z : ℕ). words_of k (set s.words (xoff_word k queue) z)) word ∙ set_back k s.words (xoff_word k queue)) (record { slots = refl; size = refl })
      r.parts.station.stands refl (record { bands = refl; len = refl; slot = refl; phase = refl; purge = refl }) same b

  pub gate_move : (p : Packet) (direct : Bool) (r' : AfterAt (xoff_word k p.queue)) → w ≡ load_xoff_view (get_or s.words (xoff_word k p.queue) 0) v → x ≡ get_or s.words (xoff_word k p.queue) 0 → v.place.position ≡ Gate p direct
      → Leads (none_sent 1 0) (machine_of q s.views) (machine_of r'.qdisc (set s.views id w))
  gate_move p direct r' is word at = let n : ℕ = get_or s.words (xoff_word k p.queue) 0 in
      let told : load_xoff_view n v ≡ record v { place = record v.place { position = if n == 0 then Xmit p direct else BlockedClear (InHand p direct) } } = ap (λ (z : Position). load_xoff_view_from z v.holder.slot n v) at in
      let is' = is ∙ told in
      loads_only p.queue r' (ap (λ (z : Position). accepted_at z Plain) at) word (ap is_live is' ∙ live) (subst (λ (z : Position). Fits q q Plain z v.place q) (sym at) record { may = refl; seat = refl; words = refl })
      (ap (λ (u : View). u.place) is' ∙ sym (ap (λ (z : Position). (step_at z Plain q v.place).seat) at ∙ ap (λ (m : ℕ). record v.place { position = if m == 0 then Xmit p direct else BlockedClear (InHand p direct) }) (loaded p.queue)))
      (subst (Beside v) (sym is') record { part = record { ends = refl; slot = refl; resizing = refl }; first = refl; phase = refl; purge = refl })

  pub blocked_move : (b : Blocked) (r' : AfterAt (xoff_word k (queue_of_blocked b))) → w ≡ load_xoff_view (get_or s.words (xoff_word k (queue_of_blocked b)) 0) v → x ≡ get_or s.words (xoff_word k (queue_of_blocked b)) 0 → v.place.position ≡ BlockedLoad b
      → Leads (none_sent 1 0) (machine_of q s.views) (machine_of r'.qdisc (set s.views id w))
  blocked_move b r' is word at = let n : ℕ = get_or s.words (xoff_word k (queue_of_blocked b)) 0 in
      let told : load_xoff_view n v ≡ record v { place = record v.place { position = if n == 0 then BlockedMiss b else BlockedDrain b } } = ap (λ (z : Position). load_xoff_view_from z v.holder.slot n v) at in
      let is' = is ∙ told in
      loads_only (queue_of_blocked b) r' (ap (λ (z : Position). accepted_at z Plain) at) word (ap is_live is' ∙ live) (subst (λ (z : Position). Fits q q Plain z v.place q) (sym at) record { may = refl; seat = refl; words = refl })
      (ap (λ (u : View). u.place) is' ∙ sym (ap (λ (z : Position). (step_at z Plain q v.place).seat) at ∙ ap (λ (m : ℕ). record v.place { position = if m == 0 then BlockedMiss b else BlockedDrain b }) (loaded (queue_of_blocked b))))
      (subst (Beside v) (sym is') record { part = record { ends = refl; slot = refl; resizing = refl }; first = refl; phase = refl; purge = refl })

  pub store_move : (queue : ℕ) (hung direct : Bool) (r' : AfterAt (xoff_word k queue)) → queue < k.queues → w.place ≡ (step_at v.place.position Plain (seen_by v) v.place).seat → is_live w ≡ true → Beside v w → x ≡ stop_value hung → v.place.position ≡ StoreXoff queue hung direct
      → Leads (none_sent 1 0) (machine_of q s.views) (machine_of r'.qdisc (set s.views id w))
  store_move queue hung direct r' below to live' b word at =
      let q' : Qdisc = record q { xoff = slice_set q.xoff queue (stop_value hung) } in let t = r.parts.station.stands in
      moves_beside k s r (xoff_word k queue) x id v w homes r' here live live' (seen_by v) Plain (ap (λ (z : Position). accepted_at z Plain) at) q' (record W { xoff = set W.xoff queue x }) (account k r.state).down
      (subst (λ (z : Position). Fits q (seen_by v) Plain z v.place q') (sym at) (store_fits q (seen_by v) (holder_shows k s r id v here live (ap holds_lock at)) queue hung direct v.place)) to
      (set_xoff k s.words x queue (xoff_within k s.words queue r.wide below)) (record { slots = refl; size = refl })
      (record { state = t.state; lock = t.lock; xoff = ap₂ (λ (ls : List ℕ) (z : ℕ). slice_set ls queue z) t.xoff (sym word); inside = t.inside; bypass = t.bypass }) refl
      (record { bands = refl; len = refl; slot = refl; phase = refl; purge = refl }) same b

  -- THE DEVICE

  -- it accepted the packet, whose fate is stored
  pub send_move : (n : ℕ) (st : StationState) (tx : Tx) (p : Packet) (direct : Bool) (r' : AfterAt (fates_offset k + n)) → n < length k.infos → w ≡ settle_view_sent st v → v.place.position ≡ Xmit p direct → v.holder.hand ≡ Some n → st.last ≡ Some tx → is_busy tx ≡ false
      → Leads (one_sent (machine_packet k.infos n)) (machine_of q s.views) (machine_of r'.qdisc (set s.views id w))
  send_move n st tx p direct r' within is at has answered sent =
      let packet : p ≡ machine_packet k.infos n = sym (same_Some (machine_packet k.infos n) p (sym (ap (option_map (machine_packet k.infos)) has) ∙ (hand_is (ap holds_lock at) ∙ ap in_hand at))) in
      let fits : Fits q (seen_by v) (machine_answer st.last) v.place.position v.place (accepted q) =
      subst (λ (z : Option Tx × Position). Fits q (seen_by v) (machine_answer z.0) z.1 v.place (accepted q)) (λ j. (sym answered j, sym at j)) (xmit_fits q (seen_by v) (holder_shows k s r id v here live (ap holds_lock at)) tx sent p direct v.place) in
      let t = r.parts.station.stands in
      subst (λ (c : ℕ × Packet). Leads (one_move c.0 (c.1 ∷ [])) (machine_of q s.views) (machine_of r'.qdisc (set s.views id w))) (λ j. ((ap (λ (o : Option Tx). step_cost (machine_answer o)) answered ∙ free_answer tx sent) j, packet j))
      (moves_beside k s r (fates_offset k + n) x id v w homes r' here live (ap is_live is ∙ live) (seen_by v) (machine_answer st.last) ((λ j. accepted_at (at j) (machine_answer (answered j))) ∙ accepts tx sent p direct) (accepted q) (record W { fates = set W.fates n x }) (account k r.state).down fits (ap (λ (u : View). u.place) is)
      (set_fate k s.words x n within) (record { slots = refl; size = refl }) (record { state = t.state; lock = t.lock; xoff = t.xoff; inside = t.inside; bypass = t.bypass }) refl
      (record { bands = refl; len = refl; slot = refl; phase = refl; purge = refl }) same
      (subst (Beside v) (sym is) record { part = record { ends = refl; slot = refl; resizing = refl }; first = refl; phase = refl; purge = refl }))

  -- it was busy: the packet goes to the requeue slot, and MISSED is set
  pub requeue_moves : (st : StationState) (p : Packet) (direct : Bool) (r' : AfterAt state_place) → w ≡ requeue_view st v → x ≡ bit_or (get_or s.words state_place 0) 4 → v.place.position ≡ Xmit p direct
      → Leads (none_sent 2 19) (machine_of q s.views) (machine_of r'.qdisc (set s.views id w))
  requeue_moves st p direct r' is word at =
      let live' : is_live w ≡ true = ap is_live is ∙ live in let holds : holds_lock v.place.position ≡ true = ap holds_lock at in
      let q1 : Qdisc = record q { slot = Some p } in let q2 : Qdisc = record q { slot = Some p; missed = true } in let again : Seat = record v.place { position = Again } in let gone : Seat = record v.place { position = Unlock } in
      let i = place s.views id v w here live live' in let t = r.parts.station.stands in let e : ℕ = event_word (account k r.state).down in
      let first : Costs (machine_of q s.views) (moved_to (seats_of s.views) i (record { qdisc = q1; seat = again })) (none_sent 1 19) =
      subst (λ (z : Position). Costs (machine_of q s.views) (moved_to (seats_of s.views) i (step_at z IsBusy q v.place)) (none_sent 1 19)) at
      (by_step q (seats_of s.views) i v.place (inside s.views id v w here live live') (there s.views id v w here live live') IsBusy (ap (λ (z : Position). accepted_at z IsBusy) at) (ap (λ (z : Position). may_answer z IsBusy q) at)) in
      let second : Costs (moved_to (seats_of s.views) i (record { qdisc = q1; seat = again })) (moved_to (set (seats_of s.views) i again) i (record { qdisc = q2; seat = gone })) (none_sent 1 0) =
      by_step q1 (set (seats_of s.views) i again) i again (let l = length-set (seats_of s.views) i again in let z = inside s.views id v w here live live' in omega arith)
      (get_or-set_same (seats_of s.views) i again idle_seat (inside s.views id v w here live live')) Plain refl refl in
      leads_twice s.views id v w here live live' q r'.qdisc (record { qdisc = q1; seat = again }) (record { qdisc = q2; seat = gone }) (none_sent 1 19) (none_sent 1 0) first second (ap (λ (u : View). u.place) is)
      (alike_holder k s r state_place x id v w homes r' here live live' q2 (record W { state = x }) (account k r.state).down (set_state k s.words x (let wide = r.wide in omega arith)) (record { slots = refl; size = refl })
      (record { state = word ∙ (ap (λ (z : ℕ). bit_or z 4) t.state ∙ or_missed q.sched q.deactivated q.missed q.draining e); lock = t.lock; xoff = t.xoff; inside = t.inside; bypass = t.bypass }) holds (ap (λ (u : View). holds_lock u.place.position) is)
      (ap (λ (u : View). u.holder.ends) is) (ap (λ (u : View). u.holder.resizing) is) (ap (λ (u : View). option_map (machine_packet k.infos) u.holder.slot) is ∙ (hand_is holds ∙ ap in_hand at))
      (ap (λ (u : View). u.control.first) is) (ap (λ (u : View). u.control.phase) is) (ap (λ (u : View). u.control.purge) is) refl) r.parts.machine.invariant.kept.one_holder (λ before. record { serves = refl; queues_open = before.queues_open })

  -- a wake opens a stopped queue
  pub wake_moves : (queue : ℕ) (r' : AfterAt (xoff_word k queue)) → queue < k.queues → w ≡ wake_view queue v → get_or s.words (xoff_word k queue) 0 ≡ 1 → x ≡ 0 → v.place.position ≡ Idle
      → Leads (none_sent 2 18) (machine_of q s.views) (machine_of r'.qdisc (set s.views id w))
  wake_moves queue r' below is found word at =
      let live' : is_live w ≡ true = ap is_live is ∙ live in let q' : Qdisc = record q { xoff = slice_set q.xoff queue 0 } in
      let begun_seat : Seat = record v.place { position = Wake queue } in let woken : Seat = record v.place { position = Sched false } in
      let i = place s.views id v w here live live' in let t = r.parts.station.stands in let stopped : slice_index q.xoff queue ≡ 1 = loaded queue ∙ found in
      let first : Costs (machine_of q s.views) (moved_to (seats_of s.views) i (record { qdisc = q; seat = begun_seat })) (none_sent 1 18) =
      by_start q (seats_of s.views) i v.place (inside s.views id v w here live live') (there s.views id v w here live live') (Wakes queue) (ap is_idle at) tt in
      let second : Costs (moved_to (seats_of s.views) i (record { qdisc = q; seat = begun_seat })) (moved_to (set (seats_of s.views) i begun_seat) i (record { qdisc = q'; seat = woken })) (none_sent 1 0) =
      subst (λ (b : Bool). Costs (moved_to (seats_of s.views) i (record { qdisc = q; seat = begun_seat })) (moved_to (set (seats_of s.views) i begun_seat) i (if b then goes_to (record q { xoff = slice_set q.xoff queue 0 }) begun_seat (Sched false) else goes_to q begun_seat Idle)) (none_sent 1 0))
      (ap (λ (z : ℕ). z == 1) stopped)
      (by_step q (set (seats_of s.views) i begun_seat) i begun_seat (let l = length-set (seats_of s.views) i begun_seat in let z = inside s.views id v w here live live' in omega arith)
      (get_or-set_same (seats_of s.views) i begun_seat idle_seat (inside s.views id v w here live live')) Plain refl refl) in
      leads_twice s.views id v w here live live' q r'.qdisc (record { qdisc = q; seat = begun_seat }) (record { qdisc = q'; seat = woken }) (none_sent 1 18) (none_sent 1 0) first second (ap (λ (u : View). u.place) is)
      (alike_still k s r (xoff_word k queue) x id v w homes r' here live live' q' (record W { xoff = set W.xoff queue x }) (account k r.state).down (set_xoff k s.words x queue (xoff_within k s.words queue r.wide below)) (record { slots = refl; size = refl })
      (record { state = t.state; lock = t.lock; xoff = ap₂ (λ (ls : List ℕ) (z : ℕ). slice_set ls queue z) t.xoff (sym word); inside = t.inside; bypass = t.bypass }) refl
      (record { bands = refl; len = refl; slot = refl; phase = refl; purge = refl }) same (ap (λ (u : View). holds_lock u.place.position) is ∙ sym (ap holds_lock at))
      (subst (Beside v) (sym is) record { part = record { ends = refl; slot = refl; resizing = refl }; first = refl; phase = refl; purge = refl }))
      r.parts.machine.invariant.kept.one_holder (still_serves q (seats_of s.views) i v.place begun_seat (inside s.views id v w here live live') (there s.views id v w here live live') (ap holds_lock at) refl)
