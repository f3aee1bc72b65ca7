-- The load of the stop word where a dequeue begins, and the store of one.
use Rattle.std.proofs.Common.{◌≡◌, ℕ, ◌+◌, ◌<◌, Bool, true, false, List, length, set, get_or, refl, sym, ap, ◌∙◌, subst, arith, Option, Some, None, ne_eqb, eqb}
use Rattle.std.specs.Prelude.{if◌then◌else◌, ◌==◌, ◌&&◌, nat_lt, slice_index}
use Rattle.std.specs.Option.{option_map}
use mathlib.Core.Logic.{dite}
use mathlib.Core.Option.{some}
use mathlib.Core.Option as maybe
use native.Mathlib.Decide.{ℕ_discrete}
use lib.ListN.{get_elem?}
use Rattle.lq_device.specs.Station.{StationState}
use Rattle.lq_model.specs.declared.machine.Answer.TheVariants.{Plain}
use Rattle.lq_model.specs.declared.machine.Blocked.TheVariants.{NoneTaken}
use Rattle.lq_model.specs.declared.machine.Packet.{Packet}
use Rattle.lq_model.specs.declared.machine.Position.{Position}
use Rattle.lq_model.specs.declared.machine.Position.TheVariants.{BlockedClear, Deq, Gate, Post, Quota, Scan, StoreXoff}
use Rattle.lq_model.specs.declared.machine.Seat.{Seat}
use Rattle.lq_model.specs.declared.state.TheConstants.{QUOTA}
use Rattle.lq_model.specs.Machine.{Qdisc, is_queue_open}
use Rattle.lq_model.specs.Plan.{queue_in}
use Rattle.lq_model.specs.Positions.{holds_lock}
use Rattle.lq_model.specs.Steps.{After, deq, dequeue_begins, goes_to, queue_of_slot, slot_taken, step_at}
use Rattle.lq_run_core.specs.Progress.{accepted_at}
use Rattle.lq_table.specs.Places.{xoff_word}
use Rattle.lq_table.specs.Views.{Setup, View, machine_packet}
use Rattle.lq_table.specs.Rule.{Words, words_of, account, is_live, machine_of, Rule}
use Rattle.lq_table.specs.Stops.{load_xoff_view, load_xoff_view_from, picking, stop_value, store_xoff_view_from}
use Rattle.lq_table.specs.Moves.{seen_by}
use Rattle.lq_table.proofs.ByName.{set_back, xoff_long}
use Rattle.lq_table.proofs.Frames.{Fits}
use Rattle.lq_table.proofs.StoreXoffKept.{gates, stays_out}
use Rattle.lq_table.proofs.Shows.{shows_queues}
use Rattle.lq_table_laws.specs.Stands.{Table}
use Rattle.lq_table_laws.specs.Stepped.{Leads, none_sent}
use Rattle.lq_table_laws.proofs.Calls.{Beside, alike_holder, by_fits}
use Rattle.lq_table_laws.proofs.Devices.{loaded, loads_only, slot_is, store_move}

no_slot : (q : Qdisc) (s : Seat) → q.slot ≡ None → deq q s ≡ goes_to q s (if is_queue_open q 0 then Scan 0 false else BlockedClear (NoneTaken 0))
no_slot q s e = (λ j. if is_queue_open q (queue_of_slot (e j)) then slot_taken (e j) q s else goes_to q s (BlockedClear (NoneTaken (queue_of_slot (e j))))) ∙ pull (is_queue_open q 0)
  where
    pull : (b : Bool) → (if b then goes_to q s (Scan 0 false) else goes_to q s (BlockedClear (NoneTaken 0))) ≡ goes_to q s (if b then Scan 0 false else BlockedClear (NoneTaken 0))
    pull true = refl
    pull false = refl

same_either : (b : Bool) (w : View) → (if b then w else w) ≡ w
same_either true w = refl
same_either false w = refl

module _ (k : Setup) (s : Table) (r : Rule k s) (x id : ℕ) (v w : View) (homes : List (maybe.Option (Option StationState))) (here : get_elem? s.views id ≡ some v) (live : is_live v ≡ true) (same : homes ≡ s.homes) where
  abbrev q : Qdisc
  q = r.qdisc

  abbrev AfterAt : ℕ → Type 0
  AfterAt i = Rule k (record { words = set s.words i x; homes = homes; views = set s.views id w })

  abbrev Goal : (i : ℕ) → AfterAt i → Type 0
  Goal i r' = Leads (none_sent 1 0) (machine_of q s.views) (machine_of r'.qdisc (set s.views id w))

  -- with an empty requeue slot
  pub deq_none_move : (r' : AfterAt (xoff_word k 0)) → w ≡ load_xoff_view (get_or s.words (xoff_word k 0) 0) v → x ≡ get_or s.words (xoff_word k 0) 0 → v.place.position ≡ Deq → v.holder.slot ≡ None → Goal (xoff_word k 0) r'
  deq_none_move r' is word at empty = let n : ℕ = get_or s.words (xoff_word k 0) 0 in
      let none : q.slot ≡ None = sym (slot_is k s r x id v w homes here live same (ap holds_lock at)) ∙ ap (option_map (machine_packet k.infos)) empty in
      let to : View = record v { place = record v.place { position = if n == 0 then Scan 0 false else BlockedClear (NoneTaken 0) } } in
      let told : load_xoff_view n v ≡ to = (λ j. load_xoff_view_from (at j) (empty j) n v) ∙ same_either (n == 0) to in let is' = is ∙ told in
      loads_only k s r x id v w homes here live same 0 r' (ap (λ (z : Position). accepted_at z Plain) at) word (ap is_live is' ∙ live) (subst (λ (z : Position). Fits q q Plain z v.place q) (sym at) record { may = refl; seat = refl; words = ap (λ (a : After). a.qdisc) (no_slot q v.place none) })
      (ap (λ (u : View). u.place) is' ∙ sym (ap (λ (z : Position). (step_at z Plain q v.place).seat) at ∙ (ap (λ (a : After). a.seat) (no_slot q v.place none)
      ∙ ap (λ (m : ℕ). record v.place { position = if m == 0 then Scan 0 false else BlockedClear (NoneTaken 0) }) (loaded k s r x id v w homes here live same 0))))
      (subst (Beside v) (sym is') record { part = record { ends = refl; slot = refl; resizing = refl }; first = refl; phase = refl; purge = refl })

  -- with a packet in it, which comes into the hand where its queue is open
  pub deq_some_move : (m : ℕ) (r' : AfterAt (xoff_word k (queue_in k.infos m))) → w ≡ load_xoff_view (get_or s.words (xoff_word k (queue_in k.infos m)) 0) v → x ≡ get_or s.words (xoff_word k (queue_in k.infos m)) 0 → v.place.position ≡ Deq → v.holder.slot ≡ Some m
      → Goal (xoff_word k (queue_in k.infos m)) r'
  deq_some_move m r' is word at full =
      let i : ℕ = xoff_word k (queue_in k.infos m) in let n : ℕ = get_or s.words i 0 in let W : Words = words_of k s.words in let holds : holds_lock v.place.position ≡ true = ap holds_lock at in
      let p : Packet = machine_packet v.share.about.infos m in let p_is : p ≡ machine_packet k.infos m = ap (λ (z : Setup). machine_packet z.infos m) (r.parts.seats.shares.about id v here live) in
      let has : q.slot ≡ Some p = sym (slot_is k s r x id v w homes here live same holds) ∙ (ap (option_map (machine_packet k.infos)) full ∙ ap Some (sym p_is)) in
      let found : slice_index q.xoff p.queue ≡ n = ap (λ (y : Packet). slice_index q.xoff y.queue) p_is ∙ loaded k s r x id v w homes here live same (queue_in k.infos m) in
      let told : load_xoff_view n v ≡ load_xoff_view_from Deq (Some m) n v = λ j. load_xoff_view_from (at j) (full j) n v in
      let back = ap (λ (z : ℕ). words_of k (set s.words i z)) word ∙ set_back k s.words i in
      dite (ℕ_discrete n 0)
      (λ zero_. let open_ : is_queue_open q p.queue ≡ true = ap (λ (z : ℕ). eqb z 0) (found ∙ zero_) in let q' : Qdisc = record q { slot = None } in let is' = is ∙ (told ∙ ap (λ (z : ℕ). load_xoff_view_from Deq (Some m) z v) zero_) in
      let live' : is_live w ≡ true = ap is_live is' ∙ live in let t = r.parts.station.stands in
      by_fits k s r i x id v w homes r' here live live' q Plain (ap (λ (z : Position). accepted_at z Plain) at) q' (subst (λ (z : Position). Fits q q Plain z v.place q') (sym at) record { may = refl; seat = refl; words = ap (λ (a : After). a.qdisc) (gates v.place p q has open_) })
      (ap (λ (u : View). u.place) is' ∙ sym (ap (λ (z : Position). (step_at z Plain q v.place).seat) at ∙ ap (λ (a : After). a.seat) (gates v.place p q has open_)))
      (alike_holder k s r i x id v w homes r' here live live' q' W (account k r.state).down back (record { slots = refl; size = refl }) (record { state = t.state; lock = t.lock; xoff = t.xoff; inside = t.inside; bypass = t.bypass }) holds (ap (λ (u : View). holds_lock u.place.position) is')
      (ap (λ (u : View). u.holder.ends) is') (ap (λ (u : View). u.holder.resizing) is') (ap (λ (u : View). option_map (machine_packet k.infos) u.holder.slot) is')
      (ap (λ (u : View). u.control.first) is') (ap (λ (u : View). u.control.phase) is') (ap (λ (u : View). u.control.purge) is') refl))
      (λ other. let shut : is_queue_open q p.queue ≡ false = ap (λ (z : ℕ). eqb z 0) found ∙ ne_eqb n 0 other in let to : View = record v { place = record v.place { position = BlockedClear (NoneTaken p.queue) } } in
      let leads : load_xoff_view_from Deq (Some m) n v ≡ to = ap (λ (b : Bool). if b then picking (Some m) (record v { place = record v.place { position = if b then Gate p false else BlockedClear (NoneTaken p.queue) } }) else record v { place = record v.place { position = if b then Gate p false else BlockedClear (NoneTaken p.queue) } }) (ne_eqb n 0 other) in
      let is' = is ∙ (told ∙ leads) in
      loads_only k s r x id v w homes here live same (queue_in k.infos m) r' (ap (λ (z : Position). accepted_at z Plain) at) word (ap is_live is' ∙ live) (subst (λ (z : Position). Fits q q Plain z v.place q) (sym at) record { may = refl; seat = refl; words = ap (λ (a : After). a.qdisc) (stays_out v.place p q has shut) })
      (ap (λ (u : View). u.place) is' ∙ sym (ap (λ (z : Position). (step_at z Plain q v.place).seat) at ∙ ap (λ (a : After). a.seat) (stays_out v.place p q has shut)))
      (subst (Beside v) (sym is') record { part = record { ends = refl; slot = refl; resizing = refl }; first = refl; phase = refl; purge = refl }))

  -- a stop word is stored after an answer of the device
  pub stores_move : (queue : ℕ) (hung direct : Bool) (r' : AfterAt (xoff_word k queue)) → queue < k.queues → w ≡ store_xoff_view_from (StoreXoff queue hung direct) v → x ≡ stop_value hung → v.place.position ≡ StoreXoff queue hung direct → Goal (xoff_word k queue) r'
  stores_move queue hung direct r' below is word at =
      let long = shows_queues k s r id v here live 0 in let all = xoff_long k s.words r.wide in let queues_are = ap (λ (z : Setup). z.queues) (r.parts.seats.shares.about id v here live) in let xoff = ap length r.parts.station.stands.xoff in
      let seen_long : length (seen_by v).xoff ≡ v.share.about.queues = omega arith in
      store_move k s r x id v w homes here live same queue hung direct r' below
      (ap (λ (u : View). u.place) is ∙ ((λ j. record v.place { position = if hung && nat_lt (queue + 1) (sym seen_long j) then StoreXoff (queue + 1) hung direct else if direct then Post else if v.place.run == QUOTA then Quota else dequeue_begins (seen_by v) })
      ∙ ap (λ (z : Position). (step_at z Plain (seen_by v) v.place).seat) (sym at)))
      (ap is_live is ∙ live) (subst (Beside v) (sym is) record { part = record { ends = refl; slot = refl; resizing = refl }; first = refl; phase = refl; purge = refl }) word at
