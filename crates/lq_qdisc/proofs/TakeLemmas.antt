-- What a look through the bands leaves.
use Rattle.std.proofs.Common.{◌≡◌, ◌≢◌, ℕ, zero, suc, ◌+◌, ◌<◌, ◌==◌, Bool, true, false, refl, sym, ap, ◌∙◌, subst, arith, List, [], ◌∷◌, Option, None, Some, is_some, if◌then◌else◌}
use Rattle.std.proofs.lemmas.Bool.{ne_eqb, true≢false}
use Rattle.std.specs.Option.{option_map, unwrap_or}
use Rattle.std.specs.Prelude.{slice_get, slice_index, MatchOption}
use Rattle.lq_model.specs.Account.{Account, Event, Empty, after_all, held_in, Back}
use Rattle.lq_model.specs.Machine.{Qdisc, band_at}
use Rattle.lq_model.specs.Steps.{step_at, scan, after_band, queue_of_slot}
use Rattle.lq_model.specs.declared.machine.Answer.TheVariants.{Plain}
use Rattle.lq_model.specs.declared.machine.Packet.{Packet}
use Rattle.lq_model.specs.declared.machine.Position.{Position}
use Rattle.lq_model.specs.declared.machine.Position.TheVariants.{BlockedClear, BlockedDrain, BlockedMiss, Deq, Scan}
use Rattle.lq_model.specs.declared.machine.Blocked.TheVariants.{InHand, NoneTaken}
use Rattle.lq_model.specs.declared.machine.Blocked.{Blocked}
use Rattle.lq_model.specs.Positions.{holds_lock, in_hand}
use Rattle.lq_model.specs.declared.machine.Seat.{Seat}
use Rattle.lq_ring.specs.Take.{consuming}
use Rattle.lq_device.specs.Station.{StationState, with_slot}
use Rattle.lq_table.specs.Views.{View, HolderPart, SharePart, State, machine_packet, first_account, no_station}
use Rattle.lq_table.specs.Stops.{load_xoff_view, load_xoff_view_from, picking, slot_begins, SeesXoff}
use Rattle.lq_table.specs.Moves.{pass_view, seen_by, past_with}
use Rattle.lq_table.specs.Consumers.{seen_band, head_slot_view_empty}
use Rattle.lq_table.specs.States.{set_bit_view, set_bit_alone}
use Rattle.lq_table.specs.Rule.{shown, IsResting}
use Rattle.lq_table.specs.Sees.{view, position, slot, CarriesSlot, IsElseSame, IsSeatOf, IsSameSeat, IsSole, account_of}
use Rattle.lq_table.specs.declared.shared.Cpu.{Cpu}
use Rattle.lq_table.specs.declared.shared.Shared.{Shared}
use Rattle.lq_qdisc.specs.Calls.{IsKeptInRun, IsServing, IsSettledSame, after_blocked, AreNone, Dequeues, Finds, ClearsMissedAlone, FindsNone, FindsPacket, FindsStopped, IsStopFor, Looks, Picks, found_empty, laid_aside, looking_at}
use Rattle.lq_model.specs.declared.fate.Info.{Info}
use Rattle.lq_qdisc.specs.declared.answers.Taken.{Taken}
use Rattle.lq_qdisc.specs.declared.answers.Taken.TheVariants as taken

pub one : (n : ℕ) → suc n ≡ n + 1
one n = omega arith

pub none_more : (a : Account) (band : ℕ) → AreNone a band → slice_get (held_in a band) 0 ≡ None → AreNone a (band + 1)
none_more a band h e = subst (λ (n : ℕ). AreNone a n) (one band) (h, e)

pub empty_more : (band : ℕ) (past : List Event) → Empty band ∷ found_empty band past ≡ found_empty (band + 1) past
empty_more band past = ap (λ (n : ℕ). found_empty n past) (one band)

pub looking_here : (band : ℕ) (second : Bool) → band < 3 → looking_at band second ≡ Scan band second
looking_here zero second below = refl
looking_here (suc zero) second below = refl
looking_here (suc (suc zero)) second below = refl
looking_here (suc (suc (suc b))) second below = absurd (omega arith)

pub lead_more : (band : ℕ) (second : Bool) → band < 3 → after_band band second ≡ looking_at (band + 1) second
lead_more zero second below = refl
lead_more (suc zero) second below = refl
lead_more (suc (suc zero)) second below = refl
lead_more (suc (suc (suc b))) second below = absurd (omega arith)

after_empty : (start : Account) (band : ℕ) (past : List Event) → after_all start (found_empty band past) ≡ after_all start past
after_empty start zero past = refl
after_empty start (suc band) past = after_empty start band past

-- the looks at empty bands change no account
pub account_same : (band : ℕ) (v w : View) → w.share ≡ v.share → w.whole.state.past ≡ found_empty band v.whole.state.past → account_of w ≡ account_of v
account_same band v w share past = (λ j. after_all (first_account (share j).about) (past j)) ∙ after_empty (first_account v.share.about) band v.whole.state.past

seat_scan : (ps : List Packet) (b : ℕ) (second : Bool) (q : Qdisc) (s : Seat) → ((scan ps b second q s).seat.run ≡ s.run) × ((scan ps b second q s).seat.raised ≡ s.raised)
seat_scan [] b second q s = (refl, refl)
seat_scan (p ∷ ps) b second q s = (refl, refl)

seat_kept : (q : Qdisc) (b : ℕ) (second : Bool) (v : View) → v.place.position ≡ Scan b second
    → ((step_at v.place.position Plain q v.place).seat.run ≡ v.place.run) × ((step_at v.place.position Plain q v.place).seat.raised ≡ v.place.raised)
seat_kept q b second v here =
    let k = seat_scan (band_at q b) b second q v.place in
    (ap (λ (y : Position). (step_at y Plain q v.place).seat.run) here ∙ k.0, ap (λ (y : Position). (step_at y Plain q v.place).seat.raised) here ∙ k.1)

-- a holder that has the table alone, with no swap half done, finds the account's stop value
pub stop_is : (queue found : ℕ) (v : View) → SeesXoff queue v found → IsSole v → holds_lock v.place.position ≡ true → v.holder.shut ≡ None → found ≡ slice_index (account_of v).stops queue
stop_is queue found v s alone holds shut = s.0 alone (sym (ap (λ (h : HolderPart). h.shut) (s.1 alone holds)) ∙ shut)

pub stop_loaded_again : (queue found : ℕ) (b : Blocked) (old m : View) → m ≡ pass_view old → old.place.position ≡ BlockedClear b → SeesXoff queue m found → IsSole old → old.holder.shut ≡ None
    → found ≡ slice_index (account_of old).stops queue
stop_loaded_again queue found b old m is here s alone shut =
    stop_is queue found m s (ap (λ (v : View). v.share.shares) is ∙ alone.0, ap (λ (v : View). v.whole.told) is ∙ alone.1)
    (ap (λ (v : View). holds_lock v.place.position) is ∙ ap (λ (y : Position). holds_lock (step_at y Plain (seen_by old) old.place).seat.position) here)
    (ap (λ (v : View). v.holder.shut) is ∙ shut)
    ∙ ap (λ (v : View). slice_index (account_of v).stops queue) is

-- the seat stands here, and all else is as it was
abbrev pub standing : Position → View → View
standing p v = record v { place = record v.place { position = p } }

-- a stopped queue: MISSED was cleared, its stop word loaded again, and a bit set
abbrev pub blocked_over : Blocked → Qdisc → View → View
blocked_over b q v = record v {
  place = record v.place { position = after_blocked (BlockedClear b) };
  holder = laid_aside (BlockedClear b) v.holder;
  whole = record v.whole { qdisc = q; state = if is_some (in_hand (BlockedClear b)) then past_with Back v.whole.state else v.whole.state };
}

pub maybe_cleared : (b : Blocked) (x : ℕ) (v w : View) → v.place.position ≡ BlockedClear b → w ≡ set_bit_view (load_xoff_view x (pass_view v)) → (q : Qdisc) × (w ≡ blocked_over b q v)
maybe_cleared b x v w at is = let r = over b (x == 0) in (r.0, is ∙ (ap (λ (p : Position). set_bit_view (load_xoff_view x (pass_view (standing p v)))) at ∙ r.1)) where
  over : (b : Blocked) (open_ : Bool) → (q : Qdisc) × (set_bit_view (standing (if open_ then BlockedMiss b else BlockedDrain b) (pass_view (standing (BlockedClear b) v))) ≡ blocked_over b q v)
  over (InHand p direct) true = (_, refl)
  over (InHand p direct) false = (_, refl)
  over (NoneTaken queue) true = (_, refl)
  over (NoneTaken queue) false = (_, refl)

-- a load of the stop word where a dequeue begins, with this in the requeue slot: the queue is open, or stopped
pub opened_at_dequeue : (x : ℕ) (o : Option ℕ) (v w : View) → w ≡ load_xoff_view x v → v.place.position ≡ Deq → v.holder.slot ≡ o → x ≡ 0 → w ≡ picking o (standing (slot_begins (option_map (machine_packet v.share.about.infos) o)) v)
opened_at_dequeue x o v w is at slot_is zero_ = is ∙ (λ j. load_xoff_view_from (at j) (slot_is j) (zero_ j) v)

-- what the seat knows of the requeue slot once a queue was found stopped and its stop word is loaded again
pub blocked_slot : (blocked : Blocked) (found : ℕ) (v : View) → v.place.position ≡ BlockedClear blocked → (load_xoff_view found (pass_view v)).holder.slot ≡ v.holder.slot
blocked_slot blocked found v here = ap (λ (at : Position). (load_xoff_view found (pass_view (record v { place = record v.place { position = at } }))).holder.slot) here

pub stopped_at_dequeue : (x : ℕ) (o : Option ℕ) (v w : View) → w ≡ load_xoff_view x v → v.place.position ≡ Deq → v.holder.slot ≡ o → x ≢ 0 → w ≡ standing (BlockedClear (NoneTaken (queue_of_slot (option_map (machine_packet v.share.about.infos) o)))) v
stopped_at_dequeue x o v w is at slot_is some_ =
    let p = option_map (machine_packet v.share.about.infos) o in
    let led = λ (open_ : Bool). (let m : View = standing (if open_ then slot_begins p else BlockedClear (NoneTaken (queue_of_slot p))) v in if open_ then picking o m else m) in
    is ∙ ((λ j. load_xoff_view_from (at j) (slot_is j) x v) ∙ ap led (ne_eqb x 0 some_))

module _ {D : Type 0} where
  pub kept_then : {b m a : Cpu D} → IsKeptInRun b m → IsKeptInRun m a → IsKeptInRun b a
  kept_then x y = record {
    seat = (y.seat.0 ∙ x.seat.0, y.seat.1 ∙ x.seat.1);
    indices = y.indices ∙ x.indices;
    share = y.share ∙ x.share;
    packets = y.packets ∙ x.packets;
    locks = y.locks ∙ x.locks;
    control = y.control ∙ x.control;
    turns = y.turns ∙ x.turns;
    told = y.told ∙ x.told;
    raised = y.raised ∙ x.raised;
  }

  -- a step that changes the place, without the raised mark, what it has as holder and the state beside the machine, keeps this
  pub kept_moved : (b a : Cpu D) (place : Seat) (holder : HolderPart) (q : Qdisc) (g : State) → IsSameSeat b a → a.indices ≡ b.indices
      → view a ≡ record (view b) { place = place; holder = holder; whole = record (view b).whole { qdisc = q; state = g } } → place.raised ≡ (view b).place.raised → IsKeptInRun b a
  kept_moved b a place holder q g seat indices is raised = record {
    seat = seat;
    indices = indices;
    share = ap (λ (x : View). x.share) is;
    packets = ap (λ (x : View). x.packets) is;
    locks = ap (λ (x : View). x.locks) is;
    control = ap (λ (x : View). x.control) is;
    turns = ap (λ (x : View). x.turns) is;
    told = ap (λ (x : View). x.whole.told) is;
    raised = ap (λ (x : View). x.place.raised) is ∙ raised;
  }

  -- what is known once MISSED was cleared, the stop word loaded again as this, and a bit set
  pub record LeavesBlocked (found : ℕ) (b a : Cpu D) : Type 0 where
    pub is : view a ≡ set_bit_view (load_xoff_view found (pass_view (view b)))
    pub kept : IsKeptInRun b a
    pub at : position a ≡ after_blocked (position b)
    pub holder : (view a).holder ≡ laid_aside (position b) (view b).holder
    pub fates : IsSettledSame b a

  pub leaves_blocked : (blocked : Blocked) (found : ℕ) (b m l a : Cpu D) → position b ≡ BlockedClear blocked
      → IsElseSame b m → IsElseSame m l → IsElseSame l a
      → view m ≡ pass_view (view b) → view l ≡ load_xoff_view found (view m) → view a ≡ set_bit_view (view l) → LeavesBlocked found b a
  leaves_blocked blocked found b m l a here first second third passed loaded set =
      let is = set ∙ ap set_bit_view (loaded ∙ ap (load_xoff_view found) passed) in
      let seat : IsSameSeat b a = (third.0.0 ∙ (second.0.0 ∙ first.0.0), third.0.1 ∙ (second.0.1 ∙ first.0.1)) in
      let e = maybe_cleared blocked found (view b) (view a) here is in record {
        is = is;
        kept = kept_moved b a _ _ _ _ seat (third.2 ∙ (second.2 ∙ first.2)) e.1 refl;
        at = ap (λ (x : View). x.place.position) e.1 ∙ ap after_blocked (sym here);
        holder = ap (λ (x : View). x.holder) e.1 ∙ ap (λ (y : Position). laid_aside y (view b).holder) (sym here);
        fates = (ap (λ (x : View). x.settled) e.1, ap (λ (x : View). x.trail) e.1);
      }

  pub kept_none : (b : ℕ) (second : Bool) (m a : Cpu D) → position m ≡ Scan b second → IsSameSeat m a → a.indices ≡ m.indices → view a ≡ head_slot_view_empty b (view m) → IsKeptInRun m a
  kept_none b second m a here seat indices is = kept_moved m a _ _ _ _ seat indices is (seat_kept (seen_band b []) b second (view m) here).1

  pub kept_take : (b n : ℕ) (second : Bool) (m a : Cpu D) → position m ≡ Scan b second → IsSameSeat m a → a.indices ≡ m.indices → view a ≡ consuming b n (view m) → IsKeptInRun m a
  kept_take b n second m a here seat indices is = kept_moved m a _ _ _ _ seat indices is (seat_kept (seen_band b (machine_packet (view m).share.about.infos n ∷ [])) b second (view m) here).1

  pub sole_kept : (b a : Cpu D) → IsKeptInRun b a → IsSole (view b) → IsSole (view a)
  sole_kept b a k s = (ap (λ x. x.shares) k.share ∙ s.0, k.told ∙ s.1)

  pub seat_same : (t : Shared D) (b a : Cpu D) → IsSameSeat b a → (view a).share ≡ (view b).share → IsSeatOf t b → IsSeatOf t a
  seat_same t b a same share s = (same.0 ∙ s.0, subst (λ (n : ℕ). 0 < n) (sym (ap (λ x. x.shares) share)) s.1, ap (λ x. x.about) share ∙ s.2)

  pub seat_in : (t : Shared D) (b a : Cpu D) → IsKeptInRun b a → IsSeatOf t b → IsSeatOf t a
  seat_in t b a k s = seat_same t b a k.seat k.share s

  -- serving goes on where the slot of the table, the producer locks and what it has as holder are as they were, but for what is in hand
  -- and in the requeue slot; and where the station is too
  pub serving_with : (b a : Cpu D) (o hand : Option ℕ) → slot a ≡ slot b → a.station ≡ Some (shown (view a).holder) → (view a).holder ≡ record (view b).holder { slot = o; hand = hand } → (view a).locks ≡ (view b).locks → IsServing b → IsServing a
  serving_with b a o hand slot_is station_is holder locks s = (
    (slot_is ∙ s.0.0, station_is),
    subst (λ (h : HolderPart). IsResting h.size h.ends × (h.resizing ≡ None)) (sym holder) s.1,
    locks ∙ s.2,
    ap (λ (h : HolderPart). h.shut) holder ∙ s.3,
  )

  pub serving_same : (b a : Cpu D) → slot a ≡ slot b → a.station ≡ b.station → (view a).holder ≡ (view b).holder → (view a).locks ≡ (view b).locks → IsServing b → IsServing a
  serving_same b a slot_is station_is holder locks s =
      serving_with b a (view b).holder.slot (view b).holder.hand slot_is (station_is ∙ (s.0.1 ∙ ap (λ (h : HolderPart). Some (shown h)) (sym holder))) holder locks s

  -- the requeue slot of the station that a seat carries
  pub carries_slot : (c : Cpu D) → IsServing c → CarriesSlot c
  carries_slot c s st is = ap (λ (o : Option StationState). (unwrap_or o no_station).slot) (sym is ∙ s.0.1)

  pub carries_still : (b a : Cpu D) → a.station ≡ b.station → (view a).holder.slot ≡ (view b).holder.slot → CarriesSlot b → CarriesSlot a
  carries_still b a station slot_is old st is = old st (sym station ∙ is) ∙ sym slot_is

  -- where the packet n was laid into it
  pub carries_filled : (n : ℕ) (st : StationState) (a : Cpu D) → a.station ≡ Some (with_slot st (Some n)) → (view a).holder.slot ≡ Some n → CarriesSlot a
  carries_filled n st a station slot_is other is = ap (λ (o : Option StationState). (unwrap_or o no_station).slot) (sym is ∙ station) ∙ sym slot_is

  pub run_none : (b : ℕ) (second : Bool) (m a : Cpu D) → position m ≡ Scan b second → view a ≡ head_slot_view_empty b (view m) → (view a).place.run ≡ (view m).place.run
  run_none b second m a here is = ap (λ (x : View). x.place.run) is ∙ (seat_kept (seen_band b []) b second (view m) here).0

  pub run_take : (b n : ℕ) (second : Bool) (m a : Cpu D) → position m ≡ Scan b second → view a ≡ consuming b n (view m) → (view a).place.run ≡ (view m).place.run
  run_take b n second m a here is = ap (λ (x : View). x.place.run) is ∙ (seat_kept (seen_band b (machine_packet (view m).share.about.infos n ∷ [])) b second (view m) here).0

-- a look through the bands, where the requeue slot is empty
pub looks_dequeue : (infos : List Info) (t : Taken) (v w : View) → v.holder.slot ≡ None → Looks t v w → Dequeues t infos v w
looks_dequeue infos taken.Empty v w none l = (none, l)
looks_dequeue infos taken.Stopped v w none l = absurd l
looks_dequeue infos (taken.Packet n) v w none l = subst (λ (o : Option ℕ). MatchOption o (FindsPacket n v w) (λ m. (m ≡ n) × Picks n v w)) (sym none) l

-- where the seat stands doesn't tell in a look through the bands
pub looks_from : (t : Taken) (p : Position) (v m w : View) → m ≡ standing p v → Looks t m w → Looks t v w
looks_from t p v m w is l = looks t (subst (λ (x : View). Looks t x w) is l) where
  looks : (t : Taken) → Looks t (standing p v) w → Looks t v w
  looks taken.Empty l = record { holder = l.holder; sole = l.sole }
  looks taken.Stopped l = l
  looks (taken.Packet n) l = record { band = l.band; below = l.below; holder = l.holder; sole = l.sole }

-- one that comes to an answer was made with the queue open
pub open_for : (t : Taken) (stop : ℕ) (v w : View) → Looks t v w → stop ≡ 0 → IsStopFor t stop
open_for taken.Empty stop v w l is = is
open_for taken.Stopped stop v w l is = absurd l
open_for (taken.Packet n) stop v w l is = is

-- the queue was found stopped where a dequeue begins, MISSED was cleared, and what follows that was done
pub finds_stopped : (q x queue : ℕ) (v m w : View) → x ≢ 0 → m ≡ standing (BlockedClear (NoneTaken queue)) v
    → w.holder ≡ laid_aside m.place.position m.holder → ClearsMissedAlone q (set_bit_alone m) m w → (IsSole v → x ≡ slice_index (account_of v).stops q) → FindsStopped q v w
finds_stopped q x queue v m w some_ e holder alone stop = record {
  holder = holder ∙ ap (λ (y : View). laid_aside y.place.position y.holder) e;
  sole = λ s. (λ z. some_ (stop s ∙ z), subst (λ (y : View). ClearsMissedAlone q (set_bit_alone y) y w) e alone s (λ z. some_ (stop s ∙ z)));
}

-- nothing is held in a band below the third
none_at : (a : Account) (b : ℕ) → AreNone a 3 → b < 3 → slice_get (held_in a b) 0 ≡ None
none_at a zero n below = n.0.0.1
none_at a (suc zero) n below = n.0.1
none_at a (suc (suc zero)) n below = n.1
none_at a (suc (suc (suc b))) n below = absurd (omega arith)

-- A second look took the packet n: a seat that has the table alone finds nothing in it where the first found nothing.
pub finds_again : (n : ℕ) (v u m w : View) → m.share ≡ v.share → m.whole.told ≡ v.whole.told → m.holder ≡ u.holder → m.whole.state ≡ u.whole.state → FindsNone v u → Finds n m w → FindsPacket n v w
finds_again n v u m w share told holder state none f =
    let past : m.whole.state.past ≡ found_empty 3 v.whole.state.past = ap (λ (g : State). g.past) state ∙ none.past in record {
      band = f.band;
      below = f.below;
      holder = f.holder ∙ ap (λ (h : HolderPart). record h { ends = w.holder.ends; hand = Some n }) (holder ∙ none.holder);
      sole = λ s.
          let again = f.sole (ap (λ (x : SharePart). x.shares) share ∙ s.0, told ∙ s.1) in
          let found : slice_get (held_in (account_of v) f.band) 0 ≡ Some n = ap (λ (a : Account). slice_get (held_in a f.band) 0) (sym (account_same 3 v m share past)) ∙ again.1 in
          absurd (true≢false (sym (ap (λ (o : Option ℕ). is_some o) found) ∙ ap (λ (o : Option ℕ). is_some o) (none_at (account_of v) f.band (none.sole s) f.below)));
    }
