-- `load_xoff` keeps the rule of the table.
use Rattle.std.proofs.Common.{◌≡◌, ◌≢◌, ℕ, ◌<◌, ◌≤◌, Bool, true, false, List, ◌∷◌, get_or, ne_eqb, refl, sym, ap, ap₂, ◌∙◌, subst, arith, Option, Some, None, length}
use Rattle.std.specs.Prelude.{if◌then◌else◌, ◌==◌, ◌&&◌, slice_index, is_some}
use Rattle.std.specs.Option.{option_map}
use Rattle.std.proofs.lemmas.Bool.{false≢true, lt-ltb}
use mathlib.Core.Logic.{dite}
use native.Mathlib.Decide.{ℕ_discrete}
use lib.ListN.{get_elem?}
use mathlib.Core.Option.{some, none}
use Rattle.atomic_table.specs.Table as table
use Rattle.atomic_table.specs.Table.{step, Allows, keeps}
use Rattle.lq_device.specs.Station.{StationState}
use Rattle.lq_model.specs.declared.machine.Answer.TheVariants.{Plain}
use Rattle.lq_model.specs.declared.machine.Packet.{Packet}
use Rattle.lq_model.specs.declared.machine.Position.{Position}
use Rattle.lq_model.specs.declared.machine.Position.TheVariants.{Control, Gate, Xmit, Deq, Scan, BlockedClear, BlockedLoad, BlockedMiss, BlockedDrain}
use Rattle.lq_model.specs.declared.machine.Blocked.{Blocked}
use Rattle.lq_model.specs.declared.machine.Blocked.TheVariants.{InHand, NoneTaken}
use Rattle.lq_model.specs.declared.machine.Seat.{Seat}
use Rattle.lq_model.specs.Machine.{Qdisc, is_queue_open}
use Rattle.lq_model.specs.Steps.{step_at, After, goes_to, queue_of_slot, queue_of_blocked, slot_taken, may_answer}
use Rattle.lq_model.specs.Positions.{in_hand, needs_slot, holds_lock, is_hanging}
use Rattle.lq_model.specs.Account.{Event, Pick, after}
use Rattle.lq_model.specs.Plan.{queue_in}
use Rattle.lq_table.specs.Views.{View, Setup, HolderPart, machine_packet}
use Rattle.lq_table.specs.Rule.{words_of, xoff_word, account, holders, is_live, Holder, Rule}
use Rattle.lq_table.specs.Moves.{Sat}
use Rattle.lq_table.specs.Stops.{HasRoom, load_xoff_queue, load_xoff_at, load_xoff_leads, is_dequeue, picking, load_xoff_view, load_xoff_view_from, SeesXoff}
use Rattle.lq_table.proofs.shared.Shared.load_xoff.Invariants.{load_xoff_told, load_xoff_told_all}
use Rattle.lq_table.proofs.ByName.{set_back, xoff_of, xoff_long}
use Rattle.lq_table.proofs.StoreXoffKept.{gates, stays_out}
use Rattle.lq_table.proofs.Facts.{map_none, slot_free}
use Rattle.lq_table.proofs.BeginPurgeKept.{some_of}
use Rattle.lq_table.proofs.shared.Shared.load_xoff.Answers.Room.{has_room}
use Rattle.lq_table.proofs.Serves.{serves}
use Rattle.lq_table.proofs.Quiet.{Still, quiet_as}
use Rattle.lq_table.proofs.Frames.{Fits, plays, rule_same}
use Rattle.lq_table.proofs.StationFrames.{stands_same}
use Rattle.lq_band_laws.specs.Three.{at}
use Rattle.lq_table.proofs.Loads.{also}
use Rattle.lq_table.proofs.SoleFacts.{sees_stop, holds_accounts, holds_sent}

-- what a place has to say at which the stop word of this queue is loaded, with this packet in the requeue slot
record LoadsStop (position : Position) (queue : ℕ) (slot : Option Packet) (q : Qdisc) : Type 0 where
  yes : Position
  no : Position
  may : may_answer position Plain q ≡ true
  goes : (s : Seat) → step_at position Plain q s ≡ goes_to q s (if is_queue_open q queue then yes else no)
  leads : (x : ℕ) → load_xoff_leads slot x position ≡ (if x == 0 then yes else no)
  still_yes : Still position yes
  still_no : Still position no

at_gate : (p : Packet) (direct : Bool) (slot : Option Packet) (q : Qdisc) → LoadsStop (Gate p direct) p.queue slot q
at_gate p direct slot q = record {
  yes = Xmit p direct;
  no = BlockedClear (InHand p direct);
  may = refl;
  goes = λ s. refl;
  leads = λ x. refl;
  still_yes = record { hand = refl; looked = refl; goes_on = refl; calm = refl };
  still_no = record { hand = refl; looked = refl; goes_on = refl; calm = refl };
}

at_blocked : (b : Blocked) (slot : Option Packet) (q : Qdisc) → LoadsStop (BlockedLoad b) (queue_of_blocked b) slot q
at_blocked b slot q = record {
  yes = BlockedMiss b;
  no = BlockedDrain b;
  may = refl;
  goes = λ s. refl;
  leads = λ x. refl;
  still_yes = record { hand = refl; looked = refl; goes_on = refl; calm = refl };
  still_no = record { hand = refl; looked = refl; goes_on = refl; calm = refl };
}

-- with one queue the requeue slot is empty
at_deq : (q : Qdisc) → q.slot ≡ None → LoadsStop Deq 0 None q
at_deq q e = record {
  yes = Scan 0 false;
  no = BlockedClear (NoneTaken 0);
  may = refl;
  goes = λ s. (λ j. if is_queue_open q (queue_of_slot (e j)) then slot_taken (e j) q s else goes_to q s (BlockedClear (NoneTaken (queue_of_slot (e j))))) ∙ pull (is_queue_open q 0) q s;
  leads = λ x. refl;
  still_yes = record { hand = refl; looked = refl; goes_on = refl; calm = refl };
  still_no = record { hand = refl; looked = refl; goes_on = refl; calm = refl };
}
  where
    pull : (b : Bool) (z : Qdisc) (s : Seat) → (if b then goes_to z s (Scan 0 false) else goes_to z s (BlockedClear (NoneTaken 0))) ≡ goes_to z s (if b then Scan 0 false else BlockedClear (NoneTaken 0))
    pull true z s = refl
    pull false z s = refl

either_still : (b : Bool) (old x y : Position) → Still old x → Still old y → Still old (if b then x else y)
either_still true old x y e e' = e
either_still false old x y e e' = e'

-- a stop word below 2 is no hung device's
pub not_hung : (b : Bool) → (b ≡ true → ⊥) → b ≡ false
not_hung true h = absurd (h refl)
not_hung false h = refl

same_either : (b : Bool) (w : View) → (if b then w else w) ≡ w
same_either true w = refl
same_either false w = refl

hand_needs : (y : Position) (x : Packet) → in_hand y ≡ Some x → needs_slot y ≡ true
hand_needs (Gate p direct) x e = refl
hand_needs (Xmit p direct) x e = refl
hand_needs (BlockedClear (InHand p direct)) x e = refl
hand_needs (BlockedLoad (InHand p direct)) x e = refl
hand_needs (BlockedMiss (InHand p direct)) x e = refl
hand_needs (BlockedDrain (InHand p direct)) x e = refl
hand_needs (BlockedClear (NoneTaken queue)) x e = absurd cc
hand_needs (BlockedLoad (NoneTaken queue)) x e = absurd cc
hand_needs (BlockedMiss (NoneTaken queue)) x e = absurd cc
hand_needs (BlockedDrain (NoneTaken queue)) x e = absurd cc
hand_needs _ x e = absurd cc

module _ (k : Setup) where
  abbrev St : Type 0
  St = table.State (Option StationState) View

  -- a holder whose device hangs has stored all stop words
  alive : (s : St) (r : Rule k s) (id queue : ℕ) (v : View) → get_elem? s.views id ≡ some v → is_live v ≡ true → holds_lock v.place.position ≡ true → is_hanging v.place.position ≡ false → queue < k.queues
      → get_or s.words (xoff_word k queue) 0 ≢ 2 → v.holder.station.device.hung ≡ false
  alive s r id queue v here live holds calm below other = let at = r.parts.station.lends.knows id v here live holds in
      not_hung _ (λ hung. other (xoff_of k s.words queue ∙ at.alive calm (ap (λ (z : HolderPart). z.station.device.hung) (sym at.is) ∙ hung) queue (let l = xoff_long k s.words r.wide in omega arith)))

  -- with a packet in hand it has room
  room : length k.infos ≤ 1000000 → (s : St) (r : Rule k s) (id : ℕ) (v : View) → get_elem? s.views id ≡ some v → is_live v ≡ true → holds_lock v.place.position ≡ true → is_some v.holder.hand ≡ true
      → HasRoom v.holder
  room few s r id v here live holds has = let at = r.parts.station.lends.knows id v here live holds in let n = some_of v.holder.hand has in
      let hand : (account k r.state).hand ≡ Some n.0 = sym (ap (λ (z : HolderPart). z.hand) at.is) ∙ n.1 in let roomy = has_room k s r n.0 hand in
      let needs = hand_needs v.place.position (machine_packet k.infos n.0) (at.in_hand ∙ ap (option_map (machine_packet k.infos)) hand) in
      let empty = slot_free k.infos s.views id v here live r.qdisc (account k r.state) _ r.parts.machine.invariant r.parts.station.ties needs in
      subst HasRoom (sym at.is) (roomy.0, omega (arith, few, roomy.1), empty, r.parts.account.sends.small)

  loads : (slots id queue : ℕ) (m : Sat) (position : Position) → ((s : St) (r : Rule k s) → get_elem? s.views id ≡ some m.0 → LoadsStop position queue (option_map (machine_packet m.0.share.about.infos) m.0.holder.slot) r.qdisc)
      → m.0.place.position ≡ position → holds_lock position ≡ true → is_hanging position ≡ false → ((b : Bool) (w : View) → (if is_dequeue position && b then picking m.0.holder.slot w else w) ≡ w) → queue < k.queues → length k.infos ≤ 1000000 → 0 < m.0.share.shares
      → Allows (Rule k) slots id m (xoff_word k queue) (λ x. x) (load_xoff_told (step slots (xoff_word k queue) 0 0 none) m)
  loads slots id queue m position kind is holds calm none_picked below few some_share s r deep here small =
      let v : View = m.0 in let p = r.parts in let q = r.qdisc in let W = words_of k s.words in let live = lt-ltb 0 v.share.shares some_share in
      let t = kind s r here in let f : ℕ = get_or s.words (xoff_word k queue) 0 in let slot : Option Packet = option_map (machine_packet v.share.about.infos) v.holder.slot in
      let loaded : slice_index q.xoff queue ≡ f = ap (λ (ls : List ℕ). slice_index ls queue) p.station.stands.xoff ∙ sym (xoff_of k s.words queue) in
      let y : Position = load_xoff_leads slot f v.place.position in let w : View = record v { place = record v.place { position = y } } in
      let fits : Fits q q Plain v.place.position v.place q = subst (λ (z : Position). Fits q q Plain z v.place q) (sym is) record { may = t.may; seat = refl; words = ap (λ (a : After). a.qdisc) (t.goes v.place) } in
      let leads : y ≡ (if f == 0 then t.yes else t.no) = ap (load_xoff_leads slot f) is ∙ t.leads f in
      let place : w.place ≡ (step_at v.place.position Plain q v.place).seat =
      ap (λ (z : Position). record v.place { position = z }) leads
      ∙ (sym (ap (λ (b : ℕ). record v.place { position = if b == 0 then t.yes else t.no }) loaded) ∙ (sym (ap (λ (a : After). a.seat) (t.goes v.place)) ∙ ap (λ (z : Position). (step_at z Plain q v.place).seat) (sym is))) in
      let told : w ≡ load_xoff_view f v = sym (ap (λ (z : Position). if is_dequeue z && (f == 0) then picking v.holder.slot w else w) is ∙ none_picked (f == 0) w) in (
        w,
        keeps,
        tt,
        quiet_as k s r (xoff_word k queue) f id W.state W.inside v Plain q q w.place v.whole.qdisc here live fits place (λ e. e) (record { bands = refl; slot = refl; xoff = refl; len = refl; deactivated = refl; locked = refl; purge = refl; phase = refl }) (set_back k s.words (xoff_word k queue)) p.station.stands
            (λ _. subst (λ (z : Position × Position). Still z.0 z.1) (λ j. (sym is j, sym leads j)) (either_still (f == 0) position t.yes t.no t.still_yes t.still_no)),
        ((λ j. (told j, m.1)), λ _. alive s r id queue v here live (ap holds_lock is ∙ holds) (ap is_hanging is ∙ calm) below, room few s r id v here live),
      )

  -- the stop word is loaded where the requeue slot has a packet: where it is open the packet comes into the hand
  picks : (slots id n : ℕ) (m : Sat) → m.0.place.position ≡ Deq → m.0.holder.slot ≡ Some n → queue_in k.infos n < k.queues → length k.infos ≤ 1000000 → 0 < m.0.share.shares
      → Allows (Rule k) slots id m (xoff_word k (queue_in k.infos n)) (λ x. x) (load_xoff_told (step slots (xoff_word k (queue_in k.infos n)) 0 0 none) m)
  picks slots id n m position slot queue few some_share s r deep here small =
      let v : View = m.0 in let p = r.parts in let g = r.state in let a = account k g in let q = r.qdisc in let W = words_of k s.words in let live = lt-ltb 0 v.share.shares some_share in
      let D : HolderPart = holders g a W.size in let holds : holds_lock v.place.position ≡ true = ap holds_lock position in
      let at : Holder k.infos W.xoff g.past D Deq v.holder = subst (λ (z : Position). Holder k.infos W.xoff g.past D z v.holder) position (p.station.lends.knows id v here live holds) in
      let slot_is : a.slot ≡ Some n = sym (ap (λ (z : HolderPart). z.slot) at.is) ∙ slot in
      let x : Packet = machine_packet v.share.about.infos n in let x_is : x ≡ machine_packet k.infos n = ap (λ (z : Setup). machine_packet z.infos n) (p.seats.shares.about id v here live) in
      let has : q.slot ≡ Some x = p.station.ties.slot ∙ (ap (option_map (machine_packet k.infos)) slot_is ∙ ap (λ (z : Packet). Some z) (sym x_is)) in
      let no_hand : a.hand ≡ None = map_none (machine_packet k.infos) a.hand (sym at.in_hand) in
      let f : ℕ = get_or s.words (xoff_word k (queue_in k.infos n)) 0 in
      let of_queue : x.queue ≡ queue_in k.infos n = ap (λ (z : Packet). z.queue) x_is in
      let loaded : slice_index q.xoff x.queue ≡ f = ap₂ slice_index p.station.stands.xoff of_queue ∙ sym (xoff_of k s.words (queue_in k.infos n)) in
      let knows_hung = alive s r id (queue_in k.infos n) v here live holds (ap is_hanging position) queue in
      let told : load_xoff_view f v ≡ load_xoff_view_from Deq (Some n) f v = λ j. load_xoff_view_from (position j) (slot j) f v in
      dite (ℕ_discrete f 0)
      (λ zero_. let open_ : is_queue_open q x.queue ≡ true = ap (λ (z : ℕ). z == 0) (loaded ∙ zero_) in let w : View = load_xoff_view_from Deq (Some n) 0 v in let e : Event = Pick in let q' : Qdisc = record q { slot = None } in
      let fits : Fits q q Plain v.place.position v.place q' = subst (λ (z : Position). Fits q q Plain z v.place q') (sym position) record { may = refl; seat = refl; words = ap (λ (z : After). z.qdisc) (gates v.place x q has open_) } in
      let place : w.place ≡ (step_at v.place.position Plain q v.place).seat = sym (ap (λ (z : Position). (step_at z Plain q v.place).seat) position ∙ ap (λ (z : After). z.seat) (gates v.place x q has open_)) in
      let mach = plays k s r id v w here live Plain q q' fits place refl refl refl in
      let seat : w.place.position ≡ Gate (machine_packet k.infos n) false = ap (λ (z : Packet). Gate z false) x_is in (
        w,
        keeps,
        tt,
        serves k s r (xoff_word k (queue_in k.infos n)) f id W.state W.xoff v w q' e (λ g. g.station) (after e a) here live holds (ap holds_lock seat) refl refl refl (λ e1. ap (λ (z : Qdisc). record z { slot = None }) e1) refl
            mach refl refl (set_back k s.words (xoff_word k (queue_in k.infos n))) (stands_same p.station.stands refl)
            refl (no_hand, (n, slot_is)) tt refl p.station.stops p.account.device refl tt
            (record { bands_are = p.station.ties.bands_are; slot = refl; len = p.station.ties.len; down = p.station.ties.down }) refl refl (λ _. refl)
            (record { unit = p.account.sends.unit; sent = p.account.sends.sent; small = p.account.sends.small })
            (subst (λ (z : Position). Holder k.infos W.xoff (e ∷ g.past) (record D { slot = None; hand = a.slot }) z w.holder) (sym seat) record {
              is = λ j. record (at.is j) { slot = None; hand = sym slot_is j };
              in_hand = ap (option_map (machine_packet k.infos)) (sym slot_is);
              looked = λ c l. absurd (omega arith);
              stopping = tt;
              alive = λ _. at.alive refl;
            }),
        ((λ j. (sym (told ∙ ap (λ (z : ℕ). load_xoff_view_from Deq (Some n) z v) zero_) j, m.1)), (λ _. knows_hung), room few s r id v here live),
      ))
      (λ other. let shut : is_queue_open q x.queue ≡ false = ap (λ (z : ℕ). z == 0) loaded ∙ ne_eqb f 0 other in let y : Position = BlockedClear (NoneTaken x.queue) in let w : View = record v { place = record v.place { position = y } } in
      let fits : Fits q q Plain v.place.position v.place q = subst (λ (z : Position). Fits q q Plain z v.place q) (sym position) record { may = refl; seat = refl; words = ap (λ (z : After). z.qdisc) (stays_out v.place x q has shut) } in
      let place : w.place ≡ (step_at v.place.position Plain q v.place).seat = sym (ap (λ (z : Position). (step_at z Plain q v.place).seat) position ∙ ap (λ (z : After). z.seat) (stays_out v.place x q has shut)) in
      let leads : load_xoff_view_from Deq (Some n) f v ≡ w = ap (λ (b : Bool). if b then picking (Some n) (record v { place = record v.place { position = if b then Gate x false else y } }) else record v { place = record v.place { position = if b then Gate x false else y } }) (ne_eqb f 0 other) in (
        w,
        keeps,
        tt,
        quiet_as k s r (xoff_word k (queue_in k.infos n)) f id W.state W.inside v Plain q q w.place v.whole.qdisc here live fits place (λ e. e) (record { bands = refl; slot = refl; xoff = refl; len = refl; deactivated = refl; locked = refl; purge = refl; phase = refl }) (set_back k s.words (xoff_word k (queue_in k.infos n))) p.station.stands
            (λ _. subst (λ (z : Position). Still z y) (sym position) record { hand = refl; looked = refl; goes_on = refl; calm = refl }),
        ((λ j. (sym (told ∙ leads) j, m.1)), (λ _. knows_hung), room few s r id v here live),
      ))

  -- at each place at which a stop word is loaded
  pub loads_stop_word : (slots id queue : ℕ) (m : Sat) → load_xoff_at m.0.place.position ≡ true → load_xoff_queue k.infos m.0.holder.slot m.0.place.position queue ≡ queue → queue < k.queues → length k.infos ≤ 1000000 → 0 < m.0.share.shares
      → Allows (Rule k) slots id m (xoff_word k queue) (λ x. x) (load_xoff_told (step slots (xoff_word k queue) 0 0 none) m)
  loads_stop_word slots id queue m at of_queue below few some_share = by m.0.place.position m.0.holder.slot refl refl at of_queue
    where
      Goal : ℕ → Type 0
      Goal c = Allows (Rule k) slots id m (xoff_word k c) (λ x. x) (load_xoff_told (step slots (xoff_word k c) 0 0 none) m)

      -- control may hold the lock or not
      looked : (holds : Bool) → m.0.place.position ≡ Control holds → Goal queue
      looked holds is s r deep here small = let v : View = m.0 in (
        v,
        keeps,
        tt,
        rule_same k s r (xoff_word k queue) id v here,
        (
          ap (λ (y : Position). (record v { place = record v.place { position = y } }, m.1)) is ∙ ap (λ (y : Position). (load_xoff_view_from y v.holder.slot (get_or s.words (xoff_word k queue) 0) v, m.1)) (sym is),
          (λ locked. alive s r id queue v here (lt-ltb 0 v.share.shares some_share) locked (ap is_hanging is) below),
          room few s r id v here (lt-ltb 0 v.share.shares some_share),
        ),
      )

      by : (y : Position) (slot : Option ℕ) → m.0.place.position ≡ y → m.0.holder.slot ≡ slot → load_xoff_at y ≡ true → load_xoff_queue k.infos slot y queue ≡ queue → Goal queue
      by (Gate p direct) slot is slot_is h same =
          subst Goal same (loads slots id p.queue m (Gate p direct) (λ s r _. at_gate p direct _ r.qdisc) is refl refl (λ b w. refl) (subst (λ z. z < k.queues) (sym same) below) few some_share)
      by (BlockedLoad b) slot is slot_is h same =
          subst Goal same (loads slots id (queue_of_blocked b) m (BlockedLoad b) (λ s r _. at_blocked b _ r.qdisc) is refl refl (λ b w. refl) (subst (λ z. z < k.queues) (sym same) below) few some_share)
      by Deq None is slot_is h same =
          subst Goal same (loads slots id 0 m Deq
          (λ s r here. subst (λ (z : Option ℕ). LoadsStop Deq 0 (option_map (machine_packet m.0.share.about.infos) z) r.qdisc) (sym slot_is)
          (at_deq r.qdisc (r.parts.station.ties.slot ∙ ap (option_map (machine_packet k.infos)) (sym (ap (λ (z : HolderPart). z.slot) (r.parts.station.lends.knows id m.0 here (lt-ltb 0 m.0.share.shares some_share) (ap holds_lock is)).is) ∙ slot_is))))
          is refl refl (λ b w. (λ j. if b then picking (slot_is j) w else w) ∙ same_either b w) (subst (λ z. z < k.queues) (sym same) below) few some_share)
      by Deq (Some n) is slot_is h same =
          subst Goal same (picks slots id n m is slot_is (subst (λ z. z < k.queues) (sym same) below) few some_share)
      by (Control holds) slot is slot_is h same = looked holds is
      by _ slot is slot_is h same = absurd (false≢true h)

module _ (k : Setup) (slots id : ℕ) (m : Sat) where
  pub loads_stop_sole : (queue : ℕ) → load_xoff_at m.0.place.position ≡ true → load_xoff_queue k.infos m.0.holder.slot m.0.place.position queue ≡ queue → queue < k.queues → length k.infos ≤ 1000000 → 0 < m.0.share.shares
      → Allows (Rule k) slots id m (xoff_word k queue) (λ x. x) (load_xoff_told_all queue (step slots (xoff_word k queue) 0 0 none) m)
  loads_stop_sole queue at of_queue below few some_share = also k slots id m (xoff_word k queue) (λ x. x) (load_xoff_told (step slots (xoff_word k queue) 0 0 none) m)
      (SeesXoff queue m.0)
      (λ s r here. ((λ sole no_shut. sees_stop k s r id m.0 here some_share sole no_shut queue), λ sole. holds_accounts k s r id m.0 here some_share sole, λ sole. holds_sent k s r id m.0 here some_share sole))
      (loads_stop_word k slots id queue m at of_queue below few some_share)
