-- The steps of control that change the lists: a purge, and the swap of the device.
use Rattle.std.proofs.Common.{◌≡◌, ◌≢◌, ◌⊎◌, inl, inr, ℕ, ◌+◌, ◌-◌, ◌*◌, ◌<◌, Bool, true, false, List, [], ◌∷◌, length, length-append, drop, set, get_or, refl, sym, ap, ap₂, ◌∙◌, subst, ⊎_elim, arith, Option, Some, None, eq-eqb}
use Rattle.std.specs.Prelude.{◌&&◌, ◌||◌, is_none, nat_lt, slice_get, slice_set}
use Rattle.std.proofs.lemmas.Bool.{lt-ltb}
use mathlib.Core.Option.{some}
use mathlib.Core.Option as maybe
use lib.ListN.{get_elem?}
use Rattle.atomic_table.proofs.Lists.{set_again}
use Rattle.lq_device.specs.Station.{StationState}
use Rattle.lq_model.specs.declared.fate.Cause.{Cause}
use Rattle.lq_model.specs.declared.machine.ControlStep.TheVariants.{PurgeBand, PurgeSlot, StoreOpen}
use Rattle.lq_model.specs.declared.machine.Packet.{Packet}
use Rattle.lq_model.specs.declared.machine.Phase.{Phase}
use Rattle.lq_model.specs.declared.machine.Phase.TheVariants.{Purged}
use Rattle.lq_model.specs.declared.machine.Position.{Position}
use Rattle.lq_model.specs.declared.machine.Position.TheVariants.{Control}
use Rattle.lq_model.specs.declared.machine.Seat.{Seat}
use Rattle.lq_model.specs.Account.{with_at}
use Rattle.lq_model.specs.Band.{Band, held_of, taken_by}
use Rattle.lq_model.specs.Control.{band_purged, is_control, is_purged_phase, is_quiet, is_sole, looks_at_bands, purge_band}
use Rattle.lq_model.specs.Machine.{Purge, Qdisc, band_at, bit, state_word}
use Rattle.lq_model.specs.Positions.{holds_lock}
use Rattle.lq_band_laws.specs.Ring.{Ends, Lock, is_emptying, taken_on, IsRing}
use Rattle.lq_band_laws.specs.Three.{Three, at, put}
use Rattle.lq_band_laws.proofs.Kept.{finds_none, takes}
use Rattle.lq_band_laws.proofs.Seats.{total_set}
use Rattle.lq_band_laws.proofs.Three.{at_put_other, at_put_same}
use Rattle.lq_run_core.specs.Progress.{Course}
use Rattle.lq_table.specs.Controls.{open_xoff_view, swap_view}
use Rattle.lq_table.specs.Places.{slot_word, xoff_word}
use Rattle.lq_table.specs.Purges.{first_purge, next_band, purge_slot_view_empty, begin_purge_view, purge_slot_view}
use Rattle.lq_table.specs.Views.{HolderPart, Left, Setup, View, machine_packet, machine_packets}
use Rattle.lq_table.specs.Rule.{Words, words_of, account, bands_now, event_word, holders, is_live, locks_at, machine_of, seats_of, Rule, Stands}
use Rattle.lq_table.proofs.Accounts.{with_at_other, with_at_same}
use Rattle.lq_table.proofs.ByName.{set_back, set_xoff, slot_of, xoff_within}
use Rattle.lq_table.proofs.Frames.{locks_here, rings_step}
use Rattle.lq_table.proofs.HeadSlotKept.{first_of}
use Rattle.lq_table.proofs.Middle.{few_seats, middle}
use Rattle.lq_table.proofs.Ties.{band_set, band_tied, held_taken}
use Rattle.lq_table_laws.specs.Stands.{Table}
use Rattle.lq_table_laws.specs.Stepped.{Leads, of_control}
use Rattle.lq_table_laws.proofs.Controls.{alike_there, control_move, phase_is, purge_is}
use Rattle.lq_table_laws.proofs.Determined.{SamePart, bands_still, had, has, now, same_as, slot_by, slot_still}
use Rattle.lq_table_laws.proofs.Moves.{Alike}
use Rattle.lq_table_laws.proofs.Rings.{bands_to}

-- A seat that has all shares is alone in the machine.
sole : (k : Setup) (s : Table) (r : Rule k s) (id : ℕ) (v : View) (here : get_elem? s.views id ≡ some v) (live : is_live v ≡ true) → v.share.shares ≡ 1024 → is_sole (machine_of r.qdisc s.views) ≡ true
sole k s r id v here live all =
    let m = middle s.views id v here live in let w : View = record v { share = record v.share { shares = 1 } } in
    let sum = total_set (λ (u : View). u.share.shares) s.views id v w here in let whole_ = r.parts.seats.shares.sum in
    let few = few_seats (set s.views id w) in let is = ap length (m.is w refl) in let a = length-append m.before (v.place ∷ m.after) in let was = ap length m.was in
    eq-eqb (length (seats_of s.views)) 1 (omega (arith, all))

or_either : (a b : Bool) → (a ≡ true) ⊎ (b ≡ true) → (a || b) ≡ true
or_either true b h = refl
or_either false b h = ⊎_elim (λ e. absurd (cc)) (λ e. e) h

module _ (k : Setup) (s : Table) (r : Rule k s) (i x id : ℕ) (v w : View) (homes : List (maybe.Option (Option StationState)))
    (r' : Rule k (record { words = set s.words i x; homes = homes; views = set s.views id w })) (here : get_elem? s.views id ≡ some v) (live : is_live v ≡ true) (live' : is_live w ≡ true) (same : homes ≡ s.homes)
    (at_ : v.place.position ≡ Control true) where
  abbrev q : Qdisc
  q = r.qdisc

  abbrev W : Words
  W = words_of k s.words

  abbrev Goal : Course → Type 0
  Goal c = Leads c (machine_of q s.views) (machine_of r'.qdisc (set s.views id w))

  first : v.control.first ≡ true
  first = r.parts.machine.firsts.control id v here live (ap is_control at_)

  purge_here : v.control.purge ≡ q.purge
  purge_here = purge_is k s r i x id v w homes r' here live live' first

  phase_here : v.control.phase ≡ q.phase
  phase_here = phase_is k s r i x id v w homes r' here live live' first

  back : x ≡ get_or s.words i 0 → words_of k (set s.words i x) ≡ W
  back word = ap (λ (z : ℕ). words_of k (set s.words i z)) word ∙ set_back k s.words i

  -- the machine after a step of control as the holder, with what it knows
  pub alike_control : (q' : Qdisc) (W' : Words) (d : Option ℕ) → words_of k (set s.words i x) ≡ W' → Stands k W' q' d → r'.qdisc.bands ≡ q'.bands → r'.qdisc.len ≡ q'.len → r'.qdisc.slot ≡ q'.slot
      → w.control.first ≡ true → w.control.phase ≡ q'.phase → w.control.purge ≡ q'.purge → Alike r'.qdisc q'
  alike_control q' W' d is stands bands len slot still_first phase purge =
      let knows = r'.parts.machine.firsts.knows id w (now k s r i x id v w homes r' here live live') still_first in record {
        words = same_as k W' r'.qdisc q' (account k r'.state).down d (subst (λ (z : Words). Stands k z r'.qdisc (account k r'.state).down) is r'.parts.station.stands) stands;
        bands = bands;
        len = len;
        slot = slot;
        phase = sym knows.0 ∙ phase;
        purge = sym knows.1 ∙ purge;
      }

  -- A PURGE

  -- it begins: the packet in the requeue slot is taken
  pub purge_begins : (c : Cause) (bands : Three Band) → w ≡ begin_purge_view c bands v → x ≡ get_or s.words i 0 → v.control.purge ≡ None → (is_quiet v.control.phase ≡ true) ⊎ (v.share.shares ≡ 1024) → Goal (of_control 1 18)
  purge_begins c bands is word calm alone =
      let q' : Qdisc = record q { slot = None; purge = Some first_purge } in let t = r.parts.station.stands in
      let was = had k s r i x id v w homes r' here live live' (ap holds_lock at_) in let is_now = has k s r i x id v w homes r' here live live' (ap (λ (u : View). holds_lock u.place.position) is ∙ ap holds_lock at_) in
      let lists = bands_still k s r i x id v w homes r' here live live' (ap (λ (z : Words). z.slots) (back word)) (ap (λ (z : Words). z.size) (back word)) (is_now.ends ∙ (ap (λ (u : View). u.holder.ends) is ∙ was.ends)) (is_now.resizing ∙ (ap (λ (u : View). u.holder.resizing) is ∙ was.resizing)) in
      control_move k s r i x id v w homes r' here live live' PurgeSlot true at_
      (ap₂ (λ (a b : Bool). a && b) (ap is_none (sym purge_here ∙ calm)) (or_either _ _ (⊎_elim (λ quiet. inl (ap is_quiet (sym phase_here) ∙ quiet)) (λ all. inr (sole k s r id v here live all)) alone)))
      (ap (λ (u : View). u.place) is ∙ ap (λ (z : Position). record v.place { position = z }) at_)
      (alike_control q' W (account k r.state).down (back word) (record { state = t.state; lock = t.lock; xoff = t.xoff; inside = t.inside; bypass = t.bypass }) lists.0 lists.1
      (slot_by k s r i x id v w homes r' here live live' None (is_now.slot ∙ ap (λ (u : View). u.holder.slot) is))
      (ap (λ (u : View). u.control.first) is ∙ first) (ap (λ (u : View). u.control.phase) is ∙ phase_here) (ap (λ (u : View). u.control.purge) is))

  -- THE SWAP OF THE DEVICE

  -- a stop word is opened, of a station that was purged
  opens : (queue : ℕ) → i ≡ xoff_word k queue → queue < k.queues → x ≡ 0 → v.control.phase ≡ Purged → v.control.purge ≡ None → w.place ≡ v.place → SamePart w.holder v.holder → w.control.first ≡ v.control.first → w.control.phase ≡ v.control.phase → w.control.purge ≡ v.control.purge → Goal (of_control 1 18)
  opens queue at_word below word purged calm to part same_first phase purge =
      let q' : Qdisc = record q { xoff = slice_set q.xoff queue 0 } in let t = r.parts.station.stands in
      control_move k s r i x id v w homes r' here live live' (StoreOpen queue) true at_ (ap₂ (λ (p : Option Purge) (f : Phase). is_none p && is_purged_phase f) (sym purge_here ∙ calm) (sym phase_here ∙ purged))
      (to ∙ ap (λ (z : Position). record v.place { position = z }) at_)
      (alike_there k s r i x id v w homes r' here live live' q' (record W { xoff = set W.xoff queue x }) (account k r.state).down first same_first
      (ap (λ (z : ℕ). words_of k (set s.words z x)) at_word ∙ set_xoff k s.words x queue (xoff_within k s.words queue r.wide below)) (record { slots = refl; size = refl })
      (record { state = t.state; lock = t.lock; xoff = ap₂ (λ (ls : List ℕ) (z : ℕ). slice_set ls queue z) t.xoff (sym word); inside = t.inside; bypass = t.bypass }) same refl (ap (λ (u : Seat). holds_lock u.position) to) part refl refl refl
      (phase ∙ phase_here) (purge ∙ purge_here))

  pub swap_move : (st : StationState) → w ≡ swap_view st v → i ≡ xoff_word k 0 → 0 < k.queues → x ≡ 0 → v.control.phase ≡ Purged → v.control.purge ≡ None → Goal (of_control 1 18)
  swap_move st is at_word some_queue word purged calm = opens 0 at_word some_queue word purged calm (ap (λ (u : View). u.place) is) (subst (λ (u : View). SamePart u.holder v.holder) (sym is) record { ends = refl; slot = refl; resizing = refl })
      (ap (λ (u : View). u.control.first) is) (ap (λ (u : View). u.control.phase) is) (ap (λ (u : View). u.control.purge) is)

  pub open_move : (queue : ℕ) → w ≡ open_xoff_view queue v → i ≡ xoff_word k queue → queue < k.queues → x ≡ 0 → v.control.phase ≡ Purged → v.control.purge ≡ None → Goal (of_control 1 18)
  open_move queue is at_word below word purged calm = opens queue at_word below word purged calm (ap (λ (u : View). u.place) is) (subst (λ (u : View). SamePart u.holder v.holder) (sym is) record { ends = refl; slot = refl; resizing = refl })
      (ap (λ (u : View). u.control.first) is) (ap (λ (u : View). u.control.phase) is) (ap (λ (u : View). u.control.purge) is)

-- A PURGE'S TAKES

module _ (k : Setup) (s : Table) (r : Rule k s) (b h x id : ℕ) (v w : View) (homes : List (maybe.Option (Option StationState)))
    (r' : Rule k (record { words = set s.words (slot_word k b h) x; homes = homes; views = set s.views id w })) (here : get_elem? s.views id ≡ some v) (live : is_live v ≡ true) (live' : is_live w ≡ true) (same : homes ≡ s.homes)
    (at_ : v.place.position ≡ Control true) (u : Purge) (word : x ≡ get_or s.words (slot_word k b h) 0) (below : b < 3) (in_ring : h < k.max_len) (under_way : v.control.purge ≡ Some u) (band_is : u.band ≡ b) (no_resizing : v.holder.resizing ≡ None)
    (rests : is_emptying v.holder.size (at b v.holder.ends) ≡ false) (is_head : h ≡ (at b v.holder.ends).head) where
  abbrev i : ℕ
  i = slot_word k b h

  abbrev m : ℕ
  m = get_or s.words (slot_word k b h) 0

  abbrev QD : Qdisc
  QD = r.qdisc

  abbrev WS : Words
  WS = words_of k s.words

  abbrev BS : ℕ → Band
  BS = bands_now r.state.left (account k r.state).bands

  known : v.holder ≡ holders r.state (account k r.state) WS.size
  known = (r.parts.station.lends.knows id v here live (ap holds_lock at_)).is

  calm : r.state.resizing ≡ None
  calm = sym (ap (λ (d : HolderPart). d.resizing) known) ∙ no_resizing

  rests_now : is_emptying WS.size (at b r.state.ends) ≡ false
  rests_now = subst (λ (d : HolderPart). is_emptying d.size (at b d.ends) ≡ false) known rests

  head_word : m ≡ get_or (at b WS.slots) (at b r.state.ends).head 0
  head_word = slot_of k s.words b h below in_ring ∙ ap (λ (z : ℕ). get_or (at b WS.slots) z 0) (is_head ∙ ap (λ (d : HolderPart). (at b d.ends).head) known)

  ring : IsRing WS.size (at b WS.slots) (at b WS.producers) (locks_at b s.views) (BS b) (at b r.state.ends)
  ring = (r.parts.station.rings.running calm).ring b below

  its_first : v.control.first ≡ true
  its_first = r.parts.machine.firsts.control id v here live (ap is_control at_)

  its_purge : QD.purge ≡ Some u
  its_purge = sym (purge_is k s r i x id v w homes r' here live live' its_first) ∙ under_way

  its_phase : v.control.phase ≡ QD.phase
  its_phase = phase_is k s r i x id v w homes r' here live live' its_first

  may_take : looks_at_bands QD.purge ≡ true
  may_take = ap looks_at_bands its_purge ∙ (ap (λ (z : ℕ). nat_lt z 3) band_is ∙ lt-ltb b 3 below)

  words_back : words_of k (set s.words i x) ≡ WS
  words_back = ap (λ (z : ℕ). words_of k (set s.words i z)) word ∙ set_back k s.words i

  stands_so : (z : Qdisc) → ◌≡◌ {A = Qdisc} (record z { bands = QD.bands; purge = QD.purge }) QD → Stands k WS z (account k r.state).down
  stands_so z e = let t = r.parts.station.stands in record {
    state = t.state ∙ sym (ap (λ (y : Qdisc). state_word y + 256 * event_word (account k r.state).down) e);
    lock = t.lock ∙ sym (ap (λ (y : Qdisc). bit y.locked) e);
    xoff = ap (λ (y : Qdisc). y.xoff) e ∙ t.xoff;
    inside = t.inside ∙ sym (ap (λ (y : Qdisc). y.inside) e);
    bypass = ap (λ (y : Qdisc). y.bypass) e ∙ t.bypass;
  }

  holds_now : w.place ≡ v.place → holds_lock w.place.position ≡ true
  holds_now to = ap (λ (z : Seat). holds_lock z.position) to ∙ ap holds_lock at_

  -- the band is found empty: the purge goes on with the next
  pub purge_passes : w ≡ purge_slot_view_empty u v → m ≡ 0 → Leads (of_control 1 18) (machine_of QD s.views) (machine_of r'.qdisc (set s.views id w))
  purge_passes is empty_ =
      let none = finds_none _ _ _ _ _ _ ring rests_now (sym head_word ∙ empty_) in let q' : Qdisc = record QD { purge = Some (next_band u) } in
      let bare : band_at QD u.band ≡ [] = ap (band_at QD) band_is ∙ (band_tied k.infos QD (account k r.state) BS r.parts.station.ties b below ∙ ap (machine_packets k.infos) none) in
      let leads : purge_band QD.purge QD ≡ q' = ap (λ (o : Option Purge). purge_band o QD) its_purge ∙ ap (λ (ps : List Packet). band_purged ps u QD) bare in
      let part : SamePart w.holder v.holder = subst (λ (z : View). SamePart z.holder v.holder) (sym is) record { ends = refl; slot = refl; resizing = refl } in
      control_move k s r i x id v w homes r' here live live' PurgeBand true at_ may_take (ap (λ (z : View). z.place) is ∙ ap (λ (z : Position). record v.place { position = z }) at_)
      (subst (Alike r'.qdisc) (sym leads) (alike_there k s r i x id v w homes r' here live live' q' WS (account k r.state).down its_first (ap (λ (z : View). z.control.first) is) words_back (record { slots = refl; size = refl })
      (stands_so q' refl) same refl (ap (λ (z : View). holds_lock z.place.position) is) part refl refl refl (ap (λ (z : View). z.control.phase) is ∙ its_phase) (ap (λ (z : View). z.control.purge) is)))

  -- a packet is taken
  pub purge_takes_move : (l : Left) → w ≡ purge_slot_view b (m - 1) l v → m ≢ 0 → Leads (of_control 1 18) (machine_of QD s.views) (machine_of r'.qdisc (set s.views id w))
  purge_takes_move l is full =
      let c : Ends = at b r.state.ends in let head = head_word in let both = takes _ _ _ _ _ _ ring rests_now (omega arith) in
      let first_is : slice_get (held_of (BS b)) 0 ≡ Some (m - 1) = both.1 ∙ ap (λ (z : ℕ). Some (z - 1)) (sym head_word) in
      let left : List Packet = machine_packets k.infos (drop 1 (held_of (BS b))) in let q' : Qdisc = record QD { bands = set QD.bands b left } in
      let line : band_at QD u.band ≡ machine_packet k.infos (m - 1) ∷ left = ap (band_at QD) band_is ∙ (band_tied k.infos QD (account k r.state) BS r.parts.station.ties b below ∙ ap (machine_packets k.infos) (first_of (held_of (BS b)) (m - 1) first_is)) in
      let leads : purge_band QD.purge QD ≡ q' = ap (λ (o : Option Purge). purge_band o QD) its_purge ∙ (ap (λ (ps : List Packet). band_purged ps u QD) line ∙ ap (λ (z : ℕ). record QD { bands = set QD.bands z left }) band_is) in
      let was = had k s r i x id v w homes r' here live live' (ap holds_lock at_) in let is_now = has k s r i x id v w homes r' here live live' (holds_now (ap (λ (z : View). z.place) is)) in
      let ends' : Three Ends = put b (taken_on c) r.state.ends in let B' : ℕ → Band = with_at b (taken_by (BS b) 1) BS in
      let rings = rings_step k s.views id v v here k.max_len WS.size WS.producers WS.producers WS.slots WS.slots (account k r.state).len BS B' r.state.ends ends' r.state.resizing b r.parts.station.rings calm
      (subst (λ (z : List Lock × Band × Ends). IsRing WS.size (at b WS.slots) (at b WS.producers) z.0 z.1 z.2)
      (λ j. (sym (set_again (locks_at b s.views) id (at b v.locks) (locks_here k s.views id v v here b)) j, sym (with_at_same b (taken_by (BS b) 1) BS) j, sym (at_put_same b (taken_on c) r.state.ends) j)) both.0)
      (λ y l other. (refl, refl, refl, with_at_other b y (taken_by (BS b) 1) BS other, at_put_other b y (taken_on c) r.state.ends below l other)) in
      let bands = bands_to k s r i x id v w homes r' here live live' WS.slots ends' r.state.resizing WS.producers (set s.views id v) (account k r.state).len B' rings
      (ap (λ (z : Words). z.slots) words_back) (ap (λ (z : Words). z.size) words_back)
      (is_now.ends ∙ (ap (λ (z : View). z.holder.ends) is ∙ ap (λ (z : Three Ends). put b (taken_on (at b z)) z) was.ends)) (is_now.resizing ∙ (ap (λ (z : View). z.holder.resizing) is ∙ was.resizing)) in
      control_move k s r i x id v w homes r' here live live' PurgeBand true at_ may_take (ap (λ (z : View). z.place) is ∙ ap (λ (z : Position). record v.place { position = z }) at_)
      (subst (Alike r'.qdisc) (sym leads) (alike_control k s r i x id v w homes r' here live live' same at_ q' WS (account k r.state).down words_back (stands_so q' refl)
      (bands.0 ∙ sym (ap (λ (bs : List (List Packet)). set bs b left) r.parts.station.ties.bands_are ∙ band_set k.infos BS b (taken_by (BS b) 1) left below (ap (machine_packets k.infos) (sym (held_taken (BS b))))))
      (bands.1 ∙ sym r.parts.station.ties.len) (slot_still k s r i x id v w homes r' here live live' (is_now.slot ∙ (ap (λ (z : View). z.holder.slot) is ∙ was.slot)))
      (ap (λ (z : View). z.control.first) is ∙ its_first) (ap (λ (z : View). z.control.phase) is ∙ its_phase) (ap (λ (z : View). z.control.purge) is ∙ (under_way ∙ sym its_purge))))
