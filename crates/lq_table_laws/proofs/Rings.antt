-- The steps at the rings: a packet is put, found to have no room or taken, a band is found empty, and a slot is emptied.
use Rattle.std.proofs.Common.{◌≡◌, ◌≢◌, ℕ, zero, suc, ◌+◌, ◌-◌, ◌<◌, Bool, true, false, List, [], ◌∷◌, drop, set, get_or, refl, sym, ap, ◌∙◌, subst, arith, Option, Some, None}
use Rattle.std.specs.Prelude.{slice_get}
use mathlib.Core.Option.{some}
use mathlib.Core.Option as maybe
use lib.ListN.{get_elem?}
use Rattle.atomic_table.proofs.Lists.{set_again}
use Rattle.lq_device.specs.Station.{StationState}
use Rattle.lq_model.specs.declared.machine.Answer.TheVariants.{Plain}
use Rattle.lq_model.specs.declared.machine.Packet.{Packet}
use Rattle.lq_model.specs.declared.machine.Position.{Position}
use Rattle.lq_model.specs.declared.machine.Position.TheVariants.{Gate, Scan}
use Rattle.lq_model.specs.declared.machine.Seat.{Seat}
use Rattle.lq_model.specs.Account.{with_at}
use Rattle.lq_model.specs.Band.{Band, held_of, taken_by}
use Rattle.lq_model.specs.Machine.{Qdisc, band_at}
use Rattle.lq_model.specs.Positions.{holds_lock}
use Rattle.lq_model.specs.Steps.{scan, step_at}
use Rattle.lq_band_laws.specs.Ring.{Ends, Lock, is_emptying, taken_on, emptied_on, IsRing}
use Rattle.lq_band_laws.specs.Three.{Three, at, put}
use Rattle.lq_band_laws.proofs.Kept.{empties, finds_none, takes}
use Rattle.lq_band_laws.proofs.Three.{at_put_other, at_put_same}
use Rattle.lq_run_core.specs.Progress.{accepted_at}
use Rattle.lq_table.specs.Places.{slot_word}
use Rattle.lq_table.specs.Views.{HalfResize, HolderPart, Setup, View, machine_packet, machine_packets}
use Rattle.lq_table.specs.Rule.{Words, words_of, account, bands_now, bands_of, holders, is_live, locks_at, machine_of, Rings, Rule, Stands}
use Rattle.lq_table.specs.Consumers.{zero_slot_view, head_slot_view_empty, head_slot_view, seen_band}
use Rattle.lq_table.proofs.Accounts.{with_at_other, with_at_same}
use Rattle.lq_table.proofs.ByName.{set_back, set_slot, slot_of}
use Rattle.lq_table.proofs.Frames.{Fits, locks_here, rings_step}
use Rattle.lq_table.proofs.HeadSlotKept.{first_of}
use Rattle.lq_table.proofs.Ties.{band_set, band_tied, held_taken}
use Rattle.lq_table_laws.specs.Stands.{Table}
use Rattle.lq_table_laws.specs.Stepped.{Leads, none_sent}
use Rattle.lq_table_laws.proofs.Calls.{Beside, by_fits, moves_beside}
use Rattle.lq_table_laws.proofs.Determined.{bands_are, control_still, had, has, same_as, same_bands, slot_still}
use Rattle.lq_table_laws.proofs.Moves.{Alike, leads_nowhere}

-- WHAT IS SEEN

seen_there : (b : ℕ) (ps : List Packet) → b < 3 → band_at (seen_band b ps) b ≡ ps
seen_there zero ps h = refl
seen_there (suc zero) ps h = refl
seen_there (suc (suc zero)) ps h = refl
seen_there (suc (suc (suc b))) ps h = absurd (omega arith)

none_fits : (q : Qdisc) (b : ℕ) (second : Bool) (s : Seat) → b < 3 → band_at q b ≡ [] → Fits q (seen_band b []) Plain (Scan b second) s q
none_fits q b second s below e = record {
  may = refl;
  seat = ap (λ (ps : List Packet). (scan ps b second (seen_band b []) s).seat) (seen_there b [] below) ∙ sym (ap (λ (ps : List Packet). (scan ps b second q s).seat) e);
  words = ap (λ (ps : List Packet). (scan ps b second q s).qdisc) e;
}

one_fits : (q : Qdisc) (b : ℕ) (second : Bool) (s : Seat) (p : Packet) (rest : List Packet) → b < 3 → band_at q b ≡ p ∷ rest → Fits q (seen_band b (p ∷ [])) Plain (Scan b second) s (record q { bands = set q.bands b rest })
one_fits q b second s p rest below e = record {
  may = refl;
  seat = ap (λ (ps : List Packet). (scan ps b second (seen_band b (p ∷ [])) s).seat) (seen_there b (p ∷ []) below) ∙ sym (ap (λ (ps : List Packet). (scan ps b second q s).seat) e);
  words = ap (λ (ps : List Packet). (scan ps b second q s).qdisc) e;
}

-- THE BANDS AFTER A STEP AT A RING

module _ (k : Setup) (s : Table) (r : Rule k s) (i x id : ℕ) (v w : View) (homes : List (maybe.Option (Option StationState)))
    (r' : Rule k (record { words = set s.words i x; homes = homes; views = set s.views id w })) (here : get_elem? s.views id ≡ some v) (live : is_live v ≡ true) (live' : is_live w ≡ true) where
  -- the rings, as they are after the step by the laws of one ring, tell the bands
  pub bands_to : (slots : Three (List ℕ)) (ends : Three Ends) (resizing : Option HalfResize) (ps : Three ℕ) (views : List View) (len : ℕ) (bands : ℕ → Band) → Rings k.max_len (words_of k s.words).size ps slots views len bands ends resizing
      → (words_of k (set s.words i x)).slots ≡ slots → (words_of k (set s.words i x)).size ≡ (words_of k s.words).size → r'.state.ends ≡ ends → r'.state.resizing ≡ resizing
      → (r'.qdisc.bands ≡ bands_of k.infos bands) × (r'.qdisc.len ≡ len)
  bands_to slots ends resizing ps views len bands rings slots_are size ends_are resizing_is =
      let p' = r'.parts.station in let a' = account k r'.state in
      let rings' = subst (λ (z : ℕ × Three (List ℕ) × Three Ends × Option HalfResize). Rings k.max_len z.0 (words_of k (set s.words i x)).producers z.1 (set s.views id w) a'.len (bands_now r'.state.left a'.bands) z.2 z.3)
      (λ j. (size j, slots_are j, ends_are j, resizing_is j)) p'.rings in
      let same = same_bands k.max_len (words_of k s.words).size _ _ slots _ _ a'.len len (bands_now r'.state.left a'.bands) bands ends resizing rings' rings in
      (p'.ties.bands_are ∙ bands_are k.infos (bands_now r'.state.left a'.bands) bands same.held, p'.ties.len ∙ same.len_is)

  -- with the words of the machine as they were, but for the rings'
  pub alike_rings : (q' : Qdisc) (W : Words) (d : Option ℕ) → words_of k (set s.words i x) ≡ W → Stands k W q' d → r'.qdisc.bands ≡ q'.bands → r'.qdisc.len ≡ q'.len → r'.qdisc.slot ≡ q'.slot
      → w.control.first ≡ v.control.first → w.control.phase ≡ v.control.phase → w.control.purge ≡ v.control.purge → q'.phase ≡ r.qdisc.phase → q'.purge ≡ r.qdisc.purge → Alike r'.qdisc q'
  alike_rings q' W d is stands bands len slot first phase purge same_phase same_purge =
      let control = control_still k s r i x id v w homes r' here live live' first phase purge in record {
        words = same_as k W r'.qdisc q' (account k r'.state).down d (subst (λ (z : Words). Stands k z r'.qdisc (account k r'.state).down) is r'.parts.station.stands) stands;
        bands = bands;
        len = len;
        slot = slot;
        phase = control.0 ∙ sym same_phase;
        purge = control.1 ∙ sym same_purge;
      }

-- THE CONSUMER

module _ (k : Setup) (s : Table) (r : Rule k s) (b i x id : ℕ) (v w : View) (homes : List (maybe.Option (Option StationState))) (here : get_elem? s.views id ≡ some v) (live : is_live v ≡ true) (same : homes ≡ s.homes)
    (r' : Rule k (record { words = set s.words (slot_word k b i) x; homes = homes; views = set s.views id w })) (below : b < 3) (in_ring : i < k.max_len) where
  abbrev q : Qdisc
  q = r.qdisc

  abbrev W : Words
  W = words_of k s.words

  abbrev B : ℕ → Band
  B = bands_now r.state.left (account k r.state).bands

  abbrev D : HolderPart
  D = holders r.state (account k r.state) W.size

  abbrev n : ℕ
  n = get_or s.words (slot_word k b i) 0

  abbrev Goal : ℕ → Type 0
  Goal moves = Leads (none_sent moves 0) (machine_of q s.views) (machine_of r'.qdisc (set s.views id w))

  -- what the holder knows
  is_known : holds_lock v.place.position ≡ true → v.holder ≡ D
  is_known holds = (r.parts.station.lends.knows id v here live holds).is

  ring_of : r.state.resizing ≡ None → IsRing W.size (at b W.slots) (at b W.producers) (locks_at b s.views) (B b) (at b r.state.ends)
  ring_of calm = (r.parts.station.rings.running calm).ring b below

  -- the word at the head
  head_word : holds_lock v.place.position ≡ true → i ≡ (at b v.holder.ends).head → n ≡ get_or (at b W.slots) (at b r.state.ends).head 0
  head_word holds is_head = slot_of k s.words b i below in_ring ∙ ap (λ (z : ℕ). get_or (at b W.slots) z 0) (is_head ∙ ap (λ (d : HolderPart). (at b d.ends).head) (is_known holds))

  rests_now : holds_lock v.place.position ≡ true → is_emptying v.holder.size (at b v.holder.ends) ≡ false → is_emptying W.size (at b r.state.ends) ≡ false
  rests_now holds rests = subst (λ (d : HolderPart). is_emptying d.size (at b d.ends) ≡ false) (is_known holds) rests

  calm_now : holds_lock v.place.position ≡ true → v.holder.resizing ≡ None → r.state.resizing ≡ None
  calm_now holds calm = sym (ap (λ (d : HolderPart). d.resizing) (is_known holds)) ∙ calm

  -- the band is found empty
  pub finds_none_move : (second : Bool) → w ≡ head_slot_view_empty b v → x ≡ n → n ≡ 0 → v.place.position ≡ Scan b second → v.holder.resizing ≡ None → is_emptying v.holder.size (at b v.holder.ends) ≡ false → i ≡ (at b v.holder.ends).head → Goal 1
  finds_none_move second is word empty_ at_ no_resizing rests is_head =
      let holds : holds_lock v.place.position ≡ true = ap holds_lock at_ in
      let none = finds_none _ _ _ _ _ _ (ring_of (calm_now holds no_resizing)) (rests_now holds rests) (sym (head_word holds is_head) ∙ empty_) in
      let fits : Fits q (seen_band b []) Plain v.place.position v.place q = subst (λ (z : Position). Fits q (seen_band b []) Plain z v.place q) (sym at_)
      (none_fits q b second v.place below (band_tied k.infos q (account k r.state) B r.parts.station.ties b below ∙ ap (machine_packets k.infos) none)) in
      moves_beside k s r (slot_word k b i) x id v w homes r' here live (ap is_live is ∙ live) (seen_band b []) Plain (ap (λ (z : Position). accepted_at z Plain) at_) q W (account k r.state).down fits (ap (λ (u : View). u.place) is)
      (ap (λ (z : ℕ). words_of k (set s.words (slot_word k b i) z)) word ∙ set_back k s.words (slot_word k b i)) (record { slots = refl; size = refl }) r.parts.station.stands refl
      (record { bands = refl; len = refl; slot = refl; phase = refl; purge = refl }) same
      (subst (Beside v) (sym is) record { part = record { ends = refl; slot = refl; resizing = refl }; first = refl; phase = refl; purge = refl })

  -- a packet is taken
  pub takes_move : (second : Bool) → w ≡ head_slot_view b (n - 1) v → x ≡ n → n ≢ 0 → v.place.position ≡ Scan b second → v.holder.resizing ≡ None → is_emptying v.holder.size (at b v.holder.ends) ≡ false → i ≡ (at b v.holder.ends).head → Goal 1
  takes_move second is word full at_ no_resizing rests is_head =
      let holds : holds_lock v.place.position ≡ true = ap holds_lock at_ in let calm = calm_now holds no_resizing in let c : Ends = at b r.state.ends in let live' : is_live w ≡ true = ap is_live is ∙ live in
      let head = head_word holds is_head in let both = takes _ _ _ _ _ _ (ring_of calm) (rests_now holds rests) (omega arith) in
      let first_is : slice_get (held_of (B b)) 0 ≡ Some (n - 1) = both.1 ∙ ap (λ (z : ℕ). Some (z - 1)) (sym head) in
      let p : Packet = machine_packet v.share.about.infos (n - 1) in let p_is : p ≡ machine_packet k.infos (n - 1) = ap (λ (z : Setup). machine_packet z.infos (n - 1)) (r.parts.seats.shares.about id v here live) in
      let left : List Packet = machine_packets k.infos (drop 1 (held_of (B b))) in let q' : Qdisc = record q { bands = set q.bands b left } in
      let line : band_at q b ≡ p ∷ left = band_tied k.infos q (account k r.state) B r.parts.station.ties b below ∙ (ap (machine_packets k.infos) (first_of (held_of (B b)) (n - 1) first_is) ∙ ap (λ (y : Packet). y ∷ left) (sym p_is)) in
      let seen : Qdisc = seen_band b (p ∷ []) in
      let fits : Fits q seen Plain v.place.position v.place q' = subst (λ (z : Position). Fits q seen Plain z v.place q') (sym at_) (one_fits q b second v.place p left below line) in
      let gate : w.place.position ≡ Gate p false = ap (λ (u : View). u.place.position) is ∙ (ap (λ (z : Position). (step_at z Plain seen v.place).seat.position) at_ ∙ ap (λ (ps : List Packet). (scan ps b second seen v.place).seat.position) (seen_there b (p ∷ []) below)) in
      let now = has k s r (slot_word k b i) x id v w homes r' here live live' (ap holds_lock gate) in let was = had k s r (slot_word k b i) x id v w homes r' here live live' holds in
      let back = ap (λ (z : ℕ). words_of k (set s.words (slot_word k b i) z)) word ∙ set_back k s.words (slot_word k b i) in
      let ends' : Three Ends = put b (taken_on c) r.state.ends in let B' : ℕ → Band = with_at b (taken_by (B b) 1) B in
      let rings = rings_step k s.views id v v here k.max_len W.size W.producers W.producers W.slots W.slots (account k r.state).len B B' r.state.ends ends' r.state.resizing b r.parts.station.rings calm
      (subst (λ (z : List Lock × Band × Ends). IsRing W.size (at b W.slots) (at b W.producers) z.0 z.1 z.2)
      (λ j. (sym (set_again (locks_at b s.views) id (at b v.locks) (locks_here k s.views id v v here b)) j, sym (with_at_same b (taken_by (B b) 1) B) j, sym (at_put_same b (taken_on c) r.state.ends) j)) both.0)
      (λ y h other. (refl, refl, refl, with_at_other b y (taken_by (B b) 1) B other, at_put_other b y (taken_on c) r.state.ends below h other)) in
      let bands = bands_to k s r (slot_word k b i) x id v w homes r' here live live' W.slots ends' r.state.resizing W.producers (set s.views id v) (account k r.state).len B' rings
      (ap (λ (z : Words). z.slots) back) (ap (λ (z : Words). z.size) back)
      (now.ends ∙ (ap (λ (u : View). u.holder.ends) is ∙ ap (λ (z : Three Ends). put b (taken_on (at b z)) z) was.ends)) (now.resizing ∙ (ap (λ (u : View). u.holder.resizing) is ∙ was.resizing)) in
      by_fits k s r (slot_word k b i) x id v w homes r' here live live' seen Plain (ap (λ (z : Position). accepted_at z Plain) at_) q' fits (ap (λ (u : View). u.place) is)
      (alike_rings k s r (slot_word k b i) x id v w homes r' here live live' q' W (account k r.state).down back (record { state = r.parts.station.stands.state; lock = r.parts.station.stands.lock; xoff = r.parts.station.stands.xoff; inside = r.parts.station.stands.inside; bypass = r.parts.station.stands.bypass })
      (bands.0 ∙ sym (ap (λ (bs : List (List Packet)). set bs b left) r.parts.station.ties.bands_are ∙ band_set k.infos B b (taken_by (B b) 1) left below (ap (machine_packets k.infos) (sym (held_taken (B b))))))
      (bands.1 ∙ sym r.parts.station.ties.len)
      (slot_still k s r (slot_word k b i) x id v w homes r' here live live' (now.slot ∙ (ap (λ (u : View). u.holder.slot) is ∙ was.slot)))
      (ap (λ (u : View). u.control.first) is) (ap (λ (u : View). u.control.phase) is) (ap (λ (u : View). u.control.purge) is) refl refl)

  -- a slot of a packet that was taken is emptied
  pub empties_no_move : w ≡ zero_slot_view b v → x ≡ 0 → holds_lock v.place.position ≡ true → v.holder.resizing ≡ None → is_emptying v.holder.size (at b v.holder.ends) ≡ true → i + 1 ≡ (at b v.holder.ends).edge → Goal 0
  empties_no_move is word holds no_resizing busy is_edge =
      let known = is_known holds in let calm = calm_now holds no_resizing in let c : Ends = at b r.state.ends in let live' : is_live w ≡ true = ap is_live is ∙ live in
      let going : is_emptying W.size c ≡ true = subst (λ (d : HolderPart). is_emptying d.size (at b d.ends) ≡ true) known busy in
      let edge : c.edge - 1 ≡ i = (let y : (at b v.holder.ends).edge ≡ c.edge = ap (λ (d : HolderPart). (at b d.ends).edge) known in omega arith) in
      let slots' : Three (List ℕ) = put b (set (at b W.slots) i 0) W.slots in let ends' : Three Ends = put b (emptied_on W.size c) r.state.ends in
      let slots_are : words_of k (set s.words (slot_word k b i) x) ≡ record W { slots = slots' } = ap (λ (z : ℕ). words_of k (set s.words (slot_word k b i) z)) word ∙ set_slot k s.words 0 b i below in_ring in
      let now = has k s r (slot_word k b i) x id v w homes r' here live live' (ap (λ (u : View). holds_lock u.place.position) is ∙ holds) in let was = had k s r (slot_word k b i) x id v w homes r' here live live' holds in
      let rings = rings_step k s.views id v v here k.max_len W.size W.producers W.producers W.slots slots' (account k r.state).len B B r.state.ends ends' r.state.resizing b r.parts.station.rings calm
      (subst (λ (z : List ℕ × List Lock × Ends). IsRing W.size z.0 (at b W.producers) z.1 (B b) z.2)
      (λ j. ((ap (λ (y : ℕ). set (at b W.slots) y 0) edge ∙ sym (at_put_same b (set (at b W.slots) i 0) W.slots)) j, sym (set_again (locks_at b s.views) id (at b v.locks) (locks_here k s.views id v v here b)) j, sym (at_put_same b (emptied_on W.size c) r.state.ends) j)) (empties _ _ _ _ _ _ (ring_of calm) going))
      (λ y h other. (at_put_other b y (set (at b W.slots) i 0) W.slots below h other, refl, refl, refl, at_put_other b y (emptied_on W.size c) r.state.ends below h other)) in
      let bands = bands_to k s r (slot_word k b i) x id v w homes r' here live live' slots' ends' r.state.resizing W.producers (set s.views id v) (account k r.state).len B rings
      (ap (λ (z : Words). z.slots) slots_are) (ap (λ (z : Words). z.size) slots_are)
      (now.ends ∙ (ap (λ (u : View). u.holder.ends) is ∙ ap (λ (d : HolderPart). put b (emptied_on d.size (at b d.ends)) d.ends) known)) (now.resizing ∙ (ap (λ (u : View). u.holder.resizing) is ∙ was.resizing)) in
      leads_nowhere s.views id v w here live live' q r'.qdisc (ap (λ (u : View). u.place) is)
      (alike_rings k s r (slot_word k b i) x id v w homes r' here live live' q (record W { slots = slots' }) (account k r.state).down slots_are (record { state = r.parts.station.stands.state; lock = r.parts.station.stands.lock; xoff = r.parts.station.stands.xoff; inside = r.parts.station.stands.inside; bypass = r.parts.station.stands.bypass })
      (bands.0 ∙ sym r.parts.station.ties.bands_are) (bands.1 ∙ sym r.parts.station.ties.len)
      (slot_still k s r (slot_word k b i) x id v w homes r' here live live' (now.slot ∙ (ap (λ (u : View). u.holder.slot) is ∙ was.slot)))
      (ap (λ (u : View). u.control.first) is) (ap (λ (u : View). u.control.phase) is) (ap (λ (u : View). u.control.purge) is) refl refl)
