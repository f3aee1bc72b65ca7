-- The steps of a sender at a ring: its packet joins the band, or finds no room.
use Rattle.std.proofs.Common.{◌≡◌, ◌≢◌, ℕ, ◌+◌, ◌-◌, ◌<◌, ◌≤◌, Bool, true, false, List, [], ◌∷◌, ◌++◌, length, set, get_or, refl, sym, ap, ap₂, ◌∙◌, subst, arith, Option, None}
use Rattle.std.specs.Prelude.{nat_le, nat_lt}
use Rattle.std.proofs.lemmas.Bool.{lt-ltb}
use Rattle.std.proofs.lemmas.Bool.{le-leb}
use mathlib.Core.Option.{some}
use mathlib.Core.Option as maybe
use lib.ListN.{get_elem?}
use Rattle.lq_device.specs.Station.{StationState}
use Rattle.lq_model.specs.declared.machine.Answer.TheVariants.{FullSlot, Plain}
use Rattle.lq_model.specs.declared.machine.Packet.{Packet}
use Rattle.lq_model.specs.declared.machine.Position.{Position}
use Rattle.lq_model.specs.declared.machine.Position.TheVariants.{Put}
use Rattle.lq_model.specs.declared.machine.Seat.{Seat}
use Rattle.lq_model.specs.Account.{with_at}
use Rattle.lq_model.specs.Band.{Band, batch, held_of, joined}
use Rattle.lq_model.specs.Machine.{Qdisc, band_at}
use Rattle.lq_model.specs.Plan.{band_in}
use Rattle.lq_model.specs.Positions.{holds_lock}
use Rattle.lq_model.specs.Steps.{joined_band, one_more}
use Rattle.lq_band_laws.specs.Ring.{Lock, having_stored, IsRing}
use Rattle.lq_band_laws.specs.Three.{Three, at, put}
use Rattle.lq_band_laws.proofs.Kept.{finds_full, stores}
use Rattle.lq_band_laws.proofs.Three.{at_put_other, at_put_same}
use Rattle.lq_run_core.specs.Progress.{accepted_at}
use Rattle.lq_table.specs.Places.{slot_word}
use Rattle.lq_table.specs.Views.{Setup, View, machine_packet, machine_packets}
use Rattle.lq_table.specs.Rule.{Words, words_of, account, bands_now, bands_of, holders, is_live, locks_at, machine_of, Rule, Stands}
use Rattle.lq_table.specs.Producers.{producer_slot_view_full, store_slot_view}
use Rattle.lq_table.specs.Moves.{seen_by}
use Rattle.lq_table.proofs.Accounts.{with_at_other, with_at_same}
use Rattle.lq_table.proofs.ByName.{set_back, set_slot, slot_of}
use Rattle.lq_table.proofs.Frames.{Fits, calm_here, holds_kept, locks_here, rings_step}
use Rattle.lq_table.proofs.Shows.{Shows, begins_alike, holder_shows}
use Rattle.lq_table.proofs.Ties.{band_joined, band_set, band_tied}
use Rattle.lq_table_laws.specs.Stands.{Table}
use Rattle.lq_table_laws.specs.Stepped.{Leads, none_sent}
use Rattle.lq_table_laws.proofs.Calls.{Beside, by_fits, moves_beside}
use Rattle.lq_table_laws.proofs.Determined.{SamePart, part_still, same_as, slot_still}
use Rattle.std.proofs.lemmas.List.{length-map}
use Rattle.lq_table_laws.proofs.Rings.{alike_rings, bands_to}

-- WHAT IS SEEN

full_fits : (q seen : Qdisc) (p : Packet) (holds : Bool) (s : Seat) → (holds ≡ true → Shows q seen) → nat_le (q.len - batch q.len) (length (band_at q p.band)) ≡ true → Fits q seen FullSlot (Put p holds) s (record q { full = one_more q.full })
full_fits q seen p true s e full = record { may = full; seat = λ j. record { position = begins_alike q seen (e refl) j; raised = s.raised; run = 0 }; words = refl }
full_fits q seen p false s e full = record { may = full; seat = refl; words = refl }

join_fits : (q seen : Qdisc) (p : Packet) (holds : Bool) (s : Seat) → (holds ≡ true → Shows q seen) → nat_lt (length (band_at q p.band)) q.len ≡ true → Fits q seen Plain (Put p holds) s (joined_band p q)
join_fits q seen p true s e room = record { may = room; seat = λ j. record { position = begins_alike (joined_band p q) (joined_band p seen) (record { queues = (e refl).queues; slot = (e refl).slot }) j; raised = s.raised; run = 0 }; words = refl }
join_fits q seen p false s e room = record { may = room; seat = refl; words = refl }

-- THE STEPS

module _ (k : Setup) (s : Table) (r : Rule k s) (b i n x id : ℕ) (v w : View) (homes : List (maybe.Option (Option StationState))) (here : get_elem? s.views id ≡ some v) (live : is_live v ≡ true) (same : homes ≡ s.homes)
    (r' : Rule k (record { words = set s.words (slot_word k b i) x; homes = homes; views = set s.views id w })) (below : b < 3) (in_ring : i < k.max_len) (puts : Bool) (at_ : v.place.position ≡ Put (machine_packet k.infos n) puts)
    (of_band : band_in k.infos n ≡ b) (mine : (at b v.locks).holds ≡ true) (new : (at b v.locks).stored ≡ false) (is_index : i ≡ (at b v.locks).index) (no_resizing : v.holder.resizing ≡ None) where
  abbrev q : Qdisc
  q = r.qdisc

  abbrev W : Words
  W = words_of k s.words

  abbrev B : ℕ → Band
  B = bands_now r.state.left (account k r.state).bands

  abbrev p : Packet
  p = machine_packet k.infos n

  calm : r.state.resizing ≡ None
  calm = calm_here k.infos k.max_len W.size W.producers W.slots _ _ _ q.locked W.xoff r.home r.state.past (holders r.state (account k r.state) W.size) r.state.resizing s.views id v b r.parts.station.rings r.parts.station.lends refl here below mine no_resizing

  old : IsRing W.size (at b W.slots) (at b W.producers) (locks_at b s.views) (B b) (at b r.state.ends)
  old = (r.parts.station.rings.running calm).ring b below

  -- how many packets the machine's band has
  count : length (band_at q p.band) ≡ length (held_of (B b))
  count = ap (λ (c : ℕ). length (band_at q c)) of_band ∙ (ap length (band_tied k.infos q (account k r.state) B r.parts.station.ties b below) ∙ length-map (held_of (B b)) (machine_packet k.infos))

  size_is : W.size ≡ q.len
  size_is = (r.parts.station.rings.running calm).size_is ∙ sym r.parts.station.ties.len

  shows : puts ≡ true → Shows q (seen_by v)
  shows h = holder_shows k s r id v here live (ap holds_lock at_ ∙ h)

  -- the slot is found occupied: the packet is dropped
  pub drops_move : w ≡ producer_slot_view_full n (get_or s.words (slot_word k b i) 0 - 1) v → x ≡ get_or s.words (slot_word k b i) 0 → get_or s.words (slot_word k b i) 0 ≢ 0 → Leads (none_sent 1 0) (machine_of q s.views) (machine_of r'.qdisc (set s.views id w))
  drops_move is word full =
      let found : get_or s.words (slot_word k b i) 0 ≡ get_or (at b W.slots) (at b v.locks).index 0 = slot_of k s.words b i below in_ring ∙ ap (λ (z : ℕ). get_or (at b W.slots) z 0) is_index in
      let told = finds_full _ _ _ _ _ _ id (at b v.locks) old (locks_here k s.views id v v here b) mine new (omega arith) in let q' : Qdisc = record q { full = one_more q.full } in
      let half : (q.len - batch q.len ≤ length (band_at q p.band)) = subst (λ (z : ℕ × ℕ). z.0 - batch z.0 ≤ z.1) (λ j. (size_is j, sym count j)) told.holds in
      let fits : Fits q (seen_by v) FullSlot v.place.position v.place q' = subst (λ (z : Position). Fits q (seen_by v) FullSlot z v.place q') (sym at_) (full_fits q (seen_by v) p puts v.place shows (le-leb _ _ half)) in
      let t = r.parts.station.stands in
      moves_beside k s r (slot_word k b i) x id v w homes r' here live (ap is_live is ∙ live) (seen_by v) FullSlot (ap (λ (z : Position). accepted_at z FullSlot) at_) q' W (account k r.state).down fits (ap (λ (u : View). u.place) is)
      (ap (λ (z : ℕ). words_of k (set s.words (slot_word k b i) z)) word ∙ set_back k s.words (slot_word k b i)) (record { slots = refl; size = refl }) (record { state = t.state; lock = t.lock; xoff = t.xoff; inside = t.inside; bypass = t.bypass }) refl
      (record { bands = refl; len = refl; slot = refl; phase = refl; purge = refl }) same
      (subst (Beside v) (sym is) record { part = record { ends = refl; slot = refl; resizing = refl }; first = refl; phase = refl; purge = refl })

  -- the packet is stored in it, and joins the band
  pub joins_move : w ≡ store_slot_view b n v → x ≡ n + 1 → (at b v.locks).room ≡ true → Leads (none_sent 1 0) (machine_of q s.views) (machine_of r'.qdisc (set s.views id w))
  joins_move is word room =
      let l : Lock = at b v.locks in let live' : is_live w ≡ true = ap is_live is ∙ live in let t = r.parts.station.stands in let q' : Qdisc = joined_band p q in
      let both = stores _ _ _ _ _ _ id l old (locks_here k s.views id v v here b) n mine new room in let few = both.1 in let c = count in let z = size_is in
      let fits : Fits q (seen_by v) Plain v.place.position v.place q' = subst (λ (y : Position). Fits q (seen_by v) Plain y v.place q') (sym at_) (join_fits q (seen_by v) p puts v.place shows (lt-ltb _ _ (omega arith))) in
      let slots' : Three (List ℕ) = put b (set (at b W.slots) i (n + 1)) W.slots in let B' : ℕ → Band = with_at b (joined (B b) n) B in let w' : View = store_slot_view b n v in
      let slots_are : words_of k (set s.words (slot_word k b i) x) ≡ record W { slots = slots' } = ap (λ (y : ℕ). words_of k (set s.words (slot_word k b i) y)) word ∙ set_slot k s.words (n + 1) b i below in_ring in
      let stands : Stands k (record W { slots = slots' }) q' (account k r.state).down = record { state = t.state; lock = t.lock; xoff = t.xoff; inside = t.inside; bypass = t.bypass } in
      let words = same_as k (record W { slots = slots' }) r'.qdisc q' (account k r'.state).down (account k r.state).down (subst (λ (y : Words). Stands k y r'.qdisc (account k r'.state).down) slots_are r'.parts.station.stands) stands in
      let part = part_still k s r (slot_word k b i) x id v w homes r' here live live' same words.locked
      (ap (λ (u : View). holds_lock u.place.position) is ∙ holds_kept k s r id v w here live Plain (seen_by v) q' fits refl)
      (subst (λ (u : View). SamePart u.holder v.holder) (sym is) record { ends = refl; slot = refl; resizing = refl }) in
      let rings = rings_step k s.views id v w' here k.max_len W.size W.producers W.producers W.slots slots' (account k r.state).len B B' r.state.ends r.state.ends r.state.resizing b r.parts.station.rings calm
      (subst (λ (y : List ℕ × Lock × Band). IsRing W.size y.0 (at b W.producers) (set (locks_at b s.views) id y.1) y.2 (at b r.state.ends))
      (λ j. ((ap (λ (y : ℕ). set (at b W.slots) y (n + 1)) (sym is_index) ∙ sym (at_put_same b (set (at b W.slots) i (n + 1)) W.slots)) j, sym (at_put_same b (having_stored l) v.locks) j, sym (with_at_same b (joined (B b) n) B) j)) both.0)
      (λ y h other. (at_put_other b y (set (at b W.slots) i (n + 1)) W.slots below h other, refl, at_put_other b y (having_stored l) v.locks below h other, with_at_other b y (joined (B b) n) B other, refl)) in
      let bands = bands_to k s r (slot_word k b i) x id v w homes r' here live live' slots' r.state.ends r.state.resizing W.producers (set s.views id w') (account k r.state).len B' rings
      (ap (λ (y : Words). y.slots) slots_are) (ap (λ (y : Words). y.size) slots_are) part.ends part.resizing in
      let joined_is : q'.bands ≡ bands_of k.infos B' = ap (λ (y : ℕ). set q.bands y (band_at q y ++ p ∷ [])) of_band
      ∙ (ap₂ (λ (bs : List (List Packet)) (ps : List Packet). set bs b (ps ++ p ∷ [])) r.parts.station.ties.bands_are (band_tied k.infos q (account k r.state) B r.parts.station.ties b below)
      ∙ band_set k.infos B b (joined (B b) n) (machine_packets k.infos (held_of (B b)) ++ p ∷ []) below (band_joined k.infos (B b) n (let e = old.line_is in let y = old.taken_is in let f = old.taken_within in omega arith))) in
      by_fits k s r (slot_word k b i) x id v w homes r' here live live' (seen_by v) Plain (ap (λ (z : Position). accepted_at z Plain) at_) q' fits (ap (λ (u : View). u.place) is)
      (alike_rings k s r (slot_word k b i) x id v w homes r' here live live' q' (record W { slots = slots' }) (account k r.state).down slots_are stands
      (bands.0 ∙ sym joined_is) (bands.1 ∙ sym r.parts.station.ties.len)
      (slot_still k s r (slot_word k b i) x id v w homes r' here live live' part.slot)
      (ap (λ (u : View). u.control.first) is) (ap (λ (u : View). u.control.phase) is) (ap (λ (u : View). u.control.purge) is) refl refl)
