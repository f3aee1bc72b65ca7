-- The steps of a resize: the machine takes it as one step at its begin_resize_view; what control does from there on at the slots is none.
use Rattle.std.proofs.Common.{◌≡◌, ◌≢◌, ⊎_elim, ℕ, zero, suc, ◌+◌, ◌<◌, Bool, true, List, [], ◌∷◌, length, map, take, drop, set, get_or, refl, sym, ap, ap₂, ◌∙◌, subst, arith, Option, Some, None}
use Rattle.std.specs.Prelude.{if◌then◌else◌, ◌-◌, is_none, slice_index}
use mathlib.Core.Logic.{dite}
use mathlib.Core.Option.{some}
use mathlib.Core.Option as maybe
use native.Mathlib.Decide.{dec_lt}
use lib.ListN.{get_elem?}
use Rattle.lq_device.specs.Station.{StationState}
use Rattle.lq_model.specs.declared.fate.Info.{Info}
use Rattle.lq_model.specs.declared.machine.ControlStep.TheVariants.{Resize}
use Rattle.lq_model.specs.declared.machine.Position.{Position}
use Rattle.lq_model.specs.declared.machine.Position.TheVariants.{Control}
use Rattle.lq_model.specs.declared.machine.Seat.{Seat}
use Rattle.lq_model.specs.Band.{Band, held_of}
use Rattle.lq_model.specs.Control.{is_control}
use Rattle.lq_model.specs.Machine.{Qdisc}
use Rattle.lq_model.specs.Positions.{holds_lock}
use Rattle.lq_ring_core.specs.Slots.{round}
use Rattle.lq_band_laws.specs.HalfResized.{IsBeforeResize, IsRefilled}
use Rattle.lq_band_laws.specs.Ring.{Ends, at_start, IsRing}
use Rattle.lq_band_laws.specs.Three.{Three, all_three, at, put}
use Rattle.std.specs.Option.{option_map}
use Rattle.std.proofs.lemmas.Bool.{cases_eq, lt-ltb}
use Rattle.std.proofs.lemmas.List.{take-map}
use Rattle.lq_band_laws.specs.Ring.{Lock}
use Rattle.lq_band_laws.proofs.Three.{at_all, at_put_other, at_put_same}
use Rattle.lq_band_laws.proofs.Lines.{word_at-past}
use Rattle.lq_table.specs.Resizes.{begin_resize_view, store_size_view, resizing_of, settled_work, with_resizing, with_work}
use Rattle.lq_table.specs.Fates.{settle_view_shrunk}
use Rattle.lq_table.specs.Places.{fates_offset, slot_word}
use Rattle.lq_table.specs.Views.{FirstPart, HalfResize, HolderPart, Setup, View, Work, machine_packet, machine_packets}
use Rattle.lq_table.specs.Rule.{Words, words_of, account, bands_now, bands_of, holders, is_live, locks_at, machine_of, Rings, Rule, Stands}
use Rattle.lq_table.proofs.ByName.{set_back, set_fate, set_slot}
use Rattle.lq_table_laws.specs.Stands.{Table}
use Rattle.lq_table_laws.specs.Stepped.{Leads, none_sent, of_control}
use Rattle.lq_table_laws.proofs.Controls.{control_move, phase_is, purge_is}
use Rattle.lq_table_laws.proofs.Determined.{bands_are, had, has, slot_still}
use Rattle.lq_table_laws.proofs.Moves.{leads_nowhere}
use Rattle.lq_table_laws.proofs.Purges.{alike_control}
use Rattle.lq_table_laws.proofs.Rings.{alike_rings}
use Rattle.lq_table_laws.proofs.Slots.{held_past, held_word, same_words}

-- what the rings say of the bands while a resize is half done
pub record HalfBands (len : ℕ) (bands : ℕ → Band) (t : HalfResize) : Type 0 where
  pub len_is : len ≡ t.len
  pub held : (b : ℕ) → b < 3 → held_of (bands b) ≡ (at b t.works).kept

half_bands : (m size : ℕ) (ps : Three ℕ) (slots : Three (List ℕ)) (views : List View) (len : ℕ) (bands : ℕ → Band) (ends : Three Ends) (resizing : Option HalfResize) (t : HalfResize) → resizing ≡ Some t → Rings m size ps slots views len bands ends resizing → HalfBands len bands t
half_bands m size ps slots views len bands ends resizing t now r = let x = r.half_resized t now in record {
  len_is = x.len_is;
  held = λ b below. ap₂ drop (x.ring b below).none_taken (x.kept b below);
}

-- each band of three with its first packets
taken_bands : (infos : List Info) (n : ℕ) (bands bands' : ℕ → Band) → ((b : ℕ) → b < 3 → held_of (bands' b) ≡ take n (held_of (bands b))) → bands_of infos bands' ≡ map (λ band. take n band) (bands_of infos bands)
taken_bands infos n bands bands' h = let one : (b : ℕ) → b < 3 → machine_packets infos (held_of (bands' b)) ≡ take n (machine_packets infos (held_of (bands b))) = λ b below. ap (machine_packets infos) (h b below) ∙ sym (take-map (machine_packet infos) n (held_of (bands b))) in
    λ j. one 0 (omega arith) j ∷ one 1 (omega arith) j ∷ one 2 (omega arith) j ∷ []

kept_at : (b len event : ℕ) (held : ℕ → List ℕ) (slots : Three (List ℕ)) → b < 3 → (at b (resizing_of len event held slots).works).kept ≡ take len (held b)
kept_at zero len event held slots h = refl
kept_at (suc zero) len event held slots h = refl
kept_at (suc (suc zero)) len event held slots h = refl
kept_at (suc (suc (suc b))) len event held slots h = absurd (omega arith)

slots_at : (b len event : ℕ) (held : ℕ → List ℕ) (slots : Three (List ℕ)) → b < 3 → (at b (resizing_of len event held slots).works).slots ≡ at b slots
slots_at zero len event held slots h = refl
slots_at (suc zero) len event held slots h = refl
slots_at (suc (suc zero)) len event held slots h = refl
slots_at (suc (suc (suc b))) len event held slots h = absurd (omega arith)

-- what control was told that a ring held is what it holds
told_held : (size limit : ℕ) (slots held : List ℕ) (word : ℕ) (seats : List Lock) (band : Band) (c : Ends) → IsRing size slots word seats band c → IsBeforeResize size limit slots held c → held ≡ held_of band
told_held size limit slots held word seats band c r t = same_words held (held_of band) (λ i. dite (dec_lt (c.head + i) (c.tail + size))
    (λ below. sym (t.window i below) ∙ sym (held_word size slots c word seats band r i below))
    (λ past. word_at-past held i (let f = t.fits in omega arith) ∙ sym (held_past size slots c word seats band r i (omega arith))))

module _ (k : Setup) (s : Table) (r : Rule k s) (i x id : ℕ) (v w : View) (homes : List (maybe.Option (Option StationState)))
    (r' : Rule k (record { words = set s.words i x; homes = homes; views = set s.views id w })) (here : get_elem? s.views id ≡ some v) (live : is_live v ≡ true) (live' : is_live w ≡ true) (same : homes ≡ s.homes) where
  abbrev q : Qdisc
  q = r.qdisc

  abbrev W : Words
  W = words_of k s.words

  abbrev B : ℕ → Band
  B = bands_now r.state.left (account k r.state).bands

  abbrev B' : ℕ → Band
  B' = bands_now r'.state.left (account k r'.state).bands

  abbrev D : HolderPart
  D = holders r.state (account k r.state) W.size

  -- it begins
  pub resize_begins : (limit len event : ℕ) (held : ℕ → List ℕ) (slots : Three (List ℕ)) → w ≡ begin_resize_view (resizing_of len event held slots) v → x ≡ get_or s.words i 0 → v.place.position ≡ Control true → v.control.purge ≡ None → v.holder.resizing ≡ None
      → ((b : ℕ) → b < 3 → IsBeforeResize v.holder.size limit (at b slots) (held b) (at b v.holder.ends)) → Leads (of_control 1 18) (machine_of q s.views) (machine_of r'.qdisc (set s.views id w))
  resize_begins limit len event held slots is word at_ calm no_resizing told =
      let t : HalfResize = resizing_of len event held slots in let holds : holds_lock v.place.position ≡ true = ap holds_lock at_ in let first = r.parts.machine.firsts.control id v here live (ap is_control at_) in
      let known : v.holder ≡ D = (r.parts.station.lends.knows id v here live holds).is in let st = r.parts.station.stands in
      let was = had k s r i x id v w homes r' here live live' holds in let is_now = has k s r i x id v w homes r' here live live' (ap (λ (u : View). holds_lock u.place.position) is ∙ holds) in
      let back : words_of k (set s.words i x) ≡ W = ap (λ (z : ℕ). words_of k (set s.words i z)) word ∙ set_back k s.words i in
      let old = r.parts.station.rings.running (sym (ap (λ (d : HolderPart). d.resizing) known) ∙ no_resizing) in
      let under_way : r'.state.resizing ≡ Some t = is_now.resizing ∙ ap (λ (u : View). u.holder.resizing) is in
      let half = half_bands _ _ _ _ _ _ _ _ r'.state.resizing t under_way r'.parts.station.rings in
      let held_is : (b : ℕ) → b < 3 → held b ≡ held_of (B b) = λ b below.
      let slots_are : at b W.slots ≡ at b slots = ap (λ (z : Words). at b z.slots) (sym back) ∙ (((r'.parts.station.rings.half_resized t under_way).ring b below).known_is ∙ slots_at b len event held slots below) in
      told_held W.size limit (at b W.slots) (held b) _ _ (B b) (at b r.state.ends) (old.ring b below)
      (subst (λ (z : HolderPart × List ℕ). IsBeforeResize z.0.size limit z.1 (held b) (at b z.0.ends)) (λ j. (known j, sym slots_are j)) (told b below)) in
      let q' : Qdisc = record q { bands = map (λ band. take len band) q.bands; len = len } in
      control_move k s r i x id v w homes r' here live live' (Resize len) true at_ (ap is_none (sym (purge_is k s r i x id v w homes r' here live live' first) ∙ calm)) (ap (λ (u : View). u.place) is ∙ ap (λ (z : Position). record v.place { position = z }) at_)
      (alike_control k s r i x id v w homes r' here live live' same at_ q' W (account k r.state).down back (record { state = st.state; lock = st.lock; xoff = st.xoff; inside = st.inside; bypass = st.bypass })
      (r'.parts.station.ties.bands_are ∙ (taken_bands k.infos len B B' (λ b below. half.held b below ∙ (kept_at b len event held slots below ∙ ap (take len) (held_is b below))) ∙ ap (map (λ band. take len band)) (sym r.parts.station.ties.bands_are)))
      (r'.parts.station.ties.len ∙ half.len_is)
      (slot_still k s r i x id v w homes r' here live live' (is_now.slot ∙ (ap (λ (u : View). u.holder.slot) is ∙ was.slot)))
      (ap (λ (u : View). u.control.first) is ∙ first) (ap (λ (u : View). u.control.phase) is ∙ phase_is k s r i x id v w homes r' here live live' first) (ap (λ (u : View). u.control.purge) is ∙ purge_is k s r i x id v w homes r' here live live' first))

  -- what control does at the slots leaves what each band keeps
  pub resize_stays : (t t' : HalfResize) (W' : Words) → words_of k (set s.words i x) ≡ W' → Stands k W' q (account k r.state).down → holds_lock v.place.position ≡ true → v.holder.resizing ≡ Some t → w.place ≡ v.place → w.holder.resizing ≡ Some t' → w.holder.slot ≡ v.holder.slot → w.control ≡ v.control
      → t'.len ≡ t.len → ((b : ℕ) → b < 3 → (at b t'.works).kept ≡ (at b t.works).kept) → Leads (none_sent 0 0) (machine_of q s.views) (machine_of r'.qdisc (set s.views id w))
  resize_stays t t' W' words stands holds under_way to under_way' slot control len kept =
      let was = had k s r i x id v w homes r' here live live' holds in let is_now = has k s r i x id v w homes r' here live live' (ap (λ (z : Seat). holds_lock z.position) to ∙ holds) in
      let half = half_bands _ _ _ _ _ _ _ _ r.state.resizing t (sym was.resizing ∙ under_way) r.parts.station.rings in
      let half' = half_bands _ _ _ _ _ _ _ _ r'.state.resizing t' (is_now.resizing ∙ under_way') r'.parts.station.rings in
      leads_nowhere s.views id v w here live live' q r'.qdisc to
      (alike_rings k s r i x id v w homes r' here live live' q W' (account k r.state).down words stands
      (r'.parts.station.ties.bands_are ∙ (bands_are k.infos B' B (λ b below. half'.held b below ∙ (kept b below ∙ sym (half.held b below))) ∙ sym r.parts.station.ties.bands_are))
      (r'.parts.station.ties.len ∙ (half'.len_is ∙ (len ∙ (sym half.len_is ∙ sym r.parts.station.ties.len))))
      (slot_still k s r i x id v w homes r' here live live' (is_now.slot ∙ (slot ∙ was.slot)))
      (ap (λ (c : FirstPart). c.first) control) (ap (λ (c : FirstPart). c.phase) control) (ap (λ (c : FirstPart). c.purge) control) refl refl)

  -- and the rings start again, with what each band keeps
  pub resize_ends : (t : HalfResize) → w ≡ store_size_view t v → words_of k (set s.words i x) ≡ record W { size = t.len } → holds_lock v.place.position ≡ true → v.holder.resizing ≡ Some t
      → ((b : ℕ) → b < 3 → IsRefilled (at b t.works).slots (at b t.works).kept t.len) → Leads (none_sent 0 0) (machine_of q s.views) (machine_of r'.qdisc (set s.views id w))
  resize_ends t is words holds under_way refilled =
      let was = had k s r i x id v w homes r' here live live' holds in let is_now = has k s r i x id v w homes r' here live live' (ap (λ (u : View). holds_lock u.place.position) is ∙ holds) in let st = r.parts.station.stands in
      let now_half = sym was.resizing ∙ under_way in let half = half_bands _ _ _ _ _ _ _ _ r.state.resizing t now_half r.parts.station.rings in
      let calm : r'.state.resizing ≡ None = is_now.resizing ∙ ap (λ (u : View). u.holder.resizing) is in let run = r'.parts.station.rings.running calm in
      let ends : r'.state.ends ≡ all_three at_start = is_now.ends ∙ ap (λ (u : View). u.holder.ends) is in
      let held_is : (b : ℕ) → b < 3 → held_of (B' b) ≡ (at b t.works).kept = λ b below.
      let slots_are : at b (words_of k (set s.words i x)).slots ≡ (at b t.works).slots = ap (λ (z : Words). at b z.slots) words ∙ ((r.parts.station.rings.half_resized t now_half).ring b below).known_is in
      refilled_held t.len (at b t.works).slots (at b t.works).kept _ _ (B' b)
      (subst (λ (z : ℕ × List ℕ × Ends). IsRing z.0 z.1 (at b (words_of k (set s.words i x)).producers) (locks_at b (set s.views id w)) (B' b) z.2) (λ j. (ap (λ (z : Words). z.size) words j, slots_are j, (ap (at b) ends ∙ start_at b) j)) (run.ring b below)) (refilled b below) in
      leads_nowhere s.views id v w here live live' q r'.qdisc (ap (λ (u : View). u.place) is)
      (alike_rings k s r i x id v w homes r' here live live' q (record W { size = t.len }) (account k r.state).down words (record { state = st.state; lock = st.lock; xoff = st.xoff; inside = st.inside; bypass = st.bypass })
      (r'.parts.station.ties.bands_are ∙ (bands_are k.infos B' B (λ b below. held_is b below ∙ sym (half.held b below)) ∙ sym r.parts.station.ties.bands_are))
      (r'.parts.station.ties.len ∙ (sym run.size_is ∙ (ap (λ (z : Words). z.size) words ∙ (sym half.len_is ∙ sym r.parts.station.ties.len))))
      (slot_still k s r i x id v w homes r' here live live' (is_now.slot ∙ (ap (λ (u : View). u.holder.slot) is ∙ was.slot)))
      (ap (λ (u : View). u.control.first) is) (ap (λ (u : View). u.control.phase) is) (ap (λ (u : View). u.control.purge) is) refl refl)
    where
      start_at : (b : ℕ) → at b (all_three at_start) ≡ at_start
      start_at b = at_all b at_start

      rounded : (n len : ℕ) → n < len → round len n ≡ n
      rounded n len h = ap (λ (c : Bool). if c then n else n - len) (lt-ltb n len h)

      refilled_held : (size : ℕ) (slots line : List ℕ) (word : ℕ) (seats : List Lock) (band : Band) → IsRing size slots word seats band at_start → IsRefilled slots line size → held_of band ≡ line
      refilled_held size slots line word seats band ring full = same_words (held_of band) line (λ n. dite (dec_lt n size)
          (λ below. held_word size slots at_start word seats band ring n (omega arith) ∙ (ap (slice_index slots) (ap (round size) (let e : 0 + n ≡ n = omega arith in e) ∙ rounded n size below) ∙ full.filled n below))
          (λ past. held_past size slots at_start word seats band ring n (omega arith) ∙ sym (word_at-past line n (let f = full.fits in omega arith))))

-- THE WORK AT A SLOT

-- another work on one band leaves what each keeps
kept_put : (b c : ℕ) (y : Work) (works : Three Work) → b < 3 → c < 3 → y.kept ≡ (at b works).kept → (at c (put b y works)).kept ≡ (at c works).kept
kept_put b c y works below within keeps = ⊎_elim
    (λ (e : c ≡ b). ap (λ (n : ℕ). (at n (put b y works)).kept) e ∙ (ap (λ (z : Work). z.kept) (at_put_same b y works) ∙ (keeps ∙ ap (λ (n : ℕ). (at n works).kept) (sym e))))
    (λ (other : c ≢ b). ap (λ (z : Work). z.kept) (at_put_other b c y works below within other))
    (cases_eq c b)

module _ (k : Setup) (s : Table) (r : Rule k s) (b x id : ℕ) (v w : View) (homes : List (maybe.Option (Option StationState))) (here : get_elem? s.views id ≡ some v) (live : is_live v ≡ true) (live' : is_live w ≡ true) (same : homes ≡ s.homes)
    (t : HalfResize) (y : Work) (below : b < 3) (keeps : y.kept ≡ (at b t.works).kept) (holds : holds_lock v.place.position ≡ true) (under_way : v.holder.resizing ≡ Some t) where
  abbrev AfterAt : ℕ → Type 0
  AfterAt i = Rule k (record { words = set s.words i x; homes = homes; views = set s.views id w })

  -- a slot is emptied or filled
  pub slot_stays : (i : ℕ) (r' : AfterAt (slot_word k b i)) → i < k.max_len → w ≡ with_resizing (Some (with_work b y t)) v → Leads (none_sent 0 0) (machine_of r.qdisc s.views) (machine_of r'.qdisc (set s.views id w))
  slot_stays i r' in_ring is = let st = r.parts.station.stands in let WS : Words = words_of k s.words in
      resize_stays k s r (slot_word k b i) x id v w homes r' here live live' same t (with_work b y t) (record WS { slots = put b (set (at b WS.slots) i x) WS.slots }) (set_slot k s.words x b i below in_ring)
      (record { state = st.state; lock = st.lock; xoff = st.xoff; inside = st.inside; bypass = st.bypass }) holds under_way (ap (λ (u : View). u.place) is) (ap (λ (u : View). u.holder.resizing) is) (ap (λ (u : View). u.holder.slot) is) (ap (λ (u : View). u.control) is) refl
      (λ c within. kept_put b c y t.works below within keeps)

  -- the fate of a packet that it dropped is stored
  pub fate_stays : (n event : ℕ) (r' : AfterAt (fates_offset k + n)) → n < length k.infos → y ≡ settled_work (at b t.works) → w ≡ settle_view_shrunk b n event v → Leads (none_sent 0 0) (machine_of r.qdisc s.views) (machine_of r'.qdisc (set s.views id w))
  fate_stays n event r' within settles is = let st = r.parts.station.stands in let WS : Words = words_of k s.words in
      let under : w.holder.resizing ≡ Some (with_work b y t) = ap (λ (u : View). u.holder.resizing) is ∙ (ap (option_map (λ (z : HalfResize). with_work b (settled_work (at b z.works)) z)) under_way ∙ ap (λ (z : Work). Some (with_work b z t)) (sym settles)) in
      resize_stays k s r (fates_offset k + n) x id v w homes r' here live live' same t (with_work b y t) (record WS { fates = set WS.fates n x }) (set_fate k s.words x n within)
      (record { state = st.state; lock = st.lock; xoff = st.xoff; inside = st.inside; bypass = st.bypass }) holds under_way (ap (λ (u : View). u.place) is) under (ap (λ (u : View). u.holder.slot) is) (ap (λ (u : View). u.control) is) refl
      (λ c inside. kept_put b c y t.works below inside keeps)
