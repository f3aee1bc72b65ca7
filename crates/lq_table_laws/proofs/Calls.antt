-- The steps at the state, the run lock and the count of calls inside: each is one move of the machine, or none.
use Rattle.std.proofs.Common.{◌≡◌, ℕ, ◌+◌, ◌*◌, ◌^◌, ◌<◌, Bool, true, false, List, [], set, get_or, refl, sym, ap, ◌∙◌, subst, arith, Option, None}
use Rattle.std.specs.Prelude.{bit_and, bit_or}
use mathlib.Core.Option.{some}
use mathlib.Core.Option as maybe
use lib.ListN.{get_elem?}
use Rattle.lq_device.specs.Station.{StationState}
use Rattle.lq_model.specs.declared.machine.Answer.{Answer}
use Rattle.lq_model.specs.declared.machine.Answer.TheVariants.{Plain}
use Rattle.lq_model.specs.declared.machine.Packet.{Packet}
use Rattle.lq_model.specs.declared.machine.Position.{Position}
use Rattle.lq_model.specs.declared.machine.Position.TheVariants.{Xmit}
use Rattle.lq_model.specs.declared.machine.Seat.{Seat}
use Rattle.lq_model.specs.Machine.{Purge, Qdisc, bit, state_word}
use Rattle.lq_model.specs.declared.machine.Phase.{Phase}
use Rattle.std.specs.Option.{option_map}
use Rattle.lq_model.specs.Positions.{holds_lock, in_hand}
use Rattle.lq_model.specs.Steps.{step_at}
use Rattle.lq_run_core.specs.Progress.{accepted_at, step_cost}
use Rattle.lq_table.specs.Places.{state_place}
use Rattle.lq_table.specs.Views.{View, Setup, machine_packet}
use Rattle.lq_table.specs.Rule.{Words, words_of, account, event_word, is_live, machine_of, Stands, Rule}
use Rattle.lq_table.specs.States.{clear_draining_at, clear_missed_at, clear_sched_at, load_state_view, miss_at, miss_view, set_sched_at, set_sched_view, seen_state, set_draining_at, set_missed_at}
use Rattle.lq_table.specs.Moves.{is_set, pass_view, seen_by}
use Rattle.lq_table.proofs.Bits.{and_draining, and_missed, and_sched, event_small, has_missed, has_sched, or_draining, or_missed, or_sched}
use Rattle.lq_table.proofs.ByName.{set_state}
use Rattle.lq_table.proofs.RecheckKept.{bits_only, seen}
use Rattle.lq_table.proofs.Frames.{Fits, holds_kept}
use Rattle.lq_table.proofs.Shows.{holder_shows}
use Rattle.lq_table_laws.specs.Stands.{Table}
use Rattle.lq_table_laws.specs.Stepped.{Leads, looks_in_call, none_sent}
use Rattle.lq_table_laws.proofs.Determined.{SamePart, bands_still, control_still, had, has, part_still, same_as, slot_by, slot_still}
use Rattle.lq_table_laws.proofs.Fits.{clear_draining_fits, clear_missed_fits, clear_sched_fits, look_fits, miss_fits, none_accepted, schedule_fits, set_draining_fits, set_missed_fits}
use Rattle.lq_table_laws.proofs.Moves.{Alike, by_step, inside, leads_by, leads_nowhere, one_move, place, there}

-- A STEP THAT IS NOT AT THE RINGS

-- what of a view such a step leaves alone
pub record Beside (v w : View) : Type 0 where
  pub part : SamePart w.holder v.holder
  pub first : w.control.first ≡ v.control.first
  pub phase : w.control.phase ≡ v.control.phase
  pub purge : w.control.purge ≡ v.control.purge

-- what of the machine
pub record KeepsLists (q q' : Qdisc) : Type 0 where
  pub bands : q'.bands ≡ q.bands
  pub len : q'.len ≡ q.len
  pub slot : q'.slot ≡ q.slot
  pub phase : q'.phase ≡ q.phase
  pub purge : q'.purge ≡ q.purge

-- what of the words
pub record KeepsRings (w w' : Words) : Type 0 where
  pub slots : w'.slots ≡ w.slots
  pub size : w'.size ≡ w.size

module _ (k : Setup) (s : Table) (r : Rule k s) (i x id : ℕ) (v w : View) (homes : List (maybe.Option (Option StationState)))
    (r' : Rule k (record { words = set s.words i x; homes = homes; views = set s.views id w })) (here : get_elem? s.views id ≡ some v) (live : is_live v ≡ true) (live' : is_live w ≡ true) where
  -- a step of the machine, by what was seen
  pub by_fits : (seen : Qdisc) (answer : Answer) {accepted : List Packet} → accepted_at v.place.position answer ≡ accepted → (q' : Qdisc) → Fits r.qdisc seen answer v.place.position v.place q' → w.place ≡ (step_at v.place.position answer seen v.place).seat → Alike r'.qdisc q'
      → Leads (one_move (step_cost answer) accepted) (machine_of r.qdisc s.views) (machine_of r'.qdisc (set s.views id w))
  by_fits seen answer accepts q' fits to e =
      leads_by s.views id v w here live live' r.qdisc r'.qdisc (step_at v.place.position answer r.qdisc v.place) _
      (by_step r.qdisc _ (place s.views id v w here live live') v.place (inside s.views id v w here live live') (there s.views id v w here live live') answer accepts fits.may)
      (to ∙ fits.seat) (subst (Alike r'.qdisc) (sym fits.words) e) r.parts.machine.invariant.kept.one_holder

  -- the machine after a step beside the rings that leaves the lock to whom it was
  pub alike_still : (q' : Qdisc) (W : Words) (d : Option ℕ) → words_of k (set s.words i x) ≡ W → KeepsRings (words_of k s.words) W → Stands k W q' d → q'.locked ≡ r.qdisc.locked → KeepsLists r.qdisc q'
      → homes ≡ s.homes → holds_lock w.place.position ≡ holds_lock v.place.position → Beside v w → Alike r'.qdisc q'
  alike_still q' W d is rings stands lock lists same holds b =
      let words = same_as k W r'.qdisc q' (account k r'.state).down d (subst (λ (z : Words). Stands k z r'.qdisc (account k r'.state).down) is r'.parts.station.stands) stands in
      let part = part_still k s r i x id v w homes r' here live live' same (words.locked ∙ lock) holds b.part in
      let bands = bands_still k s r i x id v w homes r' here live live' (ap (λ (z : Words). z.slots) is ∙ rings.slots) (ap (λ (z : Words). z.size) is ∙ rings.size) part.ends part.resizing in
      let control = control_still k s r i x id v w homes r' here live live' b.first b.phase b.purge in record {
        words = words;
        bands = bands.0 ∙ sym lists.bands;
        len = bands.1 ∙ sym lists.len;
        slot = slot_still k s r i x id v w homes r' here live live' part.slot ∙ sym lists.slot;
        phase = control.0 ∙ sym lists.phase;
        purge = control.1 ∙ sym lists.purge;
      }

  -- so it is one move
  pub moves_beside : (seen : Qdisc) (answer : Answer) {accepted : List Packet} → accepted_at v.place.position answer ≡ accepted → (q' : Qdisc) (W : Words) (d : Option ℕ) → Fits r.qdisc seen answer v.place.position v.place q' → w.place ≡ (step_at v.place.position answer seen v.place).seat
      → words_of k (set s.words i x) ≡ W → KeepsRings (words_of k s.words) W → Stands k W q' d → q'.locked ≡ r.qdisc.locked → KeepsLists r.qdisc q' → homes ≡ s.homes → Beside v w
      → Leads (one_move (step_cost answer) accepted) (machine_of r.qdisc s.views) (machine_of r'.qdisc (set s.views id w))
  moves_beside seen answer accepts q' W d fits to is rings stands lock lists same b =
      by_fits seen answer accepts q' fits to (alike_still q' W d is rings stands lock lists same (ap (λ (t : Seat). holds_lock t.position) to ∙ holds_kept k s r id v w here live answer seen q' fits lock) b)

  -- a step by which the seat stays where it is
  pub stays_beside : (W : Words) (d : Option ℕ) → words_of k (set s.words i x) ≡ W → KeepsRings (words_of k s.words) W → Stands k W r.qdisc d → homes ≡ s.homes → w.place ≡ v.place → Beside v w
      → Leads (none_sent 0 0) (machine_of r.qdisc s.views) (machine_of r'.qdisc (set s.views id w))
  stays_beside W d is rings stands same to b =
      leads_nowhere s.views id v w here live live' r.qdisc r'.qdisc to
      (alike_still r.qdisc W d is rings stands refl (record { bands = refl; len = refl; slot = refl; phase = refl; purge = refl }) same (ap (λ (t : Seat). holds_lock t.position) to) b)

  -- the machine after a step of the holder beside the rings, with another packet in the requeue slot or none
  pub alike_holder : (q' : Qdisc) (W : Words) (d : Option ℕ) → words_of k (set s.words i x) ≡ W → KeepsRings (words_of k s.words) W → Stands k W q' d → holds_lock v.place.position ≡ true → holds_lock w.place.position ≡ true
      → w.holder.ends ≡ v.holder.ends → w.holder.resizing ≡ v.holder.resizing → option_map (machine_packet k.infos) w.holder.slot ≡ q'.slot → w.control.first ≡ v.control.first → w.control.phase ≡ v.control.phase → w.control.purge ≡ v.control.purge
      → ◌≡◌ {A = List (List Packet) × ℕ × Phase × Option Purge} (q'.bands, q'.len, q'.phase, q'.purge) (r.qdisc.bands, r.qdisc.len, r.qdisc.phase, r.qdisc.purge) → Alike r'.qdisc q'
  alike_holder q' W d is rings stands holds holds' ends resizing slot first phase purge lists =
      let words = same_as k W r'.qdisc q' (account k r'.state).down d (subst (λ (z : Words). Stands k z r'.qdisc (account k r'.state).down) is r'.parts.station.stands) stands in
      let was = had k s r i x id v w homes r' here live live' holds in let now = has k s r i x id v w homes r' here live live' holds' in
      let bands = bands_still k s r i x id v w homes r' here live live' (ap (λ (z : Words). z.slots) is ∙ rings.slots) (ap (λ (z : Words). z.size) is ∙ rings.size) (now.ends ∙ (ends ∙ was.ends)) (now.resizing ∙ (resizing ∙ was.resizing)) in
      let control = control_still k s r i x id v w homes r' here live live' first phase purge in record {
        words = words;
        bands = bands.0 ∙ sym (ap (λ z. z.0) lists);
        len = bands.1 ∙ sym (ap (λ z. z.1) lists);
        slot = slot_by k s r i x id v w homes r' here live live' w.holder.slot now.slot ∙ slot;
        phase = control.0 ∙ sym (ap (λ z. z.2) lists);
        purge = control.1 ∙ sym (ap (λ z. z.3) lists);
      }

-- THE STATE

module _ (k : Setup) (s : Table) (r : Rule k s) (x id : ℕ) (v : View) (homes : List (maybe.Option (Option StationState))) (here : get_elem? s.views id ≡ some v) (live : is_live v ≡ true) (same : homes ≡ s.homes) where
  abbrev q : Qdisc
  q = r.qdisc

  abbrev e : ℕ
  e = event_word (account k r.state).down

  abbrev Next : (w : View) → Type 0
  Next w = Rule k (record { words = set s.words state_place x; homes = homes; views = set s.views id w })

  state_is : words_of k (set s.words state_place x) ≡ record (words_of k s.words) { state = x }
  state_is = set_state k s.words x (let wide = r.wide in omega arith)

  below : get_or s.words state_place 0 < 18446744073709551616 → e < 2 ^ 56
  below small = event_small q e (let is = r.parts.station.stands.state in omega arith)

  -- the bits of the state are changed, by a step that looks at nothing but them
  bits_move : (w : View) (r' : Next w) → accepted_at v.place.position Plain ≡ [] → (seen q' : Qdisc) → Fits q seen Plain v.place.position v.place q' → w.place ≡ (step_at v.place.position Plain seen v.place).seat → is_live w ≡ true → x ≡ state_word q' + 256 * e
      → ◌≡◌ {A = Qdisc} (record q' { sched = q.sched; missed = q.missed; draining = q.draining }) q → Beside v w → Leads (none_sent 1 0) (machine_of q s.views) (machine_of r'.qdisc (set s.views id w))
  bits_move w r' none seen q' fits to live' word rest b = let t = r.parts.station.stands in
      moves_beside k s r state_place x id v w homes r' here live live' seen Plain none q' (record (words_of k s.words) { state = x }) (account k r.state).down fits to state_is (record { slots = refl; size = refl })
      (record { state = word; lock = t.lock ∙ sym (ap (λ (z : Qdisc). bit z.locked) rest); xoff = ap (λ (z : Qdisc). z.xoff) rest ∙ t.xoff; inside = t.inside ∙ sym (ap (λ (z : Qdisc). z.inside) rest); bypass = ap (λ (z : Qdisc). z.bypass) rest ∙ t.bypass })
      (ap (λ (z : Qdisc). z.locked) rest)
      (record { bands = ap (λ (z : Qdisc). z.bands) rest; len = ap (λ (z : Qdisc). z.len) rest; slot = ap (λ (z : Qdisc). z.slot) rest; phase = ap (λ (z : Qdisc). z.phase) rest; purge = ap (λ (z : Qdisc). z.purge) rest })
      same b

  -- the view is as the step tells
  bits_told : (w told : View) (r' : Next w) → w ≡ told → accepted_at v.place.position Plain ≡ [] → (seen q' : Qdisc) → Fits q seen Plain v.place.position v.place q' → told.place ≡ (step_at v.place.position Plain seen v.place).seat → is_live told ≡ true → x ≡ state_word q' + 256 * e
      → ◌≡◌ {A = Qdisc} (record q' { sched = q.sched; missed = q.missed; draining = q.draining }) q → Beside v told → Leads (none_sent 1 0) (machine_of q s.views) (machine_of r'.qdisc (set s.views id w))
  bits_told w told r' is none seen q' fits to lives word rest b =
      bits_move w r' none seen q' fits (ap (λ (u : View). u.place) is ∙ to) (ap is_live is ∙ lives) word rest (subst (Beside v) (sym is) b)

  abbrev n : ℕ
  n = get_or s.words state_place 0

  -- the seat isn't at the device
  calm : (at : Position → Bool) → ((p : Packet) (direct : Bool) → at (Xmit p direct) ≡ false) → at v.place.position ≡ true → accepted_at v.place.position Plain ≡ []
  calm at elsewhere is = none_accepted at elsewhere v.place.position Plain is

  -- a load of the state, in a call
  pub looks : (w told : View) (r' : Next w) → w ≡ told → x ≡ n → looks_in_call v.place.position ≡ true → told.place ≡ (load_state_view n v).place → is_live told ≡ true → Beside v told
      → Leads (none_sent 1 0) (machine_of q s.views) (machine_of r'.qdisc (set s.views id w))
  looks w told r' is word at to lives b =
      let same_seen : seen_state (seen_by v) v.share.about.bypass n ≡ bits_only (seen_by v) q = seen k s r (seen_by v) v.share.about.bypass (ap (λ (z : Setup). z.bypass) (r.parts.seats.shares.about id v here live)) in
      bits_told w told r' is (calm looks_in_call (λ p direct. refl) at) (seen_state (seen_by v) v.share.about.bypass n) q
      (subst (λ (z : Qdisc). Fits q z Plain v.place.position v.place q) (sym same_seen) (look_fits (seen_by v) q v.place.position v.place (holder_shows k s r id v here live) at))
      to lives (word ∙ r.parts.station.stands.state) refl b

  pub clears_missed_move : (w : View) (r' : Next w) → w ≡ pass_view v → x ≡ bit_and n 18446744073709551611 → n < 18446744073709551616 → clear_missed_at v.place.position ≡ true
      → Leads (none_sent 1 0) (machine_of q s.views) (machine_of r'.qdisc (set s.views id w))
  clears_missed_move w r' is word small at = bits_told w (pass_view v) r' is (calm clear_missed_at (λ p direct. refl) at) (seen_by v) (record q { missed = false }) (clear_missed_fits (seen_by v) q v.place.position v.place at) refl live
      (word ∙ (ap (λ (z : ℕ). bit_and z 18446744073709551611) r.parts.station.stands.state ∙ and_missed q.sched q.deactivated q.missed q.draining e (below small))) refl
      (record { part = record { ends = refl; slot = refl; resizing = refl }; first = refl; phase = refl; purge = refl })

  pub clears_draining_move : (w : View) (r' : Next w) → w ≡ pass_view v → x ≡ bit_and n 18446744073709551607 → n < 18446744073709551616 → clear_draining_at v.place.position ≡ true
      → Leads (none_sent 1 0) (machine_of q s.views) (machine_of r'.qdisc (set s.views id w))
  clears_draining_move w r' is word small at = bits_told w (pass_view v) r' is (calm clear_draining_at (λ p direct. refl) at) (seen_by v) (record q { draining = false }) (clear_draining_fits (seen_by v) q v.place.position v.place at) refl live
      (word ∙ (ap (λ (z : ℕ). bit_and z 18446744073709551607) r.parts.station.stands.state ∙ and_draining q.sched q.deactivated q.missed q.draining e (below small))) refl
      (record { part = record { ends = refl; slot = refl; resizing = refl }; first = refl; phase = refl; purge = refl })

  pub clears_sched_move : (w : View) (r' : Next w) → w ≡ pass_view v → x ≡ bit_and n 18446744073709551614 → n < 18446744073709551616 → clear_sched_at v.place.position ≡ true
      → Leads (none_sent 1 0) (machine_of q s.views) (machine_of r'.qdisc (set s.views id w))
  clears_sched_move w r' is word small at = bits_told w (pass_view v) r' is (calm clear_sched_at (λ p direct. refl) at) (seen_by v) (record q { sched = false }) (clear_sched_fits (seen_by v) q v.place.position v.place at) refl live
      (word ∙ (ap (λ (z : ℕ). bit_and z 18446744073709551614) r.parts.station.stands.state ∙ and_sched q.sched q.deactivated q.missed q.draining e (below small))) refl
      (record { part = record { ends = refl; slot = refl; resizing = refl }; first = refl; phase = refl; purge = refl })

  -- a holder with nothing in hand sets a bit
  pub sets_missed_move : (w : View) (r' : Next w) → w ≡ pass_view v → x ≡ bit_or n 4 → set_missed_at v.place.position ≡ true → in_hand v.place.position ≡ None
      → Leads (none_sent 1 0) (machine_of q s.views) (machine_of r'.qdisc (set s.views id w))
  sets_missed_move w r' is word at bare = bits_told w (pass_view v) r' is (calm set_missed_at (λ p direct. refl) at) (seen_by v) (record q { missed = true }) (set_missed_fits (seen_by v) q v.place.position v.place at bare) refl live
      (word ∙ (ap (λ (z : ℕ). bit_or z 4) r.parts.station.stands.state ∙ or_missed q.sched q.deactivated q.missed q.draining e)) refl
      (record { part = record { ends = refl; slot = refl; resizing = refl }; first = refl; phase = refl; purge = refl })

  pub sets_draining_move : (w : View) (r' : Next w) → w ≡ pass_view v → x ≡ bit_or n 8 → set_draining_at v.place.position ≡ true → in_hand v.place.position ≡ None
      → Leads (none_sent 1 0) (machine_of q s.views) (machine_of r'.qdisc (set s.views id w))
  sets_draining_move w r' is word at bare = bits_told w (pass_view v) r' is (calm set_draining_at (λ p direct. refl) at) (seen_by v) (record q { draining = true }) (set_draining_fits (seen_by v) q v.place.position v.place at bare) refl live
      (word ∙ (ap (λ (z : ℕ). bit_or z 8) r.parts.station.stands.state ∙ or_draining q.sched q.deactivated q.missed q.draining e)) refl
      (record { part = record { ends = refl; slot = refl; resizing = refl }; first = refl; phase = refl; purge = refl })

  -- MISSED is set, and was set before or not; a look that finds it set is the same
  pub misses_move : (w : View) (r' : Next w) (was : Bool) → w ≡ miss_view was v → was ≡ is_set 4 n → x ≡ bit_or n 4 → miss_at v.place.position ≡ true
      → Leads (none_sent 1 0) (machine_of q s.views) (machine_of r'.qdisc (set s.views id w))
  misses_move w r' was is found word at = let t = r.parts.station.stands in
      bits_told w (miss_view was v) r' is (calm miss_at (λ p direct. refl) at) (record (seen_by v) { missed = was }) (record q { missed = true })
      (miss_fits _ q (found ∙ (ap (is_set 4) t.state ∙ has_missed q.sched q.deactivated q.missed q.draining e)) v.place.position v.place at) refl live
      (word ∙ (ap (λ (z : ℕ). bit_or z 4) t.state ∙ or_missed q.sched q.deactivated q.missed q.draining e)) refl
      (record { part = record { ends = refl; slot = refl; resizing = refl }; first = refl; phase = refl; purge = refl })

  -- a look that finds MISSED set
  pub finds_missed_move : (w : View) (r' : Next w) → w ≡ miss_view true v → is_set 4 n ≡ true → x ≡ n → miss_at v.place.position ≡ true
      → Leads (none_sent 1 0) (machine_of q s.views) (machine_of r'.qdisc (set s.views id w))
  finds_missed_move w r' is found word at = let t = r.parts.station.stands in
      let missed : q.missed ≡ true = sym (ap (is_set 4) t.state ∙ has_missed q.sched q.deactivated q.missed q.draining e) ∙ found in
      bits_told w (miss_view true v) r' is (calm miss_at (λ p direct. refl) at) (record (seen_by v) { missed = true }) (record q { missed = true }) (miss_fits _ q (sym missed) v.place.position v.place at) refl live
      (word ∙ (t.state ∙ (λ j. state_word (record q { missed = missed j }) + 256 * e))) refl
      (record { part = record { ends = refl; slot = refl; resizing = refl }; first = refl; phase = refl; purge = refl })

  pub schedules_move : (w : View) (r' : Next w) → w ≡ set_sched_view (is_set 1 n) v → x ≡ bit_or n 1 → set_sched_at v.place.position ≡ true
      → Leads (none_sent 1 0) (machine_of q s.views) (machine_of r'.qdisc (set s.views id w))
  schedules_move w r' is word at = let t = r.parts.station.stands in
      bits_told w (set_sched_view (is_set 1 n) v) r' is (calm set_sched_at (λ p direct. refl) at) (record (seen_by v) { sched = is_set 1 n }) (record q { sched = true })
      (schedule_fits _ q (ap (is_set 1) t.state ∙ has_sched q.sched q.deactivated q.missed q.draining e) v.place.position v.place at) refl live
      (word ∙ (ap (λ (z : ℕ). bit_or z 1) t.state ∙ or_sched q.sched q.deactivated q.missed q.draining e)) refl
      (record { part = record { ends = refl; slot = refl; resizing = refl }; first = refl; phase = refl; purge = refl })
