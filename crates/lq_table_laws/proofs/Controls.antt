-- The steps of control at the words of the run lock, of the state and of the calls inside.
use Rattle.std.proofs.Common.{◌≡◌, ℕ, ◌+◌, ◌*◌, ◌^◌, ◌<◌, Bool, true, false, true≢false, List, [], ◌∷◌, length-set, set, get_or, get_or-set_same, refl, sym, ap, ap₂, ◌∙◌, subst, arith, Option, Some, None}
use Rattle.std.specs.Prelude.{if◌then◌else◌, ◌&&◌, bit_and, bit_or, is_none, is_some, nat_lt, not}
use mathlib.Core.Option.{some, none}
use mathlib.Core.Option as maybe
use lib.ListN.{get_elem?}
use Rattle.lq_device.specs.Station.{StationState}
use Rattle.lq_model.specs.declared.machine.Beginning.TheVariants.{Controls}
use Rattle.lq_model.specs.declared.machine.ControlStep.{ControlStep}
use Rattle.lq_model.specs.declared.machine.ControlStep.TheVariants.{ClearDeactivated, GetLock, LoadInside, PurgeDraining, PurgeMissed, Release, Return, RunEnd, SetDeactivated}
use Rattle.lq_model.specs.declared.machine.Phase.{Phase}
use Rattle.lq_model.specs.declared.machine.Phase.TheVariants.{Active, Closing, Purged}
use Rattle.lq_model.specs.declared.machine.Position.{Position}
use Rattle.lq_model.specs.declared.machine.Position.TheVariants.{Control, Idle, Tail}
use Rattle.lq_model.specs.declared.machine.Seat.{Seat}
use Rattle.lq_model.specs.Control.{after_purge, control_at, found_inside, holds_as_control, is_after_bands, is_control, is_purged_phase, is_sole, may_control, purge_missed, purge_draining}
use Rattle.lq_model.specs.Machine.{Purge, Qdisc, bit, idle_seat, is_closed, state_word}
use Rattle.lq_model.specs.Positions.{holds_lock}
use Rattle.lq_model.specs.Steps.{is_idle}
use Rattle.lq_run_core.specs.Progress.{Course}
use Rattle.lq_table.specs.Controls.{MayDeactivate, begin_control_view, set_deactivated_view, clear_deactivated_view, end_control_view}
use Rattle.lq_table.specs.Inside.{load_inside_view}
use Rattle.lq_table.specs.Purges.{no_draining, no_missed, purge_ending, purge_going, reset_draining_view, reset_draining_view_in, reset_missed_view, reset_missed_view_in}
use Rattle.lq_table.specs.Places.{inside_place, lock_place, state_place}
use Rattle.lq_table.specs.Views.{FirstPart, HolderPart, Setup, View}
use Rattle.lq_table.specs.Rule.{Words, words_of, account, event_word, holders, is_live, machine_of, seats_of, shown, IsResting, Rule, Stands}
use Rattle.lq_table.specs.Locks.{try_lock_view_in_control, unlock_view_in_control}
use Rattle.lq_table.proofs.Bits.{and_draining, and_event, and_missed, event_small, or_event}
use Rattle.lq_table.proofs.ByName.{set_back, set_lock, set_state}
use Rattle.lq_table_laws.specs.Stands.{Table}
use Rattle.lq_table_laws.specs.Stepped.{Leads, none_sent, of_control}
use Rattle.lq_table_laws.proofs.Calls.{Beside, KeepsRings, alike_still}
use Rattle.lq_table_laws.proofs.Determined.{SamePart, bands_still, bit_same, had, has, now, part_by, part_still, same_as, shown_tells, slot_still}
use Rattle.lq_table_laws.proofs.Locks.{one_home, one_station}
use Rattle.lq_table_laws.proofs.Moves.{Alike, by_control, by_start, inside, leads_by, leads_twice, place, still_serves, there}

module _ (k : Setup) (s : Table) (r : Rule k s) (i x id : ℕ) (v w : View) (homes : List (maybe.Option (Option StationState)))
    (r' : Rule k (record { words = set s.words i x; homes = homes; views = set s.views id w })) (here : get_elem? s.views id ≡ some v) (live : is_live v ≡ true) (live' : is_live w ≡ true) where
  abbrev q : Qdisc
  q = r.qdisc

  abbrev W : Words
  W = words_of k s.words

  -- a step of control is one move
  pub control_move : (step : ControlStep) (holds : Bool) → v.place.position ≡ Control holds → may_control step (is_sole (machine_of q s.views)) holds q ≡ true → w.place ≡ (control_at step holds q v.place).seat
      → Alike r'.qdisc (control_at step holds q v.place).qdisc → Leads (of_control 1 18) (machine_of q s.views) (machine_of r'.qdisc (set s.views id w))
  control_move step holds at may to e =
      leads_by s.views id v w here live live' q r'.qdisc (control_at step holds q v.place) (of_control 1 18)
      (by_control q (seats_of s.views) (place s.views id v w here live live') v.place (inside s.views id v w here live live') (there s.views id v w here live live') step holds (ap is_control at) (ap holds_as_control at) may) to e r.parts.machine.invariant.kept.one_holder

  -- the first seat does control, and knows how far it has come
  is_first : (holds : Bool) → v.place.position ≡ Control holds → v.control.first ≡ true
  is_first holds at = r.parts.machine.firsts.control id v here live (ap is_control at)

  pub phase_is : v.control.first ≡ true → v.control.phase ≡ q.phase
  phase_is first = (r.parts.machine.firsts.knows id v here first).0

  pub purge_is : v.control.first ≡ true → v.control.purge ≡ q.purge
  purge_is first = (r.parts.machine.firsts.knows id v here first).1

  -- the machine after a step of the first seat that leaves the lists alone
  pub alike_first : (q' : Qdisc) (W' : Words) (d : Option ℕ) → v.control.first ≡ true → w.control.first ≡ v.control.first → words_of k (set s.words i x) ≡ W' → KeepsRings W W' → Stands k W' q' d
      → SamePart (holders r'.state (account k r'.state) (words_of k (set s.words i x)).size) (holders r.state (account k r.state) W.size) → q'.bands ≡ q.bands → q'.len ≡ q.len → q'.slot ≡ q.slot
      → w.control.phase ≡ q'.phase → w.control.purge ≡ q'.purge → Alike r'.qdisc q'
  alike_first q' W' d first same_first is rings stands part bands len slot phase purge =
      let words = same_as k W' r'.qdisc q' (account k r'.state).down d (subst (λ (z : Words). Stands k z r'.qdisc (account k r'.state).down) is r'.parts.station.stands) stands in
      let lists = bands_still k s r i x id v w homes r' here live live' (ap (λ (z : Words). z.slots) is ∙ rings.slots) (ap (λ (z : Words). z.size) is ∙ rings.size) part.ends part.resizing in
      let knows = r'.parts.machine.firsts.knows id w (now k s r i x id v w homes r' here live live') (same_first ∙ first) in record {
        words = words;
        bands = lists.0 ∙ sym bands;
        len = lists.1 ∙ sym len;
        slot = slot_still k s r i x id v w homes r' here live live' part.slot ∙ sym slot;
        phase = sym knows.0 ∙ phase;
        purge = sym knows.1 ∙ purge;
      }

  -- and it has the run lock as before
  pub alike_there : (q' : Qdisc) (W' : Words) (d : Option ℕ) → v.control.first ≡ true → w.control.first ≡ v.control.first → words_of k (set s.words i x) ≡ W' → KeepsRings W W' → Stands k W' q' d → homes ≡ s.homes → q'.locked ≡ q.locked
      → holds_lock w.place.position ≡ holds_lock v.place.position → SamePart w.holder v.holder → q'.bands ≡ q.bands → q'.len ≡ q.len → q'.slot ≡ q.slot → w.control.phase ≡ q'.phase → w.control.purge ≡ q'.purge → Alike r'.qdisc q'
  alike_there q' W' d first same_first is rings stands same lock holds mine bands len slot phase purge =
      let words = same_as k W' r'.qdisc q' (account k r'.state).down d (subst (λ (z : Words). Stands k z r'.qdisc (account k r'.state).down) is r'.parts.station.stands) stands in
      alike_first q' W' d first same_first is rings stands (part_still k s r i x id v w homes r' here live live' same (words.locked ∙ lock) holds mine) bands len slot phase purge

  back : x ≡ get_or s.words i 0 → words_of k (set s.words i x) ≡ W
  back word = ap (λ (z : ℕ). words_of k (set s.words i z)) word ∙ set_back k s.words i

  -- A CALL OF CONTROL BEGINS, AND ENDS

  pub begin_move : w ≡ begin_control_view v → homes ≡ s.homes → x ≡ get_or s.words i 0 → v.place.position ≡ Idle → Leads (none_sent 1 1) (machine_of q s.views) (machine_of r'.qdisc (set s.views id w))
  begin_move is same word at =
      leads_by s.views id v w here live live' q r'.qdisc (record { qdisc = q; seat = record v.place { position = Control false } }) (none_sent 1 1)
      (by_start q (seats_of s.views) (place s.views id v w here live live') v.place (inside s.views id v w here live live') (there s.views id v w here live live') Controls (ap is_idle at) tt) (ap (λ (u : View). u.place) is)
      (alike_still k s r i x id v w homes r' here live live' q W (account k r.state).down (back word) (record { slots = refl; size = refl }) r.parts.station.stands refl (record { bands = refl; len = refl; slot = refl; phase = refl; purge = refl }) same
      (ap (λ (u : View). holds_lock u.place.position) is ∙ sym (ap holds_lock at)) (subst (Beside v) (sym is) record { part = record { ends = refl; slot = refl; resizing = refl }; first = refl; phase = refl; purge = refl })) r.parts.machine.invariant.kept.one_holder

  pub return_move : w ≡ end_control_view v → homes ≡ s.homes → x ≡ get_or s.words i 0 → v.place.position ≡ Control false → Leads (of_control 1 18) (machine_of q s.views) (machine_of r'.qdisc (set s.views id w))
  return_move is same word at =
      control_move Return false at refl (ap (λ (u : View). u.place) is)
      (alike_still k s r i x id v w homes r' here live live' q W (account k r.state).down (back word) (record { slots = refl; size = refl }) r.parts.station.stands refl (record { bands = refl; len = refl; slot = refl; phase = refl; purge = refl }) same
      (ap (λ (u : View). holds_lock u.place.position) is ∙ sym (ap holds_lock at)) (subst (Beside v) (sym is) record { part = record { ends = refl; slot = refl; resizing = refl }; first = refl; phase = refl; purge = refl }))

  -- THE CALLS INSIDE

  pub find_move : (holds : Bool) → w ≡ load_inside_view (get_or s.words i 0) v → homes ≡ s.homes → x ≡ get_or s.words i 0 → i ≡ inside_place → v.place.position ≡ Control holds → Leads (of_control 1 18) (machine_of q s.views) (machine_of r'.qdisc (set s.views id w))
  find_move holds is same word at_place at =
      let first = is_first holds at in let t = r.parts.station.stands in let q' : Qdisc = record q { phase = found_inside q.inside q.phase } in
      let found : get_or s.words i 0 ≡ q.inside = ap (λ (z : ℕ). get_or s.words z 0) at_place ∙ t.inside in
      control_move LoadInside holds at refl (ap (λ (u : View). u.place) is ∙ ap (λ (z : Position). record v.place { position = z }) at)
      (alike_there q' W (account k r.state).down first (ap (λ (u : View). u.control.first) is) (back word) (record { slots = refl; size = refl }) (record { state = t.state; lock = t.lock; xoff = t.xoff; inside = t.inside; bypass = t.bypass }) same refl
      (ap (λ (u : View). holds_lock u.place.position) is) (subst (λ (u : View). SamePart u.holder v.holder) (sym is) record { ends = refl; slot = refl; resizing = refl }) refl refl refl
      (ap (λ (u : View). u.control.phase) is ∙ ap₂ found_inside found (phase_is first)) (ap (λ (u : View). u.control.purge) is ∙ purge_is first))

-- THE STATE

-- a purge that clears a bit leaves the seat its shares
either_live : (b : Bool) (v w w' : View) → is_live w ≡ is_live v → is_live w' ≡ is_live v → is_live (if b then w else w') ≡ is_live v
either_live true v w w' e e' = e
either_live false v w w' e e' = e'

pub reset_missed_live : (o : Option Purge) (v : View) → is_live (reset_missed_view_in o v) ≡ is_live v
reset_missed_live None v = refl
reset_missed_live (Some u) v = either_live u.draining v (purge_ending no_missed v) (purge_going no_missed (record u { missed = true }) v) refl refl

pub reset_draining_live : (o : Option Purge) (v : View) → is_live (reset_draining_view_in o v) ≡ is_live v
reset_draining_live None v = refl
reset_draining_live (Some u) v = either_live u.missed v (purge_ending no_draining v) (purge_going no_draining (record u { draining = true }) v) refl refl

module _ (k : Setup) (s : Table) (r : Rule k s) (x id : ℕ) (v w : View) (homes : List (maybe.Option (Option StationState)))
    (r' : Rule k (record { words = set s.words state_place x; homes = homes; views = set s.views id w })) (here : get_elem? s.views id ≡ some v) (live : is_live v ≡ true) (live' : is_live w ≡ true) (same : homes ≡ s.homes) where
  abbrev Goal : Course → Type 0
  Goal c = Leads c (machine_of r.qdisc s.views) (machine_of r'.qdisc (set s.views id w))

  abbrev n : ℕ
  n = get_or s.words state_place 0

  abbrev e : ℕ
  e = event_word (account k r.state).down

  state_is : words_of k (set s.words state_place x) ≡ record (words_of k s.words) { state = x }
  state_is = set_state k s.words x (let wide = r.wide in omega arith)

  below : n < 18446744073709551616 → e < 2 ^ 56
  below small = event_small r.qdisc e (let is = r.parts.station.stands.state in omega arith)

  -- a bit is changed, and perhaps how far control has come
  alike_state : (q' : Qdisc) (d : Option ℕ) → v.control.first ≡ true → w.control.first ≡ v.control.first → x ≡ state_word q' + 256 * event_word d
      → ◌≡◌ {A = Qdisc} (record q' { sched = r.qdisc.sched; deactivated = r.qdisc.deactivated; missed = r.qdisc.missed; draining = r.qdisc.draining; phase = r.qdisc.phase; purge = r.qdisc.purge }) r.qdisc
      → holds_lock w.place.position ≡ holds_lock v.place.position → SamePart w.holder v.holder → w.control.phase ≡ q'.phase → w.control.purge ≡ q'.purge → Alike r'.qdisc q'
  alike_state q' d first same_first word rest holds mine phase purge = let t = r.parts.station.stands in
      alike_there k s r state_place x id v w homes r' here live live' q' (record (words_of k s.words) { state = x }) d first same_first state_is (record { slots = refl; size = refl })
      (record { state = word; lock = t.lock ∙ sym (ap (λ (z : Qdisc). bit z.locked) rest); xoff = ap (λ (z : Qdisc). z.xoff) rest ∙ t.xoff; inside = t.inside ∙ sym (ap (λ (z : Qdisc). z.inside) rest); bypass = ap (λ (z : Qdisc). z.bypass) rest ∙ t.bypass })
      same (ap (λ (z : Qdisc). z.locked) rest) holds mine (ap (λ (z : Qdisc). z.bands) rest) (ap (λ (z : Qdisc). z.len) rest) (ap (λ (z : Qdisc). z.slot) rest) phase purge

  -- DEACTIVATED is set
  deactivates : (event : ℕ) → w ≡ set_deactivated_view event v → x ≡ bit_or n (2 + 256 * (event + 1)) → MayDeactivate v → holds_lock v.place.position ≡ false
      → (r.qdisc.deactivated ≡ false) × (r.qdisc.purge ≡ None) × Alike r'.qdisc (record r.qdisc { deactivated = true; phase = Closing })
  deactivates event is word may free =
      let q = r.qdisc in let phase : q.phase ≡ Active = sym (phase_is k s r state_place x id v w homes r' here live live' may.0) ∙ may.1 in
      let no_purge : q.purge ≡ None = sym (purge_is k s r state_place x id v w homes r' here live live' may.0) ∙ may.2 in
      let active : q.deactivated ≡ false = r.parts.machine.invariant.deactivation ∙ ap is_closed phase in
      let nothing : (account k r.state).down ≡ None = none_down (account k r.state).down (sym r.parts.station.ties.down ∙ active) in
      let was : n ≡ state_word (record q { deactivated = false }) + 256 * 0 = r.parts.station.stands.state ∙ ap₂ (λ (b : Bool) (m : Option ℕ). state_word (record q { deactivated = b }) + 256 * event_word m) active nothing in (
        active,
        no_purge,
        alike_state (record q { deactivated = true; phase = Closing }) (Some event) may.0 (ap (λ (u : View). u.control.first) is)
            (word ∙ (ap (λ (z : ℕ). bit_or z (2 + 256 * (event + 1))) was ∙ or_event q.sched q.missed q.draining (event + 1))) refl
            (ap (λ (u : View). holds_lock u.place.position) is ∙ sym free) (subst (λ (u : View). SamePart u.holder v.holder) (sym is) record { ends = refl; slot = refl; resizing = refl })
            (ap (λ (u : View). u.control.phase) is) (ap (λ (u : View). u.control.purge) is ∙ (may.2 ∙ sym no_purge)),
      )
    where
      none_down : (o : Option ℕ) → is_some o ≡ false → o ≡ None
      none_down None e = refl
      none_down (Some y) e = absurd (true≢false e)

  pub deactivate_move : (event : ℕ) → w ≡ set_deactivated_view event v → x ≡ bit_or n (2 + 256 * (event + 1)) → MayDeactivate v → v.place.position ≡ Control false → Goal (of_control 1 18)
  deactivate_move event is word may at = let d = deactivates event is word may (ap holds_lock at) in
      control_move k s r state_place x id v w homes r' here live live' SetDeactivated false at (ap₂ (λ (b : Bool) (p : Option Purge). not b && is_none p) d.0 d.1) (ap (λ (u : View). u.place) is) d.2

  -- it is cleared after the purge
  pub activate_move : w ≡ clear_deactivated_view v → x ≡ bit_and n 13 → v.place.position ≡ Control false → v.control.phase ≡ Purged → v.control.purge ≡ None → Goal (of_control 1 18)
  activate_move is word at purged calm =
      let q = r.qdisc in let first = r.parts.machine.firsts.control id v here live (ap is_control at) in let q' : Qdisc = record q { deactivated = false; phase = Active } in
      let phase : q.phase ≡ Purged = sym (phase_is k s r state_place x id v w homes r' here live live' first) ∙ purged in let no_purge : q.purge ≡ None = sym (purge_is k s r state_place x id v w homes r' here live live' first) ∙ calm in
      control_move k s r state_place x id v w homes r' here live live' ClearDeactivated false at (ap₂ (λ (p : Option Purge) (f : Phase). is_none p && is_purged_phase f) no_purge phase) (ap (λ (u : View). u.place) is ∙ ap (λ (z : Position). record v.place { position = z }) at)
      (alike_state q' None first (ap (λ (u : View). u.control.first) is)
      (word ∙ (ap (λ (z : ℕ). bit_and z 13) r.parts.station.stands.state ∙ and_event q.sched q.deactivated q.missed q.draining e)) refl
      (ap (λ (u : View). holds_lock u.place.position) is) (subst (λ (u : View). SamePart u.holder v.holder) (sym is) record { ends = refl; slot = refl; resizing = refl })
      (ap (λ (u : View). u.control.phase) is) (ap (λ (u : View). u.control.purge) is ∙ (calm ∙ sym no_purge)))

  -- from no call: the call of control begins with it
  pub deactivate_moves : (event : ℕ) → w ≡ set_deactivated_view event v → x ≡ bit_or n (2 + 256 * (event + 1)) → MayDeactivate v → v.place.position ≡ Idle → Goal (of_control 2 19)
  deactivate_moves event is word may at =
      let d = deactivates event is word may (ap holds_lock at) in let i = place s.views id v w here live live' in let seats : List Seat = seats_of s.views in let inside_ = inside s.views id v w here live live' in
      let begun_ : Seat = record v.place { position = Control false } in let q = r.qdisc in
      let first = by_start q seats i v.place inside_ (there s.views id v w here live live') Controls (ap is_idle at) tt in
      let second = by_control q (set seats i begun_) i begun_ (let l = length-set seats i begun_ in omega arith) (get_or-set_same seats i begun_ idle_seat inside_) SetDeactivated false refl refl
      (ap₂ (λ (b : Bool) (p : Option Purge). not b && is_none p) d.0 d.1) in
      leads_twice s.views id v w here live live' q r'.qdisc (record { qdisc = q; seat = begun_ }) (record { qdisc = record q { deactivated = true; phase = Closing }; seat = begun_ }) (none_sent 1 1) (of_control 1 18) first second (ap (λ (u : View). u.place) is) d.2
      r.parts.machine.invariant.kept.one_holder (still_serves q seats i v.place begun_ inside_ (there s.views id v w here live live') (ap holds_lock at) refl)

  -- A PURGE CLEARS THE BITS

  pub reset_missed_move : (u : Purge) → w ≡ reset_missed_view v → x ≡ bit_and n 18446744073709551611 → n < 18446744073709551616 → v.place.position ≡ Control true → v.control.purge ≡ Some u → not (nat_lt u.band 3) ≡ true → Goal (of_control 1 18)
  reset_missed_move u is word small at under_way passed =
      let q = r.qdisc in let first = r.parts.machine.firsts.control id v here live (ap is_control at) in let phase = phase_is k s r state_place x id v w homes r' here live live' first in
      let purge : q.purge ≡ Some u = sym (purge_is k s r state_place x id v w homes r' here live live' first) ∙ under_way in
      let told : w ≡ reset_missed_view_in (Some u) v = is ∙ ap (λ (o : Option Purge). reset_missed_view_in o v) under_way in
      let bits : x ≡ state_word (record q { missed = false }) + 256 * e = word ∙ (ap (λ (z : ℕ). bit_and z 18446744073709551611) r.parts.station.stands.state ∙ and_missed q.sched q.deactivated q.missed q.draining e (below small)) in
      by u.draining refl told bits purge phase first
    where
      by : (b : Bool) → u.draining ≡ b → w ≡ reset_missed_view_in (Some u) v → x ≡ state_word (record r.qdisc { missed = false }) + 256 * e → r.qdisc.purge ≡ Some u → v.control.phase ≡ r.qdisc.phase → v.control.first ≡ true → Goal (of_control 1 18)
      by true both told bits purge phase first = let q = r.qdisc in let is' : w ≡ purge_ending no_missed v = told ∙ ap (λ (b : Bool). if b then purge_ending no_missed v else purge_going no_missed (record u { missed = true }) v) both in
          let q' : Qdisc = record q { missed = false; purge = None; phase = after_purge q.phase } in
          let leads : purge_missed q.purge q ≡ q' = ap (λ (o : Option Purge). purge_missed o q) purge ∙ ap (λ (b : Bool). if b then q' else record q { missed = false; purge = Some (record u { missed = true }) }) both in
          control_move k s r state_place x id v w homes r' here live live' PurgeMissed true at (ap is_after_bands purge ∙ passed) (ap (λ (y : View). y.place) is' ∙ ap (λ (z : Position). record v.place { position = z }) at)
          (subst (Alike r'.qdisc) (sym leads) (alike_state q' (account k r.state).down first (ap (λ (y : View). y.control.first) is') bits refl (ap (λ (y : View). holds_lock y.place.position) is')
          (subst (λ (y : View). SamePart y.holder v.holder) (sym is') record { ends = refl; slot = refl; resizing = refl }) (ap (λ (y : View). y.control.phase) is' ∙ ap after_purge phase) (ap (λ (y : View). y.control.purge) is')))
      by false one told bits purge phase first = let q = r.qdisc in let is' : w ≡ purge_going no_missed (record u { missed = true }) v = told ∙ ap (λ (b : Bool). if b then purge_ending no_missed v else purge_going no_missed (record u { missed = true }) v) one in
          let q' : Qdisc = record q { missed = false; purge = Some (record u { missed = true }) } in
          let leads : purge_missed q.purge q ≡ q' = ap (λ (o : Option Purge). purge_missed o q) purge ∙ ap (λ (b : Bool). if b then record q { missed = false; purge = None; phase = after_purge q.phase } else q') one in
          control_move k s r state_place x id v w homes r' here live live' PurgeMissed true at (ap is_after_bands purge ∙ passed) (ap (λ (y : View). y.place) is' ∙ ap (λ (z : Position). record v.place { position = z }) at)
          (subst (Alike r'.qdisc) (sym leads) (alike_state q' (account k r.state).down first (ap (λ (y : View). y.control.first) is') bits refl (ap (λ (y : View). holds_lock y.place.position) is')
          (subst (λ (y : View). SamePart y.holder v.holder) (sym is') record { ends = refl; slot = refl; resizing = refl }) (ap (λ (y : View). y.control.phase) is' ∙ phase) (ap (λ (y : View). y.control.purge) is')))

  pub reset_draining_move : (u : Purge) → w ≡ reset_draining_view v → x ≡ bit_and n 18446744073709551607 → n < 18446744073709551616 → v.place.position ≡ Control true → v.control.purge ≡ Some u → not (nat_lt u.band 3) ≡ true → Goal (of_control 1 18)
  reset_draining_move u is word small at under_way passed =
      let q = r.qdisc in let first = r.parts.machine.firsts.control id v here live (ap is_control at) in let phase = phase_is k s r state_place x id v w homes r' here live live' first in
      let purge : q.purge ≡ Some u = sym (purge_is k s r state_place x id v w homes r' here live live' first) ∙ under_way in
      let told : w ≡ reset_draining_view_in (Some u) v = is ∙ ap (λ (o : Option Purge). reset_draining_view_in o v) under_way in
      let bits : x ≡ state_word (record q { draining = false }) + 256 * e = word ∙ (ap (λ (z : ℕ). bit_and z 18446744073709551607) r.parts.station.stands.state ∙ and_draining q.sched q.deactivated q.missed q.draining e (below small)) in
      by u.missed refl told bits purge phase first
    where
      leads_to : (b : Bool) (z : Qdisc) → u.missed ≡ b → (if u.missed && true then record z { purge = None; phase = after_purge z.phase } else record z { purge = Some (record u { draining = true }) })
          ≡ (if b then record z { purge = None; phase = after_purge z.phase } else record z { purge = Some (record u { draining = true }) })
      leads_to true z e = ap (λ (b : Bool). if b && true then record z { purge = None; phase = after_purge z.phase } else record z { purge = Some (record u { draining = true }) }) e
      leads_to false z e = ap (λ (b : Bool). if b && true then record z { purge = None; phase = after_purge z.phase } else record z { purge = Some (record u { draining = true }) }) e

      by : (b : Bool) → u.missed ≡ b → w ≡ reset_draining_view_in (Some u) v → x ≡ state_word (record r.qdisc { draining = false }) + 256 * e → r.qdisc.purge ≡ Some u → v.control.phase ≡ r.qdisc.phase → v.control.first ≡ true → Goal (of_control 1 18)
      by true both told bits purge phase first = let q = r.qdisc in let is' : w ≡ purge_ending no_draining v = told ∙ ap (λ (b : Bool). if b then purge_ending no_draining v else purge_going no_draining (record u { draining = true }) v) both in
          let q' : Qdisc = record q { draining = false; purge = None; phase = after_purge q.phase } in
          let leads : purge_draining q.purge q ≡ q' = ap (λ (o : Option Purge). purge_draining o q) purge ∙ leads_to true (record q { draining = false }) both in
          control_move k s r state_place x id v w homes r' here live live' PurgeDraining true at (ap is_after_bands purge ∙ passed) (ap (λ (y : View). y.place) is' ∙ ap (λ (z : Position). record v.place { position = z }) at)
          (subst (Alike r'.qdisc) (sym leads) (alike_state q' (account k r.state).down first (ap (λ (y : View). y.control.first) is') bits refl (ap (λ (y : View). holds_lock y.place.position) is')
          (subst (λ (y : View). SamePart y.holder v.holder) (sym is') record { ends = refl; slot = refl; resizing = refl }) (ap (λ (y : View). y.control.phase) is' ∙ ap after_purge phase) (ap (λ (y : View). y.control.purge) is')))
      by false one told bits purge phase first = let q = r.qdisc in let is' : w ≡ purge_going no_draining (record u { draining = true }) v = told ∙ ap (λ (b : Bool). if b then purge_ending no_draining v else purge_going no_draining (record u { draining = true }) v) one in
          let q' : Qdisc = record q { draining = false; purge = Some (record u { draining = true }) } in
          let leads : purge_draining q.purge q ≡ q' = ap (λ (o : Option Purge). purge_draining o q) purge ∙ leads_to false (record q { draining = false }) one in
          control_move k s r state_place x id v w homes r' here live live' PurgeDraining true at (ap is_after_bands purge ∙ passed) (ap (λ (y : View). y.place) is' ∙ ap (λ (z : Position). record v.place { position = z }) at)
          (subst (Alike r'.qdisc) (sym leads) (alike_state q' (account k r.state).down first (ap (λ (y : View). y.control.first) is') bits refl (ap (λ (y : View). holds_lock y.place.position) is')
          (subst (λ (y : View). SamePart y.holder v.holder) (sym is') record { ends = refl; slot = refl; resizing = refl }) (ap (λ (y : View). y.control.phase) is' ∙ phase) (ap (λ (y : View). y.control.purge) is')))

-- THE RUN LOCK

module _ (k : Setup) (s : Table) (r : Rule k s) (x id : ℕ) (v w : View) (homes : List (maybe.Option (Option StationState)))
    (r' : Rule k (record { words = set s.words lock_place x; homes = homes; views = set s.views id w })) (here : get_elem? s.views id ≡ some v) (live : is_live v ≡ true) (live' : is_live w ≡ true) where
  lock_is : words_of k (set s.words lock_place x) ≡ record (words_of k s.words) { lock = x }
  lock_is = set_lock k s.words x (let wide = r.wide in omega arith)

  alike_lock : (b : Bool) → x ≡ bit b → v.control.first ≡ true → w.control ≡ v.control → SamePart (holders r'.state (account k r'.state) (words_of k (set s.words lock_place x)).size) (holders r.state (account k r.state) (words_of k s.words).size)
      → Alike r'.qdisc (record r.qdisc { locked = b })
  alike_lock b word first control part = let t = r.parts.station.stands in
      alike_first k s r lock_place x id v w homes r' here live live' (record r.qdisc { locked = b }) (record (words_of k s.words) { lock = x }) (account k r.state).down first (ap (λ (c : FirstPart). c.first) control) lock_is (record { slots = refl; size = refl })
      (record { state = t.state; lock = word; xoff = t.xoff; inside = t.inside; bypass = t.bypass }) part refl refl refl
      (ap (λ (c : FirstPart). c.phase) control ∙ phase_is k s r lock_place x id v w homes r' here live live' first) (ap (λ (c : FirstPart). c.purge) control ∙ purge_is k s r lock_place x id v w homes r' here live live' first)

  -- control gets it, and with it the station
  pub control_gets : (d : HolderPart) → w ≡ try_lock_view_in_control d v → s.homes ≡ some (Some (shown d)) ∷ [] → IsResting d.size d.ends → d.resizing ≡ None → get_or s.words lock_place 0 ≡ 0 → x ≡ 1 → v.place.position ≡ Control false
      → Leads (of_control 1 18) (machine_of r.qdisc s.views) (machine_of r'.qdisc (set s.views id w))
  control_gets d is out rests calm found word at =
      let free : r.qdisc.locked ≡ false = bit_same r.qdisc.locked false (sym r.parts.station.stands.lock ∙ found) in let home = r.parts.station.lends.home free in
      let D : HolderPart = holders r.state (account k r.state) (words_of k s.words).size in
      let shows_d : shown d ≡ shown D = one_station d D (sym (one_home r.home (some (Some (shown d))) (sym r.deep ∙ out)) ∙ home.there) in
      let mine : SamePart w.holder d = subst (λ (u : View). SamePart u.holder d) (sym is) record { ends = refl; slot = refl; resizing = refl } in
      control_move k s r lock_place x id v w homes r' here live live' GetLock false at (ap not free) (ap (λ (u : View). u.place) is)
      (alike_lock true word (r.parts.machine.firsts.control id v here live (ap is_control at)) (ap (λ (u : View). u.control) is)
      (part_by _ w.holder D (has k s r lock_place x id v w homes r' here live live' (ap (λ (u : View). holds_lock u.place.position) is)) (part_by w.holder d D mine (shown_tells d D shows_d rests home.resting calm home.calm))))

  -- it releases it: of an active station it then looks at the state as after a run
  pub control_releases : w ≡ unlock_view_in_control v → homes ≡ some (Some (shown v.holder)) ∷ [] → IsResting v.holder.size v.holder.ends → v.holder.resizing ≡ None → x ≡ 0 → v.place.position ≡ Control true → v.control.purge ≡ None
      → Leads (of_control 1 18) (machine_of r.qdisc s.views) (machine_of r'.qdisc (set s.views id w))
  control_releases is back rests calm word at no_purge =
      let free' : r'.qdisc.locked ≡ false = bit_same r'.qdisc.locked false (sym r'.parts.station.stands.lock ∙ (ap (λ (z : Words). z.lock) lock_is ∙ word)) in
      let home = r'.parts.station.lends.home free' in let D' : HolderPart = holders r'.state (account k r'.state) (words_of k (set s.words lock_place x)).size in
      let shows_d : shown D' ≡ shown v.holder = one_station D' v.holder (sym home.there ∙ one_home r'.home (some (Some (shown v.holder))) (sym r'.deep ∙ back)) in
      let first = r.parts.machine.firsts.control id v here live (ap is_control at) in let phase = phase_is k s r lock_place x id v w homes r' here live live' first in
      let purge : r.qdisc.purge ≡ None = sym (purge_is k s r lock_place x id v w homes r' here live live' first) ∙ no_purge in
      let e = alike_lock false word first (ap (λ (u : View). u.control) is) (part_by D' v.holder _ (shown_tells D' v.holder shows_d home.resting rests home.calm calm) (had k s r lock_place x id v w homes r' here live live' (ap holds_lock at))) in
      by (is_closed v.control.phase) refl phase purge e
    where
      by : (b : Bool) → is_closed v.control.phase ≡ b → v.control.phase ≡ r.qdisc.phase → r.qdisc.purge ≡ None → Alike r'.qdisc (record r.qdisc { locked = false }) → Leads (of_control 1 18) (machine_of r.qdisc s.views) (machine_of r'.qdisc (set s.views id w))
      by true closed phase purge e = control_move k s r lock_place x id v w homes r' here live live' Release true at
          (ap₂ (λ (p : Option Purge) (b : Bool). is_none p && b) purge (r.parts.machine.invariant.deactivation ∙ (ap is_closed (sym phase) ∙ closed)))
          (ap (λ (u : View). u.place) is ∙ ap (λ (b : Bool). record v.place { position = if b then Control false else Tail false }) closed) e
      by false active phase purge e = control_move k s r lock_place x id v w homes r' here live live' RunEnd true at (ap is_none purge)
          (ap (λ (u : View). u.place) is ∙ ap (λ (b : Bool). record v.place { position = if b then Control false else Tail false }) active) e
