-- What the words and views of a table determine of the machine and of the state for which they stand.
use Rattle.std.proofs.Common.{◌≡◌, ◌≢◌, ℕ, zero, suc, ◌<◌, Bool, true, false, true≢false, List, [], ◌∷◌, set, get_or, drop, refl, sym, ap, ap₂, ◌∙◌, subst, ⊎_elim, arith, Option, Some, None}
use Rattle.std.specs.Prelude.{if◌then◌else◌}
use Rattle.std.specs.Option.{option_map}
use Rattle.std.proofs.lemmas.Bool.{cases_Bool, cases_eq}
use Rattle.std.proofs.lemmas.Option.{same_Some}
use mathlib.Core.Option.{some, some-ne-none, some-injective}
use mathlib.Core.Option as maybe
use lib.ListN.{get_elem?}
use Rattle.atomic_table.proofs.Lists.{set_here, set_else}
use Rattle.lq_device.specs.Station.{StationState}
use Rattle.lq_model.specs.Band.{Band, held_of}
use Rattle.lq_model.specs.Machine.{Qdisc, bit}
use Rattle.lq_model.specs.Positions.{holds_lock}
use Rattle.lq_model.specs.declared.fate.Info.{Info}
use Rattle.lq_band_laws.specs.Ring.{Ends}
use Rattle.lq_band_laws.specs.Seats.{total}
use Rattle.lq_band_laws.specs.Three.{Three, at}
use Rattle.lq_table.specs.Views.{View, Setup, HolderPart, HalfResize, machine_packet, machine_packets}
use Rattle.lq_table.specs.Rule.{Words, words_of, is_live, holding, account, bands_of, bands_now, holders, shown, event_word, Stands, Rings, IsResting, Rule}
use Rattle.lq_table.specs.Moves.{is_set}
use Rattle.lq_table.proofs.Bits.{has_sched, has_deactivated, has_missed, has_draining}
use Rattle.lq_table.proofs.Facts.{at_within}
use Rattle.lq_table.proofs.Frames.{total_holding}
use Rattle.lq_table_laws.specs.Stands.{Table}
use Rattle.lq_table_laws.proofs.Slots.{same_held}

-- THE BITS AND WORDS

pub bit_same : (b c : Bool) → bit b ≡ bit c → b ≡ c
bit_same true true e = refl
bit_same true false e = absurd (omega arith)
bit_same false true e = absurd (omega arith)
bit_same false false e = refl

-- machines that the same words are
pub record SameWords (p q : Qdisc) : Type 0 where
  pub sched : p.sched ≡ q.sched
  pub deactivated : p.deactivated ≡ q.deactivated
  pub missed : p.missed ≡ q.missed
  pub draining : p.draining ≡ q.draining
  pub locked : p.locked ≡ q.locked
  pub xoff : p.xoff ≡ q.xoff
  pub inside : p.inside ≡ q.inside
  pub bypass : p.bypass ≡ q.bypass

pub same_as : (k : Setup) (w : Words) (p q : Qdisc) (d e : Option ℕ) → Stands k w p d → Stands k w q e → SameWords p q
same_as k w p q d e s t = record {
  sched = sym (has_sched p.sched p.deactivated p.missed p.draining (event_word d)) ∙ (ap (is_set 1) (sym s.state ∙ t.state) ∙ has_sched q.sched q.deactivated q.missed q.draining (event_word e));
  deactivated = sym (has_deactivated p.sched p.deactivated p.missed p.draining (event_word d)) ∙ (ap (is_set 2) (sym s.state ∙ t.state) ∙ has_deactivated q.sched q.deactivated q.missed q.draining (event_word e));
  missed = sym (has_missed p.sched p.deactivated p.missed p.draining (event_word d)) ∙ (ap (is_set 4) (sym s.state ∙ t.state) ∙ has_missed q.sched q.deactivated q.missed q.draining (event_word e));
  draining = sym (has_draining p.sched p.deactivated p.missed p.draining (event_word d)) ∙ (ap (is_set 8) (sym s.state ∙ t.state) ∙ has_draining q.sched q.deactivated q.missed q.draining (event_word e));
  locked = bit_same p.locked q.locked (sym s.lock ∙ t.lock);
  xoff = s.xoff ∙ sym t.xoff;
  inside = sym s.inside ∙ t.inside;
  bypass = s.bypass ∙ sym t.bypass;
}

-- THE BANDS

-- what the rings say of the bands
pub record SameBands (len len' : ℕ) (bands bands' : ℕ → Band) : Type 0 where
  pub len_is : len ≡ len'
  pub held : (b : ℕ) → b < 3 → held_of (bands b) ≡ held_of (bands' b)

pub same_bands : (m size : ℕ) (ps ps' : Three ℕ) (slots : Three (List ℕ)) (views views' : List View) (len len' : ℕ) (bands bands' : ℕ → Band) (ends : Three Ends) (resizing : Option HalfResize)
    → Rings m size ps slots views len bands ends resizing → Rings m size ps' slots views' len' bands' ends resizing → SameBands len len' bands bands'
same_bands m size ps ps' slots views views' len len' bands bands' ends None r r' = let x = r.running refl in let y = r'.running refl in record {
  len_is = sym x.size_is ∙ y.size_is;
  held = λ b below. same_held size (at b slots) (at b ends) _ _ _ _ (bands b) (bands' b) (x.ring b below) (y.ring b below);
}
same_bands m size ps ps' slots views views' len len' bands bands' ends (Some t) r r' = let x = r.half_resized t refl in let y = r'.half_resized t refl in record {
  len_is = x.len_is ∙ sym y.len_is;
  held = λ b below. ap₂ drop ((x.ring b below).none_taken ∙ sym (y.ring b below).none_taken) (x.kept b below ∙ sym (y.kept b below));
}

pub bands_are : (infos : List Info) (bands bands' : ℕ → Band) → ((b : ℕ) → b < 3 → held_of (bands b) ≡ held_of (bands' b)) → bands_of infos bands ≡ bands_of infos bands'
bands_are infos bands bands' h = λ j. machine_packets infos (h 0 (omega arith) j) ∷ machine_packets infos (h 1 (omega arith) j) ∷ machine_packets infos (h 2 (omega arith) j) ∷ []

-- WHO HAS THE RUN LOCK

pub record HolderIn (views : List View) : Type 0 where
  pub id : ℕ
  pub view : View
  pub here : get_elem? views id ≡ some view
  pub live : is_live view ≡ true
  pub holds : holds_lock view.place.position ≡ true

holding_view : (v : View) → 0 < holding v → (is_live v ≡ true) × (holds_lock v.place.position ≡ true)
holding_view v some_one = by (is_live v) (holds_lock v.place.position) refl refl
  where
    by : (b c : Bool) → is_live v ≡ b → holds_lock v.place.position ≡ c → (is_live v ≡ true) × (holds_lock v.place.position ≡ true)
    by true true e e' = (e, e')
    by true false e e' = absurd (let z : holding v ≡ 0 = ap₂ (λ (b c : Bool). if b then bit c else 0) e e' in omega arith)
    by false c e e' = absurd (let z : holding v ≡ 0 = ap₂ (λ (b c : Bool). if b then bit c else 0) e e' in omega arith)

pub holder_in : (views : List View) → 0 < total holding views → HolderIn views
holder_in [] h = absurd (omega arith)
holder_in (v ∷ vs) h = by (holding v) refl (λ more. holder_in vs more)
  where
    by : (n : ℕ) → holding v ≡ n → (0 < total holding vs → HolderIn vs) → HolderIn (v ∷ vs)
    by zero e in_rest = let f = in_rest (omega arith) in record { id = suc f.id; view = f.view; here = f.here; live = f.live; holds = f.holds }
    by (suc n) e in_rest = let z = holding_view v (omega arith) in record { id = 0; view = v; here = refl; live = z.0; holds = z.1 }

pub holder_of : (k : Setup) (s : Table) (r : Rule k s) → r.qdisc.locked ≡ true → HolderIn s.views
holder_of k s r locked = holder_in s.views (let one = r.parts.machine.invariant.kept.one_holder in let t = total_holding s.views in let b : bit r.qdisc.locked ≡ 1 = ap bit locked in omega arith)

-- WHO IS FIRST

pub record FirstIn (views : List View) : Type 0 where
  pub id : ℕ
  pub view : View
  pub here : get_elem? views id ≡ some view
  pub first : view.control.first ≡ true

pub first_in : (views : List View) → 0 < total (λ v. bit v.control.first) views → FirstIn views
first_in [] h = absurd (omega arith)
first_in (v ∷ vs) h = by v.control.first refl (λ more. first_in vs more)
  where
    by : (b : Bool) → v.control.first ≡ b → (0 < total (λ u. bit u.control.first) vs → FirstIn vs) → FirstIn (v ∷ vs)
    by true e in_rest = record { id = 0; view = v; here = refl; first = e }
    by false e in_rest = let z : bit v.control.first ≡ 0 = ap bit e in let f = in_rest (omega arith) in record { id = suc f.id; view = f.view; here = f.here; first = f.first }

pub first_of_rule : (k : Setup) (s : Table) (r : Rule k s) → FirstIn s.views
first_of_rule k s r = first_in s.views (let one = r.parts.machine.firsts.one in omega arith)

-- WHAT THE HOLDER WOULD HAVE

-- of the state, what a step that isn't at the rings leaves
pub record SamePart (d e : HolderPart) : Type 0 where
  pub ends : d.ends ≡ e.ends
  pub slot : d.slot ≡ e.slot
  pub resizing : d.resizing ≡ e.resizing

end_same : (c c' : Ends) → c.edge ≡ c.head → c'.edge ≡ c'.head → c.head ≡ c'.head → c.tail ≡ c'.tail → c ≡ c'
end_same c c' x y h t = λ j. record { head = h j; tail = t j; edge = (x ∙ (h ∙ sym y)) j }

heads_same : (d e : Three Ends) (size size' : ℕ) → IsResting size d → IsResting size' e
    → ◌≡◌ {A = List ℕ} (d.low.head ∷ d.mid.head ∷ d.high.head ∷ []) (e.low.head ∷ e.mid.head ∷ e.high.head ∷ [])
    → ◌≡◌ {A = List ℕ} (d.low.tail ∷ d.mid.tail ∷ d.high.tail ∷ []) (e.low.tail ∷ e.mid.tail ∷ e.high.tail ∷ []) → d ≡ e
heads_same d e size size' rests rests' heads tails = λ j. record {
  low = end_same d.low e.low rests.0.2 rests'.0.2 (ap (λ (xs : List ℕ). get_or xs 0 0) heads) (ap (λ (xs : List ℕ). get_or xs 0 0) tails) j;
  mid = end_same d.mid e.mid rests.1.2 rests'.1.2 (ap (λ (xs : List ℕ). get_or xs 1 0) heads) (ap (λ (xs : List ℕ). get_or xs 1 0) tails) j;
  high = end_same d.high e.high rests.2.2 rests'.2.2 (ap (λ (xs : List ℕ). get_or xs 2 0) heads) (ap (λ (xs : List ℕ). get_or xs 2 0) tails) j;
}

-- the station as it is shown tells it, where the rings rest and no resize is half done
pub shown_tells : (d e : HolderPart) → shown d ≡ shown e → IsResting d.size d.ends → IsResting e.size e.ends → d.resizing ≡ None → e.resizing ≡ None → SamePart d e
shown_tells d e same rests rests' calm calm' = record {
  ends = heads_same d.ends e.ends d.size e.size rests rests' (ap (λ (z : StationState). z.heads) same) (ap (λ (z : StationState). z.tails) same);
  slot = ap (λ (z : StationState). z.slot) same;
  resizing = calm ∙ sym calm';
}

pub same_part : (d e : HolderPart) → d ≡ e → SamePart d e
same_part d e is = record { ends = ap (λ (z : HolderPart). z.ends) is; slot = ap (λ (z : HolderPart). z.slot) is; resizing = ap (λ (z : HolderPart). z.resizing) is }

pub part_by : (d e f : HolderPart) → SamePart d e → SamePart e f → SamePart d f
part_by d e f x y = record { ends = x.ends ∙ y.ends; slot = x.slot ∙ y.slot; resizing = x.resizing ∙ y.resizing }

-- A STEP OF ONE SEAT

module _ (k : Setup) (s : Table) (r : Rule k s) (i x id : ℕ) (v w : View) (homes : List (maybe.Option (Option StationState)))
    (r' : Rule k (record { words = set s.words i x; homes = homes; views = set s.views id w })) (here : get_elem? s.views id ≡ some v) (live : is_live v ≡ true) (live' : is_live w ≡ true) where
  abbrev D : HolderPart
  D = holders r.state (account k r.state) (words_of k s.words).size

  abbrev D' : HolderPart
  D' = holders r'.state (account k r'.state) (words_of k (set s.words i x)).size

  pub now : get_elem? (set s.views id w) id ≡ some w
  now = set_here s.views id w (at_within s.views id v here)

  -- what the seat has as the holder
  pub had : holds_lock v.place.position ≡ true → SamePart v.holder D
  had holds = same_part v.holder D (r.parts.station.lends.knows id v here live holds).is

  pub has : holds_lock w.place.position ≡ true → SamePart D' w.holder
  has holds = same_part D' w.holder (sym (r'.parts.station.lends.knows id w now live' holds).is)

  -- another seat has the lock
  beside : (f : HolderIn s.views) → f.id ≢ id → SamePart D' D
  beside f other = part_by D' f.view.holder D
      (same_part D' f.view.holder (sym (r'.parts.station.lends.knows f.id f.view (set_else s.views id f.id w other ∙ f.here) f.live f.holds).is))
      (same_part f.view.holder D (r.parts.station.lends.knows f.id f.view f.here f.live f.holds).is)

  -- nobody has it
  at_home : homes ≡ s.homes → r.qdisc.locked ≡ false → r'.qdisc.locked ≡ false → SamePart D' D
  at_home same free free' =
      let h = r.parts.station.lends.home free in let h' = r'.parts.station.lends.home free' in
      let one : r'.home ≡ r.home = some-injective r'.home r.home (ap (λ (hs : List (maybe.Option (Option StationState))). get_elem? hs 0) (sym r'.deep ∙ (same ∙ r.deep))) in
      let shows : Some (shown D') ≡ Some (shown D) = some-injective (Some (shown D')) (Some (shown D)) (sym h'.there ∙ (one ∙ h.there)) in
      shown_tells D' D (same_Some (shown D') (shown D) shows) h'.resting h.resting h'.calm h.calm

  -- a step by which the seat holds the lock as before, and has of the rings and the requeue slot what it had
  pub part_still : homes ≡ s.homes → r'.qdisc.locked ≡ r.qdisc.locked → holds_lock w.place.position ≡ holds_lock v.place.position → SamePart w.holder v.holder → SamePart D' D
  part_still same lock holds_same mine = ⊎_elim
      (λ (holds : holds_lock v.place.position ≡ true). part_by D' w.holder D (has (holds_same ∙ holds)) (part_by w.holder v.holder D mine (had holds)))
      (λ (not_held : holds_lock v.place.position ≡ false). ⊎_elim
      (λ (locked : r.qdisc.locked ≡ true). let f = holder_of k s r locked in beside f
      (λ e. true≢false (sym f.holds ∙ (ap (λ (u : View). holds_lock u.place.position) (some-injective f.view v (sym f.here ∙ (ap (get_elem? s.views) e ∙ here))) ∙ not_held))))
      (λ (free : r.qdisc.locked ≡ false). at_home same free (lock ∙ free))
      (cases_Bool r.qdisc.locked))
      (cases_Bool (holds_lock v.place.position))

  -- by a step that isn't control's, control is as far as before
  pub control_still : w.control.first ≡ v.control.first → w.control.phase ≡ v.control.phase → w.control.purge ≡ v.control.purge → (r'.qdisc.phase ≡ r.qdisc.phase) × (r'.qdisc.purge ≡ r.qdisc.purge)
  control_still first phase purge = let f = first_of_rule k s r in ⊎_elim
      (λ (e : f.id ≡ id). let is : f.view ≡ v = some-injective f.view v (sym f.here ∙ (ap (get_elem? s.views) e ∙ here)) in
      let mine : v.control.first ≡ true = sym (ap (λ (u : View). u.control.first) is) ∙ f.first in
      let old = r.parts.machine.firsts.knows id v here mine in let new = r'.parts.machine.firsts.knows id w now (first ∙ mine) in
      (sym new.0 ∙ (phase ∙ old.0), sym new.1 ∙ (purge ∙ old.1)))
      (λ (other : f.id ≢ id). let old = r.parts.machine.firsts.knows f.id f.view f.here f.first in
      let new = r'.parts.machine.firsts.knows f.id f.view (set_else s.views id f.id w other ∙ f.here) f.first in (sym new.0 ∙ old.0, sym new.1 ∙ old.1))
      (cases_eq f.id id)

  -- where the slots and the size are as before, so are the bands
  pub bands_still : (words_of k (set s.words i x)).slots ≡ (words_of k s.words).slots → (words_of k (set s.words i x)).size ≡ (words_of k s.words).size → D'.ends ≡ D.ends → D'.resizing ≡ D.resizing
      → (r'.qdisc.bands ≡ r.qdisc.bands) × (r'.qdisc.len ≡ r.qdisc.len)
  bands_still slots size ends resizing =
      let p = r.parts.station in let p' = r'.parts.station in let a = account k r.state in let a' = account k r'.state in
      let rings = subst (λ (z : ℕ × Three (List ℕ) × Three Ends × Option HalfResize). Rings k.max_len z.0 (words_of k (set s.words i x)).producers z.1 (set s.views id w) a'.len (bands_now r'.state.left a'.bands) z.2 z.3)
      (λ j. (size j, slots j, ends j, resizing j)) p'.rings in
      let same = same_bands k.max_len (words_of k s.words).size _ _ (words_of k s.words).slots _ _ a'.len a.len (bands_now r'.state.left a'.bands) (bands_now r.state.left a.bands) r.state.ends r.state.resizing rings p.rings in
      (p'.ties.bands_are ∙ (bands_are k.infos (bands_now r'.state.left a'.bands) (bands_now r.state.left a.bands) same.held ∙ sym p.ties.bands_are), p'.ties.len ∙ (same.len_is ∙ sym p.ties.len))

  pub slot_still : D'.slot ≡ D.slot → r'.qdisc.slot ≡ r.qdisc.slot
  slot_still slot = r'.parts.station.ties.slot ∙ (ap (option_map (machine_packet k.infos)) slot ∙ sym r.parts.station.ties.slot)

  -- what the requeue slot has where the holder knows it
  pub slot_by : (o : Option ℕ) → D'.slot ≡ o → r'.qdisc.slot ≡ option_map (machine_packet k.infos) o
  slot_by o slot = r'.parts.station.ties.slot ∙ ap (option_map (machine_packet k.infos)) slot
