-- The steps at the run lock: each try, each release, and each look that finds it held is one move of the machine.
use Rattle.std.proofs.Common.{◌≡◌, ◌≢◌, ℕ, Bool, true, false, List, [], ◌∷◌, set, get_or, refl, sym, ap, ◌∙◌, subst, arith, Option, Some, None}
use Rattle.std.proofs.lemmas.Bool.{false≢true}
use Rattle.std.proofs.lemmas.Option.{same_Some}
use mathlib.Core.Option.{some, none, some-injective}
use mathlib.Core.Option as maybe
use lib.ListN.{get_elem?}
use Rattle.lq_device.specs.Station.{StationState}
use Rattle.lq_model.specs.declared.machine.Answer.TheVariants.{Plain}
use Rattle.lq_model.specs.declared.machine.Attempt.{Attempt}
use Rattle.lq_model.specs.declared.machine.Attempt.TheVariants.{Queued, Direct, Interrupt}
use Rattle.lq_model.specs.declared.machine.Position.{Position}
use Rattle.lq_model.specs.declared.machine.Position.TheVariants.{Try1, Try2, Unlock}
use Rattle.lq_model.specs.declared.machine.Seat.{Seat}
use Rattle.lq_model.specs.Machine.{Qdisc, bit}
use Rattle.lq_model.specs.Positions.{holds_lock}
use Rattle.lq_model.specs.Steps.{lock_got, step_at}
use Rattle.lq_run_core.specs.Progress.{accepted_at}
use Rattle.lq_table.specs.Places.{lock_place}
use Rattle.lq_table.specs.Views.{View, Setup, HolderPart}
use Rattle.lq_table.specs.Rule.{Words, words_of, account, holders, is_live, machine_of, shown, IsResting, Stands, Rule}
use Rattle.lq_table.specs.Locks.{look_lock_view, try_lock_view_in_call, seen_lock, unlock_view_in_call}
use Rattle.lq_table.specs.Moves.{seen_by}
use Rattle.lq_table.proofs.ByName.{set_back, set_lock}
use Rattle.lq_table.proofs.Frames.{Fits}
use Rattle.lq_table.proofs.LocksKept.{got_fits, held_fits}
use Rattle.lq_table.proofs.Shows.{Shows, begins_holding, shows_queues, shows_slot}
use Rattle.lq_table_laws.specs.Stands.{Table}
use Rattle.lq_table_laws.specs.Stepped.{Leads, tries_in_call, none_sent}
use Rattle.lq_table_laws.proofs.Calls.{Beside, by_fits, moves_beside}
use Rattle.lq_table_laws.proofs.Determined.{SamePart, bands_still, bit_same, control_still, had, has, part_by, same_as, shown_tells, slot_still}
use Rattle.lq_table_laws.proofs.Fits.{unlock_fits, none_accepted}
use Rattle.lq_table_laws.proofs.Moves.{Alike}

held_call : (q base : Qdisc) (s : Seat) → q.locked ≡ true → (position : Position) → tries_in_call position ≡ true → Fits q (seen_lock base true) Plain position s q
held_call q base s e (Try1 attempt) h = held_fits q base s e (Try1 attempt) refl
held_call q base s e (Try2 attempt) h = held_fits q base s e (Try2 attempt) refl
held_call q base s e _ h = absurd (false≢true h)

got_call : (q base : Qdisc) → Shows q base → (s : Seat) → q.locked ≡ false → (position : Position) → tries_in_call position ≡ true → Fits q (seen_lock base false) Plain position s (record q { locked = true })
got_call q base shows s e (Try1 attempt) h = got_fits q base shows s e (Try1 attempt) refl
got_call q base shows s e (Try2 attempt) h = got_fits q base shows s e (Try2 attempt) refl
got_call q base shows s e _ h = absurd (false≢true h)

got_holds : (attempt : Attempt) (z : Qdisc) (s : Seat) → holds_lock (lock_got attempt z s).seat.position ≡ true
got_holds (Direct p) z s = refl
got_holds (Queued p) z s = begins_holding z
got_holds Interrupt z s = begins_holding z

try_holds : (base : Qdisc) (s : Seat) (position : Position) → tries_in_call position ≡ true → holds_lock (step_at position Plain (seen_lock base false) s).seat.position ≡ true
try_holds base s (Try1 attempt) h = got_holds attempt _ s
try_holds base s (Try2 attempt) h = got_holds attempt _ s
try_holds base s _ h = absurd (false≢true h)

pub one_home : (h h' : maybe.Option (Option StationState)) → ◌≡◌ {A = List (maybe.Option (Option StationState))} (h ∷ []) (h' ∷ []) → h ≡ h'
one_home h h' e = some-injective h h' (ap (λ (hs : List (maybe.Option (Option StationState))). get_elem? hs 0) e)

pub one_station : (d e : HolderPart) → ◌≡◌ {A = maybe.Option (Option StationState)} (some (Some (shown d))) (some (Some (shown e))) → shown d ≡ shown e
one_station d e h = same_Some (shown d) (shown e) (some-injective (Some (shown d)) (Some (shown e)) h)

module _ (k : Setup) (s : Table) (r : Rule k s) (x id : ℕ) (v w : View) (homes : List (maybe.Option (Option StationState)))
    (r' : Rule k (record { words = set s.words lock_place x; homes = homes; views = set s.views id w })) (here : get_elem? s.views id ≡ some v) (live : is_live v ≡ true) where
  abbrev q : Qdisc
  q = r.qdisc

  abbrev n : ℕ
  n = get_or s.words lock_place 0

  lock_is : words_of k (set s.words lock_place x) ≡ record (words_of k s.words) { lock = x }
  lock_is = set_lock k s.words x (let wide = r.wide in omega arith)

  taken : n ≢ 0 → q.locked ≡ true
  taken busy = by q.locked refl
    where
      by : (b : Bool) → q.locked ≡ b → q.locked ≡ true
      by true e = e
      by false e = absurd (busy (r.parts.station.stands.lock ∙ ap bit e))

  free : n ≡ 0 → q.locked ≡ false
  free zero_ = bit_same q.locked false (sym r.parts.station.stands.lock ∙ zero_)

  -- the lock is found held
  pub finds_locked : w ≡ look_lock_view v → homes ≡ s.homes → x ≡ n → n ≢ 0 → tries_in_call v.place.position ≡ true → Leads (none_sent 1 0) (machine_of q s.views) (machine_of r'.qdisc (set s.views id w))
  finds_locked is same word busy at =
      moves_beside k s r lock_place x id v w homes r' here live (ap is_live is ∙ live) (seen_lock (seen_by v) true) Plain (none_accepted tries_in_call (λ p direct. refl) v.place.position Plain at) q (words_of k s.words) (account k r.state).down
      (held_call q (seen_by v) v.place (taken busy) v.place.position at) (ap (λ (u : View). u.place) is) (ap (λ (z : ℕ). words_of k (set s.words lock_place z)) word ∙ set_back k s.words lock_place) (record { slots = refl; size = refl })
      r.parts.station.stands refl (record { bands = refl; len = refl; slot = refl; phase = refl; purge = refl }) same
      (subst (Beside v) (sym is) record { part = record { ends = refl; slot = refl; resizing = refl }; first = refl; phase = refl; purge = refl })

  -- the lock's word is stored, and of the rest of the machine only who has the station changes
  alike_locked : (b : Bool) → x ≡ bit b → SamePart (holders r'.state (account k r'.state) (words_of k (set s.words lock_place x)).size) (holders r.state (account k r.state) (words_of k s.words).size)
      → is_live w ≡ true → w.control.first ≡ v.control.first → w.control.phase ≡ v.control.phase → w.control.purge ≡ v.control.purge → Alike r'.qdisc (record q { locked = b })
  alike_locked b word part live' first phase purge =
      let t = r.parts.station.stands in let t' = subst (λ (z : Words). Stands k z r'.qdisc (account k r'.state).down) lock_is r'.parts.station.stands in
      let words = same_as k (record (words_of k s.words) { lock = x }) r'.qdisc (record q { locked = b }) (account k r'.state).down (account k r.state).down t' (record { state = t.state; lock = word; xoff = t.xoff; inside = t.inside; bypass = t.bypass }) in
      let bands = bands_still k s r lock_place x id v w homes r' here live live' (ap (λ (z : Words). z.slots) lock_is) (ap (λ (z : Words). z.size) lock_is) part.ends part.resizing in
      let control = control_still k s r lock_place x id v w homes r' here live live' first phase purge in record {
        words = words;
        bands = bands.0;
        len = bands.1;
        slot = slot_still k s r lock_place x id v w homes r' here live live' part.slot;
        phase = control.0;
        purge = control.1;
      }

  -- the lock is got, and with it the station
  pub gets_lock : (d : HolderPart) → w ≡ try_lock_view_in_call d v → s.homes ≡ some (Some (shown d)) ∷ [] → IsResting d.size d.ends → d.resizing ≡ None → n ≡ 0 → x ≡ 1 → tries_in_call v.place.position ≡ true
      → Leads (none_sent 1 0) (machine_of q s.views) (machine_of r'.qdisc (set s.views id w))
  gets_lock d is out rests calm found word at =
      let home = r.parts.station.lends.home (free found) in let D : HolderPart = holders r.state (account k r.state) (words_of k s.words).size in
      let base : Qdisc = seen_by (record v { holder = d }) in
      let shows_d : shown d ≡ shown D = one_station d D (sym (one_home r.home (some (Some (shown d))) (sym r.deep ∙ out)) ∙ home.there) in
      let part : SamePart d D = shown_tells d D shows_d rests home.resting calm home.calm in
      let shows : Shows q base = record { queues = shows_queues k s r id v here live 0; slot = shows_slot k s r id v here live d part.slot } in
      let live' : is_live w ≡ true = ap is_live is ∙ live in
      let holds : holds_lock w.place.position ≡ true = ap (λ (u : View). holds_lock u.place.position) is ∙ try_holds base v.place v.place.position at in
      let mine : SamePart w.holder d = subst (λ (u : View). SamePart u.holder d) (sym is) record { ends = refl; slot = refl; resizing = refl } in
      by_fits k s r lock_place x id v w homes r' here live live' (seen_lock base false) Plain (none_accepted tries_in_call (λ p direct. refl) v.place.position Plain at) (record q { locked = true }) (got_call q base shows v.place (free found) v.place.position at) (ap (λ (u : View). u.place) is)
      (alike_locked true word (part_by _ w.holder D (has k s r lock_place x id v w homes r' here live live' holds) (part_by w.holder d D mine part)) live'
      (ap (λ (u : View). u.control.first) is) (ap (λ (u : View). u.control.phase) is) (ap (λ (u : View). u.control.purge) is))

  -- it is released, and the station goes back
  pub releases : w ≡ unlock_view_in_call v → homes ≡ some (Some (shown v.holder)) ∷ [] → IsResting v.holder.size v.holder.ends → v.holder.resizing ≡ None → x ≡ 0 → v.place.position ≡ Unlock
      → Leads (none_sent 1 0) (machine_of q s.views) (machine_of r'.qdisc (set s.views id w))
  releases is back rests calm word at =
      let free' : r'.qdisc.locked ≡ false = bit_same r'.qdisc.locked false (sym r'.parts.station.stands.lock ∙ (ap (λ (z : Words). z.lock) lock_is ∙ word)) in
      let home = r'.parts.station.lends.home free' in let D' : HolderPart = holders r'.state (account k r'.state) (words_of k (set s.words lock_place x)).size in
      let shows_d : shown D' ≡ shown v.holder = one_station D' v.holder (sym home.there ∙ one_home r'.home (some (Some (shown v.holder))) (sym r'.deep ∙ back)) in
      let live' : is_live w ≡ true = ap is_live is ∙ live in
      by_fits k s r lock_place x id v w homes r' here live live' (seen_lock (seen_by v) false) Plain (ap (λ (z : Position). accepted_at z Plain) at) (record q { locked = false })
      (subst (λ (z : Position). Fits q (seen_lock (seen_by v) false) Plain z v.place (record q { locked = false })) (sym at) (unlock_fits (seen_lock (seen_by v) false) q v.place)) (ap (λ (u : View). u.place) is)
      (alike_locked false word (part_by D' v.holder _ (shown_tells D' v.holder shows_d home.resting rests home.calm calm) (had k s r lock_place x id v w homes r' here live live' (ap holds_lock at))) live'
      (ap (λ (u : View). u.control.first) is) (ap (λ (u : View). u.control.phase) is) (ap (λ (u : View). u.control.purge) is))
