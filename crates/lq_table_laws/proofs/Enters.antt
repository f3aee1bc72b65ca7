-- A call begins, and ends.
use Rattle.std.proofs.Common.{◌≡◌, ◌≢◌, ◌⊎◌, inl, inr, ℕ, ◌+◌, ◌-◌, Bool, true, false, List, length-set, set, get_or, get_or-set_same, get_or-set_other, sum_by, refl, sym, ap, ap₂, ◌∙◌, subst, arith, Option, Some, None, []}
use Rattle.std.specs.Prelude.{◌&&◌, is_some}
use Rattle.std.proofs.lemmas.Bool.{false≢true}
use mathlib.Core.Option.{some}
use mathlib.Core.Option as maybe
use lib.ListN.{get_elem?}
use Rattle.lq_device.specs.Station.{StationState}
use Rattle.lq_model.specs.declared.machine.Answer.TheVariants.{Plain}
use Rattle.lq_model.specs.declared.machine.ControlStep.TheVariants.{Return}
use Rattle.lq_model.specs.declared.machine.Packet.{Packet}
use Rattle.lq_model.specs.declared.machine.Position.{Position}
use Rattle.lq_model.specs.declared.machine.Position.TheVariants.{Control, Idle, Leave}
use Rattle.lq_model.specs.declared.machine.Seat.{Seat}
use Rattle.lq_model.specs.Control.{holds_as_control, is_control}
use Rattle.lq_model.specs.Kept.{IsInductive}
use Rattle.lq_model.specs.Machine.{Qdisc, bit, idle_seat}
use Rattle.lq_model.specs.Positions.{holds_lock, is_inside, own_packet}
use Rattle.lq_model.specs.Quiet.{IsFree}
use Rattle.lq_model.specs.Steps.{After, begun, is_idle, may_answer, may_begin, step_at}
use Rattle.lq_run_laws.proofs.Inductive.{inductive}
use Rattle.lq_run_core.specs.Progress.{start_cost, accepted_at}
use Rattle.lq_table.specs.Places.{inside_place}
use Rattle.lq_table.specs.Views.{Setup, View}
use Rattle.lq_table.specs.Rule.{Words, words_of, account, is_live, machine_of, seats_of, Rule}
use Rattle.lq_table.specs.Inside.{bringing_packet, call_of, enter_view, MayEnter}
use Rattle.lq_table.specs.Moves.{pass_view, seen_by}
use Rattle.lq_table.proofs.ByName.{set_inside}
use Rattle.lq_table.proofs.Frames.{Fits}
use Rattle.lq_table_laws.specs.Stands.{Table}
use Rattle.lq_table_laws.specs.Stepped.{Leads, none_sent, of_control}
use Rattle.lq_table_laws.proofs.Calls.{Beside, alike_still, moves_beside}
use Rattle.lq_table_laws.proofs.Fits.{leave_fits}
use Rattle.lq_table_laws.proofs.Moves.{Alike, Costs, by_control, by_start, by_step, inside, leads_thrice, leads_twice, moved_to, place, seats_set, set-twice, still_serves, there}

-- WHERE A CALL BEGINS

enter_accepts : (hand : Option Packet) (s : Seat) → accepted_at (begun (call_of hand) s).position Plain ≡ []
enter_accepts (Some p) s = refl
enter_accepts None s = refl

enter_may : (hand : Option Packet) (s : Seat) (q : Qdisc) → may_answer (begun (call_of hand) s).position Plain q ≡ true
enter_may (Some p) s q = refl
enter_may None s q = refl

enter_seat : (seen q : Qdisc) (hand : Option Packet) (s : Seat) → (step_at (begun (call_of hand) s).position Plain seen (begun (call_of hand) s)).seat ≡ (step_at (begun (call_of hand) s).position Plain q (begun (call_of hand) s)).seat
enter_seat seen q (Some p) s = refl
enter_seat seen q None s = refl

enter_words : (q : Qdisc) (hand : Option Packet) (s : Seat) → (step_at (begun (call_of hand) s).position Plain q (begun (call_of hand) s)).qdisc ≡ record q { inside = q.inside + 1 }
enter_words q (Some p) s = refl
enter_words q None s = refl

starts_free : (hand : Option Packet) (s : Seat) → holds_lock (begun (call_of hand) s).position ≡ false
starts_free (Some p) s = refl
starts_free None s = refl

enter_free : (q : Qdisc) (hand : Option Packet) (s : Seat) → holds_lock (step_at (begun (call_of hand) s).position Plain q (begun (call_of hand) s)).seat.position ≡ false
enter_free q (Some p) s = refl
enter_free q None s = refl

enter_begins : (hand : Option Packet) (s : Seat) → s.position ≡ Idle → (is_some hand ≡ true) ⊎ (s.raised ≡ true) → may_begin (call_of hand) s ≡ true
enter_begins (Some p) s e h = ap is_idle e
enter_begins None s e (inl h) = absurd (false≢true h)
enter_begins None s e (inr h) = ap₂ (λ (p : Position) (b : Bool). is_idle p && b) e h

begun_same : (hand : Option Packet) (s : Seat) → begun (call_of hand) (record s { position = Idle }) ≡ begun (call_of hand) s
begun_same (Some p) s = refl
begun_same None s = refl

module _ (k : Setup) (s : Table) (r : Rule k s) (x id : ℕ) (v w : View) (homes : List (maybe.Option (Option StationState)))
    (r' : Rule k (record { words = set s.words inside_place x; homes = homes; views = set s.views id w })) (here : get_elem? s.views id ≡ some v) (live : is_live v ≡ true) (live' : is_live w ≡ true) (same : homes ≡ s.homes) where
  abbrev q : Qdisc
  q = r.qdisc

  abbrev W : Words
  W = words_of k s.words

  abbrev i : ℕ
  i = place s.views id v w here live live'

  abbrev seats : List Seat
  seats = seats_of s.views

  seats_after : (t : Seat) → w.place ≡ t → seats_of (set s.views id w) ≡ set seats i t
  seats_after t is = seats_set s.views id v w here live live' ∙ ap (set seats i) is

  -- the calls inside are those of the seats
  inside_is : (q' : Qdisc) (t : Seat) → w.place ≡ t → IsInductive (record { qdisc = q'; seats = set seats i t }) → x ≡ q'.inside
  inside_is q' t is kept =
      let word : x ≡ r'.qdisc.inside = sym (ap (λ (z : Words). z.inside) (set_inside k s.words x (let wide = r.wide in omega arith))) ∙ r'.parts.station.stands.inside in
      word ∙ (sym r'.parts.machine.invariant.kept.calls_inside ∙ (ap (λ (ts : List Seat). sum_by (λ u. bit (is_inside u.position)) ts) (seats_after t is) ∙ kept.kept.calls_inside))

  words_are : words_of k (set s.words inside_place x) ≡ record W { inside = x }
  words_are = set_inside k s.words x (let wide = r.wide in omega arith)

  -- a call ends
  pub leave_move : w ≡ pass_view v → v.place.position ≡ Leave → Leads (none_sent 1 0) (machine_of q s.views) (machine_of r'.qdisc (set s.views id w))
  leave_move is at =
      let q' : Qdisc = record q { inside = q.inside - 1 } in let t = r.parts.station.stands in let gone : Seat = record v.place { position = Idle } in
      let to : w.place ≡ gone = ap (λ (u : View). u.place) is ∙ ap (λ (z : Position). (step_at z Plain (seen_by v) v.place).seat) at in
      let move : Costs (machine_of q s.views) (moved_to seats i (record { qdisc = q'; seat = gone })) (none_sent 1 0) = subst (λ (z : Position). Costs (machine_of q s.views) (moved_to seats i (step_at z Plain q v.place)) (none_sent 1 0)) at
      (by_step q seats i v.place (inside s.views id v w here live live') (there s.views id v w here live live') Plain (ap (λ (z : Position). accepted_at z Plain) at) (ap (λ (z : Position). may_answer z Plain q) at)) in
      moves_beside k s r inside_place x id v w homes r' here live live' (seen_by v) Plain (ap (λ (z : Position). accepted_at z Plain) at) q' (record W { inside = x }) (account k r.state).down
      (subst (λ (z : Position). Fits q (seen_by v) Plain z v.place q') (sym at) (leave_fits (seen_by v) q v.place)) (ap (λ (u : View). u.place) is) words_are (record { slots = refl; size = refl })
      (record { state = t.state; lock = t.lock; xoff = t.xoff; inside = inside_is q' gone to (inductive _ _ r.parts.machine.invariant move.move); bypass = t.bypass }) refl
      (record { bands = refl; len = refl; slot = refl; phase = refl; purge = refl }) same
      (subst (Beside v) (sym is) record { part = record { ends = refl; slot = refl; resizing = refl }; first = refl; phase = refl; purge = refl })

  -- A CALL BEGINS

  abbrev hand : Option Packet
  hand = bringing_packet v

  -- the seat as its call has begun, and as it is inside
  abbrev starts : Seat
  starts = begun (call_of hand) v.place

  abbrev enters : After
  enters = step_at starts.position Plain q starts

  enters_to : w ≡ enter_view v → w.place ≡ enters.seat
  enters_to is = ap (λ (u : View). u.place) is ∙ enter_seat (seen_by v) q hand v.place

  -- no other seat is in a transmit of the same owner, since none is after the step
  free : w ≡ enter_view v → (other : List Seat) → ((j : ℕ) → j ≢ i → get_or other j idle_seat ≡ get_or seats j idle_seat) → IsFree (call_of hand) i (record { qdisc = q; seats = other })
  free is other same_others = by hand refl
    where
      by : (o : Option Packet) → hand ≡ o → IsFree (call_of o) i (record { qdisc = q; seats = other })
      by None e = tt
      by (Some p) e = λ j u apart own.
          let one : get_or (set seats i enters.seat) i idle_seat ≡ enters.seat = get_or-set_same seats i enters.seat idle_seat (inside s.views id v w here live live') in
          let mine : own_packet (get_or (seats_of (set s.views id w)) i idle_seat).position ≡ Some p =
          ap (λ (ts : List Seat). own_packet (get_or ts i idle_seat).position) (seats_after enters.seat (enters_to is)) ∙ (ap (λ (t : Seat). own_packet t.position) one
          ∙ ap (λ (o : Option Packet). own_packet (step_at (begun (call_of o) v.place).position Plain q (begun (call_of o) v.place)).seat.position) e) in
          let theirs : own_packet (get_or (seats_of (set s.views id w)) j idle_seat).position ≡ Some u =
          ap (λ (ts : List Seat). own_packet (get_or ts j idle_seat).position) (seats_after enters.seat (enters_to is)) ∙ (ap (λ (t : Seat). own_packet t.position) (get_or-set_other seats i j enters.seat idle_seat (λ h. apart (sym h)))
          ∙ (ap (λ (t : Seat). own_packet t.position) (sym (same_others j (λ h. apart (sym h)))) ∙ own)) in
          r'.parts.machine.invariant.owners_differ i j p u apart mine theirs

  -- the machine after it
  entered : w ≡ enter_view v → holds_lock v.place.position ≡ false → IsInductive (record { qdisc = enters.qdisc; seats = set seats i enters.seat }) → Alike r'.qdisc enters.qdisc
  entered is not_held kept =
      let q' : Qdisc = record q { inside = q.inside + 1 } in let t = r.parts.station.stands in let to = enters_to is in let words = enter_words q hand v.place in
      let count : x ≡ q'.inside = inside_is enters.qdisc enters.seat to kept ∙ ap (λ (z : Qdisc). z.inside) words in
      subst (Alike r'.qdisc) (sym words)
      (alike_still k s r inside_place x id v w homes r' here live live' q' (record W { inside = x }) (account k r.state).down words_are (record { slots = refl; size = refl })
      (record { state = t.state; lock = t.lock; xoff = t.xoff; inside = count; bypass = t.bypass }) refl (record { bands = refl; len = refl; slot = refl; phase = refl; purge = refl }) same
      (ap (λ (u : Seat). holds_lock u.position) to ∙ (enter_free q hand v.place ∙ sym not_held))
      (subst (Beside v) (sym is) record { part = record { ends = refl; slot = refl; resizing = refl }; first = refl; phase = refl; purge = refl }))

  raised_or : MayEnter v → (is_some hand ≡ true) ⊎ (v.place.raised ≡ true)
  raised_or (inl h) = inl h
  raised_or (inr h) = inr h.0

  -- from no call
  pub enter_moves : w ≡ enter_view v → v.place.position ≡ Idle → MayEnter v → Leads (none_sent 2 (start_cost (call_of hand))) (machine_of q s.views) (machine_of r'.qdisc (set s.views id w))
  enter_moves is at may =
      let first = by_start q seats i v.place (inside s.views id v w here live live') (there s.views id v w here live live') (call_of hand) (enter_begins hand v.place at (raised_or may)) (free is seats (λ j apart. refl)) in
      let second = by_step q (set seats i starts) i starts (let l = length-set seats i starts in let z = inside s.views id v w here live live' in omega arith)
      (get_or-set_same seats i starts idle_seat (inside s.views id v w here live live')) Plain (enter_accepts hand v.place) (enter_may hand v.place q) in
      let kept = inductive _ _ (inductive _ _ r.parts.machine.invariant first.move) second.move in
      subst (λ (c : ℕ). Leads (none_sent 2 c) (machine_of q s.views) (machine_of r'.qdisc (set s.views id w))) (let e : start_cost (call_of hand) + 0 ≡ start_cost (call_of hand) = omega arith in e)
      (leads_twice s.views id v w here live live' q r'.qdisc (record { qdisc = q; seat = starts }) enters (none_sent 1 (start_cost (call_of hand))) (none_sent 1 0) first second (enters_to is)
      (entered is (ap holds_lock at) (subst (λ (ts : List Seat). IsInductive (record { qdisc = enters.qdisc; seats = ts })) (set-twice seats i starts enters.seat) kept))
      r.parts.machine.invariant.kept.one_holder (still_serves q seats i v.place starts (inside s.views id v w here live live') (there s.views id v w here live live') (ap holds_lock at) (starts_free hand v.place)))

  -- from a call of control that has nothing in hand, which returns first
  pub enter_returning : w ≡ enter_view v → v.place.position ≡ Control false → MayEnter v → Leads (of_control 3 (18 + start_cost (call_of hand))) (machine_of q s.views) (machine_of r'.qdisc (set s.views id w))
  enter_returning is at may =
      let at_idle : Seat = record v.place { position = Idle } in let inside_ = inside s.views id v w here live live' in let l = length-set seats i at_idle in
      let first : Costs (machine_of q s.views) (moved_to seats i (record { qdisc = q; seat = at_idle })) (of_control 1 18) = by_control q seats i v.place inside_ (there s.views id v w here live live') Return false (ap is_control at) (ap holds_as_control at) refl in
      let here_idle : get_or (set seats i at_idle) i idle_seat ≡ at_idle = get_or-set_same seats i at_idle idle_seat inside_ in
      let second : Costs (moved_to seats i (record { qdisc = q; seat = at_idle })) (moved_to (set seats i at_idle) i (record { qdisc = q; seat = starts })) (none_sent 1 (start_cost (call_of hand))) =
      subst (λ (t : Seat). Costs (moved_to seats i (record { qdisc = q; seat = at_idle })) (moved_to (set seats i at_idle) i (record { qdisc = q; seat = t })) (none_sent 1 (start_cost (call_of hand)))) (begun_same hand v.place)
      (by_start q (set seats i at_idle) i at_idle (omega arith) here_idle (call_of hand) (enter_begins hand at_idle refl (raised_or may)) (free is (set seats i at_idle) (λ j apart. get_or-set_other seats i j at_idle idle_seat apart))) in
      let more = length-set (set seats i at_idle) i starts in
      let third : Costs (moved_to (set seats i at_idle) i (record { qdisc = q; seat = starts })) (moved_to (set (set seats i at_idle) i starts) i enters) (none_sent 1 0) =
      by_step q (set (set seats i at_idle) i starts) i starts (omega arith) (get_or-set_same (set seats i at_idle) i starts idle_seat (omega arith)) Plain (enter_accepts hand v.place) (enter_may hand v.place q) in
      let kept = inductive _ _ (inductive _ _ (inductive _ _ r.parts.machine.invariant first.move) second.move) third.move in
      subst (λ (c : ℕ). Leads (of_control 3 c) (machine_of q s.views) (machine_of r'.qdisc (set s.views id w))) (let e : 18 + start_cost (call_of hand) + 0 ≡ 18 + start_cost (call_of hand) = omega arith in e)
      (leads_thrice s.views id v w here live live' q r'.qdisc (record { qdisc = q; seat = at_idle }) (record { qdisc = q; seat = starts }) enters (of_control 1 18) (none_sent 1 (start_cost (call_of hand))) (none_sent 1 0) first second third (enters_to is)
      (entered is (ap holds_lock at) (subst (λ (ts : List Seat). IsInductive (record { qdisc = enters.qdisc; seats = ts }))
      (ap (λ (ts : List Seat). set ts i enters.seat) (set-twice seats i at_idle starts) ∙ set-twice seats i starts enters.seat) kept))
      r.parts.machine.invariant.kept.one_holder (still_serves q seats i v.place at_idle inside_ (there s.views id v w here live live') (ap holds_lock at) refl)
      (still_serves q (set seats i at_idle) i at_idle starts (omega arith) here_idle refl (starts_free hand v.place)))
