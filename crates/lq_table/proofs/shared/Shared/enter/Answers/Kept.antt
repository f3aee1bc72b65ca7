-- `enter` keeps the rule of the table.
use Rattle.std.proofs.Common.{◌≡◌, ◌≢◌, ℕ, ◌+◌, ◌%◌, ◌^◌, ◌<◌, ◌≤◌, Bool, true, false, true≢false, ◌⊎◌, inl, inr, List, [], ◌∷◌, ◌++◌, length, set, get_or, take, refl, sym, ap, ap₂, ◌∙◌, subst, arith, Option, Some, None, sum_by, ⊎_elim}
use Rattle.std.specs.Prelude.{◌&&◌, is_some}
use Rattle.std.proofs.lemmas.Bool.{false≢true, lt-ltb}
use Rattle.std.proofs.lemmas.List.{get_or_past}
use Rattle.std.proofs.lemmas.List.Sums.{sum_by-cons}
use mathlib.Core.Logic.{dite}
use native.Mathlib.Decide.{dec_lt}
use mathlib.Core.Option.{some, none}
use lib.ListN.{get_elem?}
use Rattle.atomic_table.specs.Table as table
use Rattle.atomic_table.specs.Table.{step, Allows, keeps}
use Rattle.lq_device.specs.Station.{StationState}
use Rattle.lq_model.specs.declared.machine.Answer.TheVariants.{Plain}
use Rattle.lq_model.specs.declared.machine.Packet.{Packet}
use Rattle.lq_model.specs.declared.machine.Position.{Position}
use Rattle.lq_model.specs.declared.machine.Position.TheVariants.{Idle, Control}
use Rattle.lq_model.specs.declared.machine.Seat.{Seat}
use Rattle.lq_model.specs.Machine.{Qdisc, bit, idle_seat}
use Rattle.lq_model.specs.Steps.{step_at, may_answer, may_begin, begun, is_idle}
use Rattle.lq_model.specs.Control.{is_control}
use Rattle.lq_model.specs.Positions.{is_inside, holds_lock, own_packet}
use Rattle.lq_model.specs.Kept.{IsInductive}
use Rattle.lq_model.specs.Quiet.{IsFree}
use Rattle.lq_band_laws.proofs.Seats.{total_two, each_same}
use Rattle.lq_table.specs.Places.{inside_place}
use Rattle.lq_table.specs.Views.{View, Setup, HolderPart, machine_packet}
use Rattle.lq_table.specs.Rule.{words_of, account, holders, times, is_live, seats_of, machine_of, Owns, Rule}
use Rattle.lq_table.specs.Moves.{at_rest, Sat, seen_by}
use Rattle.lq_table.specs.Inside.{call_of, bringing_packet, enter_view}
use Rattle.lq_table.proofs.shared.Shared.enter.Invariants.{enter_told}
use Rattle.lq_table.proofs.ByName.{set_inside}
use Rattle.lq_table.proofs.Middle.{middle, to_idle, elsewhere, found, begins_in, steps_in, few_seats}
use Rattle.lq_table.proofs.Facts.{map_some}
use Rattle.lq_table.proofs.Frames.{same_xoff, firsts_same, rule_after, opened, closed, same_past, lends_step}
use Rattle.lq_table.proofs.SeatFrames.{seats_same}
use Rattle.lq_table.proofs.StationFrames.{station_kept, ties_same}
use Rattle.lq_table.proofs.Loads.{also}
use Rattle.lq_log.specs.Made.{becomes}

one_bit : (b : Bool) → bit b ≤ 1
one_bit true = omega arith
one_bit false = omega arith

few_bits : (f : Seat → Bool) (seats : List Seat) → sum_by (λ s. bit (f s)) seats ≤ length seats
few_bits f [] = omega arith
few_bits f (s ∷ ss) = let few = few_bits f ss in let one = one_bit (f s) in omega (arith, sum_by-cons (λ s. bit (f s)) s ss)

enter_may : (hand : Option Packet) (s : Seat) (q : Qdisc) → may_answer (begun (call_of hand) s).position Plain q ≡ true
enter_may (Some p) s q = refl
enter_may None s q = refl

enter_seat : (seen : Qdisc) (hand : Option Packet) (s : Seat) (q : Qdisc)
    → (step_at (begun (call_of hand) s).position Plain seen (begun (call_of hand) s)).seat ≡ (step_at (begun (call_of hand) s).position Plain q (begun (call_of hand) s)).seat
enter_seat seen (Some p) s q = refl
enter_seat seen None s q = refl

enter_words : (hand : Option Packet) (s : Seat) (q : Qdisc) → (step_at (begun (call_of hand) s).position Plain q (begun (call_of hand) s)).qdisc ≡ record q { inside = q.inside + 1 }
enter_words (Some p) s q = refl
enter_words None s q = refl

enter_free : (hand : Option Packet) (s : Seat) (q : Qdisc) → holds_lock (step_at (begun (call_of hand) s).position Plain q (begun (call_of hand) s)).seat.position ≡ false
enter_free (Some p) s q = refl
enter_free None s q = refl

enter_uncontrolled : (hand : Option Packet) (s : Seat) (q : Qdisc) → is_control (step_at (begun (call_of hand) s).position Plain q (begun (call_of hand) s)).seat.position ≡ false
enter_uncontrolled (Some p) s q = refl
enter_uncontrolled None s q = refl

enter_own : (hand : Option Packet) (s : Seat) (q : Qdisc) (p : Packet) → own_packet (step_at (begun (call_of hand) s).position Plain q (begun (call_of hand) s)).seat.position ≡ Some p → hand ≡ Some p
enter_own (Some r) s q p e = e
enter_own None s q p e = absurd cc

begun_same : (hand : Option Packet) (s : Seat) → begun (call_of hand) (record s { position = Idle }) ≡ begun (call_of hand) s
begun_same (Some p) s = refl
begun_same None s = refl

enter_begins : (hand : Option Packet) (s : Seat) → s.position ≡ Idle → (is_some hand ≡ true) ⊎ (s.raised ≡ true) → may_begin (call_of hand) s ≡ true
enter_begins (Some p) s e h = ap is_idle e
enter_begins None s e (inl h) = absurd (false≢true h)
enter_begins None s e (inr h) = ap₂ (λ (p : Position) (b : Bool). is_idle p && b) e h

rests_free : (position : Position) → at_rest position ≡ true → holds_lock position ≡ false
rests_free Idle h = refl
rests_free (Control true) h = absurd (true≢false (sym h))
rests_free (Control false) h = refl
rests_free _ h = absurd (false≢true h)

module _ (k : Setup) where
  abbrev St : Type 0
  St = table.State (Option StationState) View

  -- no other seat is in a transmit of a packet of this seat's owners
  alone : (s : St) (r : Rule k s) (id : ℕ) (v : View) (at : get_elem? s.views id ≡ some v) (live : is_live v ≡ true) (p : Packet) → Owns k v.share v.packets.busy (Some p) → (j : ℕ) (t : Packet) → length (middle s.views id v at live).before ≢ j
      → own_packet (get_or ((middle s.views id v at live).before ++ v.place ∷ (middle s.views id v at live).after) j idle_seat).position ≡ Some t → p.owner ≢ t.owner
  alone s r id v at live p owns j t apart own same =
      let m = middle s.views id v at live in let seats : List Seat = m.before ++ v.place ∷ m.after in
      dite (dec_lt j (length seats))
      (λ below. let f = found s.views j (subst (λ (ss : List Seat). j < length ss) (sym m.was) below) in
      let mine = owns p refl in
      let theirs = r.parts.machine.hands f.id f.view f.at f.live t
      (ap (λ (u : Seat). own_packet u.position) f.is ∙ (ap (λ (ss : List Seat). own_packet (get_or ss j idle_seat).position) m.was ∙ own)) in
      let one = r.parts.seats.shares.owners p.owner mine.0 in
      let other : f.id ≢ id = λ e. apart (m.place ∙ (ap (λ (i : ℕ). length (seats_of (take i s.views))) (sym e) ∙ f.place)) in
      let two = total_two (λ u. times p.owner u.share.owners) s.views id f.id v f.view at f.at other in
      let theirs' : 0 < times p.owner f.view.share.owners = subst (λ (o : ℕ). 0 < times o f.view.share.owners) (sym same) theirs.1 in
      let mine' = mine.1 in omega arith)
      (λ above. let none : own_packet (get_or seats j idle_seat).position ≡ None = ap (λ (u : Seat). own_packet u.position) (get_or_past seats j idle_seat (omega arith)) in cc)

  enter_alone : (s : St) (r : Rule k s) (id : ℕ) (v : View) (at : get_elem? s.views id ≡ some v) (live : is_live v ≡ true) (hand : Option Packet) → Owns k v.share v.packets.busy hand
      → IsFree (call_of hand) (length (middle s.views id v at live).before) (record { qdisc = r.qdisc; seats = (middle s.views id v at live).before ++ (record v.place { position = Idle }) ∷ (middle s.views id v at live).after })
  enter_alone s r id v at live None owns = tt
  enter_alone s r id v at live (Some p) owns = λ j t apart own. let m = middle s.views id v at live in alone s r id v at live p owns j t apart (ap (λ (u : Seat). own_packet u.position) (elsewhere m.before m.after v.place (record v.place { position = Idle }) j apart) ∙ own)

  pub enters : (slots id : ℕ) (m : Sat) → at_rest m.0.place.position ≡ true → (is_some (bringing_packet m.0) ≡ true) ⊎ (m.0.place.raised ≡ true) → 0 < m.0.share.shares
      → Allows (Rule k) slots id m inside_place (λ n. (n + 1) % 2 ^ 64) (becomes (λ _. enter_view) (step slots inside_place 1 0 none) m)
  enters slots id m idle call some_share s r deep at small =
      let v : View = m.0 in let q = r.qdisc in let p = r.parts in let g = r.state in let a = account k g in let W = words_of k s.words in let live = lt-ltb 0 v.share.shares some_share in let w = enter_view v in
      let hand : Option Packet = bringing_packet v in let t : Seat = begun (call_of hand) v.place in let q' : Qdisc = record q { inside = q.inside + 1 } in let n : ℕ = get_or s.words inside_place 0 in
      let D : HolderPart = holders g a W.size in
      let owns : Owns k v.share v.packets.busy hand = λ y is. let o = map_some (machine_packet v.share.about.infos) v.packets.fresh y is in let know = p.seats.packets id v at in let mine = know.fresh o.0 o.1 in
      let same : y ≡ machine_packet k.infos o.0 = sym o.2 ∙ ap (λ (z : Setup). machine_packet z.infos o.0) (p.seats.shares.about id v at live) in
      subst (λ (z : Packet). (z.owner < k.senders) × (0 < times z.owner v.share.owners) × (n : ℕ) × (v.packets.busy ≡ Some n) × (z ≡ machine_packet k.infos n)) (sym same)
      (know.own _ mine.0, mine.0, o.0, (p.seats.turns.knows id v at).fresh o.0 o.1, refl) in
      let mid = middle s.views id v at live in let at_idle : Seat = record v.place { position = Idle } in let old = to_idle q mid.before mid.after v.place v.place.position refl idle (opened s.views id v at live q p.machine.invariant) in
      let begin = subst (λ (u : Seat). IsInductive (record { qdisc = q; seats = mid.before ++ u ∷ mid.after })) (begun_same hand v.place) (begins_in q mid.before mid.after at_idle (call_of hand) (enter_begins hand at_idle refl call) (enter_alone s r id v at live hand owns) old) in
      let now = steps_in q mid.before mid.after t Plain (enter_may hand v.place q) begin in
      let word : n ≡ q.inside = p.station.stands.inside in
      let few : q.inside ≤ 1024 = (let a = few_bits (λ u. is_inside u.position) (seats_of s.views) in let b = few_seats s.views in let c = p.seats.shares.sum in let d = p.machine.invariant.kept.calls_inside in omega arith) in
      let free : holds_lock w.place.position ≡ false = enter_free hand v.place (seen_by v) in (
        w,
        keeps,
        tt,
        rule_after k s r inside_place _ id s.homes r.home w (record W { inside = (n + 1) % 2 ^ 64 }) q' g a r.deep (set_inside k s.words _ (let wide = r.wide in omega arith)) refl record {
          seats = seats_same k s r id v w at live q' g refl refl refl (λ e e'. (ap (λ (z : Qdisc). (step_at t.position Plain z t).qdisc) e ∙ enter_words hand v.place q, e'));
          machine = record {
            invariant = subst (λ (z : Qdisc). IsInductive (machine_of z (Rattle.std.proofs.Common.set s.views id w))) (enter_words hand v.place q)
                (closed s.views id v at live w (step_at t.position Plain q t).qdisc (step_at t.position Plain q t).seat live (enter_seat (seen_by v) hand v.place q) now);
            hands = each_same (λ u. is_live u ≡ true → Owns k u.share u.packets.busy (own_packet u.place.position)) s.views id w p.machine.hands (λ _ y is. owns y (enter_own hand v.place (seen_by v) y is));
            firsts = firsts_same k s.views id v w at q.phase q.phase q.purge q.purge p.machine.firsts live refl refl refl refl (λ control. absurd (true≢false (sym control ∙ enter_uncontrolled hand v.place (seen_by v))));
          };
          station = station_kept k s r id v w at (record W { inside = (n + 1) % 2 ^ 64 }) r.home q' g a refl (λ _. refl) refl (λ _ _ _ h. absurd (true≢false (sym h ∙ rests_free v.place.position idle)))
              (record { state = p.station.stands.state; lock = p.station.stands.lock; xoff = p.station.stands.xoff; inside = omega arith; bypass = p.station.stands.bypass })
              (ties_same p.station.ties refl refl)
              (lends_step k.infos W.xoff W.xoff g.past g.past same_past same_xoff q.locked r.home s.views D id v w at p.station.lends (λ _ h. absurd (true≢false (sym h ∙ free))))
              p.station.stops;
          account = p.account;
        },
        refl,
      )

pub enters_all : (k : Setup) (slots id : ℕ) (m : Sat) → at_rest m.0.place.position ≡ true → (is_some (bringing_packet m.0) ≡ true) ⊎ ((m.0.place.raised ≡ true) × (m.0.packets.busy ≡ None)) → 0 < m.0.share.shares
    → Allows (Rule k) slots id m inside_place (λ n. (n + 1) % 2 ^ 64) (enter_told (step slots inside_place 1 0 none) m)
enters_all k slots id m rests call h =
    also k slots id m inside_place (λ n. (n + 1) % 2 ^ 64) (λ x m'. becomes (λ _. enter_view) (step slots inside_place 1 0 none) m x m') (λ _. (n : ℕ) → m.0.packets.fresh ≡ Some n → m.0.packets.busy ≡ Some n)
    (λ s r here n fresh. (r.parts.seats.turns.knows id m.0 here).fresh n fresh)
    (enters k slots id m rests (⊎_elim (λ (brings : _). inl brings) (λ (soft : _). inr soft.0) call) h)
