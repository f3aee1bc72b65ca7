-- `set_deactivated` keeps the rule of the table.
use Rattle.std.proofs.Common.{◌≡◌, ℕ, ◌+◌, ◌*◌, ◌<◌, Bool, true, false, true≢false, List, ◌∷◌, ◌++◌, refl, sym, ap, ap₂, ◌∙◌, subst, arith, Option, Some, None}
use Rattle.std.specs.Prelude.{◌&&◌, not, bit_or, is_none, is_some}
use Rattle.std.proofs.lemmas.Bool.{false≢true, lt-ltb}
use mathlib.Core.Option.{none}
use Rattle.atomic_table.specs.Table.{step, Allows, keeps}
use Rattle.lq_model.specs.declared.machine.Beginning.TheVariants.{Controls}
use Rattle.lq_model.specs.declared.machine.ControlStep.TheVariants.{SetDeactivated}
use Rattle.lq_model.specs.declared.machine.Phase.TheVariants.{Purged, Active, Closing}
use Rattle.lq_model.specs.declared.machine.Position.{Position}
use Rattle.lq_model.specs.declared.machine.Position.TheVariants.{Idle, Control}
use Rattle.lq_model.specs.declared.machine.Seat.{Seat}
use Rattle.lq_model.specs.Account.{Account, Event, Down, after}
use Rattle.lq_model.specs.Machine.{Qdisc, Purge, bit, is_closed}
use Rattle.lq_model.specs.Steps.{is_idle}
use Rattle.lq_model.specs.Positions.{holds_lock}
use Rattle.lq_model.specs.Kept.{IsInductive}
use Rattle.lq_table.specs.Places.{state_place}
use Rattle.lq_table.specs.Views.{View, Setup, State, HolderPart}
use Rattle.lq_table.specs.Rule.{words_of, account, holders, event_word, Rule}
use Rattle.lq_table.proofs.UnitsKept.{gone_step}
use Rattle.lq_table.specs.Moves.{Sat, at_rest}
use Rattle.lq_table.specs.Controls.{set_deactivated_view}
use Rattle.lq_table.proofs.Bits.{or_event}
use Rattle.lq_table.proofs.ByName.{set_state}
use Rattle.lq_table.proofs.Middle.{middle, begins_in, controls_in}
use Rattle.lq_table.proofs.StopsKept.{agree, none_agree, other_none}
use Rattle.lq_table.proofs.Frames.{same_xoff, leaves_same, rule_after, opened, closed, Later, lends_step, moves}
use Rattle.lq_table.proofs.SeatFrames.{seats_by_control, packets_heard}
use Rattle.lq_table.proofs.StationFrames.{station_kept, account_heard, stands_state}
use Rattle.lq_table.proofs.ControlsKept.{firsts_now}
use Rattle.lq_log.specs.Made.{becomes}

-- the seat is at control, as it was or by a start
to_control : (q : Qdisc) (xs ys : List Seat) (s : Seat) (position : Position) → s.position ≡ position → at_rest position ≡ true → IsInductive (record { qdisc = q; seats = xs ++ s ∷ ys })
    → IsInductive (record { qdisc = q; seats = xs ++ (record s { position = Control false }) ∷ ys })
to_control q xs ys s Idle is rest h = begins_in q xs ys s Controls (ap is_idle is) tt h
to_control q xs ys s (Control false) is rest h = subst (λ (t : Seat). IsInductive (record { qdisc = q; seats = xs ++ t ∷ ys })) (λ j. record s { position = is j }) h
to_control q xs ys s _ is rest h = absurd (false≢true rest)

rests_free : (position : Position) → at_rest position ≡ true → holds_lock position ≡ false
rests_free Idle h = refl
rests_free (Control true) h = absurd (true≢false (sym h))
rests_free (Control false) h = refl
rests_free _ h = absurd (false≢true h)

-- the account is active where the machine is
none_down : (o : Option ℕ) → is_some o ≡ false → o ≡ None
none_down None h = refl
none_down (Some e) h = absurd (true≢false h)

module _ (k : Setup) where
  -- the first seat deactivates the station for the event e
  pub closes : (slots id e : ℕ) (m : Sat) → at_rest m.0.place.position ≡ true → m.0.control.first ≡ true → m.0.control.phase ≡ Active → m.0.control.purge ≡ None → e < 4294967296 → 0 < m.0.share.shares
      → Allows (Rule k) slots id m state_place (λ n. bit_or n (2 + 256 * (e + 1))) (becomes (λ _. set_deactivated_view e) (step slots state_place (2 + 256 * (e + 1)) 0 none) m)
  closes slots id n m rests first active no_purge small_event some_share s r deep here small =
      let v : View = m.0 in let q = r.qdisc in let p = r.parts in let g = r.state in let a = account k g in let W = words_of k s.words in let live = lt-ltb 0 v.share.shares some_share in let mid = middle s.views id v here live in
      let D : HolderPart = holders g a W.size in let w : View = set_deactivated_view n v in let e : Event = Down n in let a' : Account = after e a in
      let knows = p.machine.firsts.knows id v here first in let phase : q.phase ≡ Active = sym knows.0 ∙ active in let purge : q.purge ≡ None = sym knows.1 ∙ no_purge in
      let open_ : q.deactivated ≡ false = p.machine.invariant.deactivation ∙ ap is_closed phase in let up : a.down ≡ None = none_down a.down (sym p.station.ties.down ∙ open_) in
      let q' : Qdisc = record q { deactivated = true; phase = Closing } in let g' : State = record g { past = e ∷ g.past } in
      let begun = to_control q mid.before mid.after v.place v.place.position refl rests (opened s.views id v here live q p.machine.invariant) in
      let done = controls_in q mid.before mid.after (record v.place { position = Control false }) SetDeactivated false refl refl (ap₂ (λ (b : Bool) (o : Option Purge). not b && is_none o) open_ purge) begun in
      let no_shut : g.shut ≡ None = other_none q.phase q.locked q.xoff a.stops g.shut (λ purged. absurd (let z : Active ≡ Purged = sym phase ∙ purged in cc)) p.station.stops in
      let later : Later g.past (e ∷ g.past) = record { looked = λ _ h. h; sends = λ h. h; hangs = λ h. h } in (
        w,
        keeps,
        tt,
        rule_after k s r state_place _ id s.homes r.home w (record W { state = bit_or W.state (2 + 256 * (n + 1)) }) q' g' a' r.deep (set_state k s.words _ (let wide = r.wide in omega arith)) refl record {
          seats = seats_by_control k s r id v w here live e g.origin q' g' a' refl refl (λ j. (v.packets.fresh, v.settled, p.seats.trails.came id v here first j, e ∷ v.trail, v.whole.told)) first refl refl
              (packets_heard k s r id v w here live e a' refl (λ _. refl) refl refl)
              (gone_step k s.views id v w here e tt p.seats.gone refl) (λ e1 e2. (ap (λ (z : Qdisc). record z { deactivated = true; phase = Closing }) e1, ap (λ (z : State). record z { past = e ∷ z.past }) e2));
          machine = moves k s r id v w here live q' refl refl (closed s.views id v here live w q' w.place live refl done) (λ y own. absurd cc)
              (firsts_now s.views id v w here q.phase Closing q.purge q.purge p.machine.firsts first refl refl knows.1 refl);
          station = station_kept k s r id v w here (record W { state = bit_or W.state (2 + 256 * (n + 1)) }) r.home q' g' a' refl (λ _. refl) refl (λ _ _ _ h. absurd (true≢false (sym h ∙ rests_free v.place.position rests)))
              (stands_state p.station.stands (ap (λ (x : ℕ). bit_or x (2 + 256 * (n + 1))) (p.station.stands.state ∙ ap₂ (λ (b : Bool) (x : ℕ). bit q.sched + 2 * bit b + 4 * bit q.missed + 8 * bit q.draining + 256 * x) open_ (ap event_word up)) ∙ or_event q.sched q.missed q.draining (n + 1)) refl)
              (record { bands_are = p.station.ties.bands_are; slot = p.station.ties.slot; len = p.station.ties.len; down = refl })
              (lends_step k.infos W.xoff W.xoff g.past (e ∷ g.past) later same_xoff q.locked r.home s.views D id v w here p.station.lends (λ _ h. absurd (true≢false (sym h))))
              (none_agree Closing q.locked q.xoff a.stops g.shut no_shut (agree q.phase q.locked q.xoff a.stops g.shut no_shut p.station.stops));
          account = account_heard k s r e refl up tt small_event tt (leaves_same g.left q.purge q.purge a a' p.account.leaves refl refl);
        },
        refl,
      )
