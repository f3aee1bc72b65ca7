-- `clear_deactivated` keeps the rule of the table.
use Rattle.std.proofs.Common.{◌≡◌, ◌≢◌, ℕ, ◌<◌, true, false, true≢false, ◌∷◌, ◌++◌, length, refl, sym, ap, ap₂, ◌∙◌, subst, arith, ⊎_elim, Option, None}
use Rattle.std.specs.Prelude.{◌&&◌, bit_and, is_none}
use Rattle.std.proofs.lemmas.Bool.{lt-ltb, cases_eq}
use mathlib.Core.Option.{some, none, some-injective}
use lib.ListN.{get_elem?}
use Rattle.atomic_table.specs.Table as table
use Rattle.atomic_table.specs.Table.{step, Allows, keeps}
use Rattle.lq_device.specs.Station.{StationState}
use Rattle.lq_model.specs.declared.machine.ControlStep.TheVariants.{ClearDeactivated}
use Rattle.lq_model.specs.declared.machine.Phase.{Phase}
use Rattle.lq_model.specs.declared.machine.Phase.TheVariants.{Active, Purged}
use Rattle.lq_model.specs.declared.machine.Position.{Position}
use Rattle.lq_model.specs.declared.machine.Position.TheVariants.{Control}
use Rattle.lq_model.specs.declared.machine.Seat.{Seat}
use Rattle.lq_model.specs.Account.{Account, Event, Up, after}
use Rattle.lq_model.specs.Machine.{Qdisc, Purge, bit}
use Rattle.lq_model.specs.Control.{is_control, is_purged_phase, is_quiet}
use Rattle.lq_model.specs.Positions.{holds_lock, may_be_inside}
use Rattle.lq_model.specs.Kept.{IsInductive}
use Rattle.lq_band_laws.proofs.Seats.{total_two}
use Rattle.lq_table.specs.Places.{state_place}
use Rattle.lq_table.specs.Views.{View, Setup, State, HolderPart}
use Rattle.lq_table.specs.Rule.{words_of, account, holders, is_live, holding, event_word, Rule}
use Rattle.lq_table.proofs.UnitsKept.{gone_step}
use Rattle.lq_table.specs.Moves.{Sat}
use Rattle.lq_table.specs.Controls.{clear_deactivated_view}
use Rattle.lq_table.proofs.Bits.{and_event}
use Rattle.lq_table.proofs.ByName.{set_state}
use Rattle.lq_run_laws.proofs.Among.{among-at as here_in}
use Rattle.lq_table.proofs.Middle.{middle, controls_in}
use Rattle.lq_table.proofs.StopsKept.{agree, none_agree, free_none}
use Rattle.lq_table.proofs.Frames.{same_xoff, leaves_same, rule_after, opened, closed, total_holding, Later, lends_step, moves}
use Rattle.lq_table.proofs.ControlsKept.{firsts_now}
use Rattle.lq_table.proofs.SeatFrames.{seats_by_control, packets_heard}
use Rattle.lq_table.proofs.StationFrames.{station_kept, account_heard, stands_state}
use Rattle.lq_table.proofs.ClearDeactivatedKept.{both_true, false_if, one_of, purged_idle}
use Rattle.lq_log.specs.Made.{becomes}

-- who holds the lock in a quiet station is control
holds_quiet : (position : Position) → holds_lock position ≡ true → may_be_inside position ≡ true → is_control position ≡ true
holds_quiet (Control holds) h h' = refl
holds_quiet _ h h' = absurd cc

module _ (k : Setup) where
  -- beside control that has not the lock, in a quiet station nobody has it
  pub quiet_unlocked : (s : table.State (Option StationState) View) (r : Rule k s) (id : ℕ) (v : View) → get_elem? s.views id ≡ some v → is_live v ≡ true → v.place.position ≡ Control false → is_quiet r.qdisc.phase ≡ true → r.qdisc.locked ≡ false
  quiet_unlocked s r id v here live position quiet = false_if r.qdisc.locked (λ locked.
      let p = r.parts in let q = r.qdisc in let all = total_holding s.views in let one = p.machine.invariant.kept.one_holder in let b = ap bit locked in
      let o = one_of holding s.views (omega arith) in let both = both_true (is_live o.one) (holds_lock o.one.place.position) o.has in
      let mo = middle s.views o.id o.one o.at_id both.0 in let ok = opened s.views o.id o.one o.at_id both.0 q p.machine.invariant in
      let inside : may_be_inside o.one.place.position ≡ true = ap (λ (t : Seat). may_be_inside t.position) (sym (here_in mo.before mo.after o.one.place)) ∙ ok.kept.quiet_inside quiet (length mo.before) in
      let control = holds_quiet o.one.place.position both.1 inside in let theirs : o.one.control.first ≡ true = p.machine.firsts.control o.id o.one o.at_id both.0 control in
      let mine : v.control.first ≡ true = p.machine.firsts.control id v here live (ap is_control position) in
      ⊎_elim
      (λ (same : o.id ≡ id). let is : o.one ≡ v = some-injective o.one v (sym o.at_id ∙ (ap (get_elem? s.views) same ∙ here)) in true≢false (sym both.1 ∙ (ap (λ (z : View). holds_lock z.place.position) is ∙ ap holds_lock position)))
      (λ (apart : o.id ≢ id). let two = total_two (λ (z : View). bit z.control.first) s.views id o.id v o.one here o.at_id apart in let sum = p.machine.firsts.one in let a = ap bit mine in let c = ap bit theirs in absurd (omega arith))
      (cases_eq o.id id))

  -- DEACTIVATED is cleared
  pub opens : (slots id : ℕ) (m : Sat) → m.0.place.position ≡ Control false → m.0.control.phase ≡ Purged → m.0.control.purge ≡ None → 0 < m.0.share.shares
      → Allows (Rule k) slots id m state_place (λ n. bit_and n 13) (becomes (λ _. clear_deactivated_view) (step slots state_place 13 0 none) m)
  opens slots id m position purged no_purge some_share s r deep here small =
      let v : View = m.0 in let q = r.qdisc in let p = r.parts in let g = r.state in let a = account k g in let W = words_of k s.words in let live = lt-ltb 0 v.share.shares some_share in let mid = middle s.views id v here live in
      let D : HolderPart = holders g a W.size in let w : View = clear_deactivated_view v in let e : Event = Up in let a' : Account = after e a in
      let first : v.control.first ≡ true = p.machine.firsts.control id v here live (ap is_control position) in let knows = p.machine.firsts.knows id v here first in
      let phase : q.phase ≡ Purged = sym knows.0 ∙ purged in let purge : q.purge ≡ None = sym knows.1 ∙ no_purge in
      let free = quiet_unlocked s r id v here live position (ap is_quiet phase) in let idle = purged_idle k s r id v here live (p.account.leaves.none_left purge) phase (p.station.lends.home free).hand_empty in
      let q' : Qdisc = record q { deactivated = false; phase = Active } in let g' : State = record g { past = e ∷ g.past } in
      let at_control : Seat = record v.place { position = Control false } in let is : v.place ≡ at_control = λ j. record v.place { position = position j } in
      let done = controls_in q mid.before mid.after at_control ClearDeactivated false refl refl (ap₂ (λ (o : Option Purge) (x : Phase). is_none o && is_purged_phase x) purge phase) (subst (λ (u : Seat). IsInductive (record { qdisc = q; seats = mid.before ++ u ∷ mid.after })) is (opened s.views id v here live q p.machine.invariant)) in
      let no_shut : g.shut ≡ None = free_none q.phase q.locked q.xoff a.stops g.shut free p.station.stops in
      let later : Later g.past (e ∷ g.past) = record { looked = λ _ h. h; sends = λ h. h; hangs = λ h. h } in (
        w,
        keeps,
        tt,
        rule_after k s r state_place _ id s.homes r.home w (record W { state = bit_and W.state 13 }) q' g' a' r.deep (set_state k s.words _ (let wide = r.wide in omega arith)) refl record {
          seats = seats_by_control k s r id v w here live e g.origin q' g' a' refl refl (λ j. (v.packets.fresh, v.settled, p.seats.trails.came id v here first j, e ∷ v.trail, v.whole.told)) first refl refl
              (packets_heard k s r id v w here live e a' refl (λ _. refl) refl refl)
              (gone_step k s.views id v w here e tt p.seats.gone refl) (λ e1 e2. (ap (λ (z : Qdisc). record z { deactivated = false; phase = Active }) e1, ap (λ (z : State). record z { past = e ∷ z.past }) e2));
          machine = moves k s r id v w here live q' refl refl (closed s.views id v here live w q' at_control live is done) (λ y own. own)
              (firsts_now s.views id v w here q.phase Active q.purge q.purge p.machine.firsts first refl refl knows.1 refl);
          station = station_kept k s r id v w here (record W { state = bit_and W.state 13 }) r.home q' g' a' refl (λ _. refl) refl (λ _ _ y h. (y, h))
              (stands_state p.station.stands (ap (λ (x : ℕ). bit_and x 13) p.station.stands.state ∙ and_event q.sched q.deactivated q.missed q.draining (event_word a.down)) refl)
              (record { bands_are = p.station.ties.bands_are; slot = p.station.ties.slot; len = p.station.ties.len; down = refl })
              (lends_step k.infos W.xoff W.xoff g.past (e ∷ g.past) later same_xoff q.locked r.home s.views D id v w here p.station.lends (λ _ h. absurd (true≢false (sym h ∙ ap holds_lock position))))
              (none_agree Active q.locked q.xoff a.stops g.shut no_shut (agree q.phase q.locked q.xoff a.stops g.shut no_shut p.station.stops));
          account = account_heard k s r e refl idle tt tt tt (leaves_same g.left q.purge q.purge a a' p.account.leaves refl refl);
        },
        refl,
      )
