-- `reset_missed` keeps the rule of the table.
use Rattle.std.proofs.Common.{◌≡◌, ℕ, ◌<◌, Bool, true, false, ◌∷◌, ◌++◌, set, refl, sym, ap, ◌∙◌, subst, arith, Option, Some, None, ⊎_elim}
use Rattle.std.specs.Prelude.{if◌then◌else◌, not, nat_lt, bit_and}
use Rattle.std.proofs.lemmas.Bool.{lt-ltb}
use mathlib.Core.Option.{none}
use Rattle.atomic_table.specs.Table.{step, Allows, keeps}
use Rattle.lq_model.specs.declared.machine.ControlStep.TheVariants.{PurgeMissed}
use Rattle.lq_model.specs.declared.machine.Position.TheVariants.{Control}
use Rattle.lq_model.specs.declared.machine.Seat.{Seat}
use Rattle.lq_model.specs.Machine.{Qdisc, Purge}
use Rattle.lq_model.specs.Control.{is_control, is_after_bands, after_purge, purge_missed}
use Rattle.lq_model.specs.Kept.{IsInductive}
use Rattle.lq_table.specs.Places.{state_place}
use Rattle.lq_table.specs.Views.{View, Setup, Left}
use Rattle.lq_table.specs.Rule.{words_of, account, machine_of, event_word, Rule}
use Rattle.lq_table.specs.Moves.{Sat}
use Rattle.lq_table.specs.Purges.{purge_ending, purge_going, no_missed, reset_missed_view, reset_missed_view_in}
use Rattle.lq_table.proofs.Bits.{and_missed, event_small}
use Rattle.lq_table.proofs.ByName.{set_state}
use Rattle.lq_table.proofs.Middle.{middle, controls_in}
use Rattle.lq_table.proofs.Frames.{opened, closed}
use Rattle.lq_table.proofs.StationFrames.{stands_state}
use Rattle.lq_table.proofs.ResetKept.{purge_continues, purge_ends}
use Rattle.lq_table.proofs.RecheckKept.{two_ways}
use Rattle.lq_log.specs.Made.{becomes}

module _ (k : Setup) where
  -- MISSED is cleared last
  pub ends_missed : (slots id : ℕ) (m : Sat) (u : Purge) (l : Left) → m.0.place.position ≡ Control true → m.0.control.purge ≡ Some u → not (nat_lt u.band 3) ≡ true → u.draining ≡ true → m.0.holder.left ≡ Some l → m.0.holder.resizing ≡ None → 0 < m.0.share.shares
      → Allows (Rule k) slots id m state_place (λ n. bit_and n 18446744073709551611) (becomes (λ _. purge_ending no_missed) (step slots state_place 18446744073709551611 0 none) m)
  ends_missed slots id m u l position purge over other left no_resizing some_share s r deep here small =
      let v : View = m.0 in let q = r.qdisc in let p = r.parts in let a = account k r.state in let W = words_of k s.words in let live = lt-ltb 0 v.share.shares some_share in let mid = middle s.views id v here live in let w : View = purge_ending no_missed v in
      let first : v.control.first ≡ true = p.machine.firsts.control id v here live (ap is_control position) in let now : q.purge ≡ Some u = sym (p.machine.firsts.knows id v here first).1 ∙ purge in
      let q' : Qdisc = record q { missed = false; phase = after_purge q.phase; purge = None } in
      let at_control : Seat = record v.place { position = Control true } in let is : v.place ≡ at_control = λ j. record v.place { position = position j } in
      let stepped_ = controls_in q mid.before mid.after at_control PurgeMissed true refl refl (ap is_after_bands now ∙ over) (subst (λ (t : Seat). IsInductive (record { qdisc = q; seats = mid.before ++ t ∷ mid.after })) is (opened s.views id v here live q p.machine.invariant)) in
      let done : purge_missed q.purge q ≡ q' = ap (λ (o : Option Purge). purge_missed o q) now ∙ ap (λ (b : Bool). if b then record q { missed = false; phase = after_purge q.phase; purge = None } else record q { missed = false; purge = Some (record u { missed = true }) }) other in
      let x : ℕ = bit_and W.state 18446744073709551611 in (
        w,
        keeps,
        tt,
        purge_ends k s r id x v u l no_missed q' here position purge over left no_resizing some_share
            (subst (λ (z : Qdisc). IsInductive (machine_of z (set s.views id w))) done (closed s.views id v here live w (purge_missed q.purge q) at_control live is stepped_))
            (λ z e. ap (λ (y : Qdisc). record y { missed = false; phase = after_purge y.phase; purge = None }) e) refl refl refl refl refl refl refl refl
            (set_state k s.words x (let wide = r.wide in omega arith))
            (stands_state p.station.stands (ap (λ (y : ℕ). bit_and y 18446744073709551611) p.station.stands.state ∙ and_missed q.sched q.deactivated q.missed q.draining (event_word a.down) (event_small q (event_word a.down) (let word = p.station.stands.state in let s_ : W.state < 18446744073709551616 = small in omega arith))) refl),
        refl,
      )

  -- MISSED is cleared first
  pub goes_on_missed : (slots id : ℕ) (m : Sat) (u : Purge) → m.0.place.position ≡ Control true → m.0.control.purge ≡ Some u → not (nat_lt u.band 3) ≡ true → u.draining ≡ false → 0 < m.0.share.shares
      → Allows (Rule k) slots id m state_place (λ n. bit_and n 18446744073709551611) (becomes (λ _. purge_going no_missed (record u { missed = true })) (step slots state_place 18446744073709551611 0 none) m)
  goes_on_missed slots id m u position purge over other some_share s r deep here small =
      let v : View = m.0 in let q = r.qdisc in let p = r.parts in let a = account k r.state in let W = words_of k s.words in let live = lt-ltb 0 v.share.shares some_share in let mid = middle s.views id v here live in let u' : Purge = record u { missed = true } in let w : View = purge_going no_missed u' v in
      let first : v.control.first ≡ true = p.machine.firsts.control id v here live (ap is_control position) in let now : q.purge ≡ Some u = sym (p.machine.firsts.knows id v here first).1 ∙ purge in
      let q' : Qdisc = record q { missed = false; purge = Some u' } in
      let at_control : Seat = record v.place { position = Control true } in let is : v.place ≡ at_control = λ j. record v.place { position = position j } in
      let stepped_ = controls_in q mid.before mid.after at_control PurgeMissed true refl refl (ap is_after_bands now ∙ over) (subst (λ (t : Seat). IsInductive (record { qdisc = q; seats = mid.before ++ t ∷ mid.after })) is (opened s.views id v here live q p.machine.invariant)) in
      let done : purge_missed q.purge q ≡ q' = ap (λ (o : Option Purge). purge_missed o q) now ∙ ap (λ (b : Bool). if b then record q { missed = false; phase = after_purge q.phase; purge = None } else record q { missed = false; purge = Some u' }) other in
      let x : ℕ = bit_and W.state 18446744073709551611 in (
        w,
        keeps,
        tt,
        purge_continues k s r id x v u u' no_missed q' here position purge some_share
            (subst (λ (z : Qdisc). IsInductive (machine_of z (set s.views id w))) done (closed s.views id v here live w (purge_missed q.purge q) at_control live is stepped_))
            (λ z e. ap (λ (y : Qdisc). record y { missed = false; purge = Some u' }) e) refl refl refl refl refl refl refl refl
            (set_state k s.words x (let wide = r.wide in omega arith))
            (stands_state p.station.stands (ap (λ (y : ℕ). bit_and y 18446744073709551611) p.station.stands.state ∙ and_missed q.sched q.deactivated q.missed q.draining (event_word a.down) (event_small q (event_word a.down) (let word = p.station.stands.state in let s_ : W.state < 18446744073709551616 = small in omega arith))) refl),
        refl,
      )

module _ (k : Setup) where
  -- the two bits after the last packet of a purge
  pub resets_missed : (slots id : ℕ) (m : Sat) (u : Purge) (l : Left) → m.0.place.position ≡ Control true → m.0.control.purge ≡ Some u → not (nat_lt u.band 3) ≡ true → m.0.holder.left ≡ Some l → m.0.holder.resizing ≡ None → 0 < m.0.share.shares
      → Allows (Rule k) slots id m state_place (λ n. bit_and n 18446744073709551611) (becomes (λ _. reset_missed_view) (step slots state_place 18446744073709551611 0 none) m)
  resets_missed slots id m u l position purge over left no_resizing some_share =
      ⊎_elim
      (λ (e : u.draining ≡ true). subst Goal (ap (λ (b : Bool). if b then ended else gone_on) (sym e) ∙ told) (ends_missed k slots id m u l position purge over e left no_resizing some_share))
      (λ (e : u.draining ≡ false). subst Goal (ap (λ (b : Bool). if b then ended else gone_on) (sym e) ∙ told) (goes_on_missed k slots id m u position purge over e some_share))
      (two_ways u.draining)
    where
      Goal : View → Type 0
      Goal w = Allows (Rule k) slots id m state_place (λ n. bit_and n 18446744073709551611) (λ _ m'. m' ≡ (w, m.1))

      ended : View
      ended = purge_ending no_missed m.0

      gone_on : View
      gone_on = purge_going no_missed (record u { missed = true }) m.0

      told : (if u.draining then ended else gone_on) ≡ reset_missed_view m.0
      told = ap (λ (o : Option Purge). reset_missed_view_in o m.0) (sym purge)
