-- `load_state` keeps the rule of the table.
use Rattle.std.specs.Prelude.{◌&&◌, if◌then◌else◌}
use Rattle.std.proofs.Common.{◌≡◌, ℕ, ◌<◌, Bool, true, false, None, refl, sym, ap, ◌∙◌, subst, get_or}
use Rattle.std.proofs.lemmas.Bool.{false≢true, lt-ltb}
use mathlib.Core.Option.{none}
use Rattle.atomic_table.specs.Table.{step, Allows, keeps}
use Rattle.lq_model.specs.declared.machine.Answer.TheVariants.{Plain}
use Rattle.lq_model.specs.declared.machine.Position.{Position}
use Rattle.lq_model.specs.declared.machine.Position.TheVariants.{Control, Post, Test, Tail, Soft, Late, Unlock, ClearMissed}
use Rattle.lq_model.specs.declared.machine.Seat.{Seat}
use Rattle.lq_model.specs.Machine.{Qdisc, is_non_empty}
use Rattle.lq_model.specs.Steps.{After, step_at, run_begins, goes_to}
use Rattle.lq_model.specs.Positions.{holds_lock, in_hand}
use Rattle.lq_table.specs.Places.{state_place}
use Rattle.lq_table.specs.Views.{View, Setup}
use Rattle.lq_table.specs.Rule.{words_of, Rule}
use Rattle.lq_table.specs.Moves.{Sat, seen_by, unchanged}
use Rattle.lq_table.specs.States.{seen_state, load_state_at, load_state_view}
use Rattle.lq_table.proofs.shared.Shared.load_state.Invariants.{load_state_told}
use Rattle.lq_table.proofs.ByName.{set_back}
use Rattle.lq_table.proofs.Shows.{Shows, begins_alike, holder_shows}
use Rattle.lq_table.proofs.RecheckKept.{bits_only, seen}
use Rattle.lq_table.proofs.Loads.{told_as, loads_any, also}
use Rattle.lq_table.proofs.Quiet.{Still, quiet}
use Rattle.lq_table.proofs.Frames.{Fits}
use Rattle.lq_table.proofs.StatesKept.{either_seat, plain_still}
use Rattle.lq_band_laws.specs.Three.{at}
use Rattle.lq_table.proofs.SoleFacts.{sees_state}
use Rattle.lq_table.proofs.SoleKept.{sees}
use Rattle.lq_log.specs.Made.{becomes}

either_words : (b : Bool) (x y : After) (q : Qdisc) → x.qdisc ≡ q → y.qdisc ≡ q → (if b then x else y).qdisc ≡ q
either_words true x y q e e' = e
either_words false x y q e e' = e'

either_still : (b : Bool) (old : Position) (x y : After) → Still old x.seat.position → Still old y.seat.position → Still old (if b then x else y).seat.position
either_still true old x y e e' = e
either_still false old x y e e' = e'

either_place : (b : Bool) (old x y : Position) → Still old x → Still old y → Still old (if b then x else y)
either_place true old x y e e' = e
either_place false old x y e e' = e'

abbrev looks_in_call : Position → Bool
looks_in_call Post = true
looks_in_call Test = true
looks_in_call (Tail inside) = true
looks_in_call Soft = true
looks_in_call Late = true
looks_in_call _ = false

look_fits : (base q : Qdisc) (position : Position) (s : Seat) → (holds_lock position ≡ true → Shows q base) → looks_in_call position ≡ true → Fits q (bits_only base q) Plain position s q
look_fits base q Post s shows h = record {
  may = refl;
  seat = either_seat (is_non_empty q) (run_begins (bits_only base q) s) (goes_to (bits_only base q) s Unlock) (run_begins q s) (goes_to q s Unlock) (λ j. record { position = begins_alike q (bits_only base q) (record { queues = (shows refl).queues; slot = (shows refl).slot }) j; raised = s.raised; run = 0 }) refl;
  words = either_words (is_non_empty q) (run_begins q s) (goes_to q s Unlock) q refl refl;
}
look_fits base q Test s shows h = record { may = refl; seat = refl; words = refl }
look_fits base q (Tail inside) s shows h = record { may = refl; seat = refl; words = refl }
look_fits base q Soft s shows h = record { may = refl; seat = refl; words = refl }
look_fits base q Late s shows h = record { may = refl; seat = refl; words = refl }
look_fits base q _ s shows h = absurd (false≢true h)

begins_still : (q : Qdisc) (old : Position) → Rattle.lq_model.specs.Positions.in_hand old ≡ Rattle.std.proofs.Common.None → Rattle.lq_model.specs.Positions.is_hanging old ≡ false → Still old (Rattle.lq_model.specs.Steps.dequeue_begins q)
begins_still q old e e' = either_place (Rattle.lq_model.specs.Machine.has_several_queues q && Rattle.std.specs.Prelude.is_none q.slot) old _ _ (plain_still (sym e) refl refl e') (plain_still (sym e) refl refl e')

look_still : (base q : Qdisc) (position : Position) (s : Seat) → looks_in_call position ≡ true → holds_lock position ≡ true → Still position (step_at position Plain (bits_only base q) s).seat.position
look_still base q Post s h holds = either_still (is_non_empty q) Post (run_begins (bits_only base q) s) (goes_to (bits_only base q) s Unlock) (begins_still base Post refl refl) (plain_still refl refl refl refl)
look_still base q Test s h holds = either_place (is_non_empty q) Test ClearMissed Unlock (plain_still refl refl refl refl) (plain_still refl refl refl refl)
look_still base q (Tail inside) s h holds = absurd (false≢true holds)
look_still base q Soft s h holds = absurd (false≢true holds)
look_still base q Late s h holds = absurd (false≢true holds)
look_still base q _ s h holds = absurd (false≢true h)

module _ (k : Setup) where
  looks : (slots id : ℕ) (m : Sat) → looks_in_call m.0.place.position ≡ true → 0 < m.0.share.shares
      → Allows (Rule k) slots id m state_place (λ n. n) (becomes load_state_view (step slots state_place 0 0 none) m)
  looks slots id m at some_share s r deep here small =
      let v : View = m.0 in let q = r.qdisc in let p = r.parts in let W = words_of k s.words in let live = lt-ltb 0 v.share.shares some_share in
      let same : seen_state (seen_by v) v.share.about.bypass (get_or s.words state_place 0) ≡ bits_only (seen_by v) q = seen k s r (seen_by v) v.share.about.bypass (ap (λ (z : Setup). z.bypass) (p.seats.shares.about id v here live)) in
      let fits : Fits q (seen_state (seen_by v) v.share.about.bypass (get_or s.words state_place 0)) Plain v.place.position v.place q = subst (λ (z : Qdisc). Fits q z Plain v.place.position v.place q) (sym same) (look_fits (seen_by v) q v.place.position v.place (holder_shows k s r id v here live) at) in (
        load_state_view W.state v,
        keeps,
        tt,
        quiet k s r state_place W.state id W.state W.inside v Plain _ q here live fits record { bands = refl; slot = refl; xoff = refl; len = refl; deactivated = refl; locked = refl; purge = refl; phase = refl } (set_back k s.words state_place) p.station.stands
            (λ holds. subst (λ (z : Qdisc). Still v.place.position (step_at v.place.position Plain z v.place).seat.position) (sym same) (look_still (seen_by v) q v.place.position v.place at holds)),
        refl,
      )

  -- in a call, or by control
  pub looks_all : (slots id : ℕ) (m : Sat) → load_state_at m.0.place.position ≡ true → 0 < m.0.share.shares
      → Allows (Rule k) slots id m state_place (λ n. n) (becomes load_state_view (step slots state_place 0 0 none) m)
  looks_all slots id m at some_share = by m.0.place.position refl at
    where
      by : (y : Position) → m.0.place.position ≡ y → load_state_at y ≡ true → Allows (Rule k) slots id m state_place (λ n. n) (becomes load_state_view (step slots state_place 0 0 none) m)
      by Post is h = looks slots id m (ap looks_in_call is) some_share
      by Test is h = looks slots id m (ap looks_in_call is) some_share
      by (Tail inside) is h = looks slots id m (ap looks_in_call is) some_share
      by Soft is h = looks slots id m (ap looks_in_call is) some_share
      by Late is h = looks slots id m (ap looks_in_call is) some_share
      by (Control holds) is h = told_as k slots id m state_place (λ n. n) (unchanged (step slots state_place 0 0 none) m) (becomes load_state_view (step slots state_place 0 0 none) m)
          (λ x m' z. z ∙ (λ j. (record m.0 { place = record m.0.place { position = is j } }, m.1)) ∙ (λ j. (
            record m.0 {
              place = (step_at (sym is j) Plain (seen_state (seen_by m.0) m.0.share.about.bypass x) m.0.place).seat;
              whole = record m.0.whole { qdisc = (step_at (sym is j) Plain m.0.whole.qdisc m.0.place).qdisc };
            },
            m.1,
          )))
          (loads_any k slots id m state_place)
      by _ is h = absurd (false≢true h)

module _ (k : Setup) (slots id : ℕ) (m : Sat) where
  pub looks_sole : load_state_at m.0.place.position ≡ true → 0 < m.0.share.shares → Allows (Rule k) slots id m state_place (λ n. n) (load_state_told (step slots state_place 0 0 none) m)
  looks_sole at some_share = also k slots id m state_place (λ n. n) (becomes load_state_view (step slots state_place 0 0 none) m) (sees k slots id m) (λ s r here sole. sees_state k s r id m.0 here some_share sole) (looks_all k slots id m at some_share)
