-- `set_sched` keeps the rule of the table.
use Rattle.std.proofs.Common.{◌≡◌, ℕ, ◌<◌, true, false, true≢false, refl, sym, ap, ◌∙◌, arith}
use Rattle.std.specs.Prelude.{if◌then◌else◌, bit_or}
use Rattle.std.proofs.lemmas.Bool.{false≢true, lt-ltb}
use mathlib.Core.Option.{none}
use Rattle.atomic_table.specs.Table.{step, Allows, keeps}
use Rattle.lq_model.specs.declared.machine.Answer.TheVariants.{Plain}
use Rattle.lq_model.specs.declared.machine.Position.{Position}
use Rattle.lq_model.specs.declared.machine.Position.TheVariants.{Sched}
use Rattle.lq_model.specs.declared.machine.Seat.{Seat}
use Rattle.lq_model.specs.Machine.{Qdisc}
use Rattle.lq_model.specs.Steps.{After, goes_to, call_ends}
use Rattle.lq_model.specs.Positions.{holds_lock}
use Rattle.lq_table.specs.Places.{state_place}
use Rattle.lq_table.specs.Views.{View, Setup}
use Rattle.lq_table.specs.Rule.{words_of, account, event_word, Rule}
use Rattle.lq_table.specs.Moves.{Sat, seen_by, is_set}
use Rattle.lq_table.specs.States.{set_sched_at, set_sched_view}
use Rattle.lq_table.proofs.shared.Shared.set_sched.Invariants.{set_sched_told}
use Rattle.lq_table.proofs.Bits.{has_sched, or_sched}
use Rattle.lq_table.proofs.ByName.{set_state}
use Rattle.lq_table.proofs.RecheckKept.{seen}
use Rattle.lq_table.proofs.Quiet.{quiet}
use Rattle.lq_table.proofs.Frames.{Fits}
use Rattle.lq_table.proofs.StatesKept.{either_after, either_seat, sched_kept}
use Rattle.lq_band_laws.specs.Three.{at}
use Rattle.lq_table.proofs.Loads.{also}
use Rattle.lq_table.proofs.SoleFacts.{sees_state}
use Rattle.lq_table.proofs.SoleKept.{sees}
use Rattle.lq_log.specs.Made.{becomes}

module _ (k : Setup) where
  schedule_fits : (seen q : Qdisc) → seen.sched ≡ q.sched → (position : Position) (s : Seat) → set_sched_at position ≡ true → Fits q seen Plain position s (record q { sched = true })
  schedule_fits seen q same (Sched inside) s h = record {
    may = refl;
    seat = either_seat seen.sched (goes_to seen s (call_ends inside)) (raised seen) (goes_to q s (call_ends inside)) (raised q) refl refl ∙ (λ j. (if same j then goes_to q s (call_ends inside) else raised q).seat);
    words = either_after k q.sched (goes_to q s (call_ends inside)) (raised q) (record q { sched = true }) (λ e j. record q { sched = e j }) (λ _. refl);
  }
    where
      raised : Qdisc → After
      raised z = record { qdisc = record z { sched = true }; seat = record s { position = call_ends inside; raised = true } }
  schedule_fits seen q same _ s h = absurd (false≢true h)

  schedule_free : (position : Position) → set_sched_at position ≡ true → holds_lock position ≡ false
  schedule_free (Sched inside) h = refl
  schedule_free _ h = absurd (false≢true h)

  pub schedules_kept : (slots id : ℕ) (m : Sat) → set_sched_at m.0.place.position ≡ true → 0 < m.0.share.shares
      → Allows (Rule k) slots id m state_place (λ n. bit_or n 1) (becomes (λ found. set_sched_view (is_set 1 found)) (step slots state_place 1 0 none) m)
  schedules_kept slots id m at some_share s r deep here small =
      let v : View = m.0 in let q = r.qdisc in let p = r.parts in let W = words_of k s.words in let live = lt-ltb 0 v.share.shares some_share in let t = p.station.stands in let e : ℕ = event_word (account k r.state).down in
      let was : is_set 1 W.state ≡ q.sched = ap (is_set 1) t.state ∙ has_sched q.sched q.deactivated q.missed q.draining e in
      let base : Qdisc = record (seen_by v) { sched = is_set 1 W.state } in (
        set_sched_view (is_set 1 W.state) v,
        keeps,
        tt,
        quiet k s r state_place (bit_or W.state 1) id (bit_or W.state 1) W.inside v Plain base (record q { sched = true }) here live (schedule_fits base q was v.place.position v.place at) (sched_kept k true q)
            (set_state k s.words (bit_or W.state 1) (let wide = r.wide in omega arith))
            (record { state = ap (λ (x : ℕ). bit_or x 1) t.state ∙ or_sched q.sched q.deactivated q.missed q.draining e; lock = t.lock; xoff = t.xoff; inside = t.inside; bypass = t.bypass })
            (λ held. absurd (true≢false (sym held ∙ schedule_free v.place.position at))),
        refl,
      )

module _ (k : Setup) (slots id : ℕ) (m : Sat) where
  pub schedules_sole : set_sched_at m.0.place.position ≡ true → 0 < m.0.share.shares → Allows (Rule k) slots id m state_place (λ n. bit_or n 1) (set_sched_told (step slots state_place 1 0 none) m)
  schedules_sole at some_share = also k slots id m state_place (λ n. bit_or n 1) (becomes (λ found. set_sched_view (is_set 1 found)) (step slots state_place 1 0 none) m) (sees k slots id m) (λ s r here sole. sees_state k s r id m.0 here some_share sole) (schedules_kept k slots id m at some_share)
