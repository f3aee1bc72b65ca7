-- `clear_sched` keeps the rule of the table.
use Rattle.std.proofs.Common.{◌≡◌, ℕ, ◌<◌, true, false, true≢false, refl, sym, ap, ◌∙◌, arith}
use Rattle.std.specs.Prelude.{bit_and}
use Rattle.std.proofs.lemmas.Bool.{false≢true}
use mathlib.Core.Option.{none}
use Rattle.atomic_table.specs.Table.{step, Allows}
use Rattle.lq_model.specs.declared.machine.Answer.TheVariants.{Plain}
use Rattle.lq_model.specs.declared.machine.Position.{Position}
use Rattle.lq_model.specs.declared.machine.Position.TheVariants.{SoftClear}
use Rattle.lq_model.specs.declared.machine.Seat.{Seat}
use Rattle.lq_model.specs.Machine.{Qdisc}
use Rattle.lq_model.specs.Steps.{step_at}
use Rattle.lq_model.specs.Positions.{holds_lock}
use Rattle.lq_table.specs.Places.{state_place}
use Rattle.lq_table.specs.Views.{Setup}
use Rattle.lq_table.specs.Rule.{event_word, Rule}
use Rattle.lq_table.specs.Moves.{Sat, pass_view}
use Rattle.lq_table.specs.States.{clear_sched_at}
use Rattle.lq_table.proofs.Bits.{and_sched, event_small}
use Rattle.lq_table.proofs.RecheckKept.{seen}
use Rattle.lq_table.proofs.Quiet.{Still}
use Rattle.lq_table.proofs.Frames.{Fits}
use Rattle.lq_table.proofs.StatesKept.{bits, sched_kept}
use Rattle.lq_log.specs.Made.{becomes}

module _ (k : Setup) where
  clear_sched_fits : (seen q : Qdisc) (position : Position) (s : Seat) → clear_sched_at position ≡ true → Fits q seen Plain position s (record q { sched = false }) × (holds_lock position ≡ true → Still position (step_at position Plain seen s).seat.position)
  clear_sched_fits seen q (SoftClear deactivated) s h = (record { may = refl; seat = refl; words = refl }, λ held. absurd (true≢false (sym held)))
  clear_sched_fits seen q _ s h = absurd (false≢true h)

  pub clears_sched_kept : (slots id : ℕ) (m : Sat) → clear_sched_at m.0.place.position ≡ true → 0 < m.0.share.shares
      → Allows (Rule k) slots id m state_place (λ n. bit_and n 18446744073709551614) (becomes (λ _. pass_view) (step slots state_place 18446744073709551614 0 none) m)
  clears_sched_kept slots id m = bits k (λ n. bit_and n 18446744073709551614) clear_sched_at (λ q. record q { sched = false }) clear_sched_fits (sched_kept k false)
      (λ w q down small t. record { state = ap (λ (x : ℕ). bit_and x 18446744073709551614) t.state ∙ and_sched q.sched q.deactivated q.missed q.draining (event_word down) (event_small q (event_word down) (let is = t.state in omega arith)); lock = t.lock; xoff = t.xoff; inside = t.inside; bypass = t.bypass })
      18446744073709551614 slots id m
