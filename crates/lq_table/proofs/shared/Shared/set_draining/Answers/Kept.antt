-- `set_draining` keeps the rule of the table.
use Rattle.std.proofs.Common.{◌≡◌, ℕ, ◌<◌, Bool, true, false, refl, sym, ap, ◌∙◌, subst}
use Rattle.std.specs.Prelude.{if◌then◌else◌, bit_or, is_some}
use Rattle.std.proofs.lemmas.Bool.{false≢true}
use mathlib.Core.Option.{none}
use Rattle.atomic_table.specs.Table.{step, Allows}
use Rattle.lq_model.specs.declared.machine.Answer.TheVariants.{Plain}
use Rattle.lq_model.specs.declared.machine.Blocked.TheVariants.{InHand, NoneTaken}
use Rattle.lq_model.specs.declared.machine.Position.{Position}
use Rattle.lq_model.specs.declared.machine.Position.TheVariants.{BlockedDrain}
use Rattle.lq_model.specs.declared.machine.Seat.{Seat}
use Rattle.lq_model.specs.Machine.{Qdisc}
use Rattle.lq_model.specs.Steps.{step_at}
use Rattle.lq_model.specs.Positions.{holds_lock, in_hand}
use Rattle.lq_table.specs.Places.{state_place}
use Rattle.lq_table.specs.Views.{View, Setup}
use Rattle.lq_table.specs.Rule.{event_word, Rule}
use Rattle.lq_table.specs.Moves.{Sat, pass_view}
use Rattle.lq_table.specs.States.{set_draining_at, backing, set_bit_view}
use Rattle.lq_table.proofs.Bits.{or_draining}
use Rattle.lq_table.proofs.RecheckKept.{seen}
use Rattle.lq_table.proofs.SetBitKept.{backs, by_drain}
use Rattle.lq_table.proofs.Quiet.{Still}
use Rattle.lq_table.proofs.Frames.{Fits}
use Rattle.lq_table.proofs.StatesKept.{bits, draining_kept, plain_still}
use Rattle.lq_log.specs.Made.{becomes}

module _ (k : Setup) where
  abbrev sets_draining_bare : Position → Bool
  sets_draining_bare (BlockedDrain (NoneTaken queue)) = true
  sets_draining_bare _ = false

  set_draining_fits : (seen q : Qdisc) (position : Position) (s : Seat) → sets_draining_bare position ≡ true → Fits q seen Plain position s (record q { draining = true }) × (holds_lock position ≡ true → Still position (step_at position Plain seen s).seat.position)
  set_draining_fits seen q (BlockedDrain (NoneTaken queue)) s h = (record { may = refl; seat = refl; words = refl }, λ _. plain_still refl refl refl refl)
  set_draining_fits seen q (BlockedDrain (InHand p direct)) s h = absurd (false≢true h)
  set_draining_fits seen q _ s h = absurd (false≢true h)

  pub sets_draining_kept : (slots id : ℕ) (m : Sat) → sets_draining_bare m.0.place.position ≡ true → 0 < m.0.share.shares
      → Allows (Rule k) slots id m state_place (λ n. bit_or n 8) (becomes (λ _. pass_view) (step slots state_place 8 0 none) m)
  sets_draining_kept slots id m = bits k (λ n. bit_or n 8) sets_draining_bare (λ q. record q { draining = true }) set_draining_fits (draining_kept k true)
      (λ w q down small t. record { state = ap (λ (x : ℕ). bit_or x 8) t.state ∙ or_draining q.sched q.deactivated q.missed q.draining (event_word down); lock = t.lock; xoff = t.xoff; inside = t.inside; bypass = t.bypass })
      8 slots id m

  pub sets_draining_all : (slots id : ℕ) (m : Sat) → set_draining_at m.0.place.position ≡ true → 0 < m.0.share.shares
      → Allows (Rule k) slots id m state_place (λ n. bit_or n 8) (becomes (λ _. set_bit_view) (step slots state_place 8 0 none) m)
  sets_draining_all slots id m at some_share = by m.0.place.position refl at
    where
      Goal : View → Type 0
      Goal w = Allows (Rule k) slots id m state_place (λ n. bit_or n 8) (λ _ m'. m' ≡ (w, m.1))

      by : (y : Position) → m.0.place.position ≡ y → set_draining_at y ≡ true → Goal (set_bit_view m.0)
      by (BlockedDrain (NoneTaken queue)) is h = subst Goal (λ j. if is_some (sym (ap in_hand is) j) then backing m.0 else pass_view m.0) (sets_draining_kept slots id m (ap sets_draining_bare is) some_share)
      by (BlockedDrain (InHand p direct)) is h = subst Goal (λ j. if is_some (sym (ap in_hand is) j) then backing m.0 else pass_view m.0) (backs k _ _ _ by_drain slots id m p direct is some_share)
      by _ is h = absurd (false≢true h)
