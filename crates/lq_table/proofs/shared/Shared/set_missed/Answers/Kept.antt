-- `set_missed` keeps the rule of the table.
use Rattle.std.proofs.Common.{◌≡◌, ℕ, ◌<◌, Bool, true, false, None, refl, sym, ap, ◌∙◌, subst}
use Rattle.std.specs.Prelude.{if◌then◌else◌, bit_or, is_some}
use Rattle.std.proofs.lemmas.Bool.{false≢true}
use mathlib.Core.Option.{none}
use Rattle.atomic_table.specs.Table.{step, Allows}
use Rattle.lq_model.specs.declared.machine.Answer.TheVariants.{Plain}
use Rattle.lq_model.specs.declared.machine.Blocked.TheVariants.{InHand, NoneTaken}
use Rattle.lq_model.specs.declared.machine.Position.{Position}
use Rattle.lq_model.specs.declared.machine.Position.TheVariants.{BlockedMiss, Again, Quota}
use Rattle.lq_model.specs.declared.machine.Seat.{Seat}
use Rattle.lq_model.specs.Machine.{Qdisc}
use Rattle.lq_model.specs.Steps.{step_at}
use Rattle.lq_model.specs.Positions.{holds_lock, in_hand}
use Rattle.lq_table.specs.Places.{state_place}
use Rattle.lq_table.specs.Views.{View, Setup}
use Rattle.lq_table.specs.Rule.{event_word, Rule}
use Rattle.lq_table.specs.Moves.{Sat, pass_view}
use Rattle.lq_table.specs.States.{set_missed_at, backing, set_bit_view}
use Rattle.lq_table.proofs.Bits.{or_missed}
use Rattle.lq_table.proofs.RecheckKept.{seen}
use Rattle.lq_table.proofs.SetBitKept.{backs, by_miss}
use Rattle.lq_table.proofs.Quiet.{Still}
use Rattle.lq_table.proofs.Frames.{Fits}
use Rattle.lq_table.proofs.StatesKept.{bits, missed_kept, plain_still}
use Rattle.lq_log.specs.Made.{becomes}

module _ (k : Setup) where
  -- a holder with nothing in hand
  abbrev sets_missed_bare : Position → Bool
  sets_missed_bare Again = true
  sets_missed_bare Quota = true
  sets_missed_bare (BlockedMiss (NoneTaken queue)) = true
  sets_missed_bare _ = false

  set_missed_fits : (seen q : Qdisc) (position : Position) (s : Seat) → sets_missed_bare position ≡ true → Fits q seen Plain position s (record q { missed = true }) × (holds_lock position ≡ true → Still position (step_at position Plain seen s).seat.position)
  set_missed_fits seen q Again s h = (record { may = refl; seat = refl; words = refl }, λ _. plain_still refl refl refl refl)
  set_missed_fits seen q Quota s h = (record { may = refl; seat = refl; words = refl }, λ _. plain_still refl refl refl refl)
  set_missed_fits seen q (BlockedMiss (NoneTaken queue)) s h = (record { may = refl; seat = refl; words = refl }, λ _. plain_still refl refl refl refl)
  set_missed_fits seen q (BlockedMiss (InHand p direct)) s h = absurd (false≢true h)
  set_missed_fits seen q _ s h = absurd (false≢true h)

  pub sets_missed_kept : (slots id : ℕ) (m : Sat) → sets_missed_bare m.0.place.position ≡ true → 0 < m.0.share.shares
      → Allows (Rule k) slots id m state_place (λ n. bit_or n 4) (becomes (λ _. pass_view) (step slots state_place 4 0 none) m)
  sets_missed_kept slots id m = bits k (λ n. bit_or n 4) sets_missed_bare (λ q. record q { missed = true }) set_missed_fits (missed_kept k true)
      (λ w q down small t. record { state = ap (λ (x : ℕ). bit_or x 4) t.state ∙ or_missed q.sched q.deactivated q.missed q.draining (event_word down); lock = t.lock; xoff = t.xoff; inside = t.inside; bypass = t.bypass })
      4 slots id m

  -- with a packet in hand or without
  pub sets_missed_all : (slots id : ℕ) (m : Sat) → set_missed_at m.0.place.position ≡ true → 0 < m.0.share.shares
      → Allows (Rule k) slots id m state_place (λ n. bit_or n 4) (becomes (λ _. set_bit_view) (step slots state_place 4 0 none) m)
  sets_missed_all slots id m at some_share = by m.0.place.position refl at
    where
      Goal : View → Type 0
      Goal w = Allows (Rule k) slots id m state_place (λ n. bit_or n 4) (λ _ m'. m' ≡ (w, m.1))

      bare : (y : Position) → m.0.place.position ≡ y → in_hand y ≡ None → sets_missed_bare y ≡ true → Goal (set_bit_view m.0)
      bare y is empty h = subst Goal (λ j. if is_some (sym (ap in_hand is ∙ empty) j) then backing m.0 else pass_view m.0) (sets_missed_kept slots id m (ap sets_missed_bare is ∙ h) some_share)

      by : (y : Position) → m.0.place.position ≡ y → set_missed_at y ≡ true → Goal (set_bit_view m.0)
      by Again is h = bare Again is refl refl
      by Quota is h = bare Quota is refl refl
      by (BlockedMiss (NoneTaken queue)) is h = bare (BlockedMiss (NoneTaken queue)) is refl refl
      by (BlockedMiss (InHand p direct)) is h = subst Goal (λ j. if is_some (sym (ap in_hand is) j) then backing m.0 else pass_view m.0) (backs k _ _ _ by_miss slots id m p direct is some_share)
      by _ is h = absurd (false≢true h)
