-- `look_missed` keeps the rule of the table.
use Rattle.std.proofs.Common.{◌≡◌, ℕ, ◌+◌, ◌*◌, ◌<◌, Bool, true, false, true≢false, get_or, refl, sym, ap, ◌∙◌, subst, ⊎_elim, ◌⊎◌, inl, inr}
use Rattle.std.specs.Prelude.{bit_or}
use mathlib.Core.Option.{none}
use Rattle.atomic_table.specs.Table.{step, Allows, keeps, stepped as table_stepped}
use Rattle.lq_model.specs.Machine.{state_word}
use Rattle.lq_table.specs.Places.{state_place}
use Rattle.lq_table.specs.Views.{Setup}
use Rattle.lq_table.specs.Rule.{account, event_word, Rule}
use Rattle.lq_table.specs.Moves.{Sat, is_set}
use Rattle.lq_table.specs.States.{miss_at, miss_view}
use Rattle.lq_table.proofs.shared.Shared.look_missed.Invariants.{look_missed_told_all}
use Rattle.lq_table.proofs.Bits.{has_missed, or_missed}
use Rattle.lq_table.proofs.StatesKept.{misses_kept}
use Rattle.lq_table.proofs.SoleFacts.{sees_state}
use Rattle.lq_table.proofs.Frames.{rule_same}

set_or_clear : (b : Bool) → (b ≡ true) ⊎ (b ≡ false)
set_or_clear true = inl refl
set_or_clear false = inr refl

module _ (k : Setup) (slots id : ℕ) (m : Sat) where
  pub looks_missed : miss_at m.0.place.position ≡ true → 0 < m.0.share.shares → Allows (Rule k) slots id m state_place (λ x. x) (look_missed_told_all (step slots state_place 0 0 none) m)
  looks_missed at some_share s r deep here small =
      let n : ℕ = get_or s.words state_place 0 in let q = r.qdisc in let t = r.parts.station.stands in let e : ℕ = event_word (account k r.state).down in
      let was : is_set 4 n ≡ q.missed = ap (is_set 4) t.state ∙ has_missed q.sched q.deactivated q.missed q.draining e in ⊎_elim
      (λ (found : is_set 4 n ≡ true). let z = misses_kept k slots id m at some_share s r deep here small in
      let missed : q.missed ≡ true = sym was ∙ found in
      let same : bit_or n 4 ≡ n = ap (λ (x : ℕ). bit_or x 4) t.state ∙ (or_missed q.sched q.deactivated q.missed q.draining e ∙ ((λ j. state_word (record q { missed = sym missed j }) + 256 * e) ∙ sym t.state)) in (
        z.0,
        z.1,
        z.2,
        subst (λ (x : ℕ). Rule k (table_stepped s state_place x id m.1 z.0 z.1)) same z.3,
        ((λ clear. absurd (true≢false (sym found ∙ clear)), λ _. z.4 ∙ (λ j. (miss_view (found j) m.0, m.1))), λ sole. sees_state k s r id m.0 here some_share sole),
      ))
      (λ (clear : is_set 4 n ≡ false). (m.0, keeps, tt, rule_same k s r state_place id m.0 here, ((λ _. refl, λ found. absurd (true≢false (sym found ∙ clear))), λ sole. sees_state k s r id m.0 here some_share sole)))
      (set_or_clear (is_set 4 n))
