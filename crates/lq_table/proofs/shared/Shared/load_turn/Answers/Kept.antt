-- `load_turn` keeps the rule of the table.
use Rattle.std.proofs.Common.{ℕ, ◌<◌, refl, sym, ◌∙◌}
use Rattle.std.proofs.lemmas.Bool.{lt-ltb}
use mathlib.Core.Option.{none}
use Rattle.atomic_table.specs.Table.{step, Allows, keeps}
use Rattle.lq_table.specs.Places.{turn_place}
use Rattle.lq_table.specs.Views.{View, Setup}
use Rattle.lq_table.specs.Rule.{Rule}
use Rattle.lq_table.specs.Moves.{Sat}
use Rattle.lq_table.proofs.shared.Shared.load_turn.Invariants.{load_turn_told}
use Rattle.lq_table.proofs.ByName.{turn_of_word}
use Rattle.lq_table.proofs.Frames.{rule_same}

module _ (k : Setup) where
  pub loads_turn : (slots id o : ℕ) (m : Sat) → o < k.senders → 0 < m.0.share.shares → Allows (Rule k) slots id m (turn_place o) (λ x. x) (load_turn_told o (step slots (turn_place o) 0 0 none) m)
  loads_turn slots id o m below some_share s r deep here small =
      let v : View = m.0 in (v, keeps, tt, rule_same k s r (turn_place o) id v here, (refl, λ mine. turn_of_word k s.words o below ∙ sym ((r.parts.seats.given.words_are id v here (lt-ltb 0 v.share.shares some_share)).1 o mine)))
