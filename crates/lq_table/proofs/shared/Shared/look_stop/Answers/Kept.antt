-- `look_stop` keeps the rule of the table.
use Rattle.std.proofs.Common.{◌≡◌, ℕ, ◌<◌, refl}
use Rattle.lq_band_laws.specs.Three.{at}
use mathlib.Core.Option.{none}
use Rattle.atomic_table.specs.Table.{step, Allows, keeps}
use Rattle.lq_model.specs.declared.machine.Position.TheVariants.{Idle}
use Rattle.lq_table.specs.Views.{Setup}
use Rattle.lq_table.specs.Rule.{xoff_word, Rule}
use Rattle.lq_table.specs.Moves.{Sat}
use Rattle.lq_table.proofs.shared.Shared.look_stop.Invariants.{look_stop_told_all}
use Rattle.lq_table.proofs.SoleFacts.{sees_stop}
use Rattle.lq_table.proofs.Frames.{rule_same}
use Rattle.lq_table.proofs.SoleKept.{none_shut}

module _ (k : Setup) (slots id : ℕ) (m : Sat) where
  pub looks_stop_sole : (queue : ℕ) → m.0.place.position ≡ Idle → 0 < m.0.share.shares → Allows (Rule k) slots id m (xoff_word k queue) (λ n. n) (look_stop_told_all queue (step slots (xoff_word k queue) 0 0 none) m)
  looks_stop_sole queue at some_share s r deep here small = (m.0, keeps, tt, rule_same k s r (xoff_word k queue) id m.0 here, (refl, λ sole. sees_stop k s r id m.0 here some_share sole (none_shut k slots id m at some_share s r here sole) queue))
