-- `miss` keeps the rule of the table.
use Rattle.std.proofs.Common.{◌≡◌, ℕ, ◌<◌, true}
use Rattle.std.specs.Prelude.{bit_or}
use Rattle.lq_band_laws.specs.Three.{at}
use mathlib.Core.Option.{none}
use Rattle.atomic_table.specs.Table.{step, Allows}
use Rattle.lq_table.specs.Places.{state_place}
use Rattle.lq_table.specs.Views.{Setup}
use Rattle.lq_table.specs.Rule.{Rule}
use Rattle.lq_table.specs.Moves.{Sat, is_set}
use Rattle.lq_table.specs.States.{miss_at, miss_view}
use Rattle.lq_table.proofs.shared.Shared.miss.Invariants.{miss_told}
use Rattle.lq_table.proofs.Loads.{also}
use Rattle.lq_table.proofs.SoleFacts.{sees_state}
use Rattle.lq_table.proofs.StatesKept.{misses_kept}
use Rattle.lq_table.proofs.SoleKept.{sees}
use Rattle.lq_log.specs.Made.{becomes}

module _ (k : Setup) (slots id : ℕ) (m : Sat) where
  pub misses_sole : miss_at m.0.place.position ≡ true → 0 < m.0.share.shares → Allows (Rule k) slots id m state_place (λ n. bit_or n 4) (miss_told (step slots state_place 4 0 none) m)
  misses_sole at some_share = also k slots id m state_place (λ n. bit_or n 4) (becomes (λ found. miss_view (is_set 4 found)) (step slots state_place 4 0 none) m) (sees k slots id m) (λ s r here sole. sees_state k s r id m.0 here some_share sole) (misses_kept k slots id m at some_share)
