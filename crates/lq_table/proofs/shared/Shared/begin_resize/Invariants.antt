use Rattle.std.specs.Prelude.{Contains, List, Option, [], length, ℕ, ◌<◌, ◌≡◌}
use Rattle.lq_table.specs.Keyed.{keyed_setup}
use Rattle.lq_table.specs.Resizes.{begin_resize_view, resizing_of}
use Rattle.lq_model.specs.Account.{held_in}
use Rattle.lq_model.specs.declared.fate.Info.{Info}
use Rattle.atomic_table.specs.Table.{Step}
use Rattle.lq_band_laws.specs.Three.{Three, at}
use Rattle.lq_device.specs.Station.{StationState}
use Rattle.lq_model.specs.Plan.{band_in}
use Rattle.lq_table.specs.Moves.{Sat}
use Rattle.lq_table.specs.Sees.{IsSole, account_of}
use Rattle.lq_model.specs.declared.machine.Phase.TheVariants.{Purged}
use Rattle.lq_band_laws.specs.HalfResized.{IsBeforeResize}
use Rattle.lq_table.proofs.shared.Shared.begin_resize.Given as goal

-- the load of the size word that begins it
abbrev pub begin_resize_told : List Info → ℕ → ℕ → ℕ → Step (Option StationState) → Sat → ℕ → Sat → Type 0
begin_resize_told infos limit len event _ m found m' = (held : ℕ → List ℕ) × (slots : Three (List ℕ)) × (m' ≡ (begin_resize_view (resizing_of len event held slots) m.0, m.1))
    × ((b : ℕ) → b < 3 → IsBeforeResize m.0.holder.size limit (at b slots) (held b) (at b m.0.holder.ends))
    × ((b n : ℕ) → b < 3 → Contains (held b) n → (band_in infos n ≡ b) × (n < length infos))
    × (m.0.control.phase ≡ Purged → (b : ℕ) → b < 3 → held b ≡ [])
    × (IsSole m.0 → (b : ℕ) → b < 3 → held b ≡ held_in (account_of m.0) b)

abbrev pub ghosts-load_word : goal.ghosts-load_word
ghosts-load_word g a = let k = keyed_setup a.self.now.table.kit.shared.key in record { told = begin_resize_told k.infos k.max_len a.about.now.0 a.about.now.1 }
