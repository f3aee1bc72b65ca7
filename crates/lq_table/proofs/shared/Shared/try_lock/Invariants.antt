use Rattle.lq_table.specs.Sees.{IsSole}
use Rattle.std.specs.Prelude.{Option, ℕ, ◌≡◌, None, Some, ◌∷◌, true, ◌≢◌, ◌<◌}
use Rattle.lq_device.specs.Station.{StationState}
use Rattle.lq_model.specs.Machine.{bit}
use Rattle.atomic_table.specs.Table.{Step}
use Rattle.lq_table.specs.Moves.{Sat, IsKnownSlot}
use Rattle.lq_table.specs.Locks.{try_lock_view, look_lock_view}
use Rattle.lq_table.specs.Views.{View, HolderPart}
use Rattle.lq_table.specs.Rule.{holders, shown, account, IsResting, units_of}
use Rattle.lq_table.proofs.shared.Shared.try_lock.Given as goal

-- a seat that has all shares, and was told the state, finds what its account says
abbrev pub IsToldHolder : View → HolderPart → Type 0
IsToldHolder v d = v.share.shares ≡ 1024 → v.whole.told ≡ true → d ≡ holders v.whole.state (account v.share.about v.whole.state) d.size

abbrev pub try_lock_told_as : (HolderPart → View → View) → Step (Option StationState) → Sat → ℕ → Sat → Type 0
try_lock_told_as got_as _ m found m' =
    (found ≡ 0 → (d : HolderPart) × (m' ≡ (got_as d m.0, (0, Some (shown d)) ∷ m.1)) × IsResting d.size d.ends × (0 < d.size) × (d.hand ≡ None) × (d.resizing ≡ None) × (d.shut ≡ None) × IsToldHolder m.0 d × IsKnownSlot m.0.share.about d.slot × (m.0.control.first ≡ true → d.units ≡ units_of m.0.trail))
    × (found ≢ 0 → m' ≡ (look_lock_view m.0, m.1))

abbrev pub try_lock_told : Step (Option StationState) → Sat → ℕ → Sat → Type 0
try_lock_told = try_lock_told_as try_lock_view

-- the lock was held or free as its words say, and after a try it is held; what the holder has is the account's
abbrev pub try_lock_told_all : Step (Option StationState) → Sat → ℕ → Sat → Type 0
try_lock_told_all s m found m' = try_lock_told s m found m' × (IsSole m.0 → found ≡ bit m.0.whole.qdisc.locked)

abbrev pub ghosts-compare_exchange_word : goal.ghosts-compare_exchange_word
ghosts-compare_exchange_word g a = record { told = try_lock_told_all }
