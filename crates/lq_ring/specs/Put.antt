-- What a put makes of what a seat knows.
use Rattle.std.specs.Prelude.{ℕ}
use Rattle.lq_band_laws.specs.Three.{Three, all_three}
use Rattle.lq_band_laws.specs.Ring.{Lock, unlocked}
use Rattle.lq_table.specs.Views.{View}
use Rattle.lq_table.specs.Producers.{store_slot_view, producer_slot_view_full}

-- it has no producer lock
abbrev pub no_locks : Three Lock
no_locks = all_three unlocked

-- the packet joined the band, and the producer lock was given back
abbrev pub putting : ℕ → ℕ → View → View
putting b n v = record (store_slot_view b n v) { locks = no_locks }

-- it was dropped as full, and the producer lock was given back
abbrev pub dropping_full : ℕ → ℕ → View → View
dropping_full n seen v = record (producer_slot_view_full n seen v) { locks = no_locks }
