-- What contracts see of a host over real files: its state, and what std's calls did to the file of a handle.
use Rattle.std.specs.Prelude.{◌≡◌, ℕ, ◌-◌, List, slice_get, Option, None, Some, option_and_then}
use Rattle.lq_host.specs.Host.{HostState}
use Rattle.lq_host.specs.Slots.{handles_of}
use Rattle.lq_host.specs.Journal.{kept_of}
use Rattle.lq_host.specs.declared.journal.Entry.{Entry}
use Rattle.lq_host.specs.declared.slots.Slot.{Slot}

-- it tells none of its bytes
abbrev pub untold : List Slot → List Entry → HostState
untold slots entries =
    record { told = None; handed = (kept_of entries).handed; given = (kept_of entries).given; handles = handles_of slots }

-- what is known of the file of handle h, if it has a file; handle k + 1 is slot k
abbrev pub known_at : {F : Type 0} → (F → Option (List ℕ)) → List (Option F) → ℕ → Option (List ℕ)
known_at known files h = option_and_then (λ slot. option_and_then known slot) (slice_get files (h - 1))

-- the handle has no open file
abbrev pub HasNoFile : {F : Type 0} → List (Option F) → ℕ → Type 0
HasNoFile {F} files h = (file : F) → slice_get files (h - 1) ≡ Some (Some file) → ⊥
