-- What a journal keeps by its entries: what was handed over, and what was given.
use Rattle.std.specs.Prelude.{ℕ, List, [], ◌∷◌, fold, take, Option, Some}
use Rattle.lq_host.specs.Host.{Contents, GivenFile, Opened, Output, Writes, appended, no_contents, returned, filed_in}
use Rattle.lq_host.specs.Slots.{handles_of}
use Rattle.lq_host.specs.declared.journal.Entry.{Entry}
use Rattle.lq_host.specs.declared.journal.Entry.TheVariants as entry
use Rattle.lq_host.specs.declared.journal.Event.{Event}
use Rattle.lq_host.specs.declared.journal.Event.TheVariants as event

-- ENTRIES

-- the entry for bytes that were handed to a write of a handle that is open for this
abbrev pub entry_handed : Option Opened → List ℕ → Entry
entry_handed (Some Output) bytes = entry.Printed bytes
entry_handed (Some (Writes name)) bytes = entry.Appended name bytes
entry_handed _ bytes = entry.Nothing

abbrev pub entry_of : Event → Entry
entry_of (event.Asked name) = entry.Asked name.now
entry_of (event.Returned name buf count) = entry.Returned name.now (take count buf.now)
entry_of (event.Filed name bytes) = entry.Filed name.now bytes.now
entry_of (event.Handed slots h bytes) = entry_handed (handles_of slots.now h) bytes.now

-- WHAT IS KEPT

pub record Kept : Type 0 where
  pub handed : Contents
  pub given : List GivenFile

abbrev pub nothing_kept : Kept
nothing_kept = record { handed = no_contents; given = [] }

-- with an entry more
abbrev pub with_entry : Kept → Entry → Kept
with_entry kept (entry.Asked name) = record kept { given = record { name = name; bytes = [] } ∷ kept.given }
with_entry kept (entry.Returned name bytes) = record kept { given = returned name bytes kept.given }
with_entry kept (entry.Filed name bytes) = record kept { handed = filed_in name bytes kept.handed }
with_entry kept (entry.Appended name bytes) = record kept { handed = appended (Some (Writes name)) bytes kept.handed }
with_entry kept (entry.Printed bytes) = record kept { handed = appended (Some Output) bytes kept.handed }
with_entry kept entry.Nothing = kept

abbrev pub kept_of : List Entry → Kept
kept_of entries = fold with_entry nothing_kept entries
