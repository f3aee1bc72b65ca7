-- A document that was read: its root, and the tables of its two arrays.
use Rattle.std.specs.Prelude.{Bool, ◌||◌, List, codes}
use Rattle.std.specs.List.{list_any}
use Rattle.toml.specs.Data.{Members}
use Rattle.toml.specs.View.{table_view}
use Rattle.lq_plan.specs.Faults.{has_fault}
use Rattle.lq_plan.specs.Keys.{event_keys, root_keys, station_keys}
use Rattle.lq_plan.specs.Tables.{tables_view}
use Rattle.lq_plan.specs.Values.{tables_at}
use Rattle.lq_plan.specs.declared.document.Document.{Document as CodeDocument}
use Rattle.lq_plan.specs.declared.faults.Fault.{Fault}
use Rattle.lq_plan.specs.declared.keys.Version.{Version}

pub record Document : Type 0 where
  pub root : Members
  pub stations : List Members
  pub events : List Members

abbrev pub document_of : Members → Document
document_of root = record { root = root; stations = tables_at (codes "station") root; events = tables_at (codes "event") root }

abbrev pub document_view : CodeDocument → Document
document_view d = record { root = table_view d.root.now; stations = tables_view d.stations.items; events = tables_view d.events.items }

-- a table of the document has this fault, by the keys of this version
abbrev pub has_fault_in : Version → Fault → Document → Bool
has_fault_in version fault d =
    has_fault fault (root_keys version) d.root
    || (list_any (λ station. has_fault fault (station_keys version station) station) d.stations
    || list_any (λ event. has_fault fault (event_keys d.stations event) event) d.events)
