-- The tables that a document lends.
use Rattle.std.specs.Prelude.{◌≡◌, ℕ, List, map, String, Some, slice_get}
use Rattle.std.specs.Borrow.{Bor}
use Rattle.std.specs.BTreeMap.{BTreeMap}
use Rattle.std.specs.declared.alloc.Global.{Global}
use Rattle.toml.specs.Data.{Members}
use Rattle.toml.specs.View.{table_view}
use Rattle.toml.specs.declared.value.Value.{Value}

abbrev pub tables_view : List (Bor (BTreeMap (String Global) Value)) → List Members
tables_view = map (λ table. table_view table.now)

-- each of them is such a table
abbrev pub EachTable : (Members → Type 0) → List (Bor (BTreeMap (String Global) Value)) → Type 0
EachTable IsSuch tables = (j : ℕ) (table : Members) → slice_get (tables_view tables) j ≡ Some table → IsSuch table
