-- The elements of an array of the code, and of the data that it stands for.
use Rattle.std.proofs.Common.{◌≡◌, ℕ, false, is_some, List, [], ◌∷◌, map, option_map, refl, ap}
use Rattle.std.specs.List.{list_all}
use Rattle.std.specs.Option.{option_map_or}
use Rattle.toml.specs.Data.{Data, string, integer, float, boolean, datetime, array, table, as_array, as_table}
use Rattle.toml.specs.View.{view, items_view}
use Rattle.toml.specs.declared.value.Value.{Value}
use Rattle.lq_plan.specs.Faults.{has_kind}
use Rattle.lq_plan.specs.Values.{elements_of}
use Rattle.lq_plan.specs.declared.keys.Rule.TheVariants.{Tables}

pub elements_of-view : (vs : List Value) → map view vs ≡ elements_of (items_view vs)
elements_of-view [] = refl
elements_of-view (v ∷ vs) = ap (λ values. view v ∷ values) (elements_of-view vs)

-- an array of tables has the kind of one, and no other value has
pub tables-kind : (low high : ℕ) (d : Data) → option_map_or (list_all (λ element. is_some (as_table element))) (option_map elements_of (as_array d)) false ≡ has_kind (Tables low high) d
tables-kind low high (string x) = refl
tables-kind low high (integer x) = refl
tables-kind low high (float x) = refl
tables-kind low high (boolean x) = refl
tables-kind low high (datetime x) = refl
tables-kind low high (array x) = refl
tables-kind low high (table x) = refl
