-- What may be wrong with the keys of a table and their values. Each test speaks of all keys of the table.
use Rattle.std.specs.Prelude.{pos, negsuc, Bool, true, false, not, ◌&&◌, ◌||◌, nat_le, List, length, is_some, is_none}
use Rattle.std.specs.List.{list_any, list_all}
use Rattle.std.specs.Option.{option_map_or}
use Rattle.std.specs.Str.{bytes_eq}
use Rattle.toml.specs.Data.{Data, string, integer, boolean, array, Members, no_members, member, get_member, as_table}
use Rattle.lq_plan.specs.Keys.{Key}
use Rattle.lq_plan.specs.Values.{classify_of, elements_of, event_word_of, split_of, spread_of}
use Rattle.lq_plan.specs.declared.faults.Fault.{Fault}
use Rattle.lq_plan.specs.declared.faults.Fault.TheVariants.{UnknownKey, MissingKey, WrongKind, OutOfRange}
use Rattle.lq_plan.specs.declared.keys.Presence.{Presence}
use Rattle.lq_plan.specs.declared.keys.Presence.TheVariants.{Required, Unknown}
use Rattle.lq_plan.specs.declared.keys.Rule.{Rule}
use Rattle.lq_plan.specs.declared.keys.Rule.TheVariants.{Number, Flag, SplitText, SpreadText, ClassifyText, EventText, Tables}

-- UNKNOWN AND MISSING KEYS

abbrev pub is_allowed : Presence → Bool
is_allowed Unknown = false
is_allowed _ = true

abbrev pub is_required : Presence → Bool
is_required Required = true
is_required _ = false

abbrev pub has_unknown_key : List Key → Members → Bool
has_unknown_key keys no_members = false
has_unknown_key keys (member name value rest) =
    not (list_any (λ key. is_allowed key.presence && bytes_eq key.name name) keys) || has_unknown_key keys rest

-- VALUES OF ANOTHER KIND, AND OUT OF RANGE

abbrev pub has_kind : Rule → Data → Bool
has_kind (Number low high) (integer number) = true
has_kind Flag (boolean flag) = true
has_kind (SplitText flow) (string text) = true
has_kind (SpreadText flow) (string text) = true
has_kind (ClassifyText never) (string text) = true
has_kind EventText (string text) = true
has_kind (Tables low high) (array items) = list_all (λ element. is_some (as_table element)) (elements_of items)
has_kind _ _ = false

-- of a value that has the kind
abbrev pub is_within : Rule → Data → Bool
is_within (Number low high) (integer (pos n)) = nat_le low n && nat_le n high
is_within (Number low high) (integer (negsuc n)) = false
is_within (SplitText flow) (string text) = is_some (split_of flow text)
is_within (SpreadText flow) (string text) = is_some (spread_of flow text)
is_within (ClassifyText never) (string text) = is_some (classify_of never text)
is_within EventText (string text) = is_some (event_word_of text)
is_within (Tables low high) (array items) = nat_le low (length (elements_of items)) && nat_le (length (elements_of items)) high
is_within _ _ = true

-- the value at a key, if there is one, fails this test by the key's rule
abbrev pub value_fails : (Rule → Data → Bool) → Members → Key → Bool
value_fails passes table key = option_map_or (λ value. not (passes key.rule value)) (get_member key.name table) false

-- FAULTS

abbrev pub has_fault : Fault → List Key → Members → Bool
has_fault UnknownKey keys table = has_unknown_key keys table
has_fault MissingKey keys table = list_any (λ key. is_required key.presence && is_none (get_member key.name table)) keys
has_fault WrongKind keys table = list_any (value_fails has_kind table) keys
has_fault OutOfRange keys table = list_any (value_fails is_within table) keys
