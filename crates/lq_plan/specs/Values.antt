-- What a table of a document has at a key, or else the key's default.
use Rattle.std.specs.Prelude.{ℕ, pos, Bool, ◌&&◌, if◌then◌else◌, codes, List, [], ◌∷◌, Option, Some, None, option_and_then, unwrap_or}
use Rattle.std.specs.List.{filter_map}
use Rattle.std.specs.Option.{option_map_or}
use Rattle.std.specs.Str.{bytes_eq}
use Rattle.toml.specs.Data.{Data, integer, Items, no_items, item, Members, get_member, as_array, as_bool, as_str, as_table}
use Rattle.lq_model.specs.declared.plan.Classify.{Classify}
use Rattle.lq_model.specs.declared.plan.Classify.TheVariants.{Never, Tos}
use Rattle.lq_model.specs.declared.plan.Split.{Split}
use Rattle.lq_model.specs.declared.plan.Split.TheVariants as split
use Rattle.lq_model.specs.declared.plan.Spread.{Spread}
use Rattle.lq_model.specs.declared.plan.Spread.TheVariants as spread
use Rattle.lq_plan.specs.declared.values.EventWord.{EventWord}
use Rattle.lq_plan.specs.declared.values.EventWord.TheVariants.{Down, Up, Resize, TxQueueLen, Swap}

-- NUMBERS AND TRUTH VALUES

abbrev pub number_or : ℕ → Option Data → ℕ
number_or default (Some (integer (pos n))) = n
number_or default _ = default

abbrev pub number_value : List ℕ → ℕ → Members → ℕ
number_value name default members = number_or default (get_member name members)

abbrev pub flag_at : List ℕ → Bool → Members → Bool
flag_at name default members = unwrap_or (option_and_then as_bool (get_member name members)) default

-- TEXTS

-- "flow" is one of them where it is known
abbrev pub split_of : Bool → List ℕ → Option Split
split_of flow text =
    if bytes_eq text (codes "round") then Some split.Round
    else if bytes_eq text (codes "source") then Some split.Source
    else if flow && bytes_eq text (codes "flow") then Some split.Flow else None

abbrev pub spread_of : Bool → List ℕ → Option Spread
spread_of flow text = if bytes_eq text (codes "bytes") then Some spread.Bytes else if flow && bytes_eq text (codes "flow") then Some spread.Flow else None

-- "none" is one of them where packets may keep priority 0
abbrev pub classify_of : Bool → List ℕ → Option Classify
classify_of never text = if bytes_eq text (codes "tos") then Some Tos else if never && bytes_eq text (codes "none") then Some Never else None

abbrev pub event_word_of : List ℕ → Option EventWord
event_word_of text =
    if bytes_eq text (codes "down") then Some Down
    else if bytes_eq text (codes "up") then Some Up
    else if bytes_eq text (codes "resize") then Some Resize
    else if bytes_eq text (codes "tx_queue_len") then Some TxQueueLen
    else if bytes_eq text (codes "swap") then Some Swap else None

abbrev pub text_at : List ℕ → Members → Option (List ℕ)
text_at name members = option_and_then as_str (get_member name members)

-- ARRAYS

abbrev pub elements_of : Items → List Data
elements_of no_items = []
elements_of (item value items) = value ∷ elements_of items

-- the tables that are elements of the array at a key; none where there is no array
abbrev pub tables_at : List ℕ → Members → List Members
tables_at name members = filter_map as_table (option_map_or elements_of (option_and_then as_array (get_member name members)) [])
