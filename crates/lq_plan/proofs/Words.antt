-- How packets are split, spread and classified, and when the stopped queues are opened, where the keys are within their ranges.
use Rattle.std.proofs.Common.{◌≡◌, ℕ, ◌≤◌, Bool, true, false, not, ◌&&◌, if◌then◌else◌, codes, Option, Some, None, is_some, option_and_then, refl, sym}
use Rattle.std.specs.Prelude.{unwrap_or}
use Rattle.std.specs.Option.{option_map_or}
use Rattle.std.specs.Str.{bytes_eq}
use Rattle.std.proofs.lemmas.Bool.{false≢true}
use Rattle.toml.specs.Data.{Data, string, integer, float, boolean, datetime, array, table, as_str}
use Rattle.lq_model.specs.declared.plan.Classify.TheVariants.{Never, Tos}
use Rattle.lq_model.specs.declared.plan.Irq.TheVariants.{Every, Period}
use Rattle.lq_model.specs.declared.plan.Split.TheVariants as split
use Rattle.lq_model.specs.declared.plan.Spread.TheVariants as spread
use Rattle.lq_plan.specs.Faults.{has_kind, is_within}
use Rattle.lq_plan.specs.Limits.{IsClassifyOf, IsIrqOf, IsSplitOf, IsSpreadOf}
use Rattle.lq_plan.specs.Values.{classify_of, number_or, split_of, spread_of}
use Rattle.lq_plan.specs.declared.keys.Rule.TheVariants.{Number, SplitText, SpreadText, ClassifyText}
use Rattle.lq_plan.specs.declared.keys.Version.{Version}
use Rattle.lq_plan.proofs.Ranges.{number_there, true_from_not}

-- THE SPLIT

-- by which of the words the text is
split_by : (version : Version) (round source word flow : Bool) → flow ≡ version.flow
    → is_some (if round then Some split.Round else if source then Some split.Source else if flow && word then Some split.Flow else None) ≡ true
    → IsSplitOf version (unwrap_or (if round then Some split.Round else if source then Some split.Source else if true && word then Some split.Flow else None) split.Round)
split_by version true source word flow is known = tt
split_by version false true word flow is known = tt
split_by version false false true true is known = sym is
split_by version false false true false is known = absurd (false≢true known)
split_by version false false false flow is known = tt

pub split_within : (version : Version) (o : Option Data) → option_map_or (λ value. not (is_within (SplitText version.flow) value)) o false ≡ false
    → IsSplitOf version (unwrap_or (option_and_then (split_of true) (option_and_then as_str o)) split.Round)
split_within version None h = tt
split_within version (Some (string text)) h =
    split_by version (bytes_eq text (codes "round")) (bytes_eq text (codes "source")) (bytes_eq text (codes "flow")) version.flow refl (true_from_not (is_some (split_of version.flow text)) h)
split_within version (Some (integer z)) h = tt
split_within version (Some (float x)) h = tt
split_within version (Some (boolean b)) h = tt
split_within version (Some (datetime time)) h = tt
split_within version (Some (array items)) h = tt
split_within version (Some (table inside)) h = tt

-- THE SPREAD

spread_by : (version : Version) (bytes word flow : Bool) → flow ≡ version.flow
    → is_some (if bytes then Some spread.Bytes else if flow && word then Some spread.Flow else None) ≡ true
    → IsSpreadOf version (unwrap_or (if bytes then Some spread.Bytes else if true && word then Some spread.Flow else None) spread.Bytes)
spread_by version true word flow is known = tt
spread_by version false true true is known = sym is
spread_by version false true false is known = absurd (false≢true known)
spread_by version false false flow is known = tt

pub spread_within : (version : Version) (o : Option Data) → option_map_or (λ value. not (is_within (SpreadText version.flow) value)) o false ≡ false
    → IsSpreadOf version (unwrap_or (option_and_then (spread_of true) (option_and_then as_str o)) spread.Bytes)
spread_within version None h = tt
spread_within version (Some (string text)) h =
    spread_by version (bytes_eq text (codes "bytes")) (bytes_eq text (codes "flow")) version.flow refl (true_from_not (is_some (spread_of version.flow text)) h)
spread_within version (Some (integer z)) h = tt
spread_within version (Some (float x)) h = tt
spread_within version (Some (boolean b)) h = tt
spread_within version (Some (datetime time)) h = tt
spread_within version (Some (array items)) h = tt
spread_within version (Some (table inside)) h = tt

-- THE PRIORITY

classify_by : (version : Version) (tos word never : Bool) → never ≡ version.never → is_some (if tos then Some Tos else if never && word then Some Never else None) ≡ true
    → IsClassifyOf version (unwrap_or (if tos then Some Tos else if true && word then Some Never else None) Tos)
classify_by version true word never is known = tt
classify_by version false true true is known = sym is
classify_by version false true false is known = absurd (false≢true known)
classify_by version false false never is known = tt

pub classify_within : (version : Version) (o : Option Data) → option_map_or (λ value. not (is_within (ClassifyText version.never) value)) o false ≡ false
    → IsClassifyOf version (unwrap_or (option_and_then (classify_of true) (option_and_then as_str o)) Tos)
classify_within version None h = tt
classify_within version (Some (string text)) h =
    classify_by version (bytes_eq text (codes "tos")) (bytes_eq text (codes "none")) version.never refl (true_from_not (is_some (classify_of version.never text)) h)
classify_within version (Some (integer z)) h = tt
classify_within version (Some (float x)) h = tt
classify_within version (Some (boolean b)) h = tt
classify_within version (Some (datetime time)) h = tt
classify_within version (Some (array items)) h = tt
classify_within version (Some (table inside)) h = tt

-- THE OPENINGS

-- so many packets, unless a period is there
pub irq_within : (version : Version) (every : ℕ) (o : Option Data) → (1 ≤ every) × (every ≤ 1000)
    → option_map_or (λ value. not (has_kind (Number 1 version.max_irq_us) value)) o false ≡ false
    → option_map_or (λ value. not (is_within (Number 1 version.max_irq_us) value)) o false ≡ false
    → IsIrqOf version (if is_some o then Period (number_or 1 o) else Every every)
irq_within version every None within kind h = within
irq_within version every (Some value) within kind h = number_there 1 version.max_irq_us 1 (Some value) refl kind h
