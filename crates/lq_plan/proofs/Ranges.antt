-- What follows for a value that a table has, or for its default, where its key finds it within its range.
use Rattle.std.proofs.Common.{◌≡◌, ℕ, suc, pos, negsuc, ◌≤◌, Bool, true, false, not, ◌&&◌, nat_le, List, [], ◌∷◌, length, Option, Some, None, is_none, is_some, option_and_then, slice_get, refl, ap, ◌∙◌, sym, arith, inl, inr}
use Rattle.std.proofs.lemmas.Bool.{and_parts, cases_Bool, false≢true, leb-true}
use Rattle.std.proofs.lemmas.List.Folds.{list_any_at}
use Rattle.std.proofs.lemmas.Option.{get_or_from_slice_get, slice_get_within}
use Rattle.std.specs.List.{filter_map, cons_option, list_all, list_any}
use Rattle.std.specs.Option.{option_map_or}
use Rattle.toml.specs.Data.{Data, string, integer, float, boolean, datetime, array, table, Members, get_member, as_array, as_table}
use Rattle.lq_plan.specs.Faults.{has_fault, has_kind, is_within, value_fails}
use Rattle.lq_plan.specs.Keys.{Key, key}
use Rattle.lq_plan.specs.Values.{elements_of, number_value, number_or}
use Rattle.lq_plan.specs.declared.faults.Fault.TheVariants.{OutOfRange}
use Rattle.lq_plan.specs.declared.keys.Presence.{Presence}
use Rattle.lq_plan.specs.declared.keys.Rule.TheVariants.{Number, Tables}

pub true_from_not : (b : Bool) → not b ≡ false → b ≡ true
true_from_not true h = refl
true_from_not false h = absurd (false≢true (sym h))

pub between : (low high n : ℕ) → not (nat_le low n && nat_le n high) ≡ false → (low ≤ n) × (n ≤ high)
between low high n h =
    let both = and_parts (nat_le low n) (nat_le n high) (true_from_not (nat_le low n && nat_le n high) h) in
    (leb-true low n both.0, leb-true n high both.1)

-- one of several keys
pub at_false : {X : Type 0} (test : X → Bool) (xs : List X) (i : ℕ) (x : X) → list_any test xs ≡ false → slice_get xs i ≡ Some x → test x ≡ false
at_false test xs i x none at =
    elim (cases_Bool (test x)) [
      | inl passes ↦ absurd (false≢true (sym none ∙ list_any_at test xs i x (slice_get_within xs i x at) (ap test (get_or_from_slice_get xs i x x at) ∙ passes)))
      | inr fails ↦ fails
    ]

-- NUMBERS

number_within : (low high default : ℕ) (o : Option Data) → option_map_or (λ value. not (is_within (Number low high) value)) o false ≡ false → low ≤ default → default ≤ high
    → (low ≤ number_or default o) × (number_or default o ≤ high)
number_within low high default None h p q = (p, q)
number_within low high default (Some (integer (pos n))) h p q = between low high n h
number_within low high default (Some (integer (negsuc n))) h p q = (p, q)
number_within low high default (Some (string text)) h p q = (p, q)
number_within low high default (Some (float x)) h p q = (p, q)
number_within low high default (Some (boolean b)) h p q = (p, q)
number_within low high default (Some (datetime time)) h p q = (p, q)
number_within low high default (Some (array items)) h p q = (p, q)
number_within low high default (Some (table inside)) h p q = (p, q)

-- of a value that is there, whatever the default
pub number_there : (low high default : ℕ) (o : Option Data) → is_some o ≡ true → option_map_or (λ value. not (has_kind (Number low high) value)) o false ≡ false
    → option_map_or (λ value. not (is_within (Number low high) value)) o false ≡ false → (low ≤ number_or default o) × (number_or default o ≤ high)
number_there low high default None there kind h = absurd (false≢true there)
number_there low high default (Some (integer (pos n))) there kind h = between low high n h
number_there low high default (Some (integer (negsuc n))) there kind h = absurd (false≢true (sym h))
number_there low high default (Some (string text)) there kind h = absurd (false≢true (sym kind))
number_there low high default (Some (float x)) there kind h = absurd (false≢true (sym kind))
number_there low high default (Some (boolean b)) there kind h = absurd (false≢true (sym kind))
number_there low high default (Some (datetime time)) there kind h = absurd (false≢true (sym kind))
number_there low high default (Some (array items)) there kind h = absurd (false≢true (sym kind))
number_there low high default (Some (table inside)) there kind h = absurd (false≢true (sym kind))

-- the i-th of the keys
pub in_range : (t : Members) (keys : List Key) (i : ℕ) (name : List ℕ) (presence : Presence) (low high default : ℕ) → has_fault OutOfRange keys t ≡ false
    → slice_get keys i ≡ Some (key name presence (Number low high)) → low ≤ default → default ≤ high
    → (low ≤ number_value name default t) × (number_value name default t ≤ high)
in_range t keys i name presence low high default none at p q =
    number_within low high default (get_member name t) (at_false (value_fails is_within t) keys i (key name presence (Number low high)) none at) p q

-- TABLES

cons_few : (o : Option Members) (ms : List Members) → length (cons_option o ms) ≤ suc (length ms)
cons_few None ms = omega arith
cons_few (Some m) ms = omega arith

filtered_few : (xs : List Data) → length (filter_map as_table xs) ≤ length xs
filtered_few [] = omega arith
filtered_few (x ∷ xs) = omega (arith, cons_few (as_table x) (filter_map as_table xs), filtered_few xs)

cons_some : (o : Option Members) (ms : List Members) → is_some o ≡ true → length (cons_option o ms) ≡ suc (length ms)
cons_some None ms h = absurd (false≢true h)
cons_some (Some m) ms h = refl

all_tables : (xs : List Data) → list_all (λ x. is_some (as_table x)) xs ≡ true → length (filter_map as_table xs) ≡ length xs
all_tables [] h = refl
all_tables (x ∷ xs) h =
    let both = and_parts (is_some (as_table x)) (list_all (λ y. is_some (as_table y)) xs) h in
    cons_some (as_table x) (filter_map as_table xs) both.0 ∙ ap suc (all_tables xs both.1)

pub tables_few : (low high : ℕ) (o : Option Data) → option_map_or (λ value. not (is_within (Tables low high) value)) o false ≡ false
    → length (filter_map as_table (option_map_or elements_of (option_and_then as_array o) [])) ≤ high
tables_few low high None h = omega arith
tables_few low high (Some (array items)) h = omega (arith, filtered_few (elements_of items), (between low high (length (elements_of items)) h).1)
tables_few low high (Some (integer z)) h = omega arith
tables_few low high (Some (string text)) h = omega arith
tables_few low high (Some (float x)) h = omega arith
tables_few low high (Some (boolean b)) h = omega arith
tables_few low high (Some (datetime time)) h = omega arith
tables_few low high (Some (table inside)) h = omega arith

pub tables_some : (low high : ℕ) (o : Option Data) → is_none o ≡ false → option_map_or (λ value. not (has_kind (Tables low high) value)) o false ≡ false
    → option_map_or (λ value. not (is_within (Tables low high) value)) o false ≡ false
    → low ≤ length (filter_map as_table (option_map_or elements_of (option_and_then as_array o) []))
tables_some low high None there kind h = absurd (false≢true (sym there))
tables_some low high (Some (array items)) there kind h =
    omega (arith, all_tables (elements_of items) (true_from_not _ kind), (between low high (length (elements_of items)) h).0)
tables_some low high (Some (integer z)) there kind h = absurd (false≢true (sym kind))
tables_some low high (Some (string text)) there kind h = absurd (false≢true (sym kind))
tables_some low high (Some (float x)) there kind h = absurd (false≢true (sym kind))
tables_some low high (Some (boolean b)) there kind h = absurd (false≢true (sym kind))
tables_some low high (Some (datetime time)) there kind h = absurd (false≢true (sym kind))
tables_some low high (Some (table inside)) there kind h = absurd (false≢true (sym kind))
