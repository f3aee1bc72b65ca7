-- The tables among the elements of an array.
use Rattle.std.proofs.Common.{◌≡◌, ℕ, ◌+◌, ◌<◌, ◌≤◌, arith, List, [], ◌∷◌, ◌++◌, length, map, take, get_or, Some, None, String, BTreeMap, Global, Bor, ap, ◌∙◌, sym, option_map, slice_get}
use Rattle.std.proofs.lemmas.List.{length-map, take_all, take_more, flat_map_more, map-append, append-nil}
use Rattle.std.proofs.lemmas.List.Elements.{filter_map-append}
use Rattle.std.proofs.lemmas.Option.{get_or_from_slice_get, slice_get-map, slice_get-get_or, slice_get_within}
use Rattle.std.specs.List.{filter_map, flat_map, cons_option}
use Rattle.toml.specs.Data.{Members, as_table}
use Rattle.toml.specs.View.{view, table_view}
use Rattle.toml.specs.declared.value.Value.{Value}
use Rattle.lq_plan.specs.Tables.{tables_view}

abbrev pub Table : Type 0
Table = Bor (BTreeMap (String Global) Value)

seen_more : (xs : List Value) (i : ℕ) (x : Value) → i < length xs → x ≡ get_or xs i x
    → filter_map as_table (map view (take (i + 1) xs)) ≡ filter_map as_table (map view (take i xs)) ++ cons_option (as_table (view x)) []
seen_more xs i x within is =
    let more : take (i + 1) xs ≡ take i xs ++ x ∷ [] = take_more xs i x within ∙ ap (λ y. take i xs ++ y ∷ []) (sym is) in
    ap (λ ys. filter_map as_table (map view ys)) more
    ∙ ap (filter_map as_table) (map-append view (take i xs) (x ∷ []))
    ∙ filter_map-append as_table (map view (take i xs)) (view x ∷ [])

-- one more element, which is a table or isn't
pub table_more : (tables : List Table) (table : Table) (xs : List Value) (i : ℕ) (x : Value) → i < length xs → x ≡ get_or xs i x
    → tables_view tables ≡ filter_map as_table (map view (take i xs)) → Some (table_view table.now) ≡ as_table (view x)
    → tables_view (tables ++ table ∷ []) ≡ filter_map as_table (map view (take (i + 1) xs))
table_more tables table xs i x within is before here =
    map-append (λ (t : Table). table_view t.now) tables (table ∷ [])
    ∙ ap (λ front. front ++ table_view table.now ∷ []) before
    ∙ ap (λ found. filter_map as_table (map view (take i xs)) ++ cons_option found []) here
    ∙ sym (seen_more xs i x within is)

pub other_more : (tables : List Table) (xs : List Value) (i : ℕ) (x : Value) → i < length xs → x ≡ get_or xs i x
    → tables_view tables ≡ filter_map as_table (map view (take i xs)) → None ≡ as_table (view x)
    → tables_view tables ≡ filter_map as_table (map view (take (i + 1) xs))
other_more tables xs i x within is before here =
    before
    ∙ sym (append-nil (filter_map as_table (map view (take i xs))))
    ∙ ap (λ found. filter_map as_table (map view (take i xs)) ++ cons_option found []) here
    ∙ sym (seen_more xs i x within is)

-- a table that is lent
pub table_at : (tables : List Table) (i : ℕ) (t : Table) → i < length tables → t ≡ get_or tables i t → slice_get (tables_view tables) i ≡ Some (table_view t.now)
table_at tables i t within is =
    slice_get-map (λ (x : Table). table_view x.now) tables i
    ∙ ap (option_map (λ (x : Table). table_view x.now)) (slice_get-get_or tables i t within ∙ ap Some (sym is))

-- at the end of a loop over the tables
pub tables_end : (tables : List Table) (i : ℕ) → length tables ≤ i → take i (tables_view tables) ≡ tables_view tables
tables_end tables i over = take_all i (tables_view tables) (omega (arith, over, length-map tables (λ (t : Table). table_view t.now)))

-- what is read of the tables, of one more
pub read_more : {Y : Type 0} (read : Members → Y) (tables : List Table) (i : ℕ) (t : Table) (ys : List Y) → i < length tables → t ≡ get_or tables i t
    → ys ≡ map read (take i (tables_view tables)) → ys ++ read (table_view t.now) ∷ [] ≡ map read (take (i + 1) (tables_view tables))
read_more read tables i t ys within is before =
    let ms = tables_view tables in
    let m = table_view t.now in
    let at = table_at tables i t within is in
    let more : take (i + 1) ms ≡ take i ms ++ m ∷ [] =
    take_more ms i m (slice_get_within ms i m at) ∙ ap (λ x. take i ms ++ x ∷ []) (get_or_from_slice_get ms i m m at)
    in
    ap (λ front. front ++ read m ∷ []) before ∙ sym (map-append read (take i ms) (m ∷ [])) ∙ ap (map read) (sym more)

-- the same, where several are read of each
pub spread_more : {Y : Type 0} (read : Members → List Y) (tables : List Table) (i : ℕ) (t : Table) (ys : List Y) → i < length tables → t ≡ get_or tables i t
    → ys ≡ flat_map read (take i (tables_view tables)) → ys ++ read (table_view t.now) ≡ flat_map read (take (i + 1) (tables_view tables))
spread_more read tables i t ys within is before =
    let ms = tables_view tables in
    let m = table_view t.now in
    let at = table_at tables i t within is in
    let more : take (i + 1) ms ≡ take i ms ++ m ∷ [] =
    take_more ms i m (slice_get_within ms i m at) ∙ ap (λ x. take i ms ++ x ∷ []) (get_or_from_slice_get ms i m m at)
    in
    ap (λ front. front ++ read m) before ∙ flat_map_more read [] (take i ms) m ∙ ap (flat_map read) (sym more)
