-- Tests of each element of a list, and of what the elements stand for.
use Rattle.std.proofs.Common.{◌≡◌, Bool, ◌||◌, ◌&&◌, not, List, [], ◌∷◌, map, String, Global, string_bytes, refl, ap}
use Rattle.std.specs.List.{list_any, list_all}
use Rattle.std.specs.Str.{bytes_eq}
use Rattle.toml.specs.View.{members_view}
use Rattle.toml.specs.declared.value.Value.{Value}
use Rattle.lq_plan.specs.Faults.{has_unknown_key, is_allowed}
use Rattle.lq_plan.specs.Keys.{Key, key_view, keys_view}
use Rattle.lq_plan.specs.declared.keys.Key.{Key as CodeKey}

pub list_any-map : {X Y : Type 0} (test : Y → Bool) (f : X → Y) (xs : List X) → list_any (λ x. test (f x)) xs ≡ list_any test (map f xs)
list_any-map test f [] = refl
list_any-map test f (x ∷ xs) = ap (λ rest. test (f x) || rest) (list_any-map test f xs)

pub list_all-map : {X Y : Type 0} (test : Y → Bool) (f : X → Y) (xs : List X) → list_all (λ x. test (f x)) xs ≡ list_all test (map f xs)
list_all-map test f [] = refl
list_all-map test f (x ∷ xs) = ap (λ rest. test (f x) && rest) (list_all-map test f xs)

-- the keys of a map, and those of the members that it stands for
pub unknown_of_entries : (keys : List CodeKey) (es : List (String Global × Value))
    → list_any (λ name. not (list_any (λ key. is_allowed key.presence && bytes_eq key.name.now (string_bytes name)) keys)) (map (λ e. e.0) es) ≡ has_unknown_key (keys_view keys) (members_view es)
unknown_of_entries keys [] = refl
unknown_of_entries keys (e ∷ es) = rw (list_any-map (λ (key : Key). is_allowed key.presence && bytes_eq key.name (string_bytes e.0)) key_view keys, unknown_of_entries keys es)
