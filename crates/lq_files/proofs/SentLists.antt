-- What each unit sent, list by list.
use Rattle.std.proofs.Common.{◌≡◌, ◌<◌, ◌≤◌, ◌+◌, [], ℕ, List, length, map, take, drop, length-drop, sym, ap, ◌∙◌, arith, get_or}
use Rattle.std.proofs.lemmas.List.{drop-map, get_or-drop, get_or-map, get_or-take, length-map, length-take-le, take-map}
use Rattle.lq_model.proofs.FirstNumbers.{at_number, length_for_each, list_for_each}
use Rattle.lq_model.specs.Numbers.{first_numbers}
use Rattle.lq_model.specs.Sent.{sent_of}
use Rattle.lq_model.specs.declared.fate.Fate.{Fate}
use Rattle.lq_fates.specs.Sent.{sent_by_units}

module _ {A : Type 0} (items : A → List ℕ) (lists : List A) (fates : List Fate) (units : ℕ) (are : map items lists ≡ sent_by_units fates units) where
  pub sent_long : length lists ≡ units
  sent_long = sym (length-map lists items) ∙ (ap length are ∙ length_for_each (λ unit. sent_of fates unit) units)

  -- list u is that of unit u
  pub sent_at : (unit : ℕ) (d : A) → unit < units → items (get_or lists unit d) ≡ sent_of fates unit
  sent_at unit d below =
      let within : unit < length lists = (let long = sent_long in omega arith) in
      sym (get_or-map items lists unit d [] within) ∙ (ap (λ xs. get_or xs unit []) are ∙ at_number (λ u. sent_of fates u) units unit [] below)

  -- the lists of so many units from one on
  pub sent_from : (first count : ℕ) → first + count ≤ units → map items (take count (drop first lists)) ≡ map (λ k. sent_of fates (first + k)) (first_numbers count)
  sent_from first count within =
      let left : count ≤ length (drop first lists) = (let long = sent_long in omega (arith, length-drop {A = A})) in
      list_for_each (λ k. sent_of fates (first + k)) (map items (take count (drop first lists))) count
      (length-map (take count (drop first lists)) items ∙ length-take-le count (drop first lists) left)
      (λ k d below.
      ap (λ xs. get_or xs k d) (sym (take-map items count (drop first lists)) ∙ ap (take count) (sym (drop-map items first lists)))
      ∙ (get_or-take count (drop first (map items lists)) k d below
      ∙ (get_or-drop first (map items lists) k d
      ∙ (ap (λ xs. get_or xs (first + k) d) are ∙ at_number (λ u. sent_of fates u) units (first + k) d (omega arith)))))

-- a list that has what a function gives for each number below one
pub for_each_of : {A : Type 0} (f : ℕ → A) (n : ℕ) (xs : List A) → xs ≡ map f (first_numbers n) → length xs ≡ n
for_each_of f n xs is = ap length is ∙ length_for_each f n

-- so it has what the function gives for each number below its length
pub for_each_below : (f : ℕ → ℕ) (n : ℕ) (xs : List ℕ) → xs ≡ map f (first_numbers n) → xs ≡ map f (first_numbers (length xs))
for_each_below f n xs is = is ∙ ap (λ k. map f (first_numbers k)) (sym (for_each_of f n xs is))
