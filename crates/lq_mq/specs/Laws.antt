-- What follows from the definition of the joint list.
use Rattle.std.specs.Prelude.{◌≡◌, ◌<◌, ◌⊎◌, ℕ, ◌==◌, List, [], ◌∷◌, length, slice_get, Some, All, AllPairs, count_by}
use Rattle.std.specs.List.{sum_by}
use Rattle.lq_mq.specs.Joint.{joint}

-- what the second list is without some of its elements
abbrev pub IsSubsequence : List ℕ → List ℕ → Type 0
IsSubsequence [] ys = Unit {0}
IsSubsequence (x ∷ xs) [] = ⊥
IsSubsequence (x ∷ xs) (y ∷ ys) = ((x ≡ y) × IsSubsequence xs ys) ⊎ IsSubsequence (x ∷ xs) ys

-- each child's packets stand in the joint list in their order
abbrev pub EachListIsSubsequence : Type 0
EachListIsSubsequence = (lists : List (List ℕ)) (i : ℕ) (list : List ℕ) → slice_get lists i ≡ Some list → IsSubsequence list (joint lists)

-- each packet stands in it as often as in the lists: once, where it is in one of them once
abbrev pub HasAsManyAsTheLists : Type 0
HasAsManyAsTheLists = (lists : List (List ℕ)) (n : ℕ) → count_by (λ m. m == n) (joint lists) ≡ sum_by (λ list. count_by (λ m. m == n) list) lists

-- so it is as long as they are together
abbrev pub IsAsLongAsTheLists : Type 0
IsAsLongAsTheLists = (lists : List (List ℕ)) → length (joint lists) ≡ sum_by length lists

-- list i has packet n at this serial: child i sent it with that
abbrev pub HasAtSerial : List (List ℕ) → ℕ → ℕ → ℕ → Type 0
HasAtSerial lists i serial n = (list : List ℕ) × (slice_get lists i ≡ Some list) × (slice_get list serial ≡ Some n)

-- it has nothing else
abbrev pub HasNothingElse : Type 0
HasNothingElse = (lists : List (List ℕ)) → All (λ n. (i : ℕ) × (serial : ℕ) × HasAtSerial lists i serial n) (joint lists)

-- packet m was sent with a lower serial than packet n, or with the same one by a lower child
abbrev pub IsBefore : List (List ℕ) → ℕ → ℕ → Type 0
IsBefore lists m n = (i k s t : ℕ) × HasAtSerial lists i s m × HasAtSerial lists k t n × ((s < t) ⊎ ((s ≡ t) × (i < k)))

-- each packet of it stands before all those after it: by serial, and at one serial by child
abbrev pub IsBySerial : Type 0
IsBySerial = (lists : List (List ℕ)) → AllPairs (IsBefore lists) (joint lists)
