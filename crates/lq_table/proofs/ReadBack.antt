-- What is read of a closed table.
use Rattle.std.proofs.Common.{◌≡◌, ℕ, zero, suc, ◌+◌, ◌<◌, ◌≤◌, List, [], ◌∷◌, length, take, drop, get_or, sym, ap, ◌∙◌, arith, Option, Some, None}
use Rattle.std.specs.Prelude.{IfNone}
use Rattle.std.proofs.lemmas.List.{get_or-take, get_or-drop, get_or_default}
use mathlib.Core.Option.{some, some-injective, some-ne-none}
use lib.ListN.{get_elem?}

pub got : {A : Type 0} (xs : List A) (i : ℕ) (x d : A) → get_elem? xs i ≡ some x → get_or xs i d ≡ x
got [] i x d e = absurd (some-ne-none x (sym e))
got (y ∷ ys) zero x d e = some-injective y x e
got (y ∷ ys) (suc i) x d e = got ys i x d e

-- the word of the n-th fate
pub fate_read : (words : List ℕ) (from packets n word : ℕ) → n < packets → from + packets ≤ length words → word ≡ get_or words (from + n) word → get_or (take packets (drop from words)) n 0 ≡ word
fate_read words from packets n word below long is = get_or-take packets (drop from words) n 0 below ∙ (get_or-drop from words n 0 ∙ (get_or_default words (from + n) 0 word (omega (arith, below, long)) ∙ sym is))

pub if_none : {A P Q : Type 0} (o : Option A) → (P → Q) → IfNone o P → IfNone o Q
if_none None f p = f p
if_none (Some x) f p = tt

-- a list of one element
pub only_one : {A : Type 0} (xs : List A) (x : A) → length xs ≡ 1 → get_elem? xs 0 ≡ some x → xs ≡ x ∷ []
only_one [] x long e = absurd (some-ne-none x (sym e))
only_one (y ∷ []) x long e = ap (λ z. z ∷ []) (some-injective y x e)
only_one (y ∷ z ∷ zs) x long e = absurd (omega arith)
