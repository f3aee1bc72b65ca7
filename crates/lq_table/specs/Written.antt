-- The fate words of a closed table.
use Rattle.std.specs.Prelude.{◌≡◌, ℕ, List, take, drop, slice_index}
use Rattle.lq_model.specs.Words.{IsWordOf}
use Rattle.lq_model.specs.declared.fate.Fate.{Fate}

-- a word of a packet's fate that is no fate's is 0
abbrev pub AreWritten : ℕ → ℕ → List ℕ → Type 0
AreWritten from packets words = (n : ℕ) → ((f : Fate) → IsWordOf f (slice_index (take packets (drop from words)) n) → ⊥) → slice_index (take packets (drop from words)) n ≡ 0
