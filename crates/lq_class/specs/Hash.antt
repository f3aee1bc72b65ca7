-- A hash of a flow that goes on over more bytes.
use Rattle.std.specs.Prelude.{◌≡◌, ℕ, List, ◌++◌, length}
use Rattle.lq_model.specs.Flow.{toeplitz}

-- if `hash` is that of so many bytes, `result` is that of these bytes and the bytes that follow them
abbrev pub ExtendsHash : ℕ → ℕ → List ℕ → ℕ → Type 0
ExtendsHash hash hashed more result = (bytes : List ℕ) → length bytes ≡ hashed → hash ≡ toeplitz bytes → result ≡ toeplitz (bytes ++ more)
