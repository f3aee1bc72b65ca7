use Rattle.std.proofs.Common.{◌≡◌, ℕ, ◌+◌, ◌*◌, ◌++◌, ◌∷◌, List, [], length}
use Rattle.lq_model.specs.Flow.{toeplitz, windows_of}
use Rattle.lq_class.proofs.flows.with_byte.Given as goal

-- the hash so far is that of all bits before this one
abbrev pub invariant-loop-bit : goal.invariant-loop-bit
invariant-loop-bit l = (bytes : List ℕ) → length bytes ≡ l.hashed → l.fn.hash ≡ toeplitz bytes → l.hash ≡ windows_of (bytes ++ l.byte ∷ []) (8 * l.hashed + l.bit)
