use Rattle.std.proofs.Common.{◌≡◌, ℕ, ◌++◌, List, length, take}
use Rattle.lq_model.specs.Flow.{toeplitz}
use Rattle.lq_class.proofs.flows.with_bytes.Given as goal

-- the hash so far is that of all bytes before this one
abbrev pub invariant-loop-i : goal.invariant-loop-i
invariant-loop-i l = (bytes : List ℕ) → length bytes ≡ l.hashed → l.fn.hash ≡ toeplitz bytes → l.hash ≡ toeplitz (bytes ++ take l.i l.bytes)
