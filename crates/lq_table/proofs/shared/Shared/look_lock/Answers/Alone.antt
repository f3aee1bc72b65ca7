-- What `look_lock` makes of what a seat knows that has the table alone.
use Rattle.std.proofs.Common.{◌≡◌, ℕ, zero, suc, true, refl, ap, ◌∙◌, arith, Option}
use Rattle.lq_device.specs.Station.{StationState}
use Rattle.lq_table.specs.Marks.{marks_of}
use Rattle.lq_table.specs.Moves.{Sat}
use Rattle.lq_table.specs.Locks.{try_lock_at}
use Rattle.lq_table.proofs.shared.Shared.look_lock.Invariants.{look_lock_told}
use Rattle.atomic_table.specs.Table.{Step}
use Rattle.lq_table.proofs.TriesSolo.{finds_marks}

-- a look answers whether the lock is held
pub look_marks : (s : Step (Option StationState)) (found : ℕ) (m m' : Sat) → try_lock_at m.0.place.position ≡ true
    → look_lock_told s m found m' → marks_of m'.0 ≡ marks_of m.0
look_marks s zero m m' h t = ap (λ (z : Sat). marks_of z.0) (t.0 refl)
look_marks s (suc n) m m' h t = ap (λ (z : Sat). marks_of z.0) (t.1 (omega arith)) ∙ finds_marks m.0 h
