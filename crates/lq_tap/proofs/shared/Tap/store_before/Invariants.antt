use Rattle.lq_tap.specs.Told.{putting_back}
use Rattle.lq_log.specs.Made.{becomes}
use Rattle.lq_tap.proofs.shared.Tap.store_before.Given as goal

abbrev pub ghosts-store : goal.ghosts-store
ghosts-store a = record { told = becomes (λ _. putting_back) }
