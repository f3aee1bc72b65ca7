use Rattle.lq_tap.specs.Told.{with_lock}
use Rattle.lq_log.specs.Made.{becomes}
use Rattle.lq_band_laws.specs.Ring.{unlocked}
use Rattle.lq_tap.proofs.shared.Tap.give_producer.Given as goal

abbrev pub ghosts-store : goal.ghosts-store
ghosts-store a = record { told = becomes (λ _. with_lock unlocked) }
