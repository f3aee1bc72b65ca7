use Rattle.lq_log.specs.Made.{becomes}
use Rattle.lq_tap.specs.Told.{having_ended}
use Rattle.lq_tap.proofs.ends.end_sender.Given as goal

abbrev pub ghosts-fetch_add : goal.ghosts-fetch_add
ghosts-fetch_add a = record { told = becomes (λ _. having_ended) }
