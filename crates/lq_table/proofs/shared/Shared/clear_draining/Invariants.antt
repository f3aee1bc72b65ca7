use Rattle.lq_table.specs.Moves.{pass_view}
use Rattle.lq_log.specs.Made.{becomes}
use Rattle.lq_table.proofs.shared.Shared.clear_draining.Given as goal

abbrev pub ghosts-fetch_and_word : goal.ghosts-fetch_and_word
ghosts-fetch_and_word g a = record { told = becomes (λ _. pass_view) }
