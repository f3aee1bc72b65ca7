use Rattle.lq_table.specs.Purges.{reset_missed_view}
use Rattle.lq_log.specs.Made.{becomes}
use Rattle.lq_table.proofs.shared.Shared.reset_missed.Given as goal

abbrev pub ghosts-fetch_and_word : goal.ghosts-fetch_and_word
ghosts-fetch_and_word g a = record { told = becomes (λ _. reset_missed_view) }
