use Rattle.lq_table.specs.Moves.{pass_view}
use Rattle.lq_log.specs.Made.{becomes}
use Rattle.lq_table.proofs.shared.Shared.leave.Given as goal

abbrev pub ghosts-fetch_sub_word : goal.ghosts-fetch_sub_word
ghosts-fetch_sub_word g a = record { told = becomes (λ _. pass_view) }
