use Rattle.lq_table.specs.States.{set_bit_view}
use Rattle.lq_log.specs.Made.{becomes}
use Rattle.lq_table.proofs.shared.Shared.set_draining.Given as goal

abbrev pub ghosts-fetch_or_word : goal.ghosts-fetch_or_word
ghosts-fetch_or_word g a = record { told = becomes (λ _. set_bit_view) }
