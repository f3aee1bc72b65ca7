use Rattle.lq_table.specs.Controls.{set_deactivated_view}
use Rattle.lq_log.specs.Made.{becomes}
use Rattle.lq_table.proofs.shared.Shared.set_deactivated.Given as goal

abbrev pub ghosts-fetch_or_word : goal.ghosts-fetch_or_word
ghosts-fetch_or_word g a = record { told = becomes (λ _. set_deactivated_view a.about.now) }
