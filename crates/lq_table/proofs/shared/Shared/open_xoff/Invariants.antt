use Rattle.lq_table.specs.Controls.{open_xoff_view}
use Rattle.lq_log.specs.Made.{becomes}
use Rattle.lq_table.proofs.shared.Shared.open_xoff.Given as goal

abbrev pub ghosts-store_word : goal.ghosts-store_word
ghosts-store_word g a = record { told = becomes (λ _. open_xoff_view a.about.now) }
