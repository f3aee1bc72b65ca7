use Rattle.lq_table.specs.Controls.{end_control_view}
use Rattle.lq_log.specs.Made.{becomes}
use Rattle.lq_table.proofs.shared.Shared.end_control.Given as goal

abbrev pub ghosts-load_word : goal.ghosts-load_word
ghosts-load_word g a = record { told = becomes (λ _. end_control_view) }
