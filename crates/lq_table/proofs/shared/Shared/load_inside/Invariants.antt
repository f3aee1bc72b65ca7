use Rattle.lq_table.specs.Inside.{load_inside_view}
use Rattle.lq_log.specs.Made.{becomes}
use Rattle.lq_table.proofs.shared.Shared.load_inside.Given as goal

abbrev pub ghosts-load_word : goal.ghosts-load_word
ghosts-load_word g a = record { told = becomes load_inside_view }
