use Rattle.lq_table.specs.Consumers.{zero_slot_view}
use Rattle.lq_log.specs.Made.{becomes}
use Rattle.lq_table.proofs.shared.Shared.zero_slot.Given as goal

abbrev pub ghosts-store_word : goal.ghosts-store_word
ghosts-store_word g a = record { told = becomes (λ _. zero_slot_view a.about.now) }
