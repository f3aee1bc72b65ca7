use Rattle.lq_table.specs.Producers.{with_lock_at}
use Rattle.lq_log.specs.Made.{becomes}
use Rattle.lq_band_laws.specs.Ring.{unlocked}
use Rattle.lq_table.proofs.shared.Shared.give_producer.Given as goal

abbrev pub ghosts-store_word : goal.ghosts-store_word
ghosts-store_word g a = record { told = becomes (λ _. with_lock_at a.about.now unlocked) }
