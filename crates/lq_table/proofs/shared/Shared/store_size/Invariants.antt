use Rattle.std.specs.Option.{unwrap_or}
use Rattle.lq_table.specs.Resizes.{store_size_view}
use Rattle.lq_table.specs.Views.{no_resizing}
use Rattle.lq_log.specs.Made.{becomes}
use Rattle.lq_table.proofs.shared.Shared.store_size.Given as goal

abbrev pub ghosts-store_word : goal.ghosts-store_word
ghosts-store_word g a = record { told = becomes (λ _. store_size_view (unwrap_or a.seat.now.me.0.view.holder.resizing no_resizing)) }
