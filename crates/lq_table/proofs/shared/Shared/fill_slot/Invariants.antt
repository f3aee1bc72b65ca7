use Rattle.std.specs.Option.{unwrap_or}
use Rattle.std.specs.Prelude.{drop}
use Rattle.lq_band_laws.specs.Three.{at}
use Rattle.lq_table.specs.Resizes.{fill_slot_view}
use Rattle.lq_table.specs.Views.{no_resizing}
use Rattle.lq_log.specs.Made.{becomes}
use Rattle.lq_table.proofs.shared.Shared.fill_slot.Given as goal

abbrev pub ghosts-store_word : goal.ghosts-store_word
ghosts-store_word g a = let t = unwrap_or a.seat.now.me.0.view.holder.resizing no_resizing in let about = a.about.now in record { told = becomes (λ _. fill_slot_view about.0 about.1 about.2 (drop 1 (at about.0 t.works).hand) t) }
