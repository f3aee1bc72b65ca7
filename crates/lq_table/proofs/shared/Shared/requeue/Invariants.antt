use Rattle.std.specs.Option.{unwrap_or}
use Rattle.lq_device.specs.Station.{with_slot}
use Rattle.lq_table.specs.States.{requeue_view}
use Rattle.lq_table.specs.Views.{no_station}
use Rattle.lq_log.specs.Made.{becomes}
use Rattle.lq_table.proofs.shared.Shared.requeue.Given as goal

abbrev pub ghosts-fetch_or_word : goal.ghosts-fetch_or_word
ghosts-fetch_or_word g a = record { told = becomes (λ _. requeue_view (with_slot (unwrap_or a.about.now no_station) a.seat.now.me.0.view.holder.slot)) }
