use Rattle.lq_tap.proofs.Tells.{producer_taken}
use Rattle.lq_tap.proofs.shared.Tap.take_producer.Given as goal

abbrev pub ghosts-compare_exchange : goal.ghosts-compare_exchange
ghosts-compare_exchange a = record { told = producer_taken }
