use Rattle.lq_tap.proofs.Tells.{consumer_taken}
use Rattle.lq_tap.proofs.shared.Tap.take_consumer.Given as goal

abbrev pub ghosts-compare_exchange : goal.ghosts-compare_exchange
ghosts-compare_exchange a = record { told = consumer_taken a._about.now }
