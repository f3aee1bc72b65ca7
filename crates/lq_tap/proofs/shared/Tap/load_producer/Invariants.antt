use Rattle.lq_tap.proofs.Tells.{producer_seen}
use Rattle.lq_tap.proofs.shared.Tap.load_producer.Given as goal

abbrev pub ghosts-load : goal.ghosts-load
ghosts-load a = record { told = producer_seen }
