use Rattle.lq_tap.proofs.Tells.{consumer_given}
use Rattle.lq_tap.proofs.shared.Tap.give_consumer.Given as goal

abbrev pub ghosts-store : goal.ghosts-store
ghosts-store a = record { told = consumer_given a._about.now }
