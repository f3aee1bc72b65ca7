use Rattle.lq_tap.proofs.Tells.{learned}
use Rattle.lq_tap.proofs.shared.Tap.join.Given as goal

abbrev pub ghosts-load : goal.ghosts-load
ghosts-load a = record { told = learned }
