use Rattle.lq_tap.proofs.Tells.{slot_before_seen}
use Rattle.lq_tap.proofs.shared.Tap.slot_before.Given as goal

abbrev pub ghosts-load : goal.ghosts-load
ghosts-load a = record { told = slot_before_seen a._about.now }
