use Rattle.lq_tap.proofs.Tells.{producer_slot_seen}
use Rattle.lq_tap.proofs.shared.Tap.producer_slot.Given as goal

abbrev pub ghosts-load : goal.ghosts-load
ghosts-load a = record { told = producer_slot_seen }
