use Rattle.lq_tap.proofs.Tells.{head_slot_seen}
use Rattle.lq_tap.proofs.shared.Tap.head_slot.Given as goal

abbrev pub ghosts-load : goal.ghosts-load
ghosts-load a = record { told = head_slot_seen }
