use Rattle.lq_tap.proofs.Tells.{producer_slot_stored}
use Rattle.lq_tap.proofs.shared.Tap.store_slot.Given as goal

abbrev pub ghosts-store : goal.ghosts-store
ghosts-store a = record { told = producer_slot_stored }
