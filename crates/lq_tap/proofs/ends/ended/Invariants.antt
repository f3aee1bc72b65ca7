use Rattle.lq_log.specs.Made.{becomes}
use Rattle.lq_tap.specs.Told.{having_seen_ended}
use Rattle.lq_tap.proofs.ends.ended.Given as goal

abbrev pub ghosts-load : goal.ghosts-load
ghosts-load a = record { told = becomes having_seen_ended }
