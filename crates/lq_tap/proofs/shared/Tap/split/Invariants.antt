use Rattle.lq_tap.specs.Views.{sender_view}
use Rattle.lq_tap.specs.Told.{having_split}
use Rattle.lq_tap.proofs.shared.Tap.split.Given as goal

abbrev pub ghosts-split_seat : goal.ghosts-split_seat
ghosts-split_seat a = record { left = having_split a._about.now; right = λ v. sender_view v.about a._about.now }
