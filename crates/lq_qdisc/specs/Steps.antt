-- What the crates above cite of the calls: the steps in the order in which they are made, and what the seat knows after them.
use Rattle.std.specs.Prelude.{◌≡◌, ℕ, ◌*◌, ◌+◌, true, slice_set, is_some}
use Rattle.lq_model.specs.Plan.{owner_in, rank_in}
use Rattle.lq_table.specs.Views.{Setup, Known}
use Rattle.lq_qdisc.specs.Sends.{came_as, trail_with}
use Rattle.lq_qdisc.specs.StepLists.{LeadsBy, QueueXmit}
use Rattle.lq_qdisc.specs.declared.answers.Sending.{Sending}

-- a transmit of a packet whose turn it is
pub record TransmitsBy (k : Setup) (n : ℕ) (answer : Sending) (old new : Known) : Type 0 where
  pub came : is_some (came_as k.infos n answer) ≡ true
  pub turns : new.view.turns ≡ slice_set old.view.turns (owner_in k.infos n) (2 * rank_in k.infos n + 2)
  pub trail : new.view.trail ≡ trail_with (came_as k.infos n answer) old.view
  pub by : LeadsBy (QueueXmit k n answer) old new
