use Rattle.std.proofs.Common.{◌≡◌, length, map}
use Rattle.lq_table.specs.Ended.{ended_state}
use Rattle.lq_senders.specs.Told.{AreLent}
use Rattle.lq_senders.proofs.read.lent_words.Given as goal

abbrev pub invariant-loop-station : goal.invariant-loop-station
invariant-loop-station g l = record {
  lent : AreLent (map ended_state l.ended) l.station l.lent;
  places : length l.lent ≡ 8;
}
