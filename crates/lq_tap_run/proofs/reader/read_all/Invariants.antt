use Rattle.std.proofs.Common.{◌≡◌, ◌≤◌, length}
use Rattle.std.specs.Prelude.{vec_capacity}
use Rattle.lq_tap.specs.Sees.{view}
use Rattle.lq_tap_run.specs.Reads.{HasRead, ReadsOn}
use Rattle.lq_tap_run.specs.Rounds.{ReadsRounds}
use Rattle.lq_tap_run.proofs.reader.read_all.Given as goal

abbrev pub invariant-loop : goal.invariant-loop
invariant-loop g l = record {
  read : HasRead l.run.tap.now l.seat l.read.items;
  rounds : ReadsRounds l.run.tap.now.len l.run.senders (length l.fn.batch) l.fn.seat l.seat;
  on : ReadsOn l.fn.seat l.seat;
  room : (view l.fn.seat).about.packets ≤ vec_capacity l.read;
  long : length l.batch ≡ length l.fn.batch;
}
