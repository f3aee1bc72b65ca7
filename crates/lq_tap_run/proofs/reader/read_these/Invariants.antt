use Rattle.std.proofs.Common.{◌≡◌, ◌++◌, take}
use Rattle.std.specs.Prelude.{vec_capacity}
use Rattle.lq_tap_run.proofs.reader.read_these.Given as goal

abbrev pub invariant-loop-n : goal.invariant-loop-n
invariant-loop-n l = record {
  read : l.read.items ≡ l.fn.read.items ++ take l.n-index l.packets;
  room : vec_capacity l.read ≡ vec_capacity l.fn.read;
}
