use Rattle.std.proofs.Common.{◌≡◌, slice_get}
use Rattle.std.specs.List.{filter}
use Rattle.lq_model.specs.Capture.{goes_back}
use Rattle.lq_model.specs.Numbers.{first_numbers}
use Rattle.lq_files.proofs.InOrder.{before-at}
use Rattle.lq_files.proofs.in_order.first_back.Given as goal

abbrev pub invariant-loop-n : goal.invariant-loop-n
invariant-loop-n g l =
    let packets = g.F.Frames.packets l.frames in
    record {
      before : l.before ≡ before-at packets l.n;
      found : l.found ≡ slice_get (filter (goes_back packets) (first_numbers l.n)) 0;
    }
