use Rattle.std.proofs.Common.{◌≡◌, ◌≤◌, length, take, ◌-◌}
use Rattle.lq_host.specs.Host.{wrote}
use Rattle.lq_files.proofs.pieces.write_text.Given as goal

-- the front of the text was written
abbrev pub invariant-loop-at : goal.invariant-loop-at
invariant-loop-at g l =
    record {
      within : l.at ≤ length l.text;
      wrote : g.H.Host.state l.host ≡ wrote (g.H.Host.state l.fn.host) l.h (take l.at l.text);
      calm : g.H.Host.fault_count l.host ≡ g.H.Host.fault_count l.fn.host;
    }

abbrev pub decreases-loop-at : goal.decreases-loop-at
decreases-loop-at g l = length l.text - l.at
