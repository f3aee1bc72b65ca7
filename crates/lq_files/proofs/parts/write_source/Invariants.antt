use Rattle.std.proofs.Common.{◌≡◌, ◌<◌, ◌≤◌, ◌-◌, ◌++◌, vec_len}
use Rattle.lq_files.specs.Parts.{IsStreamed}
use Rattle.lq_files.proofs.parts.write_source.Given as goal

-- the pieces so far are written, or kept
abbrev pub invariant-loop-at : goal.invariant-loop-at
invariant-loop-at g l =
    let state = g.H.Host.state in
    record {
      streamed : IsStreamed (state l.fn.host) l.h (state l.host) l.rest.items (g.S.Source.from l.source l.at) (l.fn.buffers.rest.items ++ g.S.Source.from l.source 0);
      short : vec_len l.rest < 65536;
      parts : 0 < vec_len l.parts;
      size : 0 < l.size;
      within : l.at ≤ l.count;
      handles : (state l.host).handles ≡ (state l.fn.host).handles;
      calm : g.H.Host.fault_count l.host ≡ g.H.Host.fault_count l.fn.host;
    }

abbrev pub decreases-loop-at : goal.decreases-loop-at
decreases-loop-at g l = l.count - l.at
