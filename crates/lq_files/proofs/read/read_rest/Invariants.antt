use Rattle.std.proofs.Common.{◌≡◌, ◌<◌, length, vec_len, ◌+◌, ◌-◌}
use Rattle.std.specs.Io.KnownBytes.{Consumes}
use Rattle.lq_host.specs.Host.{IsReader, advanced, left}
use Rattle.lq_files.proofs.read.read_rest.Given as goal

-- what was taken is what its reads returned and what the handle had, less what it has left; and nothing but its place has changed
abbrev pub invariant-loop-host : goal.invariant-loop-host
invariant-loop-host g l =
    let state = g.H.Host.state in
    record {
      reader : IsReader ((state l.host).handles l.h);
      read : state l.host ≡ advanced (state l.fn.host) l.h l.taken.items;
      taken : Consumes (left (state l.fn.host) l.h) (left (state l.host) l.h) l.taken.items;
      room : 0 < length l.buffer;
      calm : g.H.Host.fault_count l.host ≡ g.H.Host.fault_count l.fn.host;
    }

abbrev pub decreases-loop-host : goal.decreases-loop-host
decreases-loop-host g l = l.limit + 1 - vec_len l.taken
