use Rattle.std.proofs.Common.{take}
use Rattle.lq_host.proofs.HostLemmas.{opened-reader, advanced-reader, reader-is_some}
use Rattle.lq_test_below.proofs.hosts.read_file.Goals as goal

pub read-requires-clause-reader : goal.read-requires-clause-reader
read-requires-clause-reader g c = opened-reader _ (g.H.Host.state c.open_read.new.self) c.in_ok-h.h c.args.name.now 0 c.in_ok-h.ensures.ok

pub finish-requires-clause-open : goal.finish-requires-clause-open
finish-requires-clause-open g c =
    rw c.in_ok-count.ensures.ok
    (reader-is_some _ (advanced-reader (g.H.Host.state c.open_read.new.self) c.in_ok-h.h (take c.in_ok-count.count c.read.new.buf)
    (opened-reader _ (g.H.Host.state c.open_read.new.self) c.in_ok-h.h c.args.name.now 0 c.in_ok-h.ensures.ok)))
