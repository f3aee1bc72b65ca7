use Rattle.lq_host.specs.Host.{Writes}
use Rattle.lq_host.proofs.HostLemmas.{opened-writer, opened-is_some}
use Rattle.lq_test_below.proofs.hosts.write_file.Goals as goal

pub write-requires : goal.write-requires
write-requires g c = opened-writer _ (g.H.Host.state c.create.new.self) c.in_ok-h.h c.args.name.now c.in_ok-h.ensures.ok

pub finish-requires-clause-open : goal.finish-requires-clause-open
finish-requires-clause-open g c =
    rw c.in_ok-write.ensures.ok
    (opened-is_some _ (g.H.Host.state c.create.new.self) c.in_ok-h.h (Writes c.args.name.now) c.in_ok-h.ensures.ok)
