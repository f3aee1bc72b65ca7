use Rattle.lq_host.specs.FileHost.{untold}
use Rattle.lq_host.proofs.HostLemmas.{on_err_any, on_ok_any}
use Rattle.lq_host.proofs.JournalLemmas.{untold-handed, wrote_all}
use Rattle.lq_host.proofs.file_host.FileHostHost.write.Goals as goal

pub returns-clause-ok : goal.returns-clause-ok
returns-clause-ok g c =
    on_ok_any c.told.result
    (untold-handed c.args.self.now.slots.items c.deref.result.now c.args.self.now.journal.seen.log c.tell.new.self.seen.log c.args.h c.args.bytes.now c.deref.ensures.value c.tell.ensures)

pub returns-clause-err : goal.returns-clause-err
returns-clause-err g c =
    let old = c.args.self.now in
    on_err_any c.told.result (wrote_all (untold old.slots.items old.journal.seen.log) (untold old.slots.items c.tell.new.self.seen.log) c.args.h c.args.bytes.now
    (untold-handed old.slots.items c.deref.result.now old.journal.seen.log c.tell.new.self.seen.log c.args.h c.args.bytes.now c.deref.ensures.value c.tell.ensures))
