use Rattle.std.proofs.Common.{refl}
use Rattle.lq_host.proofs.SlotLemmas.{handles-nil}
use Rattle.lq_host.proofs.mem_host.MemHost.new.Goals as goal

pub returns-clause-state : goal.returns-clause-state
returns-clause-state c =
    rw (c.new.ensures.items, c.new-2.ensures.items, c.new-3.ensures.items, c.new-5.ensures, handles-nil) refl
