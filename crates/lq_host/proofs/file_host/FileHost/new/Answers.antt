use Rattle.std.proofs.Common.{refl}
use Rattle.lq_host.proofs.SlotLemmas.{handles-nil}
use Rattle.lq_host.proofs.file_host.FileHost.new.Goals as goal

pub returns-clause-unused : goal.returns-clause-unused
returns-clause-unused g c = record { handed = rw c.new.ensures refl; given = rw c.new.ensures refl; handles = rw (c.new-slots.ensures.items, handles-nil) refl }
