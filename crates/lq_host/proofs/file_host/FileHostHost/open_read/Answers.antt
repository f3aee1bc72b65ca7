use Rattle.std.proofs.Common.{◌∙◌, ap, ap₂, None, Some, List, ℕ}
use Rattle.lq_host.specs.Host.{Handles, Reads, with_handle}
use Rattle.lq_host.specs.Journal.{Kept}
use Rattle.lq_host.specs.Slots.{handles_of}
use Rattle.lq_host.specs.declared.journal.Entry.TheVariants.{Asked}
use Rattle.lq_host.proofs.JournalLemmas.{kept-more}
use Rattle.lq_host.proofs.file_host.FileHostHost.open_read.Goals as goal

pub returns-clause-ok : goal.returns-clause-ok
returns-clause-ok g c =
    ap₂ (λ (kept : Kept) (hs : Handles). record { told = None; handed = kept.handed; given = kept.given; handles = hs })
    (kept-more c.args.self.now.journal.seen.log c.tell.new.self.seen.log (Asked c.args.name.now) c.tell.ensures)
    (c.in_ok-h.ensures.ok ∙ ap (λ (n : List ℕ). with_handle (handles_of c.args.self.now.slots.items) c.in_ok-h.h (Some (Reads n 0))) c.in_ok-from_str.ensures.ok)
