use Rattle.std.proofs.Common.{◌∙◌, ap, ap₂, [], Some, List, ℕ}
use Rattle.lq_host.specs.Host.{Files, Handles, Writes, with_file, with_handle}
use Rattle.lq_host.specs.Journal.{Kept}
use Rattle.lq_host.specs.MemHost.{mem_files, mem_state}
use Rattle.lq_host.specs.declared.journal.Entry.TheVariants.{Filed}
use Rattle.lq_host.proofs.JournalLemmas.{kept-more}
use Rattle.lq_host.proofs.mem_host.MemHostHost.create.Goals as goal

pub returns-clause-ok : goal.returns-clause-ok
returns-clause-ok c =
    let old = c.args.self.now in
    ap₂ (λ (fs : Files) (rest : Kept × Handles). record { told = Some (record { files = fs; output = old.output.items }); handed = rest.0.handed; given = rest.0.given; handles = rest.1 })
    (c.in_ok-put.ensures.ok ∙ ap (λ (bytes : List ℕ). with_file (mem_files old) c.args.name.now bytes) c.new.ensures.items)
    (ap₂ (λ (kept : Kept) (hs : Handles). (kept, hs)) (kept-more old.journal.seen.log c.tell.new.self.seen.log (Filed c.args.name.now []) c.tell.ensures)
    (c.in_ok-h.ensures.ok ∙ ap (λ (n : List ℕ). with_handle (mem_state old).handles c.in_ok-h.h (Some (Writes n))) c.in_ok-from_str.ensures.ok))
