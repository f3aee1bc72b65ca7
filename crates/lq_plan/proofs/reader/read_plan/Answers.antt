use Rattle.std.proofs.Common.{◌∙◌, sym}
use Rattle.std.proofs.lemmas.Bool.{false≢true}
use Rattle.toml.specs.View.{table_view}
use Rattle.lq_plan.proofs.Texts.{document_text, other_text}
use Rattle.lq_plan.proofs.reader.read_plan.Goals as goal

pub returns-in-Ok-clause-plan : goal.returns-in-Ok-clause-plan
returns-in-Ok-clause-plan c = rw (document_text c.args.text.now (table_view c.in-Ok.root) c.in-Ok.ensures.ok.0 c.in-Ok.ensures.ok.1) c.read_root.ensures.plan

pub returns-in-Ok-clause-refusal : goal.returns-in-Ok-clause-refusal
returns-in-Ok-clause-refusal c = rw (document_text c.args.text.now (table_view c.in-Ok.root) c.in-Ok.ensures.ok.0 c.in-Ok.ensures.ok.1) c.read_root.ensures.refusal

pub returns-else-is_memory-clause-refusal : goal.returns-else-is_memory-clause-refusal
returns-else-is_memory-clause-refusal c =
    rw c.refused.ensures (other_text c.args.text.now (c.in-Err.ensures.refused (λ memory. false≢true (sym c.if-is_memory.false ∙ c.is_memory.ensures.1 memory))))
