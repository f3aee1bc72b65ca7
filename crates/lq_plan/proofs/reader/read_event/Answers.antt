use Rattle.std.proofs.Common.{◌≡◌, slice_index_or, sym, ap, ◌∙◌, arith}
use Rattle.toml.specs.View.{table_view}
use Rattle.lq_model.specs.Plan.{first_at, mq_at}
use Rattle.lq_plan.specs.Keys.{group_in}
use Rattle.lq_plan.proofs.Groups.{mq-read}
use Rattle.lq_plan.proofs.reader.read_event.Goals as goal

pub overflow_cast-group : goal.overflow_cast-group
overflow_cast-group c = omega (arith, c.group_of-group.ensures, c.requires.small.group, c.requires.few.0)

pub returns : goal.returns
returns c =
    let groups = c.args.groups.now in let j = group_in (table_view c.args.event.now) in
    let mq : slice_index_or groups c.group_of-group.result 0 ≡ mq_at groups j = ap (λ k. slice_index_or groups k 0) c.group_of-group.ensures ∙ sym (mq-read groups j c.requires.small.group) in
    let first = c.first_child.ensures.first ∙ ap (first_at groups) c.group_of-group.ensures in
    λ i. record { before = c.number_value.ensures i; station = first i; mq = mq i; kind = c.read_kind.ensures i }
