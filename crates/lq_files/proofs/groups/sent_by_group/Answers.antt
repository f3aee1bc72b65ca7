use Rattle.std.proofs.Common.{◌≡◌, ◌≤◌, ◌+◌, ◌-◌, ℕ, List, map, take, drop, length, ap, ◌∙◌, arith}
use Rattle.std.proofs.lemmas.Result.{IfOk-weaker}
use Rattle.std.specs.Prelude.{Vec}
use Rattle.std.specs.declared.alloc.Global.{Global}
use Rattle.lq_model.specs.Numbers.{first_numbers}
use Rattle.lq_model.specs.Plan.{first_at, mq_at}
use Rattle.lq_model.specs.Sent.{sent_of}
use Rattle.lq_mq.specs.Joint.{joint}
use Rattle.lq_files.specs.Groups.{sent_by_group}
use Rattle.lq_files.proofs.SentLists.{sent_from}
use Rattle.lq_files.proofs.groups.sent_by_group.Goals as goal

pub returns : goal.returns
returns c = λ fates are.
    let plan = c.args.plan.now in let sent = c.args.sent.now in let groups = plan.groups in let j = c.args.j in
    let first = c.first-first.result in let mq = c.mq.result in
    let items : Vec ℕ Global → List ℕ = λ list. list.items in
    let is_first = c.first-first.ensures.first in let is_mq = c.mq.ensures.mq in
    let children = c.first-first.ensures.children in
    let units = c.requires.units in
    let count : first + mq - first ≡ mq_at groups j = (omega (arith, is_mq)) in
    let within : first_at groups j + mq_at groups j ≤ length sent = (omega (arith, children, units)) in
    let lists : map items (take (first + mq - first) (drop first sent)) ≡ map (λ k. sent_of fates (first_at groups j + k)) (first_numbers (mq_at groups j)) =
    (λ i. map items (take (count i) (drop (is_first i) sent))) ∙ sent_from items sent fates (length sent) are (first_at groups j) (mq_at groups j) within in
    IfOk-weaker c.joint.result
    (λ all. all.items ≡ joint (map items (take (first + mq - first) (drop first sent))))
    (λ all. all.items ≡ sent_by_group plan fates j)
    (λ all is. is ∙ ap joint lists)
    c.joint.ensures
