use Rattle.std.proofs.Common.{◌≡◌, ◌++◌, ◌∷◌, [], replicate, sym, ap, ◌∙◌, arith}
use Rattle.std.proofs.lemmas.List.{append-nil}
use Rattle.lq_plan.proofs.Groups.{one-copy-more}
use Rattle.lq_plan.proofs.reader.push_children.Goals as goal

pub loop-child-init : goal.loop-child-init
loop-child-init c = sym (append-nil c.args.plans.now.items)

pub loop-child-preserved : goal.loop-child-preserved
loop-child-preserved c =
    c.in_ok-push.ensures.items ∙ (ap (λ xs. xs ++ c.args.station ∷ []) c.loop-child.invariant ∙ one-copy-more c.args.plans.now.items c.loop-child.child c.args.station)

pub returns : goal.returns
returns c =
    let test = c.loop-child-test.false in let end = c.loop-child.auto.child-end in let same : c.loop-child.child ≡ c.args.mq = omega arith in
    c.loop-child.invariant ∙ ap (λ n. c.args.plans.now.items ++ replicate n c.args.station) same
