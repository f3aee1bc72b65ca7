use Rattle.std.proofs.Common.{◌≡◌, ◌<◌, ◌+◌, ℕ, length, refl, ap, ◌∙◌, arith}
use Rattle.std.proofs.lemmas.List.Sums.{sum_by_more}
use Rattle.lq_model.specs.Plan.{first_at}
use Rattle.lq_plan.proofs.Groups.{first-few, group-within}
use Rattle.lq_plan.proofs.plan.first_child.Goals as goal

pub loop-k-init : goal.loop-k-init
loop-k-init c = refl

pub overflow_add-first : goal.overflow_add-first
overflow_add-first c =
    let group = c.requires.group in let test = c.loop-k-test.true in let below : c.loop-k.k < length c.args.groups.now = omega arith in
    let more = sum_by_more (λ (x : ℕ). x) c.args.groups.now c.loop-k.k 0 below in let few = first-few c.args.groups.now (c.loop-k.k + 1) in omega (arith, more, few, c.loop-k.invariant, c.requires.few)

pub loop-k-preserved : goal.loop-k-preserved
loop-k-preserved c =
    let group = c.requires.group in let test = c.loop-k-test.true in let below : c.loop-k.k < length c.args.groups.now = omega arith in
    let more = sum_by_more (λ (x : ℕ). x) c.args.groups.now c.loop-k.k 0 below in omega (arith, more, c.loop-k.invariant)

pub returns-clause-first : goal.returns-clause-first
returns-clause-first c =
    let test = c.loop-k-test.false in let end = c.loop-k.auto.k-end in let same : c.loop-k.k ≡ c.args.j = omega arith in c.loop-k.invariant ∙ ap (first_at c.args.groups.now) same

pub returns-clause-within : goal.returns-clause-within
returns-clause-within c =
    let test = c.loop-k-test.false in let end = c.loop-k.auto.k-end in let same : c.loop-k.k ≡ c.args.j = omega arith in
    let first = c.loop-k.invariant ∙ ap (first_at c.args.groups.now) same in let within = group-within c.args.groups.now c.args.j c.requires.group in omega (arith, first, within)
