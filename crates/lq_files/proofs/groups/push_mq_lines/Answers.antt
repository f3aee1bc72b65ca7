use Rattle.std.proofs.Common.{◌≡◌, ◌++◌, ◌∙◌, ap, ap₂, sym, add-one, length, arith}
use Rattle.lq_mq.specs.Line.{mq_text}
use Rattle.lq_files.proofs.GroupLemmas.{lines_below, no_root_line, root_line}
use Rattle.lq_files.proofs.groups.push_mq_lines.Goals as goal
use Rattle.lq_files.proofs.groups.push_mq_lines.Goals.{then-is_root+in_ok-line+in_ok-push_bytes, else-is_root}

pub loop-j-preserved : goal.loop-j-preserved
loop-j-preserved g c =
    let plan = c.args.plan.now in let fates = g.F.Fates.fates c.args.fates.now in let j = c.loop-j.j in let old = c.args.text.now.items in let text = c.loop-j.text.items in
    let next = ap (λ n. old ++ lines_below plan fates n) (sym (add-one j)) in
    elim c.if-is_root.branch [
      | then-is_root+in_ok-line+in_ok-push_bytes w ↦
          ap (λ t. t.items) w.text-is
          ∙ (root_line plan fates j old text w.push_bytes.new.text.items (sym c.is_root.ensures ∙ w.if-is_root.true) c.loop-j.invariant
          (w.in_ok-push_bytes.ensures ∙ ap (λ line. text ++ line) (w.deref.ensures.value ∙ (w.in_ok-line.ensures ∙ ap₂ (λ q a. mq_text j q a) w.mq.ensures.mq w.count_sent.ensures.sent)))
          ∙ next)
      | else-is_root w ↦
          ap (λ t. t.items) w.text-is ∙ (no_root_line plan fates j old text (sym c.is_root.ensures ∙ w.if-is_root.false) c.loop-j.invariant ∙ next)
    ]

pub returns : goal.returns
returns g c =
    let plan = c.args.plan.now in
    let end : c.loop-j.j ≡ length plan.groups = omega arith in
    c.loop-j.invariant ∙ ap (λ n. c.args.text.now.items ++ lines_below plan (g.F.Fates.fates c.args.fates.now) n) end
