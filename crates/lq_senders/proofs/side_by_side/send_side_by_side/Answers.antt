use Rattle.std.proofs.Common.{◌≡◌, ◌<◌, ◌∙◌, Some, ap, length, rules, subst, sym}
use Rattle.std.proofs.lemmas.Option.{get_or_from_slice_get, slice_get-get_or, slice_get_within}
use Rattle.lq_plan.specs.Openings.{opens_while_stopped}
use Rattle.lq_senders.specs.Senders.{IsDoneSender, SendsAll}
use Rattle.lq_senders.specs.Runs.{opens_in}
use Rattle.lq_senders.specs.declared.sender.Sender.{Sender}
use Rattle.lq_senders.proofs.side_by_side.send_side_by_side.Goals as goal

pub for_each_mut-requires-clause-accepts : goal.for_each_mut-requires-clause-accepts
for_each_mut-requires-clause-accepts g c κs within =
    λ i p lt at. (c.requires.ready i p.now (slice_get-get_or c.args.senders.now i p.now lt ∙ ap Some (sym at)), search rules)

pub returns-then-threads-gt0-clause-done : goal.returns-then-threads-gt0-clause-done
returns-then-threads-gt0-clause-done g c i l there =
    let run = c.args.run.now in
    let new = c.for_each_mut.new.s in
    let same : length new ≡ length c.args.senders.now = c.for_each_mut.auto.s in
    let changed = (c.for_each_mut.ensures i l (subst (λ k. i < k) same (slice_get_within new i l there))).1 in
    subst (λ (x : Sender g.row.D.Denot). IsDoneSender run.job.plan.now run.job.infos.now run.tables.now i x.owner x.seats.items) (changed.left ∙ get_or_from_slice_get new i l l there) changed.call.0

pub returns-then-threads-gt0-clause-course : goal.returns-then-threads-gt0-clause-course
returns-then-threads-gt0-clause-course g c i old l was there =
    let run = c.args.run.now in
    let changed = (c.for_each_mut.ensures i l (slice_get_within c.args.senders.now i old was)).1 in
    subst (λ (x : Sender g.row.D.Denot). SendsAll run.job.infos.now (opens_while_stopped run.job.plan.now) (opens_in run) old.owner old.seats.items x.seats.items) (changed.left ∙ get_or_from_slice_get c.for_each_mut.new.s i l l there)
    (subst (λ (x : Sender g.row.D.Denot). SendsAll run.job.infos.now (opens_while_stopped run.job.plan.now) (opens_in run) x.owner x.seats.items changed.after_call.now.seats.items)
    (changed.argument_is ∙ get_or_from_slice_get c.args.senders.now i old l was) changed.call.1)
