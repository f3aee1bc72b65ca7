use Rattle.std.proofs.Common.{◌≡◌, ◌<◌, ◌∙◌, ap, sym, subst, rules, Some, length}
use Rattle.std.proofs.lemmas.Option.{slice_get-get_or, slice_get_within, get_or_from_slice_get}
use Rattle.lq_tap_run.specs.Lanes.{IsLaneDone}
use Rattle.lq_tap_run.specs.declared.lanes.Lane.{Lane}
use Rattle.lq_tap_run.proofs.lanes.senders_put.Goals as goal

pub for_each_mut-requires-clause-accepts : goal.for_each_mut-requires-clause-accepts
for_each_mut-requires-clause-accepts g c κs within =
    λ i p lt at. (c.requires.ready i p.now (slice_get-get_or c.args.lanes.now i p.now lt ∙ ap Some (sym at)), search rules)

pub returns : goal.returns
returns g c = λ i lane at. (
    let same : length c.for_each_mut.new.s ≡ length c.args.lanes.now = c.for_each_mut.auto.s in
    let lt : i < length c.args.lanes.now = subst (λ k. i < k) same (slice_get_within c.for_each_mut.new.s i lane at) in
    let done = (c.for_each_mut.ensures i lane lt).1 in
    let is : IsLaneDone c.args.run.now.tap.now c.args.run.now.packets c.args.run.now.senders i done.after_call.now = assumption (done.call) in
    subst (λ (l : Lane). IsLaneDone c.args.run.now.tap.now c.args.run.now.packets c.args.run.now.senders i l) (done.left ∙ get_or_from_slice_get c.for_each_mut.new.s i lane lane at) is
    )
