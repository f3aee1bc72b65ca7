use Rattle.std.proofs.Common.{◌∙◌, ap, sym, List, slice_get, arith}
use Rattle.lq_tap_run.specs.declared.lanes.Lane.{Lane}
use Rattle.lq_tap_run.proofs.Seating.{written_back}
use Rattle.lq_tap_run.proofs.lanes.all_put.Goals as goal

pub senders_put-requires-clause-ready : goal.senders_put-requires-clause-ready
senders_put-requires-clause-ready g c κs within = λ i lane at. c.requires.ready i lane (ap (λ (xs : List Lane). slice_get xs i) (sym c.as_mut_slice.ensures.value) ∙ at)

pub returns-clause-done : goal.returns-clause-done
returns-clause-done g c = λ i lane at. c.senders_put.ensures i lane
    (ap (λ (xs : List Lane). slice_get xs i) (sym (written_back c.senders_put.new.lanes c.args.lanes.items c.args.lanes.len
    (let same = c.senders_put.auto.lanes in let long = c.as_mut_slice.ensures.len in omega arith))) ∙ at)
