use Rattle.std.proofs.Common.{◌≡◌, List, Some, ap, drop, length, sym, ◌∙◌, subst}
use Rattle.std.proofs.lemmas.List.{take_at}
use Rattle.std.specs.Prelude.{slice_get}
use Rattle.lq_senders.proofs.side_by_side.send_others.Goals as goal

pub returns-clause-done : goal.returns-clause-done
returns-clause-done g c i l there =
    let new = c.send_side_by_side.new.senders in let items = c.args.senders.items in
    let same = take_at new (drop (length new) items) c.args.senders.len (c.send_side_by_side.auto.senders ∙ c.as_mut_slice.ensures.len) in
    c.send_side_by_side.ensures.done i l (subst (λ (laid : List _). slice_get laid i ≡ Some l) same there)

pub returns-clause-course : goal.returns-clause-course
returns-clause-course g c i old l was there =
    let new = c.send_side_by_side.new.senders in let items = c.args.senders.items in
    let same = take_at new (drop (length new) items) c.args.senders.len (c.send_side_by_side.auto.senders ∙ c.as_mut_slice.ensures.len) in
    c.send_side_by_side.ensures.course i old l (subst (λ (from : List _). slice_get from i ≡ Some old) (sym c.as_mut_slice.ensures.value) was)
    (subst (λ (laid : List _). slice_get laid i ≡ Some l) same there)

pub returns-clause-long : goal.returns-clause-long
returns-clause-long g c =
    let new = c.send_side_by_side.new.senders in let items = c.args.senders.items in
    let same = take_at new (drop (length new) items) c.args.senders.len (c.send_side_by_side.auto.senders ∙ c.as_mut_slice.ensures.len) in
    ap length same ∙ (c.send_side_by_side.auto.senders ∙ ap length c.as_mut_slice.ensures.value)
