use Rattle.std.proofs.Common.{◌≡◌, ◌++◌, List, Vec, Global, ℕ, map, slice_get, suc, ◌+◌, sym, ap, ◌∙◌, arith}
use Rattle.std.specs.List.{filter_map, flat_map}
use Rattle.lq_model.specs.Numbers.{first_numbers}
use Rattle.lq_mq.proofs.Serials.{at_serial, filter-mapped, first-more}
use Rattle.lq_mq.proofs.merge.joint.Goals as goal

pub loop-serial-preserved : goal.loop-serial-preserved
loop-serial-preserved c =
    let items : Vec ℕ Global → List ℕ = λ list. list.items in let lists = map items c.args.lists.now in let serial = c.loop-serial.serial in
    let more : suc serial ≡ serial + 1 = omega arith in
    c.in_ok-push_serial.ensures
    ∙ (ap (λ xs. xs ++ filter_map (λ list. slice_get (items list) serial) c.args.lists.now) c.loop-serial.invariant
    ∙ (ap (λ ys. flat_map (at_serial lists) (first_numbers serial) ++ ys) (filter-mapped (λ list. slice_get list serial) items c.args.lists.now)
    ∙ (sym (first-more lists serial) ∙ ap (λ k. flat_map (at_serial lists) (first_numbers k)) more)))
