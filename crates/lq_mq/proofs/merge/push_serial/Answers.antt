use Rattle.std.proofs.Common.{◌≡◌, Some, length, slice_get, sym, ap, ◌∙◌}
use Rattle.std.proofs.lemmas.Bool.{ltb-false, ltb-true}
use Rattle.std.proofs.lemmas.Option.{slice_get-get_or, slice_get_past}
use Rattle.lq_mq.proofs.Serials.{with-number, without-number}
use Rattle.lq_mq.proofs.merge.push_serial.Goals as goal
use Rattle.lq_mq.proofs.merge.push_serial.Goals.{in-Some+in_ok-push_packet, in_default}

pub loop-list-preserved : goal.loop-list-preserved
loop-list-preserved c =
    let serial = c.args.serial in let lists = c.args.lists.now in let old = c.args.all.now.items in let list = c.list-item.result in
    elim c.match-get.branch [
      | in-Some+in_ok-push_packet w ↦
          let found = w.in-Some.ensures.lookup in
          let here : slice_get list.items serial ≡ Some w.in-Some.n.now =
          ap (λ xs. slice_get xs serial) (sym c.deref.ensures.value)
          ∙ (slice_get-get_or c.deref.result.now serial w.in-Some.n.now (ltb-true serial (length c.deref.result.now) (sym found.0)) ∙ ap Some (sym found.1)) in
          ap (λ v. v.items) w.all-is
          ∙ with-number (λ l. slice_get l.items serial) lists c.loop-list.list-index list old c.loop-list.all.items w.push_packet.new.all.items w.in-Some.n.now
          c.loop-list-test.true c.list-item.is here c.loop-list.invariant w.in_ok-push_packet.ensures
      | in_default w ↦
          let found = w.in_default.ensures.lookup in
          let none = ap (λ xs. slice_get xs serial) (sym c.deref.ensures.value) ∙ slice_get_past c.deref.result.now serial (ltb-false serial (length c.deref.result.now) (sym found.0)) in
          ap (λ v. v.items) w.all-is
          ∙ without-number (λ l. slice_get l.items serial) lists c.loop-list.list-index list old c.loop-list.all.items c.loop-list-test.true c.list-item.is none c.loop-list.invariant
    ]
