use Rattle.std.proofs.Common.{sym, subst, ◌∙◌}
use Rattle.lq_senders.specs.Senders.{AreOthers}
use Rattle.lq_senders.proofs.Turns.{others-keep}
use Rattle.lq_senders.proofs.side_by_side.send_other.Goals as goal

pub returns-clause-done : goal.returns-clause-done
returns-clause-done g c place ready = record {
  owner_is = c.send_loop.ensures.owner ∙ ready.owner_is;
  stands = c.send_loop.ensures.stands;
  others = subst (λ o. AreOthers o c.send_loop.new.sender.seats.items) (sym c.send_loop.ensures.owner)
      (others-keep c.args.sender.now.owner c.args.sender.now.seats.items c.send_loop.new.sender.seats.items c.send_loop.ensures.keeps ready.others);
}
