use Rattle.std.proofs.Common.{◌<◌, ℕ, sym, ap, ◌∙◌, subst, arith}
use Rattle.lq_table.specs.Sees.{IsSeatOf}
use Rattle.lq_table.specs.Views.{View}
use Rattle.lq_test_below.proofs.Firsts.{first_joined, idle_done}
use Rattle.lq_test_below.proofs.threads.join_sender.Goals as goal

pub join-requires-clause-seat : goal.join-requires-clause-seat
join-requires-clause-seat g c _ _ = c.requires.first.1.between.seat

pub join-requires-clause-other : goal.join-requires-clause-other
join-requires-clause-other g c _ _ = (c.requires.sender.between.seat, idle_done c.args.shared.now c.args.sender.cpu c.requires.sender)

pub returns : goal.returns
returns g c = record {
  first = λ units f.
      let j = c.join.ensures.makes in let m = j.3 in let of = c.requires.first.1.between.seat in let some_ = of.1 in
      let still : IsSeatOf c.args.shared.now c.join.new.into = (m.seat.0 ∙ of.0, subst (λ (x : View). 0 < x.share.shares) (sym m.knows) (omega arith), ap (λ (x : View). x.share.about) m.knows ∙ of.2) in
      first_joined _ units c.args.shared.now c.args.first.now c.join.new.into c.args.sender.cpu j.0 j.1 f still (m.seat, m.carries, m.places, m.has) m.knows;
}
