use Rattle.std.proofs.Common.{◌≡◌, ℕ, ◌+◌, inl, inr, Some, length, sym, ap, ◌∙◌, subst, arith, slice_get}
use Rattle.std.proofs.lemmas.Option.{none-some}
use Rattle.lq_senders.specs.Setup.{HasNoSeats}
use Rattle.lq_senders.specs.declared.sender.Sender.{Sender}
use Rattle.lq_senders.proofs.Splits.{snoc-cases}
use Rattle.lq_senders.proofs.setup.other_senders.Goals as goal

pub loop-owner-init : goal.loop-owner-init
loop-owner-init g c = record {
  so_many = let none = ap length c.in_ok-others.ensures.empty in let ok = c.in_ok-others.others.ok.0 in omega arith;
  room = let room = c.in_ok-others.ensures.room in let senders = c.senders-senders.ensures.senders in omega arith;
  empty = λ i sender at. absurd (none-some sender (sym (ap (λ xs. slice_get xs i) c.in_ok-others.ensures.empty) ∙ at));
}

pub returns : goal.returns
returns g c = record {
  one_each = let so_many = c.loop-owner.invariant.so_many in let ok = c.loop-owner.others.ok.0 in
      let senders = c.senders-senders.ensures in let test = c.loop-owner-test.false in let stop = c.loop-owner.auto.owner-end in omega arith;
  each = c.loop-owner.invariant.empty;
}

pub loop-owner-preserved : goal.loop-owner-preserved
loop-owner-preserved g c =
    let own = c.loop-owner.invariant in
    let last : (i : ℕ) → i ≡ length c.loop-owner.others.items → c.loop-owner.owner ≡ i + 1 = λ i is. let so_many = own.so_many in let ok = c.loop-owner.others.ok.0 in omega arith in
    let room = c.in_ok-seats.ensures.room in
    let stations = c.stations.ensures.stations in
    record {
      so_many = let so_many = own.so_many in let len = c.push_reserved.ensures.len in omega arith;
      room = let room = own.room in let same = c.push_reserved.ensures.capacity in omega arith;
      empty = λ i sender at. elim (snoc-cases c.loop-owner.others.items _ sender i (subst (λ others. slice_get others i ≡ Some sender) c.push_reserved.ensures.items at)) [
        | inl old ↦ own.empty i sender old
        | inr (is_last, same) ↦ subst (λ (x : Sender g.row.D.Denot). HasNoSeats c.args.plan.now i x) same (record { owner_is = last i is_last; none_yet = c.in_ok-seats.ensures.empty; room = omega arith })
      ];
    }
