use Rattle.std.proofs.Common.{◌≡◌, ℕ, ◌∷◌, [], ◌-◌, length, ap, ◌∙◌, subst, arith}
use Rattle.std.specs.Prelude.{slice_get}
use Rattle.lq_account_laws.proofs.Lists.{get-push-new, get-push-old}
use Rattle.lq_senders.specs.Joins.{SenderJoined}
use Rattle.lq_senders.specs.Senders.{IsDoneSender}
use Rattle.lq_senders.proofs.Joins.{devices-on}
use Rattle.lq_senders.proofs.ends.join_all.Goals as goal

-- the sender that is taken in, as it was done
done : (g : _) (c : goal.After-join_sender-arg-1 g)
    → IsDoneSender c.args.run.now.job.plan.now c.args.run.now.job.infos.now c.args.run.now.tables.now (length c.pop.new.self.items) c.in-Some.sender.owner c.in-Some.sender.seats.items
done g c = c.loop-sender.invariant.others (length c.pop.new.self.items) c.in-Some.sender
    (ap (λ l. slice_get l (length c.pop.new.self.items)) c.in-Some.ensures.items ∙ get-push-new c.pop.new.self.items c.in-Some.sender)

place-is : (g : _) (c : goal.After-join_sender-arg-1 g) → c.in-Some.sender.owner - 1 ≡ c.pop.new.self.len
place-is g c = let is = (done g c).owner_is in let ok = c.pop.new.self.ok.0 in omega arith

pub join_sender-requires-clause-first : goal.join_sender-requires-clause-first
join_sender-requires-clause-first g c κs within =
    let more = c.in-Some.ensures.len in let is = (done g c).owner_is in let ok = c.pop.new.self.ok.0 in
    subst (λ (k : ℕ). SenderJoined c.args.run.now.job.plan.now c.args.run.now.job.infos.now k c.args.run.now.tables.now c.loop-sender.seats.items) (omega arith) c.loop-sender.invariant.joined

pub join_sender-requires-clause-other : goal.join_sender-requires-clause-other
join_sender-requires-clause-other g c κs within =
    let place = place-is g c in let ok = c.pop.new.self.ok.0 in
    subst (λ (k : ℕ). IsDoneSender c.args.run.now.job.plan.now c.args.run.now.job.infos.now c.args.run.now.tables.now k c.in-Some.sender.owner c.in-Some.sender.seats.items) (omega arith) (done g c)

pub loop-sender-preserved : goal.loop-sender-preserved
loop-sender-preserved g c =
    let inv = c.loop-sender.invariant in let more = c.in-Some.ensures.len in record {
      joined = subst (λ (k : ℕ). SenderJoined c.args.run.now.job.plan.now c.args.run.now.job.infos.now k c.args.run.now.tables.now c.join_sender.new.seats.items) (place-is g c.before) c.join_sender.ensures.joined;
      others = λ i x there. inv.others i x (ap (λ l. slice_get l i) c.in-Some.ensures.items ∙ get-push-old c.pop.new.self.items (c.in-Some.sender ∷ []) x i there);
      devices = devices-on c.args.seats.now.items c.loop-sender.seats.items c.join_sender.new.seats.items inv.devices c.join_sender.ensures.devices;
      fewer = let fewer = inv.fewer in omega arith;
      alone = λ none. absurd (let fewer = inv.fewer in omega arith);
    }
