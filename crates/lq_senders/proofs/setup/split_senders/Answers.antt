use Rattle.std.proofs.Common.{◌≡◌, ℕ, ◌-◌, refl, subst, arith}
use Rattle.std.proofs.lemmas.Option.{slice_get_within}
use Rattle.lq_senders.specs.Senders.{IsReadySender}
use Rattle.lq_senders.specs.Setup.{AreSplitting, HasNoSeats}
use Rattle.lq_senders.proofs.Seats.{read-at}
use Rattle.lq_senders.proofs.Joins.{devices-on, same-devices}
use Rattle.lq_senders.proofs.Splits.{others-more}
use Rattle.lq_senders.proofs.setup.split_senders.Goals as goal
use Rattle.lq_senders.proofs.setup.split_senders.Goals.{After-index_mut}

pub loop-place-init : goal.loop-place-init
loop-place-init g c = record {
  len = refl;
  others = record { ready = λ i l less. absurd (omega arith); empty = λ i l from. c.requires.empty.each i l };
  splitting = c.requires.splitting;
  devices = same-devices c.args.seats.now.items;
  alone = λ none. refl;
}

-- the sender has no seat yet
empty : (g : _) (c : After-index_mut g) → HasNoSeats c.args.run.now.job.plan.now c.loop-place.place c.index_mut.result.now
empty g c =
    let own = c.loop-place.invariant in let test = c.loop-place-test.true in let len = own.len in let ok = c.loop-place.others.ok.0 in
    own.others.empty c.loop-place.place c.index_mut.result.now (omega arith) (read-at c.loop-place.others.items c.loop-place.place c.index_mut.result.now (omega arith) c.index_mut.ensures.value)

place-is : (g : _) (c : After-index_mut g) → c.index_mut.result.now.owner - 1 ≡ c.loop-place.place
place-is g c = let is = (empty g c).owner_is in omega arith

pub split_sender-requires-clause-empty : goal.split_sender-requires-clause-empty
split_sender-requires-clause-empty g c κs within =
    let place = place-is g c in
    subst (λ (k : ℕ). HasNoSeats c.args.run.now.job.plan.now k c.index_mut.result.now) (omega arith) (empty g c)

pub split_sender-requires-clause-sender : goal.split_sender-requires-clause-sender
split_sender-requires-clause-sender g c κs within =
    let is = (empty g c).owner_is in let test = c.loop-place-test.true in let one_each = c.requires.empty.one_each in let ok = c.args.others.now.ok.0 in
    let len = c.loop-place.invariant.len in omega arith

pub split_sender-requires-clause-splitting : goal.split_sender-requires-clause-splitting
split_sender-requires-clause-splitting g c κs within =
    let is = (empty g c).owner_is in
    subst (λ (n : ℕ). AreSplitting c.args.run.now.job.plan.now c.args.run.now.job.infos.now n c.args.run.now.tables.now c.loop-place.seats.items) (omega arith) c.loop-place.invariant.splitting

pub loop-place-preserved : goal.loop-place-preserved
loop-place-preserved g c =
    let own = c.loop-place.invariant in let test = c.loop-place-test.true in let len = own.len in let ok = c.loop-place.others.ok.0 in let place = place-is g c.before.before in let is = (empty g c.before.before).owner_is in
    let plan = c.args.run.now.job.plan.now in let infos = c.args.run.now.job.infos.now in let tables = c.args.run.now.tables.now in let new = c.split_sender.new.sender in
    record {
      len = own.len;
      others = others-more plan infos c.loop-place.place tables c.loop-place.others.items new (omega arith) own.others
          (subst (λ (k : ℕ). IsReadySender plan infos tables k new.owner new.seats.items) place c.split_sender.ensures.ready);
      splitting = subst (λ n. AreSplitting plan infos n tables c.split_sender.new.seats.items) (omega arith) c.split_sender.ensures.splitting;
      devices = devices-on c.args.seats.now.items c.loop-place.seats.items c.split_sender.new.seats.items own.devices c.split_sender.ensures.devices;
      alone = λ none. absurd (omega arith);
    }

pub returns : goal.returns
returns g c =
    let own = c.loop-place.invariant in let past = c.loop-place-test.false in let below = c.loop-place.auto.place-end in let one_each = c.requires.empty.one_each in
    let ok = c.args.others.now.ok.0 in let len = own.len in let fill = c.loop-place.others.ok.0 in
    record {
      splitting = subst (λ n. AreSplitting c.args.run.now.job.plan.now c.args.run.now.job.infos.now n c.args.run.now.tables.now c.loop-place.seats.items) (omega arith) own.splitting;
      ready = λ i l at. own.others.ready i l (let inside = slice_get_within c.loop-place.others.items i l at in omega arith) at;
      one_each = omega arith;
      devices = own.devices;
      alone = λ one. own.alone (omega arith);
    }
