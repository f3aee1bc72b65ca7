use Rattle.std.proofs.Common.{◌≡◌, ℕ, ◌+◌, ◌-◌, ◌<◌, ◌≤◌, length, refl, sym, ap, ◌∙◌, subst, arith, slice_set}
use Rattle.lq_seat.specs.Calls.{keeping_seat, offspring_seat}
use Rattle.lq_seat.specs.State.{IsHere, TableState, times}
use Rattle.lq_senders.specs.Setup.{AreSplitting, SplitsAt}
use Rattle.lq_senders.proofs.Seats.{read-at}
use Rattle.lq_senders.proofs.Joins.{devices-on, same-devices}
use Rattle.lq_senders.proofs.Splits.{SplitsUp, devices-split, sender-split, splits-all, splits-more, splits-none}
use Rattle.lq_senders.proofs.setup.split_sender.Goals as goal

pub loop-j-init : goal.loop-j-init
loop-j-init g c = record {
  owner = refl;
  seats = let none = ap length c.requires.empty.none_yet in let ok = c.args.sender.now.seats.ok.0 in omega arith;
  room = c.requires.empty.room;
  splits = splits-none c.args.run.now.job.plan.now c.args.run.now.job.infos.now (c.args.sender.now.owner - 1) c.args.run.now.tables.now c.args.seats.now.items c.args.sender.now.seats.items c.requires.empty.none_yet
      (subst (λ (n : ℕ). AreSplitting c.args.run.now.job.plan.now c.args.run.now.job.infos.now n c.args.run.now.tables.now c.args.seats.now.items) c.requires.empty.owner_is c.requires.splitting);
  devices = same-devices c.args.seats.now.items;
}

-- the sender of the sender is one of the plan's
below : (g : _) (c : goal.After-index-run-j g) → (c.args.sender.now.owner - 1) + 1 < c.args.run.now.job.plan.now.senders
below g c = subst (λ (k : ℕ). k < c.args.run.now.job.plan.now.senders) c.requires.empty.owner_is c.requires.sender

-- the seat that is split
at : (g : _) (c : goal.After-index-run-j g) → SplitsAt c.args.run.now.job.plan.now c.args.run.now.job.infos.now ((c.args.sender.now.owner - 1) + 1) c.loop-j.j c.index-run-j.result c.index_mut.result.now
at g c =
    let splits = c.loop-j.invariant.splits in let test = c.loop-j-test.true in let long = splits.long in
    splits.ahead c.loop-j.j c.index-run-j.result c.index_mut.result.now (omega arith)
    (read-at c.args.run.now.tables.now c.loop-j.j c.index-run-j.result test c.index-run-j.is)
    (read-at c.loop-j.seats.items c.loop-j.j c.index_mut.result.now (omega arith) c.index_mut.ensures.value)

pub split-other-requires-clause-here : goal.split-other-requires-clause-here
split-other-requires-clause-here g c κs within = subst (λ (t : TableState). IsHere t c.index_mut.result.now) c.index-run-j.is (at g c).seat

pub split-other-requires-clause-may : goal.split-other-requires-clause-may
split-other-requires-clause-may g c κs within =
    let here = (at g c).splitting in let shares = here.shares in let few = c.stays_within_limits.ensures.senders in let sender = below g c in
    let owner_is : c.loop-j.sender.owner ≡ (c.args.sender.now.owner - 1) + 1 = c.loop-j.invariant.owner ∙ c.requires.empty.owner_is in
    subst (λ o. (2 ≤ c.index_mut.result.now.shares) × (0 < o) × (0 < times o c.index_mut.result.now.owners)) (sym owner_is)
    (omega arith, omega arith, here.rest ((c.args.sender.now.owner - 1) + 1) (omega arith) (below g c))

pub loop-j-preserved : goal.loop-j-preserved
loop-j-preserved g c =
    let own = c.loop-j.invariant in
    let splits = own.splits in let test = c.loop-j-test.true in let long = splits.long in
    let j = c.loop-j.j in
    let plan = c.args.run.now.job.plan.now in
    let infos = c.args.run.now.job.infos.now in
    let tables = c.args.run.now.tables.now in
    let now = c.loop-j.seats.items in
    let t = c.index-run-j.result in
    let cpu = c.index_mut.result.now in
    let new = c.split-other.new.self in
    let in_plan = subst (λ (k : ℕ). k < plan.senders) c.requires.empty.owner_is c.requires.sender in
    let other = c.split-other.result in
    let at = read-at tables j t test c.index-run-j.is in
    let at' = read-at now j cpu (omega arith) c.index_mut.ensures.value in
    let owner_is : c.loop-j.sender.owner ≡ (c.args.sender.now.owner - 1) + 1 = own.owner ∙ c.requires.empty.owner_is in
    record {
      owner = own.owner;
      seats = let e = own.seats in let len = c.push_reserved.ensures.len in omega arith;
      room = let room = own.room in let same = c.push_reserved.ensures.capacity in omega arith;
      splits = subst (λ others. SplitsUp plan infos (c.args.sender.now.owner - 1) (j + 1) tables (slice_set now j new) others) (sym c.push_reserved.ensures.items)
          (splits-more plan infos (c.args.sender.now.owner - 1) j tables now c.loop-j.sender.seats.items t cpu new other splits in_plan c.stays_within_limits.ensures.senders at at'
          (subst (λ o. new ≡ keeping_seat o cpu) owner_is c.split-other.ensures.seat)
          (subst (λ o. other ≡ offspring_seat o cpu) owner_is c.split-other.ensures.other));
      devices = devices-on c.args.seats.now.items now (slice_set now j new) own.devices (devices-split now j c.loop-j.sender.owner cpu new at' c.split-other.ensures.seat);
    }

pub returns-clause-splitting : goal.returns-clause-splitting
returns-clause-splitting g c =
    let is = c.requires.empty.owner_is in
    subst (λ (n : ℕ). AreSplitting c.args.run.now.job.plan.now c.args.run.now.job.infos.now n c.args.run.now.tables.now c.loop-j.seats.items) (omega arith)
    (splits-all c.args.run.now.job.plan.now c.args.run.now.job.infos.now (c.args.sender.now.owner - 1) c.loop-j.j c.args.run.now.tables.now c.loop-j.seats.items c.loop-j.sender.seats.items c.loop-j-test.false c.loop-j.invariant.splits)

pub returns-clause-ready : goal.returns-clause-ready
returns-clause-ready g c =
    let own = c.loop-j.invariant in
    let past = c.loop-j-test.false in let below = c.loop-j.auto.j-end in
    sender-split c.args.run.now.job.plan.now c.args.run.now.job.infos.now (c.args.sender.now.owner - 1) c.loop-j.sender.owner c.loop-j.j c.args.run.now.tables.now c.loop-j.seats.items c.loop-j.sender.seats.items
    (own.owner ∙ c.requires.empty.owner_is) (omega arith) own.splits
