use Rattle.std.proofs.Common.{◌≡◌, ℕ, suc, ◌+◌, ◌-◌, length, sym, subst, arith}
use Rattle.std.specs.Prelude.{slice_set}
use Rattle.lq_seat.specs.State.{IsHere, TableState}
use Rattle.lq_senders.specs.Joins.{JoinedAt, JoinsDown, SenderJoined}
use Rattle.lq_senders.proofs.Joins.{beside, joins-start, joins-end, join-one, devices-joined, other-next, same-devices}
use Rattle.lq_senders.proofs.Seats.{read-at}
use Rattle.lq_senders.proofs.ends.join_sender.Goals as goal

pub loop-other-init : goal.loop-other-init
loop-other-init g c = record {
  down = joins-start c.args.run.now.job.plan.now c.args.run.now.job.infos.now (c.args.sender.owner - 1) c.args.sender.owner c.args.run.now.tables.now c.args.seats.now.items c.args.sender.seats.items
      (subst (λ (k : ℕ). SenderJoined c.args.run.now.job.plan.now c.args.run.now.job.infos.now k c.args.run.now.tables.now c.args.seats.now.items) c.requires.other.owner_is c.requires.first) c.requires.other
      c.args.sender.seats.len (sym c.args.sender.seats.ok.0);
  devices = same-devices c.args.seats.now.items;
}

pub offset_bounds-run-j : goal.offset_bounds-run-j
offset_bounds-run-j g c =
    let below = c.loop-other.invariant.down.below in let all = c.loop-other.invariant.down.all in let few = c.stays_within_limits.ensures.stations in let more = c.in-Some.ensures.len in let j = c.len-j.ensures in omega arith

pub bounds-run-j : goal.bounds-run-j
bounds-run-j g c = let below = c.loop-other.invariant.down.below in let more = c.in-Some.ensures.len in let j = c.len-j.ensures in omega arith

pub index_mut-requires : goal.index_mut-requires
index_mut-requires g c =
    let below = c.loop-other.invariant.down.below in let long = c.loop-other.invariant.down.long in let ok = c.loop-other.seats.ok.0 in let more = c.in-Some.ensures.len in let j = c.len-j.ensures in omega arith

-- how the first sender's seat stands there, and the one that is taken in
at : (g : _) (c : goal.After-index-run-j g) → JoinedAt c.args.run.now.job.plan.now c.args.run.now.job.infos.now ((c.args.sender.owner - 1) + 1) c.len-j.result c.index-run-j.result c.index_mut.result.now
at g c =
    let down = c.loop-other.invariant.down in let below = down.below in let long = down.long in let more = c.in-Some.ensures.len in let j = c.len-j.ensures in
    down.ahead c.len-j.result c.index-run-j.result c.index_mut.result.now (omega arith)
    (read-at c.args.run.now.tables.now c.len-j.result c.index-run-j.result (omega arith) c.index-run-j.is)
    (read-at c.loop-other.seats.items c.len-j.result c.index_mut.result.now (omega arith) c.index_mut.ensures.value)

pub join-requires-clause-here : goal.join-requires-clause-here
join-requires-clause-here g c κs within = subst (λ (t : TableState). IsHere t c.index_mut.result.now) c.index-run-j.is (at g c).seat

pub join-requires-clause-first : goal.join-requires-clause-first
join-requires-clause-first g c κs within = (at g c).joined.first

pub join-requires-clause-beside : goal.join-requires-clause-beside
join-requires-clause-beside g c κs within =
    let down = c.loop-other.invariant.down in let below = down.below in let more = c.in-Some.ensures.len in let j = c.len-j.ensures in
    let ok = c.pop.new.self.ok.0 in let so_many : length c.pop.new.self.items ≡ c.len-j.result = omega arith in let one_more : c.loop-other.others.len ≡ suc c.len-j.result = omega arith in
    let now = subst (λ (k : ℕ). JoinsDown c.args.run.now.job.plan.now c.args.run.now.job.infos.now (c.args.sender.owner - 1) k c.args.run.now.tables.now c.loop-other.seats.items c.loop-other.others.items) one_more down in
    beside c.args.run.now.job.plan.now c.args.run.now.job.infos.now (c.args.sender.owner - 1) c.len-j.result c.index-run-j.result c.index_mut.result.now c.in-Some.other (at g c)
    (other-next c.args.run.now.job.plan.now c.args.run.now.job.infos.now (c.args.sender.owner - 1) c.len-j.result c.args.run.now.tables.now c.loop-other.seats.items c.loop-other.others.items c.pop.new.self.items c.index-run-j.result c.in-Some.other
    c.in-Some.ensures.items so_many (read-at c.args.run.now.tables.now c.len-j.result c.index-run-j.result (omega arith) c.index-run-j.is) now)

pub loop-other-preserved : goal.loop-other-preserved
loop-other-preserved g c =
    let plan = c.args.run.now.job.plan.now in let infos = c.args.run.now.job.infos.now in let place = (c.args.sender.owner - 1) in
    let down = c.loop-other.invariant.down in let below = down.below in let long = down.long in let more = c.in-Some.ensures.len in let j = c.len-j.ensures in
    let ok = c.pop.new.self.ok.0 in let so_many : length c.pop.new.self.items ≡ c.len-j.result = omega arith in let one_more : c.loop-other.others.len ≡ suc c.len-j.result = omega arith in
    let now = subst (λ (k : ℕ). JoinsDown plan infos place k c.args.run.now.tables.now c.loop-other.seats.items c.loop-other.others.items) one_more down in
    let at-d = read-at c.loop-other.seats.items c.len-j.result c.index_mut.result.now (omega arith) c.index_mut.ensures.value in
    record {
      down = subst (λ (k : ℕ). JoinsDown plan infos place k c.args.run.now.tables.now (slice_set c.loop-other.seats.items c.len-j.result c.join.new.self) c.pop.new.self.items) j
          (join-one plan infos place c.len-j.result c.args.run.now.tables.now c.loop-other.seats.items c.loop-other.others.items c.pop.new.self.items c.index-run-j.result c.index_mut.result.now c.in-Some.other c.join.new.self
          c.in-Some.ensures.items so_many (read-at c.args.run.now.tables.now c.len-j.result c.index-run-j.result (omega arith) c.index-run-j.is) at-d c.join.ensures.joins now);
      devices = devices-joined c.len-j.result c.args.seats.now.items c.loop-other.seats.items c.index_mut.result.now c.in-Some.other c.join.new.self at-d c.join.ensures.joins c.loop-other.invariant.devices;
    }

pub returns-clause-joined : goal.returns-clause-joined
returns-clause-joined g c =
    let none = c.in_default.ensures.cases in let zero_th : c.loop-other.others.len ≡ 0 = none.0 in
    joins-end c.args.run.now.job.plan.now c.args.run.now.job.infos.now (c.args.sender.owner - 1) c.args.run.now.tables.now c.loop-other.seats.items c.loop-other.others.items
    (subst (λ (k : ℕ). JoinsDown c.args.run.now.job.plan.now c.args.run.now.job.infos.now (c.args.sender.owner - 1) k c.args.run.now.tables.now c.loop-other.seats.items c.loop-other.others.items) zero_th c.loop-other.invariant.down)
