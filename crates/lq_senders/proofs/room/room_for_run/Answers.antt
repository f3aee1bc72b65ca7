use Rattle.std.proofs.Common.{arith}
use Rattle.lq_senders.proofs.room.room_for_run.Goals as goal

pub returns : goal.returns
returns g c =
    let count = c.stations-count.ensures.stations in
    record {
      others = c.in_ok-others.ensures;
      none_closed = c.in_ok-closed.ensures.empty;
      no_home = c.in_ok-homes.ensures.empty;
      none_ended = c.in_ok-ended.ensures.empty;
      closed = let room = c.in_ok-closed.ensures.room in omega arith;
      homes = let room = c.in_ok-homes.ensures.room in omega arith;
      ended = let room = c.in_ok-ended.ensures.room in omega arith;
    }
