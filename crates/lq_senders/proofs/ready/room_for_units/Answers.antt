use Rattle.std.proofs.Common.{arith}
use Rattle.lq_senders.proofs.ready.room_for_units.Goals as goal

pub returns : goal.returns
returns g c =
    let count = c.stations-count.ensures.stations in
    record {
      no_table = c.in_ok-tables.ensures.empty;
      no_seat = c.in_ok-seats.ensures.empty;
      no_spare = c.in_ok-spares.ensures.empty;
      tables = let room = c.in_ok-tables.ensures.room in omega arith;
      seats = let room = c.in_ok-seats.ensures.room in omega arith;
      spares = let units = c.units.ensures.units in let room = c.in_ok-spares.ensures.room in omega arith;
    }
