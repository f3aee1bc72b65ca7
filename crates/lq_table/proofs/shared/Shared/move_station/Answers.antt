use Rattle.std.proofs.Common.{ℕ, List, Option, None, get_or, refl, sym, ap}
use Rattle.lq_device.specs.Station.{StationState}
use Rattle.lq_table.proofs.shared.Shared.move_station.Goals as goal

pub returns : goal.returns
returns g c = record {
  makes =
      let e = c.move_slot.ensures in record {
        seat = (e.seat.0, e.seat.1);
        knows = λ j. (e.seat.2 j).view;
        has = e.moved.1;
        carries = ap (λ (xs : List (ℕ × Option StationState)). (get_or xs 0 (0, None)).1) (sym e.moved.0);
        places = refl;
        made = λ j. (e.seat.2 j).steps;
        told = (tt, tt);
      };
}
