-- What a seat ends as, where the station that it carries was lent to be changed.
use Rattle.std.specs.Borrow.{Lends, Fml, RattleType, MutBor}
use Rattle.std.specs.Prelude.{Some}
use Rattle.lq_device.specs.Station.{StationState}
use Rattle.lq_device.specs.contracts.station.Station.{the_row as station_row}
use Rattle.lq_device.specs.declared.device.TxDevice.{Ghosts}
use Rattle.lq_table.specs.contracts.shared.Cpu.{the_row}
use Rattle.lq_table.specs.declared.shared.Cpu.{Cpu}

-- the seat with this station
abbrev pub with_station : {D : Type 0} → Cpu D → StationState → Cpu D
with_station c st = record c { station = Some st }

module _ (D : RattleType) (device : Ghosts D.Denot) (c : MutBor (Cpu D.Denot)) where
  -- once the borrow r ends, the seat has the station as r left it
  abbrev pub LendsStation : MutBor StationState → Fml
  LendsStation r = Lends (the_row D device) (station_row D device) c r (with_station c.now)
