use Rattle.std.proofs.Common.{refl}
use Rattle.lq_fates.proofs.CountLemmas.{none_counted}
use Rattle.lq_fates.proofs.counts.no_counts.Goals as goal

pub returns : goal.returns
returns c = none_counted c.args.stations c.args.units _ c.in_ok-by_unit.ensures c.in_ok-by_station.ensures refl refl
