use Rattle.std.proofs.Common.{◌≡◌, ◌++◌, get_or}
use Rattle.std.specs.List.{flat_map}
use Rattle.lq_model.specs.Numbers.{first_numbers}
use Rattle.lq_fates.specs.Counts.{none_unsent, station_text}
use Rattle.lq_fates.proofs.count_lines.push_stations.Given as goal

abbrev pub invariant-loop-station : goal.invariant-loop-station
invariant-loop-station l = l.text.items ≡ l.fn.text.items ++ flat_map (λ station. station_text station (get_or l.counts station none_unsent)) (first_numbers l.station)
