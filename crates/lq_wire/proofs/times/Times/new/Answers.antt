use Rattle.std.proofs.Common.{Option, false, sym, ap, ◌∙◌, arith}
use Rattle.std.specs.Option.{option_map_or}
use Rattle.lq_model.specs.declared.plan.StationPlan.{StationPlan}
use Rattle.lq_wire.proofs.Starts.{station-is}
use Rattle.lq_wire.proofs.times.Times.new.Goals as goal

pub returns : goal.returns
returns g c station fits = record {
  wired = λ some. c.new.ensures.wired station (station-is c.args.plan.now.stations c.station.result station c.station.ensures.station fits.one.stations)
      (record { queues = fits.queues; burst = fits.burst; never_busy = fits.never_busy; never_hangs = fits.never_hangs });
  time = λ some. c.first_time.ensures some;
  load = λ some. omega (arith, c.new.ensures.load);
  bypass = λ some. c.new.ensures.bypass ∙ sym (ap (λ (o : Option StationPlan). option_map_or (λ s. s.bypass) o false) c.station.ensures.station);
  of_card = c.new.ensures.card;
}
