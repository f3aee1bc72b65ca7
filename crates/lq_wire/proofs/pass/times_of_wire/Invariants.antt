use Rattle.std.proofs.Common.{◌≡◌, ◌<◌, ◌≤◌, map}
use Rattle.lq_model.specs.Alone.{bypass_of}
use Rattle.lq_model.specs.Numbers.{first_numbers}
use Rattle.lq_model.specs.Wire.{after_wired, first_wired, openings_of_card}
use Rattle.lq_model.specs.declared.plan.StationPlan.{StationPlan}
use Rattle.lq_card_laws.specs.Laws.{FitsCard}
use Rattle.lq_wire.specs.Wired.{IsWired, load, none_told}
use Rattle.lq_wire.proofs.pass.times_of_wire.Given as goal

-- the packets so far have their openings, and the next one comes to the station that they left
abbrev pub invariant-loop-n : goal.invariant-loop-n
invariant-loop-n g l = record {
  times : l.times.items ≡ map (openings_of_card l.fn.card l.plan (g.F.Frames.packets l.frames) l.infos) (first_numbers l.n);
  wired : l.n < (g.F.Frames.packets l.frames).count → (station : StationPlan) → FitsCard l.plan l.infos station
      → IsWired l.wired (none_told (after_wired l.fn.card l.plan (g.F.Frames.packets l.frames) l.infos (first_wired station) l.n));
  time : l.n < (g.F.Frames.packets l.frames).count → l.time ≡ (g.F.Frames.packets l.frames).time l.n;
  load : load l.wired ≤ l.n;
  bypass : l.wired.station.bypass ≡ bypass_of l.plan 0;
  card : l.wired.wire.card ≡ l.fn.card;
}
