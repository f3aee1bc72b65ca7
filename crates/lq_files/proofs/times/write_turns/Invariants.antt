use Rattle.std.proofs.Common.{◌≡◌}
use Rattle.lq_card_laws.specs.Laws.{FitsCard}
use Rattle.lq_model.specs.Texts.{times_text}
use Rattle.lq_model.specs.Wire.{flights_of_card}
use Rattle.lq_model.specs.declared.plan.StationPlan.{StationPlan}
use Rattle.lq_pcapng.specs.File.{packets_of_file}
use Rattle.lq_wire.specs.Page.{page_text}
use Rattle.lq_wire.specs.Times.{IsBeforePacket, lines_left}
use Rattle.lq_files.specs.Parts.{IsStreamed}
use Rattle.lq_files.proofs.times.write_turns.Given as goal

-- the lines of the packets so far are written, or kept
abbrev pub invariant-loop-n : goal.invariant-loop-n
invariant-loop-n g l =
    let state = g.H.Host.state in let plan = l.run.plan.now in let packets = packets_of_file l.run.capture.now in record {
      before : (station : StationPlan) → FitsCard plan l.infos station → IsBeforePacket l.fn.times l.card plan packets l.infos station 0 → IsBeforePacket l.times l.card plan packets l.infos station l.n;
      streamed :
          (station : StationPlan) → FitsCard plan l.infos station → IsBeforePacket l.fn.times l.card plan packets l.infos station 0
          → IsStreamed (state l.fn.host) l.h (state l.host) (page_text l.rest) (lines_left l.card plan packets l.infos station l.n) (times_text l.card (flights_of_card l.card plan packets l.infos));
      handles : (state l.host).handles ≡ (state l.fn.host).handles;
      calm : g.H.Host.fault_count l.host ≡ g.H.Host.fault_count l.fn.host;
    }
