use Rattle.std.proofs.Common.{◌≡◌, ℕ, ◌∙◌, length, map, subst, arith}
use Rattle.std.proofs.lemmas.List.{length-set}
use Rattle.lq_table.specs.Ended.{ended_state}
use Rattle.lq_senders.specs.Told.{AreLent}
use Rattle.lq_senders.proofs.FatesRead.{one-more-lent}
use Rattle.lq_senders.proofs.Seats.{mapped-at, read-at}
use Rattle.lq_senders.proofs.read.lent_words.Goals as goal

pub loop-station-preserved : goal.loop-station-preserved
loop-station-preserved g c =
    let own = c.loop-station in
    let x = c.index-ended-station.result in
    let here = mapped-at (ended_state {D = g.row.D.Denot} {g = g.D.TxDevice}) c.args.ended.now own.station x (read-at c.args.ended.now own.station x c.loop-station-test.true c.index-ended-station.is) in
    record {
      lent = one-more-lent (map ended_state c.args.ended.now) own.station own.lent (ended_state x) c.fate_words.result
          (let few = c.requires.stations in let within = c.loop-station-test.true in let places = own.invariant.places in omega arith) here
          (record { packets = c.fate_words.ensures.packets; fates = c.fate_words.ensures.fates }) own.invariant.lent;
      places = length-set own.lent own.station _ ∙ own.invariant.places;
    }

pub returns : goal.returns
returns g c =
    let test = c.loop-station-test.false in let stop = c.loop-station.auto.station-end in
    let same : c.loop-station.station ≡ length c.args.ended.now = omega arith in
    subst (λ (count : ℕ). AreLent (map ended_state c.args.ended.now) count c.loop-station.lent) same c.loop-station.invariant.lent
