use Rattle.std.proofs.Common.{◌++◌, refl, arith}
use Rattle.lq_model.specs.Texts.{times_text}
use Rattle.lq_wire.specs.Page.{page_text}
use Rattle.lq_wire.proofs.Lines.{line-more, lines-all}
use Rattle.lq_wire.proofs.times.push_lines.Goals as goal

pub loop-flight-init : goal.loop-flight-init
loop-flight-init c = refl

pub loop-flight-preserved : goal.loop-flight-preserved
loop-flight-preserved c =
    line-more c.args.card c.args.flights.now c.loop-flight.flight-index _ (page_text c.args.text.now ++ times_text c.args.card c.args.flights.now) (page_text c.loop-flight.text) (page_text c.push_line.new.text) c.loop-flight-test.true
    c.loop-flight.invariant c.in_ok-push_line.ensures

pub returns : goal.returns
returns c =
    lines-all c.args.card c.args.flights.now c.loop-flight.flight-index (page_text c.args.text.now ++ times_text c.args.card c.args.flights.now) (page_text c.loop-flight.text) (let over = c.loop-flight-test.false in omega arith) c.loop-flight.invariant
