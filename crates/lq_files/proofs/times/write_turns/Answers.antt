use Rattle.std.proofs.Common.{ℕ, ◌≤◌, ◌+◌, ◌*◌, ◌++◌, ◌∙◌, List, ap, refl, arith}
use Rattle.std.proofs.lemmas.Result.{on_ok_weaker, on_err_weaker}
use Rattle.lq_model.specs.Texts.{times_text}
use Rattle.lq_model.specs.Wire.{flights_of_card}
use Rattle.lq_pcapng.specs.File.{packets_of_file}
use Rattle.lq_wire.proofs.Flights.{all-left, none-left}
use Rattle.lq_wire.specs.Page.{page_text}
use Rattle.lq_wire.specs.Times.{lines_left}
use Rattle.lq_files.proofs.MoveLemmas.{on_err_any}
use Rattle.lq_files.proofs.PieceLemmas.{streamed_cut, streamed_none, streamed_pushed, streamed_written, written_cut, written_whole}
use Rattle.lq_files.proofs.times.write_turns.Goals as goal

pub push_turn-requires-clause-at : goal.push_turn-requires-clause-at
push_turn-requires-clause-at g c = let at = c.requires.at in (at.0, at.1, c.loop-n.invariant.before at.0 at.1 at.2)

pub loop-n-init : goal.loop-n-init
loop-n-init g c =
    let card = c.args.card in let plan = c.args.run.now.plan.now in let packets = packets_of_file c.args.run.now.capture.now in let infos = c.args.infos.now in record {
      before = λ station fits at. at;
      streamed = λ station fits at.
          streamed_none (g.H.Host.state c.args.host.now) c.args.h (page_text c.args.rest) (lines_left card plan packets infos station 0) (times_text card (flights_of_card card plan packets infos))
          (ap (λ (l : List ℕ). l ++ lines_left card plan packets infos station 0) c.requires.empty ∙ all-left card plan packets infos station fits.one.stations);
      handles = refl;
      calm = refl;
    }

pub loop-n-preserved : goal.loop-n-preserved
loop-n-preserved g c =
    let card = c.args.card in let plan = c.args.run.now.plan.now in let packets = packets_of_file c.args.run.now.capture.now in let infos = c.args.infos.now in
    let n = c.loop-n.n in let inv = c.loop-n.invariant in let turn = c.in_ok-push_turn.ensures in let done = c.in_ok-write_whole_page.ensures in
    let old = g.H.Host.state c.args.host.now in let mid = g.H.Host.state c.loop-n.host in record {
      before = λ station fits at. turn.at station fits (inv.before station fits at);
      streamed = λ station fits at.
          let all = times_text card (flights_of_card card plan packets infos) in let left = lines_left card plan packets infos station (n + 1) in
          streamed_written old c.args.h mid (g.H.Host.state c.write_whole_page.new.host) (page_text c.push_turn.new.text) (page_text c.write_whole_page.new.page) left all (done.ok.0 * 65536)
          (streamed_pushed old c.args.h mid (page_text c.loop-n.rest) (lines_left card plan packets infos station n) (page_text c.push_turn.new.text) left all (inv.streamed station fits at)
          (turn.tells station fits (inv.before station fits at))) done.ok.1 done.ok.2;
      handles = done.handles ∙ inv.handles;
      calm = done.cause.calm ∙ inv.calm;
    }

pub returns-in_err-push_turn-clause-err : goal.returns-in_err-push_turn-clause-err
returns-in_err-push_turn-clause-err g c =
    let card = c.args.card in let plan = c.args.run.now.plan.now in let packets = packets_of_file c.args.run.now.capture.now in let infos = c.args.infos.now in let at = c.requires.at in
    on_err_any c.from_residual.result
    (streamed_cut (g.H.Host.state c.args.host.now) c.args.h (g.H.Host.state c.loop-n.host) (page_text c.loop-n.rest) (lines_left card plan packets infos at.0 c.loop-n.n) (times_text card (flights_of_card card plan packets infos))
    (c.loop-n.invariant.streamed at.0 at.1 at.2))

pub returns-in_err-write_whole_page-clause-err : goal.returns-in_err-write_whole_page-clause-err
returns-in_err-write_whole_page-clause-err g c =
    let card = c.args.card in let plan = c.args.run.now.plan.now in let packets = packets_of_file c.args.run.now.capture.now in let infos = c.args.infos.now in let at = c.requires.at in
    let old = g.H.Host.state c.args.host.now in let mid = g.H.Host.state c.loop-n.host in let all = times_text card (flights_of_card card plan packets infos) in
    let left = lines_left card plan packets infos at.0 (c.loop-n.n + 1) in let text = (page_text c.push_turn.new.text) in
    on_err_any c.from_residual-in_err-write_whole_page.result
    (written_cut old c.args.h mid (g.H.Host.state c.write_whole_page.new.host) text text left all refl
    (streamed_pushed old c.args.h mid (page_text c.loop-n.rest) (lines_left card plan packets infos at.0 c.loop-n.n) text left all (c.loop-n.invariant.streamed at.0 at.1 at.2)
    (c.in_ok-push_turn.ensures.tells at.0 at.1 (c.loop-n.invariant.before at.0 at.1 at.2))) c.in_err-write_whole_page.ensures.err)

pub returns-clause-ok : goal.returns-clause-ok
returns-clause-ok g c =
    let card = c.args.card in let plan = c.args.run.now.plan.now in let packets = packets_of_file c.args.run.now.capture.now in let infos = c.args.infos.now in let at = c.requires.at in
    let over : packets.count ≤ c.loop-n.n = (let test = c.loop-n-test.false in let long = c.len-n-end.ensures.count in omega arith) in
    on_ok_weaker c.write_text.result
    (written_whole (g.H.Host.state c.args.host.now) c.args.h (g.H.Host.state c.loop-n.host) (g.H.Host.state c.write_text.new.host) (page_text c.loop-n.rest) c.text.result.now (lines_left card plan packets infos at.0 c.loop-n.n)
    (times_text card (flights_of_card card plan packets infos)) c.text.ensures.text (none-left card plan packets infos at.0 c.loop-n.n over) (c.loop-n.invariant.streamed at.0 at.1 at.2))
    c.write_text.ensures.ok

pub returns-clause-err : goal.returns-clause-err
returns-clause-err g c =
    let card = c.args.card in let plan = c.args.run.now.plan.now in let packets = packets_of_file c.args.run.now.capture.now in let infos = c.args.infos.now in let at = c.requires.at in
    on_err_weaker c.write_text.result
    (written_cut (g.H.Host.state c.args.host.now) c.args.h (g.H.Host.state c.loop-n.host) (g.H.Host.state c.write_text.new.host) (page_text c.loop-n.rest) c.text.result.now (lines_left card plan packets infos at.0 c.loop-n.n)
    (times_text card (flights_of_card card plan packets infos)) c.text.ensures.text (c.loop-n.invariant.streamed at.0 at.1 at.2))
    c.write_text.ensures.err
