use Rattle.std.proofs.Common.{◌≡◌, ◌⊎◌, inl, inr, ℕ, List, [], arith}
use Rattle.lq_host.specs.Host.{HostState, Writes, filed}
use Rattle.lq_host.proofs.HostLemmas.{opened-writer, opened-is_some}
use Rattle.lq_model.specs.Texts.{times_text}
use Rattle.lq_model.specs.Wire.{flights_of_card}
use Rattle.lq_pcapng.specs.File.{packets_of_file}
use Rattle.lq_files.specs.Written.{FileIsCut}
use Rattle.lq_files.proofs.MoveLemmas.{on_err_any}
use Rattle.lq_files.proofs.PieceLemmas.{IsFinished, finished}
use Rattle.lq_files.proofs.times.write_times_file.Given as given
use Rattle.lq_files.proofs.times.write_times_file.Goals as goal
use Rattle.lq_files.proofs.times.write_times_file.Goals.{After-finish-end}

pub write_turns-lines-requires-clause-writer : goal.write_turns-lines-requires-clause-writer
write_turns-lines-requires-clause-writer g c =
    opened-writer _ (g.H.Host.state c.create.new.self) c.in_ok-h.h c.args.name.now c.in_ok-h.ensures.ok

pub finish-end-requires-clause-open : goal.finish-end-requires-clause-open
finish-end-requires-clause-open g c =
    rw c.write_turns-lines.ensures.handles
    (opened-is_some _ (g.H.Host.state c.create.new.self) c.in_ok-h.h (Writes c.args.name.now) c.in_ok-h.ensures.ok)

-- the file wasn't made, or has nothing of the text
not-made : (name text : List ℕ) (old new : HostState) → (new ≡ old) ⊎ (new ≡ filed old name []) → FileIsCut name text old new
not-made name text old new (inl same) = inl same
not-made name text old new (inr made) = inr (0, omega arith, made)

pub returns-in_err-h-clause-err : goal.returns-in_err-h-clause-err
returns-in_err-h-clause-err g c = on_err_any c.from_residual.result (not-made c.args.name.now _ (g.H.Host.state c.args.host.now) (g.H.Host.state c.create.new.self) c.in_err-h.ensures.err)

-- what is known of the file once it was finished
file : (g : given.Over) (c : After-finish-end g)
    → IsFinished c.write_turns-lines.result (g.H.Host.state c.args.host.now) c.args.name.now (times_text c.args.card (flights_of_card c.args.card c.args.run.now.plan.now (packets_of_file c.args.run.now.capture.now) c.args.infos.now))
    (g.H.Host.state c.finish-end.new.self)
file g c =
    let state = g.H.Host.state in let opened = c.in_ok-h.ensures in let done = c.write_turns-lines.ensures in
    finished c.write_turns-lines.result (state c.args.host.now) c.args.name.now c.in_ok-h.h (times_text c.args.card (flights_of_card c.args.card c.args.run.now.plan.now (packets_of_file c.args.run.now.capture.now) c.args.infos.now))
    (state c.create.new.self) (state c.write_turns-lines.new.host) (state c.finish-end.new.self)
    opened.fresh opened.ok done.handles done.ok done.err c.finish-end.ensures.closed

pub returns-in_err-and_finished-clause-err : goal.returns-in_err-and_finished-clause-err
returns-in_err-and_finished-clause-err g c =
    on_err_any c.from_residual-in_err-and_finished.result
    (file g (goal.at.returns-in_err-and_finished-clause-err g c).After-finish-end).front

pub returns-in_err-and_finished-clause-handles : goal.returns-in_err-and_finished-clause-handles
returns-in_err-and_finished-clause-handles g c =
    (file g (goal.at.returns-in_err-and_finished-clause-handles g c).After-finish-end).handles

pub returns-clause-ok : goal.returns-clause-ok
returns-clause-ok g c = (file g (goal.at.returns-clause-ok g c).After-finish-end).whole _ c.in_ok-and_finished.ensures.value

pub returns-clause-handles : goal.returns-clause-handles
returns-clause-handles g c = (file g (goal.at.returns-clause-handles g c).After-finish-end).handles
