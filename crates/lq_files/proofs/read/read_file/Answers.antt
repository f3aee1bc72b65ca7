use Rattle.std.proofs.Common.{Result, IfOk, IfSome, inr, subst}
use Rattle.lq_host.specs.Host.{left}
use Rattle.lq_host.proofs.HostLemmas.{opened-reader, read_whole, left-opened}
use Rattle.lq_files.specs.Input.{IsInput}
use Rattle.lq_files.specs.declared.read.Input.{Input}
use Rattle.lq_files.specs.declared.answer.Stop.{Stop}
use Rattle.lq_files.proofs.MoveLemmas.{input_of_all, on_err_any}
use Rattle.lq_files.proofs.read.read_file.Goals as goal

pub read_rest-input-requires-clause-reader : goal.read_rest-input-requires-clause-reader
read_rest-input-requires-clause-reader g c =
    opened-reader _ (g.H.Host.state c.open_read.new.self) c.in_ok-h.h c.args.name.now 0 c.in_ok-h.ensures.ok

pub returns-in_err-input-clause-stopped : goal.returns-in_err-input-clause-stopped
returns-in_err-input-clause-stopped g c =
    let read = c.read_rest-input.ensures.read in
    on_err_any c.from_residual-in_err-input.result
    (inr (
      read.0,
      read_whole (g.H.Host.state c.args.host.now) c.in_ok-h.h c.args.name.now read.0 (g.H.Host.state c.open_read.new.self) (g.H.Host.state c.read_rest-input.new.host)
          (g.H.Host.state c.finish-end.new.self) c.in_ok-h.ensures.fresh c.in_ok-h.ensures.ok read.1 c.finish-end.ensures.closed,
    ))

pub returns-clause-some : goal.returns-clause-some
returns-clause-some g c =
    let read = c.read_rest-input.ensures.read in (
      read.0,
      subst (λ (r : Result Input Stop). IfOk r (IsInput c.args.limit read.0)) c.in_ok-input.ensures.value read.2,
      read_whole (g.H.Host.state c.args.host.now) c.in_ok-h.h c.args.name.now read.0 (g.H.Host.state c.open_read.new.self) (g.H.Host.state c.read_rest-input.new.host)
          (g.H.Host.state c.finish-end.new.self) c.in_ok-h.ensures.fresh c.in_ok-h.ensures.ok read.1 c.finish-end.ensures.closed,
    )

pub returns-clause-input : goal.returns-clause-input
returns-clause-input g c =
    let all = left-opened (g.H.Host.state c.args.host.now) (g.H.Host.state c.open_read.new.self) c.in_ok-h.h c.args.name.now c.in_ok-h.ensures.ok in
    let mid = g.H.Host.state c.open_read.new.self in
    let read : IfSome (left mid c.in_ok-h.h) (λ bytes. IsInput c.args.limit bytes c.in_ok-input.input) =
    subst (λ (r : Result Input Stop). IfOk r (λ input. IfSome (left mid c.in_ok-h.h) (λ bytes. IsInput c.args.limit bytes input))) c.in_ok-input.ensures.value c.read_rest-input.ensures.input in
    input_of_all (g.H.Host.state c.args.host.now).told c.args.name.now c.args.limit c.in_ok-input.input c.in_ok-h.ensures.there (rw all at read)
