use Rattle.std.proofs.Common.{◌++◌, ◌∙◌, ap, refl, sym, take, rules}
use Rattle.lq_host.specs.Host.{HostState, advanced, left}
use Rattle.lq_host.proofs.HostLemmas.{advanced-nil, advanced-reader}
use Rattle.lq_files.proofs.MoveLemmas.{consumes_both, read_more}
use Rattle.lq_files.proofs.read.read_rest.Goals as goal

pub returns-then-count-eq0-clause-reader : goal.returns-then-count-eq0-clause-reader
returns-then-count-eq0-clause-reader g c =
    rw c.in_ok-count.ensures.ok (advanced-reader (g.H.Host.state c.loop-host.host) c.args.h _ c.loop-host.invariant.reader)

pub loop-host-init : goal.loop-host-init
loop-host-init g c = record {
  reader = c.requires.reader;
  read = rw c.new-taken.ensures.items (sym (advanced-nil (g.H.Host.state c.args.host.now) c.args.h));
  taken = search rules;
  room = c.requires.room;
  calm = refl;
}

pub returns-then-count-eq0-clause-read : goal.returns-then-count-eq0-clause-read
returns-then-count-eq0-clause-read g c =
    let loop : HostState = g.H.Host.state c.loop-host.host in (
      c.loop-host.taken.items,
      c.in_ok-count.ensures.ok ∙ ap (λ n. advanced loop c.args.h (take n c.read.new.buf)) c.if-count-eq0.true ∙ advanced-nil loop c.args.h ∙ c.loop-host.invariant.read,
      refl,
    )

pub returns-in_err-extend_from_slice-clause-read : goal.returns-in_err-extend_from_slice-clause-read
returns-in_err-extend_from_slice-clause-read g c = (
  c.loop-host.taken.items ++ take c.in_ok-count.count c.read.new.buf,
  read_more (g.H.Host.state c.args.host.now) (g.H.Host.state c.loop-host.host) (g.H.Host.state c.read.new.self) c.args.h c.loop-host.taken.items (take c.in_ok-count.count c.read.new.buf)
      c.loop-host.invariant.read c.in_ok-count.ensures.ok,
  search rules,
)

pub returns-in_err-extend_from_slice-clause-reader :
    goal.returns-in_err-extend_from_slice-clause-reader
returns-in_err-extend_from_slice-clause-reader g c =
    rw c.in_ok-count.ensures.ok (advanced-reader (g.H.Host.state c.loop-host.host) c.args.h _ c.loop-host.invariant.reader)

pub loop-host-preserved : goal.loop-host-preserved
loop-host-preserved g c = record {
  reader = rw c.in_ok-count.ensures.ok (advanced-reader (g.H.Host.state c.loop-host.host) c.args.h _ c.loop-host.invariant.reader);
  read =
      rw c.in_ok-extend_from_slice.ensures.items
      (read_more (g.H.Host.state c.args.host.now) (g.H.Host.state c.loop-host.host) (g.H.Host.state c.read.new.self) c.args.h c.loop-host.taken.items (take c.in_ok-count.count c.read.new.buf)
      c.loop-host.invariant.read c.in_ok-count.ensures.ok);
  taken =
      rw c.in_ok-extend_from_slice.ensures.items
      (consumes_both _ (left (g.H.Host.state c.loop-host.host) c.args.h) _ c.loop-host.taken.items _ c.loop-host.invariant.taken c.in_ok-count.ensures.bytes.0);
  room = search rules;
  calm = c.in_ok-count.ensures.cause.calm ∙ c.loop-host.invariant.calm;
}
