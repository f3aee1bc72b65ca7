use Rattle.std.proofs.Common.{◌++◌, ◌∙◌, ◌<◌, ap, refl, subst, arith}
use Rattle.lq_host.proofs.HostLemmas.{wrote_none}
use Rattle.lq_files.proofs.MoveLemmas.{on_err_any}
use Rattle.lq_files.proofs.PartLemmas.{front_before, streamed_before}
use Rattle.lq_files.proofs.PieceLemmas.{streamed_none}
use Rattle.lq_files.proofs.parts.write_part.Goals as goal

pub returns-then-part-next-clause-ok : goal.returns-then-part-next-clause-ok
returns-then-part-next-clause-ok g c = λ from count is.
    streamed_none (g.H.Host.state c.args.host.now) c.args.h c.args.rest.now.items (from c.args.next) (c.args.rest.now.items ++ from c.args.next) refl

pub returns-in_default-clause-err : goal.returns-in_default-clause-err
returns-in_default-clause-err g c = λ from count is. (
    let old = g.H.Host.state c.args.host.now in
    wrote_none old old c.args.h (c.args.rest.now.items ++ from c.args.next) refl
    )

pub returns-clause-ok : goal.returns-clause-ok
returns-clause-ok g c = λ from count is.
    streamed_before (g.H.Host.state c.args.host.now) c.args.h (g.H.Host.state c.write_more.new.host) c.args.rest.now.items
    c.deref.result.now (from c.in-Some.end) (from c.args.next)
    (ap (λ b. b ++ from c.in-Some.end) c.deref.ensures.value ∙ rw c.in-Some.is at is.text ∙ ap from c.if-part-next.false)
    c.write_more.new.rest.items c.in_ok-write_more.ensures.ok

pub returns-clause-order : goal.returns-clause-order
returns-clause-order g c = λ from count is below. (
    let within = rw c.in-Some.is at is.within in (omega arith, within.1)
    )

pub returns-clause-further : goal.returns-clause-further
returns-clause-further g c = λ from count is same below.
    subst (λ start. start < count → start < c.in-Some.end) same (rw c.in-Some.is at is.some) below

pub returns-in_err-write_more-clause-err : goal.returns-in_err-write_more-clause-err
returns-in_err-write_more-clause-err g c = λ from count is. (
    let rest_is = ap (λ b. b ++ from c.in-Some.end) c.deref.ensures.value ∙ rw c.in-Some.is at is.text ∙ ap from c.if-part-next.false in
    on_err_any c.from_residual.result
    (front_before (g.H.Host.state c.args.host.now) c.args.h (g.H.Host.state c.write_more.new.host) c.args.rest.now.items
    c.deref.result.now (from c.in-Some.end) (from c.args.next) rest_is
    c.in_err-write_more.ensures.err)
    )
