use Rattle.std.proofs.Common.{◌≡◌, ◌++◌, ◌∙◌, Some, ap, refl, sym, slice_get, arith}
use Rattle.std.proofs.lemmas.Option.{slice_get-get_or}
use Rattle.lq_files.proofs.MoveLemmas.{on_err_any}
use Rattle.lq_files.proofs.PartLemmas.{further_on, streamed_on, streamed_stop}
use Rattle.lq_files.proofs.PieceLemmas.{streamed_none}
use Rattle.lq_files.proofs.parts.write_parts.Goals as goal

pub loop-part-init : goal.loop-part-init
loop-part-init g c = record {
  streamed = λ from count are. streamed_none (g.H.Host.state c.args.host.now) c.args.h c.args.rest.now.items (from c.args.at) (c.args.rest.now.items ++ from c.args.at) refl;
  further = λ from count are lt none. absurd (omega arith);
  begins = λ none. refl;
  short = c.requires.short;
  handles = refl;
  calm = refl;
}

pub loop-part-preserved : goal.loop-part-preserved
loop-part-preserved g c =
    let old = g.H.Host.state c.args.host.now in
    let own = c.loop-part.invariant in
    let i = c.loop-part.part-index in
    let part = c.part-item.result in
    let item : slice_get c.args.parts.now i ≡ Some part = slice_get-get_or c.args.parts.now i part c.loop-part-test.true ∙ ap Some (sym c.part-item.is) in
    record {
      streamed = λ from count are.
          streamed_on old c.args.h (g.H.Host.state c.loop-part.host) (g.H.Host.state c.write_part.new.host) c.loop-part.rest.items c.write_part.new.rest.items (from c.loop-part.next) (from c.in_ok-next.next)
          (c.args.rest.now.items ++ from c.args.at) (own.streamed from count are) (c.in_ok-next.ensures.ok from count (are i part item).is);
      further = λ from count are lt some.
          further_on from count c.args.at i c.loop-part.next c.in_ok-next.next part (are i part item) lt own.begins (own.further from count are lt) (c.in_ok-next.ensures.order from count (are i part item).is)
          (c.in_ok-next.ensures.further from count (are i part item).is);
      begins = λ none. absurd (omega arith);
      short = c.in_ok-next.ensures.short;
      handles = c.write_part.ensures.handles ∙ own.handles;
      calm = c.in_ok-next.ensures.cause.calm ∙ own.calm;
    }

pub returns-in_err-next-clause-err : goal.returns-in_err-next-clause-err
returns-in_err-next-clause-err g c = λ from count are. (
    let i = c.loop-part.part-index in
    let part = c.part-item.result in
    let item : slice_get c.args.parts.now i ≡ Some part = slice_get-get_or c.args.parts.now i part c.loop-part-test.true ∙ ap Some (sym c.part-item.is) in
    on_err_any c.from_residual.result
    (streamed_stop (g.H.Host.state c.args.host.now) c.args.h (g.H.Host.state c.loop-part.host) (g.H.Host.state c.write_part.new.host) c.loop-part.rest.items (from c.loop-part.next)
    (c.args.rest.now.items ++ from c.args.at) (c.loop-part.invariant.streamed from count are) (c.in_err-next.ensures.err from count (are i part item).is))
    )

pub returns-clause-ok : goal.returns-clause-ok
returns-clause-ok g c = c.loop-part.invariant.streamed

pub returns-clause-further : goal.returns-clause-further
returns-clause-further g c = λ from count are some below.
    c.loop-part.invariant.further from count are below (let over = c.loop-part-test.false in omega arith)
