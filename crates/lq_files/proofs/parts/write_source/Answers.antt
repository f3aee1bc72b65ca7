use Rattle.std.proofs.Common.{◌≡◌, ◌<◌, ◌++◌, ◌∙◌, List, ap, refl, sym, subst, length, arith}
use Rattle.std.proofs.lemmas.Result.{on_ok_weaker, on_err_weaker}
use Rattle.lq_files.specs.Parts.{AreParts}
use Rattle.lq_files.specs.declared.parts.Part.{Part}
use Rattle.lq_files.proofs.MoveLemmas.{on_err_any}
use Rattle.lq_files.proofs.PartLemmas.{streamed_on, streamed_stop}
use Rattle.lq_files.proofs.PieceLemmas.{streamed_none, written_cut, written_whole}
use Rattle.lq_files.proofs.parts.write_source.Goals as goal

pub loop-at-init : goal.loop-at-init
loop-at-init g c =
    let rest = c.args.buffers.rest.items in
    let all = g.S.Source.from c.args.source.now 0 in
    record {
      streamed = streamed_none (g.H.Host.state c.args.host.now) c.args.h rest all (rest ++ all) refl;
      short = c.requires.short;
      parts = c.requires.parts;
      size = omega arith;
      within = omega arith;
      handles = refl;
      calm = refl;
    }

pub loop-at-preserved : goal.loop-at-preserved
loop-at-preserved g c =
    let from = g.S.Source.from c.args.source.now in
    let count = g.S.Source.count c.args.source.now in
    let own = c.loop-at.invariant in
    let are : AreParts from count c.loop-at.at c.deref.result.now =
    subst (λ (parts : List Part). AreParts from count c.loop-at.at parts) (sym c.deref.ensures.value) c.make_next-parts.ensures.parts in
    let some : 0 < length c.deref.result.now = (let long = c.deref.ensures.len in let same = c.make_next-parts.ensures.number in let had = own.parts in omega arith) in
    let left : c.loop-at.at < count = (let test = c.loop-at-test.true in let all = c.len-count.ensures.count in omega arith) in
    record {
      streamed =
          streamed_on (g.H.Host.state c.args.host.now) c.args.h (g.H.Host.state c.loop-at.host) (g.H.Host.state c.write_parts.new.host) c.loop-at.rest.items c.write_parts.new.rest.items (from c.loop-at.at)
          (from c.in_ok-at.at) (c.args.buffers.rest.items ++ from 0) own.streamed (c.in_ok-at.ensures.ok from count are);
      short = c.in_ok-at.ensures.short;
      parts = (let same = c.make_next-parts.ensures.number in let had = own.parts in omega arith);
      size = c.next_size-size.ensures;
      within = (let on = (c.in_ok-at.ensures.further from count are some left).1 in let all = c.len-count.ensures.count in omega arith);
      handles = c.write_parts.ensures.handles ∙ own.handles;
      calm = c.in_ok-at.ensures.cause.calm ∙ own.calm;
    }

pub loop-at-smaller : goal.loop-at-smaller
loop-at-smaller g c =
    let from = g.S.Source.from c.args.source.now in
    let count = g.S.Source.count c.args.source.now in
    let own = c.loop-at.invariant in
    let are : AreParts from count c.loop-at.at c.deref.result.now =
    subst (λ (parts : List Part). AreParts from count c.loop-at.at parts) (sym c.deref.ensures.value) c.make_next-parts.ensures.parts in
    let some : 0 < length c.deref.result.now = (let long = c.deref.ensures.len in let same = c.make_next-parts.ensures.number in let had = own.parts in omega arith) in
    let left : c.loop-at.at < count = (let test = c.loop-at-test.true in let all = c.len-count.ensures.count in omega arith) in
    let on : c.loop-at.at < c.in_ok-at.at = (c.in_ok-at.ensures.further from count are some left).0 in
    let test = c.loop-at-test.true in
    omega arith

pub returns-in_err-at-clause-err : goal.returns-in_err-at-clause-err
returns-in_err-at-clause-err g c =
    let from = g.S.Source.from c.args.source.now in
    let count = g.S.Source.count c.args.source.now in
    let are : AreParts from count c.loop-at.at c.deref.result.now =
    subst (λ (parts : List Part). AreParts from count c.loop-at.at parts) (sym c.deref.ensures.value) c.make_next-parts.ensures.parts in
    on_err_any c.from_residual.result
    (streamed_stop (g.H.Host.state c.args.host.now) c.args.h (g.H.Host.state c.loop-at.host) (g.H.Host.state c.write_parts.new.host) c.loop-at.rest.items (from c.loop-at.at)
    (c.args.buffers.rest.items ++ from 0) c.loop-at.invariant.streamed (c.in_err-at.ensures.err from count are))

pub returns-clause-ok : goal.returns-clause-ok
returns-clause-ok g c =
    let from = g.S.Source.from c.args.source.now in
    let own = c.loop-at.invariant in
    let over : c.loop-at.at ≡ g.S.Source.count c.args.source.now = (let test = c.loop-at-test.false in let within = own.within in let all = c.len-count.ensures.count in omega arith) in
    on_ok_weaker c.write_text.result
    (written_whole (g.H.Host.state c.args.host.now) c.args.h (g.H.Host.state c.loop-at.host) (g.H.Host.state c.write_text.new.host) c.loop-at.rest.items c.deref-2.result.now (from c.loop-at.at)
    (c.args.buffers.rest.items ++ from 0) c.deref-2.ensures.value (ap from over ∙ c.len-count.ensures.ends) own.streamed)
    c.write_text.ensures.ok

pub returns-clause-err : goal.returns-clause-err
returns-clause-err g c =
    let from = g.S.Source.from c.args.source.now in
    on_err_weaker c.write_text.result
    (written_cut (g.H.Host.state c.args.host.now) c.args.h (g.H.Host.state c.loop-at.host) (g.H.Host.state c.write_text.new.host) c.loop-at.rest.items c.deref-2.result.now (from c.loop-at.at)
    (c.args.buffers.rest.items ++ from 0) c.deref-2.ensures.value c.loop-at.invariant.streamed)
    c.write_text.ensures.err
