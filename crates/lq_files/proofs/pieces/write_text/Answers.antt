use Rattle.std.proofs.Common.{refl, ◌+◌, take, sym, ap, ◌∙◌, arith, rules}
use Rattle.lq_host.specs.Host.{wrote}
use Rattle.lq_host.proofs.HostLemmas.{wrote-nil, wrote_more}
use Rattle.lq_files.proofs.MoveLemmas.{front_grows, part_fits, part_grows, on_err_any}
use Rattle.lq_files.proofs.pieces.write_text.Goals as goal

pub loop-at-init : goal.loop-at-init
loop-at-init g c = record {
  within = omega arith;
  wrote = sym (wrote-nil (g.H.Host.state c.args.host.now) c.args.h);
  calm = refl;
}

pub returns-in_err-write-clause-err : goal.returns-in_err-write-clause-err
returns-in_err-write-clause-err g c =
    let part = c.in_err-write.ensures.err in
    let text = c.args.text.now in
    on_err_any c.from_residual.result (
      c.loop-at.at + part.0,
      part_fits text c.loop-at.at c.min.result part.0 c.loop-at.invariant.within part.1,
      wrote_more (g.H.Host.state c.args.host.now) c.args.h (take c.loop-at.at text) _ (g.H.Host.state c.loop-at.host) (g.H.Host.state c.write.new.self) c.loop-at.invariant.wrote part.2
          ∙ ap (wrote (g.H.Host.state c.args.host.now) c.args.h) (part_grows text c.loop-at.at c.min.result part.0 part.1),
    )

pub loop-at-preserved : goal.loop-at-preserved
loop-at-preserved g c = record {
  within = search rules;
  wrote =
      wrote_more (g.H.Host.state c.args.host.now) c.args.h (take c.loop-at.at c.args.text.now) _ (g.H.Host.state c.loop-at.host) (g.H.Host.state c.write.new.self) c.loop-at.invariant.wrote c.in_ok-write.ensures.ok
      ∙ ap (wrote (g.H.Host.state c.args.host.now) c.args.h) (front_grows c.args.text.now c.loop-at.at c.min.result);
  calm = c.in_ok-write.ensures.cause.calm ∙ c.loop-at.invariant.calm;
}
