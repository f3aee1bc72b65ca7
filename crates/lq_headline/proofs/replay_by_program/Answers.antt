use Rattle.lq_top.specs.Program.{host_at}
use Rattle.lq_headline.proofs.Replays.{programs}
use Rattle.lq_headline.proofs.replay_by_program.Goals as goal

pub returns : goal.returns
returns g c = record {
  headline = λ zero.
      programs c.args.plan.now c.args.capture.now c.args.out.now (host_at (g.H.Host.state c.args.host.now) (g.H.Host.fault_count c.args.host.now))
      (host_at (g.H.Host.state c.run_words.new.host) (g.H.Host.fault_count c.run_words.new.host)) c.run_words.result (g.met.H.Host.output_is_open c.args.host.now) zero c.run_words.ensures;
}
