use Rattle.std.proofs.Common.{◌≡◌, ◌∙◌, ap, arith, inr, length, map, sym, vec_len}
use Rattle.std.proofs.lemmas.List.{length-map, length-replicate}
use Rattle.lq_device.specs.Bench.{bench_state, unconfigured}
use Rattle.lq_table.specs.Ended.{ended_state}
use Rattle.lq_files.specs.Command.{bytes_of_words}
use Rattle.lq_top.proofs.ProgramLemmas.{called_on}
use Rattle.lq_top.proofs.program.run_words.Goals as goal

pub returns : goal.returns
returns g c =
    let bench = c.in-Ok.bench in
    let counted : vec_len bench ≡ 16 = (let ok = bench.ok.0 in let n = sym (length-map bench.items bench_state) ∙ (ap length c.in-Ok.ensures ∙ length-replicate 16 unconfigured) in omega arith) in
    inr (called_on (bytes_of_words c.args.words.now) (g.H.Host.state c.args.host.now) (g.H.Host.state c.lqtx-status.new.host)
    (g.H.Host.fault_count c.args.host.now) (g.H.Host.fault_count c.lqtx-status.new.host) (vec_len bench)
    (map bench_state bench.items) (map bench_state c.lqtx-status.new.bench.items) (map ended_state c.lqtx-status.new.ended.items)
    c.lqtx-status.result c.code.result counted c.in-Ok.ensures c.code.ensures
    c.lqtx-status.ensures.outcome c.lqtx-status.ensures.some c.lqtx-status.ensures.usage c.lqtx-status.ensures.complete
    c.lqtx-status.ensures.fault c.lqtx-status.ensures.calm)
