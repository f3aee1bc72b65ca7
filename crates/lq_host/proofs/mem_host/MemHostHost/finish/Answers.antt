use Rattle.std.proofs.Common.{ap}
use Rattle.lq_host.specs.Host.{Handles}
use Rattle.lq_host.specs.MemHost.{mem_state}
use Rattle.lq_host.proofs.mem_host.MemHostHost.finish.Goals as goal

pub returns-clause-closed : goal.returns-clause-closed
returns-clause-closed c = let old = mem_state c.args.self.now in ap (λ (hs : Handles). record old { handles = hs }) c.close.ensures
