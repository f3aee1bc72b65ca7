-- Both ways, case by case of the tests.
use Rattle.std.proofs.Common.{refl, arith}
use Rattle.lq_model.specs.Class.{network_start, ipv4_start}
use Rattle.lq_class.proofs.Headers.{header-from_start, start-from_header}
use Rattle.lq_class.proofs.laws.ipv4_header.Goals as goal

pub returns : goal.returns
unfolding ipv4_start
returns c link frame start = (header-from_start 0x0800 20 4 link frame start (network_start 0x0800 link frame) refl, start-from_header 0x0800 20 4 (λ e. omega arith) link frame start)
