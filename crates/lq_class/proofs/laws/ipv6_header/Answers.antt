-- Both ways, case by case of the tests.
use Rattle.std.proofs.Common.{refl, arith}
use Rattle.lq_model.specs.Class.{network_start, ipv6_start}
use Rattle.lq_class.proofs.Headers.{header-from_start, start-from_header}
use Rattle.lq_class.proofs.laws.ipv6_header.Goals as goal

pub returns : goal.returns
unfolding ipv6_start
returns c link frame start = (header-from_start 0x86dd 40 6 link frame start (network_start 0x86dd link frame) refl, start-from_header 0x86dd 40 6 (λ e. omega arith) link frame start)
