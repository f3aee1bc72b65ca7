use Rattle.std.proofs.Common.{refl}
use Rattle.lq_table.proofs.AllAtRest.{stands_for}
use Rattle.lq_table_laws.specs.Stands.{machine_by}
use Rattle.lq_table_laws.proofs.Served.{no_packet_left}
use Rattle.lq_table_laws.proofs.laws.no_order_keeps_a_packet_of_a_table.Goals as goal

pub returns : goal.returns
returns c = record {
  stands = λ k s r. (stands_for k s r, refl);
  kept = λ k s r. r.parts.machine.invariant;
  served = λ k s r. no_packet_left (machine_by r) r.parts.machine.invariant;
}
