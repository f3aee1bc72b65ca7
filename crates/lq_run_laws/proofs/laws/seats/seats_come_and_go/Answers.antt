use Rattle.lq_run_laws.proofs.Seats.{extends, idle-is}
use Rattle.lq_run_laws.proofs.SeatsKept.{calm-beside, joins, leaves}
use Rattle.lq_run_laws.proofs.laws.seats.seats_come_and_go.Goals as goal

pub returns : goal.returns
returns c = record {
  joins = λ q xs ys s idle calm safe h. joins q (extends s xs ys (idle-is s.position idle) calm) safe h;
  joins_beside = λ q xs ys s i idle calm within away h. joins q (extends s xs ys (idle-is s.position idle) calm) (calm-beside q _ i within away h) h;
  leaves = λ q xs ys s idle calm h. leaves q (extends s xs ys (idle-is s.position idle) calm) h;
}
