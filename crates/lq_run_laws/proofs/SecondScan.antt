-- The bands are looked at once more with DRAINING clear.
use Rattle.std.proofs.Common.{◌≡◌, ◌≢◌, ℕ, Bool, true, false, refl, sym, ◌∙◌, subst}
use Rattle.lq_model.specs.declared.machine.Packet.{Packet}
use Rattle.lq_model.specs.declared.machine.Position.{Position}
use Rattle.lq_model.specs.declared.machine.Position.TheVariants.{Scan}
use Rattle.lq_model.specs.declared.machine.Seat.{Seat}
use Rattle.lq_model.specs.Machine.{Qdisc, Machine, seat_at}
use Rattle.lq_model.specs.Steps.{After}
use Rattle.lq_model.specs.Positions.{holds_lock, is_second_scan}
use Rattle.lq_model.specs.Kept.{IsInductive, SecondScan}
use Rattle.lq_model.specs.Quiet.{Moves}
use Rattle.lq_run_laws.proofs.Local as local
use Rattle.lq_run_laws.proofs.Local.{Local}
use Rattle.lq_run_laws.proofs.LocalSteps.{Moved, moved}
use Rattle.lq_run_laws.proofs.Frames.{each-seat}
use Rattle.lq_run_laws.proofs.Rely.{rely}

scan-holds : (p : Position) → is_second_scan p ≡ true → holds_lock p ≡ true
scan-holds (Scan band second) scans = refl
scan-holds _ scans = cc

-- the seat's own step
own : {sole : Bool} {free : Packet → Type 0} {q : Qdisc} {s : Seat} {before : Position} {after : After} → Local sole free q s before after
    → (is_second_scan before ≡ true → q.draining ≡ false) → is_second_scan after.seat.position ≡ true → after.qdisc.draining ≡ false
own (local.scan_next band second e) kept scans = kept scans
own local.clear_draining kept scans = refl
own _ kept scans = cc

pub second-scan : (m n : Machine) → IsInductive m → Moves m n → SecondScan n
second-scan m n h moves = subst SecondScan (sym t.is) (each-seat m t.i t.after (λ s. is_second_scan s.position ≡ true → t.after.qdisc.draining ≡ false) t.inside (own t.leads (h.kept.second_scan t.i)) others)
  where
    t : Moved m n
    t = moved m n moves

    others : (j : ℕ) → j ≢ t.i → is_second_scan (seat_at m j).position ≡ true → t.after.qdisc.draining ≡ false
    others j other scans = (rely m t.i j h.kept.one_holder t.leads other (scan-holds (seat_at m j).position scans)).draining ∙ h.kept.second_scan j scans
