-- A seat that doesn't hold the run lock: it stays beside the holder, or takes the lock where it is free.
use Rattle.std.proofs.Common.{◌≡◌, Bool, true, false, ◌⊎◌, inl, inr, Some, None, refl}
use Rattle.lq_model.specs.declared.machine.Packet.{Packet}
use Rattle.lq_model.specs.declared.machine.Position.{Position}
use Rattle.lq_model.specs.declared.machine.Position.TheVariants.{Recheck, Deq, Scan, Control}
use Rattle.lq_model.specs.declared.machine.Seat.{Seat}
use Rattle.std.specs.Prelude.{is_none}
use Rattle.lq_model.specs.Machine.{Qdisc, has_several_queues}
use Rattle.lq_model.specs.Steps.{After}
use Rattle.lq_model.specs.Positions.{holds_lock, hidden_packet, own_packet}
use Rattle.lq_run_laws.proofs.Local as local
use Rattle.lq_run_laws.proofs.Local.{Local}

-- where a seat stands that has just taken the lock
pub data Takes (q : Qdisc) (before : Position) : Position → Type 0 where
  takes_direct : (p : Packet) → hidden_packet before ≡ None → own_packet before ≡ Some p → Takes q before (Recheck p)
  takes_word : (has_several_queues q ≡ true → is_none q.slot ≡ false) → Takes q before Deq
  takes_bands : q.slot ≡ None → Takes q before (Scan 0 false)
  takes_control : hidden_packet before ≡ None → Takes q before (Control true)

-- it takes the free lock, and changes nothing else
pub record IsTaking (q : Qdisc) (before after : Position) (q' : Qdisc) : Type 0 where
  pub free : q.locked ≡ false
  pub takes : Takes q before after
  pub locks : q' ≡ record q { locked = true }

pub aside : {sole : Bool} {free : Packet → Type 0} {q : Qdisc} {s : Seat} {before : Position} {after : After} → Local sole free q s before after
    → holds_lock before ≡ false → (holds_lock after.seat.position ≡ false) ⊎ IsTaking q before after.seat.position after.qdisc
aside (local.try1_direct p e) h = inr (record { free = e; takes = takes_direct p refl refl; locks = refl })
aside (local.try1_queued_word p run e full) h = inr (record { free = e; takes = takes_word full; locks = refl })
aside (local.try1_queued_bands p run e none) h = inr (record { free = e; takes = takes_bands none; locks = refl })
aside (local.try1_interrupt_word run e full) h = inr (record { free = e; takes = takes_word full; locks = refl })
aside (local.try1_interrupt_bands run e none) h = inr (record { free = e; takes = takes_bands none; locks = refl })
aside (local.try2_direct p e) h = inr (record { free = e; takes = takes_direct p refl refl; locks = refl })
aside (local.try2_queued_word p run e full) h = inr (record { free = e; takes = takes_word full; locks = refl })
aside (local.try2_queued_bands p run e none) h = inr (record { free = e; takes = takes_bands none; locks = refl })
aside (local.try2_interrupt_word run e full) h = inr (record { free = e; takes = takes_word full; locks = refl })
aside (local.try2_interrupt_bands run e none) h = inr (record { free = e; takes = takes_bands none; locks = refl })
aside (local.gets_lock e) h = inr (record { free = e; takes = takes_control refl; locks = refl })
aside _ h = inl cc
