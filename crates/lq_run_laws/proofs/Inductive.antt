-- What makes the machine's sentences inductive is kept as a whole.
use Rattle.lq_model.specs.Machine.{Machine}
use Rattle.lq_model.specs.Kept.{IsInductive}
use Rattle.lq_model.specs.Quiet.{Moves}
use Rattle.lq_run_laws.proofs.LocalSteps.{moved}
use Rattle.lq_run_laws.proofs.Counts.{one-holder, calls-inside, one-scheduled}
use Rattle.lq_run_laws.proofs.Missed.{lock-free-missed}
use Rattle.lq_run_laws.proofs.LockFreeClear.{lock-free-clear}
use Rattle.lq_run_laws.proofs.LockFreeDraining.{lock-free-draining}
use Rattle.lq_run_laws.proofs.EndingDraining.{ending-draining}
use Rattle.lq_run_laws.proofs.BlockedDraining.{blocked-draining}
use Rattle.lq_run_laws.proofs.LookedClear.{looked-clear}
use Rattle.lq_run_laws.proofs.SecondScan.{second-scan}
use Rattle.lq_run_laws.proofs.SlotFree.{slot-free}
use Rattle.lq_run_laws.proofs.SlotWaits.{slot-waits}
use Rattle.lq_run_laws.proofs.QuietInside.{quiet-inside}
use Rattle.lq_run_laws.proofs.PurgedHoldsNothing.{purged-holds-nothing}
use Rattle.lq_run_laws.proofs.Deactivation.{deactivation}
use Rattle.lq_run_laws.proofs.Purging.{purging}
use Rattle.lq_run_laws.proofs.DeviceOpen.{device-open}
use Rattle.lq_run_laws.proofs.DequeueWaits.{dequeue-waits}
use Rattle.lq_run_laws.proofs.OwnersDiffer.{owners-differ}
use Rattle.lq_run_laws.proofs.DirectAlone.{direct-alone}

pub inductive : (m n : Machine) → IsInductive m → Moves m n → IsInductive n
inductive m n ind moves = record {
  kept = record {
    lock_free_missed = lock-free-missed m n ind (moved m n moves);
    lock_free_clear = lock-free-clear m n ind moves;
    lock_free_draining = lock-free-draining m n ind moves;
    ending_draining = ending-draining m n ind moves;
    blocked_draining = blocked-draining m n ind moves;
    looked_clear = looked-clear m n ind moves;
    second_scan = second-scan m n ind moves;
    slot_free = slot-free m n ind moves;
    slot_waits = slot-waits m n ind moves;
    one_holder = one-holder m n ind (moved m n moves);
    calls_inside = calls-inside m n ind (moved m n moves);
    one_scheduled = one-scheduled m n ind (moved m n moves);
    quiet_inside = quiet-inside m n ind moves;
    purged_holds_nothing = purged-holds-nothing m n ind moves;
  };
  deactivation = deactivation m n ind moves;
  purging = purging m n ind moves;
  device_open = device-open m n ind moves;
  dequeue_waits = dequeue-waits m n ind moves;
  owners_differ = owners-differ m n ind moves;
  direct_alone = direct-alone m n ind moves;
}
