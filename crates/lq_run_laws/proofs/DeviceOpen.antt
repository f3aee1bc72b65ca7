-- The device is called only for an open queue.
use Rattle.std.proofs.Common.{◌≡◌, ◌≢◌, ℕ, ◌<◌, ◌≤◌, Bool, true, false, List, ◌⊎◌, inl, inr, length, sym, ap, ◌∙◌, subst, get_or, set}
use Rattle.std.specs.Prelude.{◌==◌}
use Rattle.std.proofs.lemmas.Bool.{cases_lt, cases_eq}
use Rattle.std.proofs.lemmas.List.{get_or-set_same, get_or-set_other, set_past}
use Rattle.lq_model.specs.declared.machine.Packet.{Packet}
use Rattle.lq_model.specs.declared.machine.Position.{Position}
use Rattle.lq_model.specs.declared.machine.Position.TheVariants.{Xmit}
use Rattle.lq_model.specs.declared.machine.Seat.{Seat}
use Rattle.lq_model.specs.Machine.{Qdisc, Machine, seat_at, is_queue_open}
use Rattle.lq_model.specs.Steps.{After}
use Rattle.lq_model.specs.Positions.{holds_lock}
use Rattle.lq_model.specs.Kept.{IsInductive, DeviceOpen}
use Rattle.lq_model.specs.Quiet.{Moves}
use Rattle.lq_run_laws.proofs.Local as local
use Rattle.lq_run_laws.proofs.Local.{Local}
use Rattle.lq_run_laws.proofs.LocalSteps.{Moved, moved}
use Rattle.lq_run_laws.proofs.Frames.{each-seat, only-holder}
use Rattle.lq_run_laws.proofs.Rely.{holder-within}

-- a stop word that 0 is stored in opens its queue, and leaves each other queue as it was
stays-open : (words : List ℕ) (stored queue : ℕ) → (get_or words queue 0 == 0) ≡ true → (get_or (set words stored 0) queue 0 == 0) ≡ true
stays-open words stored queue open_queue = elim (cases_eq queue stored) [
  | inl same ↦ at_stored same (cases_lt stored (length words))
  | inr other ↦ ap (λ word. word == 0) (get_or-set_other words stored queue 0 0 other) ∙ open_queue
]
  where
    at_stored : queue ≡ stored → (stored < length words) ⊎ (length words ≤ stored) → (get_or (set words stored 0) queue 0 == 0) ≡ true
    at_stored same (inl within) = ap (λ word. word == 0) (ap (λ k. get_or (set words stored 0) k 0) same ∙ get_or-set_same words stored 0 0 within)
    at_stored same (inr past) = ap (λ list. get_or list queue 0 == 0) (set_past words stored 0 past) ∙ open_queue

-- a step beside the holder stops no queue
beside-open : {sole : Bool} {free : Packet → Type 0} {q : Qdisc} {s : Seat} {before : Position} {after : After} (queue : ℕ) → Local sole free q s before after
    → holds_lock before ≡ false → is_queue_open q queue ≡ true → is_queue_open after.qdisc queue ≡ true
beside-open {q = q} queue (local.wake_opens stored) out open_queue = stays-open q.xoff stored queue open_queue
beside-open queue _ out open_queue = cc

-- the seat's own step
own : {sole : Bool} {free : Packet → Type 0} {q : Qdisc} {s : Seat} {before : Position} {after : After} (p : Packet) (direct : Bool) → Local sole free q s before after
    → after.seat.position ≡ Xmit p direct → is_queue_open after.qdisc p.queue ≡ true
own {q = q} p direct (local.gate_open r past open_queue) at = let same : r ≡ p = cc in subst (λ (d : Packet). is_queue_open q d.queue ≡ true) same open_queue
own p direct _ at = cc

pub device-open : (m n : Machine) → IsInductive m → Moves m n → DeviceOpen n
device-open m n h moves = subst DeviceOpen (sym t.is)
    (each-seat m t.i t.after (λ s. (p : Packet) (direct : Bool) → s.position ≡ Xmit p direct → is_queue_open t.after.qdisc p.queue ≡ true) t.inside (λ p direct at. own p direct t.leads at) others)
  where
    t : Moved m n
    t = moved m n moves

    others : (j : ℕ) → j ≢ t.i → (p : Packet) (direct : Bool) → (seat_at m j).position ≡ Xmit p direct → is_queue_open t.after.qdisc p.queue ≡ true
    others j other p direct at =
        let holds : holds_lock (seat_at m j).position ≡ true = ap holds_lock at in
        let out : holds_lock (seat_at m t.i).position ≡ false = only-holder m j t.i h.kept.one_holder (holder-within m j holds) holds (λ e. other (sym e)) in
        beside-open p.queue t.leads out (h.device_open j p direct at)
