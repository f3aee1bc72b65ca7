-- One queue: what the rules of several queues come to.
use Rattle.std.proofs.Common.{◌≡◌, ℕ, zero, suc, ◌≤◌, Bool, true, false, length, ap, arith, Option, Some, None, ◌∙◌}
use Rattle.std.specs.Prelude.{◌&&◌, nat_lt, ◌==◌, if◌then◌else◌, slice_set, is_some, is_none}
use Rattle.std.proofs.Math.ListN.{get_or-eq_default}
use Rattle.lq_model.specs.declared.machine.Position.TheVariants.{Deq, Scan, StoreXoff}
use Rattle.lq_model.specs.declared.machine.Seat.{Seat}
use Rattle.lq_model.specs.Machine.{Qdisc, is_queue_open, has_several_queues}
use Rattle.lq_model.specs.Steps.{goes_to, dequeue_begins, store_xoff, after_sent, queue_of_slot}
use Rattle.lq_model.specs.Positions.{blocking}

not-shared : (q : Qdisc) → length q.xoff ≡ 1 → has_several_queues q ≡ false
not-shared q one = ap (λ (n : ℕ). nat_lt 1 n) one

pub one-dequeue : (q : Qdisc) → length q.xoff ≡ 1 → dequeue_begins q ≡ Deq
one-dequeue q one = ap (λ (b : Bool). if b && is_none q.slot then Scan 0 false else Deq) (not-shared q one)

pub one-hang : (q : Qdisc) (s : Seat) (direct : Bool) → length q.xoff ≡ 1
    → store_xoff 0 true direct q s ≡ goes_to (record q { xoff = slice_set q.xoff 0 2 }) s (after_sent direct q s)
one-hang q s direct one =
    ap (λ (n : ℕ). goes_to (record q { xoff = slice_set q.xoff 0 2 }) s (if nat_lt 1 n then StoreXoff 1 true direct else after_sent direct q s)) one

pub one-blocking : (q : Qdisc) → length q.xoff ≡ 1 → q.slot ≡ None → blocking q ≡ Some 0
one-blocking q one empty =
    ap (λ (o : Option _). if is_some o then Some (queue_of_slot o) else if has_several_queues q then None else Some 0) empty
    ∙ ap (λ (b : Bool). if b then None else Some 0) (not-shared q one)

pub one-open : (q : Qdisc) (queue : ℕ) → length q.xoff ≡ 1 → is_queue_open q 0 ≡ true → is_queue_open q queue ≡ true
one-open q zero one is = is
one-open q (suc queue) one is =
    let beyond : length q.xoff ≤ suc queue = omega arith in
    ap (λ (n : ℕ). n == 0) (get_or-eq_default q.xoff 0 beyond)
