-- A way on stays open: what a step may do to it.
use Rattle.std.proofs.Common.{◌≡◌, ◌≢◌, ℕ, ◌<◌, Bool, true, false, ◌⊎◌, inl, inr, length, Option, Some, None, refl, sym, ap, ◌∙◌, subst, arith}
use Rattle.std.specs.Prelude.{◌||◌, nat_lt, is_some, if◌then◌else◌}
use Rattle.std.proofs.lemmas.List.{length-set}
use Rattle.lq_model.specs.declared.machine.Packet.{Packet}
use Rattle.lq_model.specs.declared.machine.Position.{Position}
use Rattle.lq_model.specs.declared.machine.Seat.{Seat}
use Rattle.lq_model.specs.Machine.{Qdisc, Machine, seat_at}
use Rattle.lq_model.specs.Steps.{After, with_seat, queue_of_slot}
use Rattle.lq_model.specs.Control.{is_purged_phase}
use Rattle.lq_model.specs.Positions.{holds_lock, is_on_way, is_stopped, blocking, has_way_on}
use Rattle.lq_model.specs.Kept.{OneHolder}
use Rattle.lq_run_laws.proofs.Local as local
use Rattle.lq_run_laws.proofs.Local.{Local}
use Rattle.lq_run_laws.proofs.Frames.{any-kept, only-holder, holder-locks}
use Rattle.lq_run_laws.proofs.Beside.{stays-locked}
use Rattle.lq_run_laws.proofs.Rely.{holder-within}

-- MISSED is set, or there is a way on: a stopped queue, or some seat that comes
abbrev pub WayOn : Qdisc → Bool → Bool → Type 0
WayOn q stopped comes = (q.missed || (q.deactivated || q.sched || stopped || comes)) ≡ true

-- a step from one position and qdisc to another takes no way on away
pub record KeepsWay (before : Position) (q : Qdisc) (after : Position) (q' : Qdisc) : Type 0 where
  pub way : (stopped rest : Bool) → WayOn q stopped (is_on_way before || rest) → WayOn q' stopped (is_on_way after || rest)
  pub xoff : (q'.xoff ≡ q.xoff) ⊎ (is_on_way after ≡ true)
  pub slot : q'.slot ≡ q.slot
  pub queues : length q'.xoff ≡ length q.xoff

some-comes : (missed deactivated sched stopped : Bool) → (missed || (deactivated || sched || stopped || true)) ≡ true
some-comes missed deactivated sched stopped = grind arith

-- what a seat beside the holder leaves of it: it hands over to what it sets or where it goes
way-beside : {sole : Bool} {free : Packet → Type 0} {q : Qdisc} {s : Seat} {before : Position} {after : After} → Local sole free q s before after
    → holds_lock before ≡ false → after.qdisc.locked ≡ q.locked → is_purged_phase q.phase ≡ false
    → (stopped rest : Bool) → WayOn q stopped (is_on_way before || rest) → WayOn after.qdisc stopped (is_on_way after.seat.position || rest)
way-beside (local.check_direct p e) h same active stopped rest way = grind arith
way-beside (local.put_join p) h same active stopped rest way = grind arith
way-beside (local.put_full p) h same active stopped rest way = grind arith
way-beside (local.try1_held attempt e) h same active stopped rest way = grind arith
way-beside (local.try1_direct p e) h same active stopped rest way = absurd cc
way-beside (local.try1_queued_word p run e full) h same active stopped rest way = absurd cc
way-beside (local.try1_queued_bands p run e none) h same active stopped rest way = absurd cc
way-beside (local.try1_interrupt_word run e full) h same active stopped rest way = absurd cc
way-beside (local.try1_interrupt_bands run e none) h same active stopped rest way = absurd cc
way-beside (local.miss_set_direct p e) h same active stopped rest way = grind arith
way-beside (local.miss_set_queued p e) h same active stopped rest way = grind arith
way-beside (local.miss_set_interrupt e) h same active stopped rest way = grind arith
way-beside (local.miss_sets attempt e) h same active stopped rest way = refl
way-beside (local.tail_missed inside) h same active stopped rest way = grind arith
way-beside (local.sched_set_inside e) h same active stopped rest way = grind arith
way-beside (local.sched_set_outside e) h same active stopped rest way = grind arith
way-beside (local.sched_sets_inside e) h same active stopped rest way = grind arith
way-beside (local.sched_sets_outside e) h same active stopped rest way = grind arith
way-beside local.clears_late h same active stopped rest way = grind arith
way-beside local.clears h same active stopped rest way = grind arith
way-beside (local.late_leaves e) h same active stopped rest way = grind arith
way-beside (local.late_tries e) h same active stopped rest way = grind arith
way-beside (local.wake_opens queue) h same active stopped rest way = grind arith
way-beside (local.deactivates holds e none) h same active stopped rest way = grind arith
way-beside (local.activates none purged) h same active stopped rest way = absurd cc
way-beside _ h same active stopped rest way = cc

xoff-beside : {sole : Bool} {free : Packet → Type 0} {q : Qdisc} {s : Seat} {before : Position} {after : After} → Local sole free q s before after
    → holds_lock before ≡ false → (after.qdisc.xoff ≡ q.xoff) ⊎ (is_on_way after.seat.position ≡ true)
xoff-beside (local.wake_opens queue) h = inr refl
xoff-beside _ h = inl cc

slot-beside : {sole : Bool} {free : Packet → Type 0} {q : Qdisc} {s : Seat} {before : Position} {after : After} → Local sole free q s before after
    → holds_lock before ≡ false → after.qdisc.slot ≡ q.slot
slot-beside (local.wake_opens queue) h = refl
slot-beside _ h = cc

queues-beside : {sole : Bool} {free : Packet → Type 0} {q : Qdisc} {s : Seat} {before : Position} {after : After} → Local sole free q s before after
    → holds_lock before ≡ false → length after.qdisc.xoff ≡ length q.xoff
queues-beside {q = q} (local.wake_opens queue) h = length-set q.xoff queue 0
queues-beside _ h = cc

pub keeps-beside : {sole : Bool} {free : Packet → Type 0} {q : Qdisc} {s : Seat} {before : Position} {after : After} → Local sole free q s before after
    → holds_lock before ≡ false → after.qdisc.locked ≡ q.locked → is_purged_phase q.phase ≡ false → KeepsWay before q after.seat.position after.qdisc
keeps-beside step out same active = record {
  way = way-beside step out same active;
  xoff = xoff-beside step out;
  slot = slot-beside step out;
  queues = queues-beside step out;
}

-- the same beside a holder
pub keeps-rely : {sole : Bool} {free : Packet → Type 0} (m : Machine) (i j : ℕ) {after : After} → OneHolder m → Local sole free m.qdisc (seat_at m i) (seat_at m i).position after
    → j ≢ i → holds_lock (seat_at m j).position ≡ true → is_purged_phase m.qdisc.phase ≡ false → KeepsWay (seat_at m i).position m.qdisc after.seat.position after.qdisc
keeps-rely m i j one step other holds active =
    let out : holds_lock (seat_at m i).position ≡ false = only-holder m j i one (holder-within m j holds) holds (λ e. other (sym e)) in
    let locked : m.qdisc.locked ≡ true = holder-locks m j one holds in
    keeps-beside step out (stays-locked step out locked ∙ sym locked) active

-- THE MACHINE

stopped-same : (q q' : Qdisc) (queue : Option ℕ) → q'.xoff ≡ q.xoff → is_stopped q' queue ≡ is_stopped q queue
stopped-same q q' (Some queue) e = cc
stopped-same q q' None e = refl

-- a queue that stays in the way of the next packet
pub way-stays : (m : Machine) (i : ℕ) (a : After) (queue : Option ℕ) → i < length m.seats → KeepsWay (seat_at m i).position m.qdisc a.seat.position a.qdisc
    → (m.qdisc.missed || has_way_on m queue) ≡ true → (a.qdisc.missed || has_way_on (with_seat m i a) queue) ≡ true
way-stays m i a queue within keeps =
    any-kept (λ s. is_on_way s.position) (WayOn m.qdisc (is_stopped m.qdisc queue)) (WayOn a.qdisc (is_stopped a.qdisc queue)) m.seats i a.seat within local-way
  where
    local-way : (rest : Bool) → WayOn m.qdisc (is_stopped m.qdisc queue) (is_on_way (seat_at m i).position || rest)
        → WayOn a.qdisc (is_stopped a.qdisc queue) (is_on_way a.seat.position || rest)
    local-way rest way = elim keeps.xoff [
      | inl same ↦ subst (λ stopped. WayOn a.qdisc stopped (is_on_way a.seat.position || rest)) (sym (stopped-same m.qdisc a.qdisc queue same)) (keeps.way (is_stopped m.qdisc queue) rest way)
      | inr on ↦ subst (λ comes. WayOn a.qdisc (is_stopped a.qdisc queue) (comes || rest)) (sym on) (some-comes a.qdisc.missed a.qdisc.deactivated a.qdisc.sched (is_stopped a.qdisc queue))
    ]

-- the queue in the way of the next packet, by the requeue slot and how many queues there are
abbrev blocks : Option Packet → ℕ → Option ℕ
blocks slot queues = if is_some slot then Some (queue_of_slot slot) else if nat_lt 1 queues then None else Some 0

pub blocking-same : (q q' : Qdisc) → q'.slot ≡ q.slot → length q'.xoff ≡ length q.xoff → blocking q' ≡ blocking q
blocking-same q q' slot queues = ap (λ s. blocks s (length q'.xoff)) slot ∙ ap (λ n. blocks q.slot n) queues
