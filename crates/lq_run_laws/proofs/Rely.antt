-- What a turn of one seat leaves of the others, while the lock is held or free.
use Rattle.std.proofs.Common.{◌≡◌, ◌≢◌, ℕ, ◌<◌, Bool, true, false, inl, inr, length, Some, sym, ap, ◌∙◌}
use Rattle.std.proofs.lemmas.Bool.{cases_eq, cases_lt}
use Rattle.std.proofs.lemmas.List.{get_or_past}
use Rattle.lq_model.specs.declared.machine.Packet.{Packet}
use Rattle.lq_model.specs.declared.machine.Position.{Position}
use Rattle.lq_model.specs.declared.machine.Seat.{Seat}
use Rattle.lq_model.specs.Machine.{Qdisc, Machine, idle_seat, seat_at}
use Rattle.lq_model.specs.Steps.{After, with_seat}
use Rattle.lq_model.specs.Positions.{IsHidden, ClearBelow, BitsClear, holds_lock, hidden_packet}
use Rattle.lq_model.specs.Kept.{OneHolder}
use Rattle.lq_run_laws.proofs.Local.{Local}
use Rattle.lq_run_laws.proofs.Frames.{seat-moved, seat-other, only-holder, holder-locks}
use Rattle.lq_run_laws.proofs.Beside.{IsBeside, beside, stays-locked}

-- a seat that holds the lock is one of the machine's
pub holder-within : (m : Machine) (i : ℕ) → holds_lock (seat_at m i).position ≡ true → i < length m.seats
holder-within m i holds = elim (cases_lt i (length m.seats)) [
  | inl within ↦ within
  | inr past ↦ absurd (let idle : holds_lock (seat_at m i).position ≡ false = ap (λ (s : Seat). holds_lock s.position) (get_or_past m.seats i idle_seat past) in cc)
]

-- a step beside a holder
pub rely : {sole : Bool} {free : Packet → Type 0} (m : Machine) (i j : ℕ) {after : After} → OneHolder m → Local sole free m.qdisc (seat_at m i) (seat_at m i).position after
    → j ≢ i → holds_lock (seat_at m j).position ≡ true → IsBeside (seat_at m i).position m.qdisc after.seat.position after.qdisc
rely m i j one step other holds =
    let out : holds_lock (seat_at m i).position ≡ false = only-holder m j i one (holder-within m j holds) holds (λ e. other (sym e)) in
    let locked : m.qdisc.locked ≡ true = holder-locks m j one holds in
    beside step out (stays-locked step out locked ∙ sym locked)

-- a packet stays hidden, unless it is the moving seat's own
pub hidden-stays : (m : Machine) (i : ℕ) (a : After) (p : Packet) → i < length m.seats → IsHidden m p → (hidden_packet (seat_at m i).position ≡ Some p → hidden_packet a.seat.position ≡ Some p) → IsHidden (with_seat m i a) p
hidden-stays m i a p within (j, hides) own = elim (cases_eq j i) [
  | inl same ↦ (i, ap (λ s. hidden_packet s.position) (seat-moved m i a within) ∙ own (ap (λ n. hidden_packet (seat_at m n).position) (sym same) ∙ hides))
  | inr other ↦ (j, ap (λ s. hidden_packet s.position) (seat-other m i j a other) ∙ hides)
]

-- a step beside a holder, or at a free lock, exposes nothing unless MISSED is set afterwards
pub clear-beside : (m : Machine) (i : ℕ) (a : After) (band : ℕ) → i < length m.seats → IsBeside (seat_at m i).position m.qdisc a.seat.position a.qdisc
    → a.qdisc.missed ≡ false → ClearBelow m band → ClearBelow (with_seat m i a) band
clear-beside m i a band within leaves missed clear = record {
  slot = leaves.slot ∙ clear.slot;
  bands = λ k below p held. elim (leaves.bands k p held) [
    | inl old ↦ hidden-stays m i a p within (clear.bands k below p old) (λ own. leaves.queued p own missed)
    | inr new ↦ (i, ap (λ s. hidden_packet s.position) (seat-moved m i a within) ∙ new.0)
  ];
}

-- bits that are clear after such a step were clear before it
pub bits-before : {before after : Position} {q q' : Qdisc} → IsBeside before q after q' → BitsClear q' → BitsClear q
bits-before leaves bits = record { missed = leaves.missed bits.missed; draining = sym leaves.draining ∙ bits.draining }
