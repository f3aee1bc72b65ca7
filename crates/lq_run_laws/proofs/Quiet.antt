-- A quiet machine holds nothing.
use Rattle.std.proofs.Common.{◌≡◌, ℕ, suc, Bool, true, false, ◌⊎◌, inl, inr, List, [], ◌∷◌, refl, ap, arith, Option, Some, None, get_or, sym, ◌∙◌}
use Rattle.std.specs.List.{list_any}
use Rattle.lq_model.specs.declared.machine.Packet.{Packet}
use Rattle.lq_model.specs.declared.machine.Position.{Position}
use Rattle.lq_model.specs.declared.machine.Position.TheVariants.{Idle}
use Rattle.lq_model.specs.declared.machine.Seat.{Seat}
use Rattle.lq_model.specs.Machine.{Qdisc, Machine, idle_seat, seat_at, is_queue_open}
use Rattle.lq_model.specs.Steps.{is_idle}
use Rattle.lq_model.specs.Positions.{IsClear, Holds, hidden_packet, is_going, is_on_way, some_seat, has_way_on, is_stopped, blocking}
use Rattle.lq_model.specs.Kept.{IsKept}
use Rattle.lq_model.specs.Quiet.{IsQuiet}

-- where a test holds of some seat it holds at some number
none-anywhere : (f : Seat → Bool) (seats : List Seat) → ((i : ℕ) → f (get_or seats i idle_seat) ≡ false) → list_any f seats ≡ false
none-anywhere f [] h = refl
none-anywhere f (x ∷ xs) h = let here = h 0 in let there = none-anywhere f xs (λ i. h (suc i)) in grind arith

idle-is : (position : Position) → is_idle position ≡ true → position ≡ Idle
idle-is Idle e = refl
idle-is _ e = cc

none-at : (test : Position → Bool) (m : Machine) → test Idle ≡ false → IsQuiet m → some_seat test m ≡ false
none-at test m e quiet =
    none-anywhere (λ s. test s.position) m.seats (λ i. ap test (idle-is (seat_at m i).position (quiet.all_idle i)) ∙ e)

open-means : (q : Qdisc) (queue : Option ℕ) → ((n : ℕ) → is_queue_open q n ≡ true) → is_stopped q queue ≡ false
open-means q (Some n) h = let e = h n in grind arith
open-means q None h = refl

bool : (b : Bool) → (b ≡ true) ⊎ (b ≡ false)
bool true = inl refl
bool false = inr refl

quiet-clear : (m : Machine) → IsKept m → IsQuiet m → IsClear m
quiet-clear m kept quiet = elim (bool m.qdisc.missed) [
  | inl missed ↦ absurd (let e = kept.lock_free_missed quiet.unlocked missed in let going = none-at is_going m refl quiet in
      let s = quiet.unscheduled in let a = quiet.active in grind arith)
  | inr missed ↦ elim (bool m.qdisc.draining) [
    | inl draining ↦ kept.lock_free_draining quiet.unlocked (record { missed = missed; draining = draining; no_way = no-way })
    | inr draining ↦ kept.lock_free_clear quiet.unlocked (record { missed = missed; draining = draining })
  ]
]
  where
    no-way : has_way_on m (blocking m.qdisc) ≡ false
    no-way =
        let on = none-at is_on_way m refl quiet in let stopped = open-means m.qdisc (blocking m.qdisc) quiet.queues_open in
        let s = quiet.unscheduled in let a = quiet.active in grind arith

pub quiet-holds-nothing : (m : Machine) → IsKept m → IsQuiet m → (p : Packet) → Holds m p → ⊥
quiet-holds-nothing m kept quiet p (inl slot) = let clear = quiet-clear m kept quiet in let e = clear.slot in cc
quiet-holds-nothing m kept quiet p (inr (k, (below, there))) =
    let hidden = (quiet-clear m kept quiet).bands k below p there in
    let e : hidden_packet Idle ≡ Some p = sym (ap hidden_packet (idle-is (seat_at m hidden.0).position (quiet.all_idle hidden.0))) ∙ hidden.1 in cc
