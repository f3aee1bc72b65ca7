-- No list of moves is longer than the number of the machine where it begins, with what it costs.
use Rattle.std.proofs.Common.{◌≡◌, ℕ, zero, suc, ◌+◌, ◌*◌, ◌<◌, ◌≤◌, Bool, true, false, inl, inr, List, [], ◌∷◌, length, refl, ap, arith, Option, Some, Contains, get_or}
use Rattle.std.specs.Prelude.{sum_by, ◌&&◌, is_some}
use Rattle.std.proofs.lemmas.List.Sums.{sum_by-cons}
use Rattle.std.specs.List.{list_any}
use Rattle.lq_model.specs.declared.machine.Packet.{Packet}
use Rattle.lq_model.specs.declared.machine.Call.TheVariants.{Transmit}
use Rattle.lq_model.specs.declared.machine.Position.{Position}
use Rattle.lq_model.specs.declared.machine.Position.TheVariants.{Enter, Put, Try1, Miss, Try2, Deq, Scan, Gate, Xmit, BlockedClear, BlockedLoad, BlockedMiss, BlockedDrain}
use Rattle.lq_model.specs.declared.machine.Seat.{Seat}
use Rattle.lq_model.specs.Machine.{Machine, idle_seat, seat_at, band_at}
use Rattle.lq_model.specs.Positions.{Holds, holds_lock, in_hand}
use Rattle.lq_model.specs.Kept.{OneHolder}
use Rattle.lq_run_core.specs.Waits.{IsWaiting, WaitsOpen, is_direct, carries, packets}
use Rattle.lq_run_core.specs.Measure.{first_look, second_look, has_any, waits_in, is_ahead, is_held, serves, ServesOpen, unless_ahead, way, seat_way, measure}
use Rattle.lq_run_core.specs.Progress.{Course, Goes}
use Rattle.lq_run_core.specs.Progress.Goes.{no_move, one_more_move}
use Rattle.lq_run_core.proofs.Tests.{bit-below, or-left, or-right}
use Rattle.lq_run_core.proofs.Goes.{goes-map}
use Rattle.lq_run_core.proofs.Nearer.{nearer}

-- THE NUMBER IS ENOUGH

-- the moves of a course pay for themselves
pub all-nearer : (m n : Machine) (c : Course) → OneHolder m → Goes ServesOpen m c n → OneHolder n × (ServesOpen n × (c.moves + measure n ≤ measure m + c.cost))
all-nearer m n _ one (no_move served) = (one, (served, omega arith))
all-nearer m n _ one (one_more_move c k n' before move after) =
    let past = all-nearer m k c one before in
    let next = nearer k n' past.0 past.1.0 move after in
    (next.0, (after, omega (arith, past.1.1, next.1)))

-- THE NUMBER IS SMALL

unless-below : (b : Bool) (n : ℕ) → unless_ahead b n ≤ n
unless-below true n = omega arith
unless-below false n = omega arith

way-below : (slot : Option Packet) (bands : List (List Packet)) (position : Position) → way slot bands position ≤ 28
way-below slot bands Deq = omega (arith, unless-below (is_held slot bands) first_look)
way-below slot bands (Scan band true) = omega (arith, unless-below (is_ahead band bands) second_look)
way-below slot bands (Scan band false) = omega (arith, unless-below (is_ahead band bands) first_look)
way-below slot bands (Enter (Transmit p)) = omega arith
way-below slot bands (Put p true) = omega arith
way-below slot bands (Try1 attempt) = omega (arith, bit-below (is_direct attempt))
way-below slot bands (Miss attempt) = omega (arith, bit-below (is_direct attempt))
way-below slot bands (Try2 attempt) = omega (arith, bit-below (is_direct attempt))
way-below slot bands _ = omega arith

pub measure-below : (m : Machine) → measure m ≤ 20 * packets m + 42 * length m.seats
measure-below m = omega (arith, all m.seats)
  where
    all : (seats : List Seat) → sum_by (λ s. seat_way m.qdisc.slot m.qdisc.bands s) seats ≤ 42 * length seats
    all [] = omega arith
    all (s ∷ seats) =
        omega (
          arith,
          sum_by-cons (λ (s : Seat). seat_way m.qdisc.slot m.qdisc.bands s) s seats,
          all seats,
          way-below m.qdisc.slot m.qdisc.bands s.position,
          bit-below s.raised,
        )

-- WHAT WAITS IS SERVED

some-any : (xs : List Packet) (p : Packet) → Contains xs p → has_any xs ≡ true
some-any [] p (k, below, at) = absurd (omega arith)
some-any (x ∷ xs) p c = refl

band-ahead : (bands : List (List Packet)) (k : ℕ) → k < 3 → waits_in k bands ≡ true → is_ahead 0 bands ≡ true
band-ahead bands zero lt e = or-left _ _ e
band-ahead bands (suc zero) lt e = or-right _ _ (or-left _ _ e)
band-ahead bands (suc (suc zero)) lt e = or-right _ _ (or-right _ _ e)
band-ahead bands (suc (suc (suc k))) lt e = absurd (omega arith)

-- who has a packet in hand has the run lock
in-hand-holds : (position : Position) (p : Packet) → in_hand position ≡ Some p → (holds_lock position && carries position) ≡ true
in-hand-holds (Gate r direct) p e = refl
in-hand-holds (Xmit r direct) p e = refl
in-hand-holds (BlockedClear b) p e = ap is_some e
in-hand-holds (BlockedLoad b) p e = ap is_some e
in-hand-holds (BlockedMiss b) p e = ap is_some e
in-hand-holds (BlockedDrain b) p e = ap is_some e
in-hand-holds _ p e = cc

-- a test that some seat passes, an idle one aside
some-passes : (f : Seat → Bool) (seats : List Seat) (i : ℕ) → f idle_seat ≡ false → f (get_or seats i idle_seat) ≡ true → list_any f seats ≡ true
some-passes f [] i none e = cc
some-passes f (x ∷ xs) zero none e = or-left _ _ e
some-passes f (x ∷ xs) (suc i) none e = or-right _ _ (some-passes f xs i none e)

waits-served : (p : Packet) (m : Machine) → WaitsOpen p m → ServesOpen m
waits-served p m open_now = record { serves = served open_now.waits; queues_open = open_now.queues_open }
  where
    held : Holds m p → is_held m.qdisc.slot m.qdisc.bands ≡ true
    held (inl slot) = or-left _ _ (ap (λ (o : Option Packet). is_some o) slot)
    held (inr (k, (lt, there))) = or-right _ _ (band-ahead m.qdisc.bands k lt (some-any (band_at m.qdisc k) p there))

    served : IsWaiting p m → serves m ≡ true
    served (inl holds) = or-left _ _ (held holds)
    served (inr (i, at)) =
        or-right _ _ (some-passes (λ s. holds_lock s.position && carries s.position) m.seats i refl (in-hand-holds (seat_at m i).position p at))

-- NO ORDER

pub not-kept : (p : Packet) (m n : Machine) (c : Course) → OneHolder m → Goes (WaitsOpen p) m c n → c.moves ≤ 20 * packets m + 42 * length m.seats + c.cost
not-kept p m n c one goes =
    let all = all-nearer m n c one (goes-map (WaitsOpen p) ServesOpen (waits-served p) m n c goes) in omega (arith, all.1.1, measure-below m)
