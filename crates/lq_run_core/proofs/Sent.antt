-- A packet that waits goes on waiting until the device accepts it, unless a step of control comes.
use Rattle.std.proofs.Common.{◌≡◌, ◌≢◌, ℕ, zero, suc, ◌+◌, ◌*◌, ◌<◌, ◌≤◌, Bool, true, false, ◌⊎◌, inl, inr, List, [], ◌∷◌, ◌++◌, length, refl, ap, arith, get_or, set, sym, ◌∙◌, subst, Option, Some, None, Contains}
use Rattle.std.specs.Prelude.{nat_lt}
use Rattle.std.proofs.lemmas.List.{get_or-set_same, get_or-set_other, set_past}
use Rattle.std.proofs.lemmas.List.Elements.{Contains-append_left, Contains-append_right}
use Rattle.std.proofs.lemmas.Bool.{cases_lt, cases_eq}
use borrow.Author.Tests.{ltb-true}
use Rattle.lq_model.specs.declared.machine.Packet.{Packet}
use Rattle.lq_model.specs.declared.machine.Answer.{Answer}
use Rattle.lq_model.specs.declared.machine.Answer.TheVariants.{Plain, FullSlot, Stop, Hang, Busy}
use Rattle.lq_model.specs.declared.machine.Blocked.TheVariants.{InHand}
use Rattle.lq_model.specs.declared.machine.Position.{Position}
use Rattle.lq_model.specs.declared.machine.Position.TheVariants.{Idle, Gate, Xmit, Deq, BlockedClear, BlockedLoad, BlockedMiss, BlockedDrain, Control}
use Rattle.lq_model.specs.declared.machine.Seat.{Seat}
use Rattle.lq_model.specs.Machine.{Qdisc, Machine, is_queue_open, seat_at, band_at}
use Rattle.lq_model.specs.Control.{is_control}
use Rattle.lq_model.specs.Steps.{After, goes_to, step_at, may_answer, may_begin, begun, with_seat, slot_taken, queue_of_slot, queue_of_blocked}
use Rattle.lq_model.specs.Positions.{in_hand, needs_slot}
use Rattle.lq_model.specs.Kept.{IsInductive}
use Rattle.lq_model.specs.Quiet.{Moves}
use Rattle.lq_model.specs.Quiet.Moves.{steps, begins, controls}
use Rattle.lq_run_laws.proofs.Frames.{seat-moved, seat-other}
use Rattle.lq_run_laws.proofs.Local as local
use Rattle.lq_run_laws.proofs.Local.{Local}
use Rattle.lq_run_laws.proofs.LocalSteps.{step-leads, if-cases, if-some, and-true, or-false}
use Rattle.lq_run_laws.proofs.Seats.{idle-is}
use Rattle.lq_run_core.specs.Waits.{AllOpen, IsWaiting, WaitsOpen, packets}
use Rattle.lq_run_core.specs.Progress.{Course, and_then, Goes, IsAny, accepted_at, accepted_by, is_of_control}
use Rattle.lq_run_core.specs.Progress.Goes.{no_move, one_more_move}
use Rattle.lq_run_core.proofs.Goes.{goes-map, goes-last, goes-inductive}
use Rattle.lq_run_core.proofs.OneSeat.{control-waits}
use Rattle.lq_run_core.proofs.Nearer.{begins-idle}
use Rattle.lq_run_core.proofs.Bounded.{not-kept}

-- A STEP OF ONE SEAT

-- the packet is held, or in this seat's hand
abbrev Stays : Packet → After → Type 0
Stays p a = (in_hand a.seat.position ≡ Some p) ⊎ ((a.qdisc.slot ≡ Some p) ⊎ ((k : ℕ) × ((k < 3) × Contains (band_at a.qdisc k) p)))

accepted-is : (r p : Packet) → Some r ≡ Some p → Contains (r ∷ []) p
accepted-is r p e = (zero, omega arith, let same : r ≡ p = cc in same)

-- from the hand it goes to the device, or back into the requeue slot
hand-stays : (position : Position) (answer : Answer) (q : Qdisc) (s : Seat) (p : Packet) → may_answer position answer q ≡ true → in_hand position ≡ Some p
    → Stays p (step_at position answer q s) ⊎ Contains (accepted_at position answer) p
hand-stays (Gate r direct) answer q s p may e = if-cases (λ d. Stays p (goes_to q s d) ⊎ Contains (accepted_at (Gate r direct) answer) p) (is_queue_open q r.queue) _ _ (λ _. inl (inl e)) (λ _. inl (inl e))
hand-stays (Xmit r direct) Plain q s p may e = inr (accepted-is r p e)
hand-stays (Xmit r direct) Stop q s p may e = inr (accepted-is r p e)
hand-stays (Xmit r direct) Hang q s p may e = inr (accepted-is r p e)
hand-stays (Xmit r direct) Busy q s p may e = inl (inr (inl e))
hand-stays (Xmit r direct) FullSlot q s p may e = absurd cc
hand-stays (BlockedClear b) answer q s p may e = inl (inl e)
hand-stays (BlockedLoad b) answer q s p may e = if-cases (λ d. Stays p (goes_to q s d) ⊎ Contains (accepted_at (BlockedLoad b) answer) p) (is_queue_open q (queue_of_blocked b)) _ _ (λ _. inl (inl e)) (λ _. inl (inl e))
hand-stays (BlockedMiss (InHand r direct)) answer q s p may e = inl (inr (inl e))
hand-stays (BlockedDrain (InHand r direct)) answer q s p may e = inl (inr (inl e))
hand-stays _ answer q s p may e = absurd cc

-- a seat that moves by a step of its own, but not at the beginning of a dequeue
abbrev is_other : Position → Bool
is_other Deq = false
is_other (Control holds) = false
is_other _ = true

slot-local : {sole : Bool} {free : Packet → Type 0} {q : Qdisc} {s : Seat} {position : Position} {a : After} (p : Packet) → Local sole free q s position a
    → is_other position ≡ true → (needs_slot position ≡ true → q.slot ≡ None) → q.slot ≡ Some p → Stays p a
slot-local p (local.xmit_busy r direct) other none e = absurd (let empty = none refl in cc)
slot-local p (local.miss_back r direct) other none e = absurd (let empty = none refl in cc)
slot-local p (local.drain_back r direct) other none e = absurd (let empty = none refl in cc)
slot-local p (local.deq_slot r) other none e = absurd cc
slot-local p (local.purge_begins _ _) other none e = absurd cc
slot-local p _ other none e = inr (inl e)

taken-stays : (slot : Option Packet) (q : Qdisc) (s : Seat) (p : Packet) → slot ≡ Some p → Stays p (slot_taken slot q s)
taken-stays (Some r) q s p e = inl e
taken-stays None q s p e = absurd cc

-- in the requeue slot it stays, until a dequeue takes it in hand
slot-stays : (position : Position) (answer : Answer) (q : Qdisc) (s : Seat) (p : Packet) → may_answer position answer q ≡ true
    → (needs_slot position ≡ true → q.slot ≡ None) → q.slot ≡ Some p → Stays p (step_at position answer q s)
slot-stays Deq answer q s p may none e = if-cases (Stays p) (is_queue_open q (queue_of_slot q.slot)) _ _ (λ _. taken-stays q.slot q s p e) (λ _. inr (inl e))
slot-stays (Control holds) answer q s p may none e = absurd (control-waits holds answer q may)
slot-stays position answer q s p may none e = slot-local p (step-leads true (λ p. Unit {0}) position answer q s may) refl none e

-- bands of which one was replaced hold what they held, if that one does
set-stays : (bands : List (List Packet)) (band k : ℕ) (now : List Packet) (p : Packet) → (k ≡ band → Contains now p)
    → Contains (get_or bands k []) p → Contains (get_or (set bands band now) k []) p
set-stays bands band k now p in_now held = go (cases_eq k band) (cases_lt band (length bands))
  where
    go : (k ≡ band) ⊎ (k ≢ band) → (band < length bands) ⊎ (length bands ≤ band) → Contains (get_or (set bands band now) k []) p
    go (inl same) (inl within) = rw same (rw (get_or-set_same bands band now [] within) (in_now same))
    go (inl same) (inr past) = rw (set_past bands band now past) held
    go (inr other) _ = rw (get_or-set_other bands band k now [] other) held

joined-stays : (q : Qdisc) (r p : Packet) (k : ℕ) → Contains (band_at q k) p → Contains (get_or (set q.bands r.band (band_at q r.band ++ r ∷ [])) k []) p
joined-stays q r p k held =
    set-stays q.bands r.band k (band_at q r.band ++ r ∷ []) p
    (λ same. Contains-append_left (band_at q r.band) (r ∷ []) p (subst (λ (n : ℕ). Contains (band_at q n) p) same held)) held

-- the first packet of a list, or one behind it
first-or-rest : (r : Packet) (rest : List Packet) (p : Packet) → Contains (r ∷ rest) p → (r ≡ p) ⊎ Contains rest p
first-or-rest r rest p (zero, within, at) = inl at
first-or-rest r rest p (suc k, within, at) = inr (k, omega arith, at)

-- in a band it stays, until a look at that band takes it in hand
bands-local : {sole : Bool} {free : Packet → Type 0} {q : Qdisc} {s : Seat} {position : Position} {a : After} (p : Packet) (k : ℕ) → Local sole free q s position a
    → is_control position ≡ false → k < 3 → Contains (band_at q k) p → Stays p a
bands-local {q = q} p k (local.put_join r) own below held = inr (inr (k, (below, joined-stays q r p k held)))
bands-local {q = q} p k (local.put_join_word r run _) own below held = inr (inr (k, (below, joined-stays q r p k held)))
bands-local {q = q} p k (local.put_join_bands r run _) own below held = inr (inr (k, (below, joined-stays q r p k held)))
bands-local {q = q} p k (local.scan_takes band second r rest is) own below held = go (cases_eq k band)
  where
    go : (k ≡ band) ⊎ (k ≢ band) → (Some r ≡ Some p) ⊎ ((q.slot ≡ Some p) ⊎ ((k : ℕ) × ((k < 3) × Contains (get_or (set q.bands band rest) k []) p)))
    go (inl same) = taken (first-or-rest r rest p (subst (λ (xs : List Packet). Contains xs p) (ap (λ (n : ℕ). band_at q n) same ∙ is) held))
      where
        taken : (r ≡ p) ⊎ Contains rest p → (Some r ≡ Some p) ⊎ ((q.slot ≡ Some p) ⊎ ((k : ℕ) × ((k < 3) × Contains (get_or (set q.bands band rest) k []) p)))
        taken (inl it) = inl (ap Some it)
        taken (inr later) = inr (inr (k, (below, set-stays q.bands band k rest p (λ _. later) held)))
    go (inr other) = inr (inr (k, (below, set-stays q.bands band k rest p (λ same. absurd (other same)) held)))
bands-local p k (local.purge_takes u r rest _ _ _) own below held = absurd cc
bands-local p k (local.resizes len _) own below held = absurd cc
bands-local p k _ own below held = inr (inr (k, (below, held)))

bands-stays : (position : Position) (answer : Answer) (q : Qdisc) (s : Seat) (p : Packet) (k : ℕ) → may_answer position answer q ≡ true
    → k < 3 → Contains (band_at q k) p → Stays p (step_at position answer q s)
bands-stays (Control holds) answer q s p k may below held = absurd (control-waits holds answer q may)
bands-stays position answer q s p k may below held = bands-local p k (step-leads true (λ p. Unit {0}) position answer q s may) refl below held

-- A MOVE

-- a packet that is held, or in the hand of the seat that moved, waits
stays-waits : (m : Machine) (i : ℕ) (a : After) (p : Packet) → i < length m.seats → Stays p a → IsWaiting p (with_seat m i a)
stays-waits m i a p within (inl hand) = inr (i, ap (λ (s : Seat). in_hand s.position) (seat-moved m i a within) ∙ hand)
stays-waits m i a p within (inr held) = inl held

step-waits : (p : Packet) (m : Machine) (i : ℕ) (answer : Answer) → IsInductive m → i < length m.seats → may_answer (seat_at m i).position answer m.qdisc ≡ true → IsWaiting p m
    → IsWaiting p (with_seat m i (step_at (seat_at m i).position answer m.qdisc (seat_at m i))) ⊎ Contains (accepted_at (seat_at m i).position answer) p
step-waits p m i answer kept within may (inl (inl slot)) =
    inl (stays-waits m i (step_at (seat_at m i).position answer m.qdisc (seat_at m i)) p within (slot-stays (seat_at m i).position answer m.qdisc (seat_at m i) p may (kept.kept.slot_free i) slot))
step-waits p m i answer kept within may (inl (inr (k, (below, held)))) =
    inl (stays-waits m i (step_at (seat_at m i).position answer m.qdisc (seat_at m i)) p within (bands-stays (seat_at m i).position answer m.qdisc (seat_at m i) p k may below held))
step-waits p m i answer kept within may (inr (j, hand)) = go (cases_eq j i)
  where
    at : Stays p (step_at (seat_at m i).position answer m.qdisc (seat_at m i)) ⊎ Contains (accepted_at (seat_at m i).position answer) p
        → IsWaiting p (with_seat m i (step_at (seat_at m i).position answer m.qdisc (seat_at m i))) ⊎ Contains (accepted_at (seat_at m i).position answer) p
    at (inl stays) = inl (stays-waits m i (step_at (seat_at m i).position answer m.qdisc (seat_at m i)) p within stays)
    at (inr sent) = inr sent

    go : (j ≡ i) ⊎ (j ≢ i) → IsWaiting p (with_seat m i (step_at (seat_at m i).position answer m.qdisc (seat_at m i))) ⊎ Contains (accepted_at (seat_at m i).position answer) p
    go (inl same) = at (hand-stays (seat_at m i).position answer m.qdisc (seat_at m i) p may (subst (λ (n : ℕ). in_hand (seat_at m n).position ≡ Some p) same hand))
    go (inr other) = inl (inr (j, ap (λ (s : Seat). in_hand s.position) (seat-other m i j (step_at (seat_at m i).position answer m.qdisc (seat_at m i)) other) ∙ hand))

start-waits : (p : Packet) (m : Machine) (i : ℕ) (s : Seat) → (seat_at m i).position ≡ Idle → IsWaiting p m → IsWaiting p (with_seat m i (record { qdisc = m.qdisc; seat = s }))
start-waits p m i s idle (inl held) = inl held
start-waits p m i s idle (inr (j, hand)) = go (cases_eq j i)
  where
    go : (j ≡ i) ⊎ (j ≢ i) → IsWaiting p (with_seat m i (record { qdisc = m.qdisc; seat = s }))
    go (inl same) = absurd (let e : in_hand Idle ≡ Some p = sym (ap in_hand idle) ∙ subst (λ (n : ℕ). in_hand (seat_at m n).position ≡ Some p) same hand in cc)
    go (inr other) = inr (j, ap (λ (s : Seat). in_hand s.position) (seat-other m i j (record { qdisc = m.qdisc; seat = s }) other) ∙ hand)

move-waits : (p : Packet) (m n : Machine) → IsInductive m → (move : Moves m n) → is_of_control move ≡ false → IsWaiting p m → IsWaiting p n ⊎ Contains (accepted_by move) p
move-waits p m n kept (steps i answer e) own waits =
    let can = and-true (nat_lt i (length m.seats)) (may_answer (seat_at m i).position answer m.qdisc) (if-some _ _ _ e).0 in
    subst (λ (k : Machine). IsWaiting p k ⊎ Contains (accepted_at (seat_at m i).position answer) p) (sym (if-some _ _ _ e).1)
    (step-waits p m i answer kept (ltb-true _ _ can.0) can.1 waits)
move-waits p m n kept (begins i b free e) own waits =
    let can = and-true (nat_lt i (length m.seats)) (may_begin b (seat_at m i)) (if-some _ _ _ e).0 in
    inl (subst (IsWaiting p) (sym (if-some _ _ _ e).1) (start-waits p m i (begun b (seat_at m i)) (idle-is _ (begins-idle b (seat_at m i) can.1)) waits))
move-waits p m n kept (controls i step e) own waits = cc

-- A LIST OF MOVES

abbrev And : (Machine → Type 0) → Packet → Machine → Type 0
And P p k = P k × IsWaiting p k

-- it waits all the way, or the device accepted it
all-wait : (P : Machine → Type 0) (p : Packet) (m n : Machine) (c : Course) → IsInductive m → IsWaiting p m → Goes P m c n → c.with_control ≡ false
    → Goes (And P p) m c n ⊎ Contains c.accepted p
all-wait P p m n _ kept waits (no_move is) own = inl (no_move (is, waits))
all-wait P p m n _ kept waits (one_more_move c k n' before move after) own = go (all-wait P p m k c kept waits before (or-false _ _ own).0)
  where
    go : Goes (And P p) m c k ⊎ Contains c.accepted p → Goes (And P p) m (and_then c move) n' ⊎ Contains (c.accepted ++ accepted_by move) p
    go (inl past) = now (move-waits p k n' (goes-inductive P m k c kept before) move (or-false _ _ own).1 (goes-last (And P p) m k c past).1)
      where
        now : IsWaiting p n' ⊎ Contains (accepted_by move) p → Goes (And P p) m (and_then c move) n' ⊎ Contains (c.accepted ++ accepted_by move) p
        now (inl still) = inl (one_more_move c k n' past move (after, still))
        now (inr sent) = inr (Contains-append_right c.accepted (accepted_by move) p sent)
    go (inr sent) = inr (Contains-append_left c.accepted (accepted_by move) p sent)

pub waits-or-sent : (p : Packet) (m n : Machine) (c : Course) → IsInductive m → IsWaiting p m → Goes IsAny m c n → c.with_control ≡ false
    → IsWaiting p n ⊎ Contains c.accepted p
waits-or-sent p m n c kept waits goes own = go (all-wait IsAny p m n c kept waits goes own)
  where
    go : Goes (And IsAny p) m c n ⊎ Contains c.accepted p → IsWaiting p n ⊎ Contains c.accepted p
    go (inl past) = inl (goes-last (And IsAny p) m n c past).1
    go (inr sent) = inr sent

-- after so many moves it was sent
pub is-sent : (p : Packet) (m n : Machine) (c : Course) → IsInductive m → IsWaiting p m → Goes AllOpen m c n → c.with_control ≡ false
    → 20 * packets m + 42 * length m.seats + c.cost < c.moves → Contains c.accepted p
is-sent p m n c kept waits goes own many = go (all-wait AllOpen p m n c kept waits goes own)
  where
    go : Goes (And AllOpen p) m c n ⊎ Contains c.accepted p → Contains c.accepted p
    go (inl past) =
        let few = not-kept p m n c kept.kept.one_holder (goes-map (And AllOpen p) (WaitsOpen p) (λ k is. record { waits = is.1; queues_open = is.0 }) m n c past) in
        absurd (omega arith)
    go (inr sent) = sent
