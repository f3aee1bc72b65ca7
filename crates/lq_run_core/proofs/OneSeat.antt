-- What one seat leaves of its part of the number by a step, a start or a step of control.
use Rattle.std.proofs.Common.{◌≡◌, ◌≢◌, ℕ, zero, suc, ◌+◌, ◌*◌, ◌-◌, ◌<◌, ◌≤◌, Bool, true, false, ◌⊎◌, inl, inr, List, [], ◌∷◌, ◌++◌, length, refl, ap, arith, get_or, set, ◌∙◌, Option, Some, None, map, take, length-append}
use Rattle.std.specs.Prelude.{sum_by, ◌||◌, ◌&&◌, not, if◌then◌else◌, nat_lt, ◌==◌, is_some}
use Rattle.std.proofs.lemmas.List.{get_or-set_same, get_or_past, set_past, length-take}
use Rattle.std.proofs.lemmas.List.Sums.{sum_by-set, sum_by-cons}
use Rattle.std.proofs.lemmas.Bool.{cases_lt}
use borrow.Author.Tests.{ltb-true}
use Rattle.lq_model.specs.declared.machine.Packet.{Packet}
use Rattle.lq_model.specs.declared.machine.Beginning.TheVariants.{Transmits, Interrupts, Wakes, Controls}
use Rattle.lq_model.specs.declared.machine.Answer.{Answer}
use Rattle.lq_model.specs.declared.machine.Beginning.{Beginning}
use Rattle.lq_model.specs.Control.{is_control}
use Rattle.lq_model.specs.declared.machine.Answer.TheVariants.{Plain, FullSlot, Stop, Hang, Busy}
use Rattle.lq_model.specs.declared.machine.Position.{Position}
use Rattle.lq_model.specs.declared.machine.Position.TheVariants.{Idle, Gate, Xmit, StoreXoff, Deq, Scan, Test, Unlock, Control}
use Rattle.lq_model.specs.declared.machine.Seat.{Seat}
use Rattle.lq_model.specs.Machine.{Qdisc, bit, is_queue_open, band_at}
use Rattle.lq_model.specs.Steps.{is_idle, may_begin, begun, After, goes_to, step_at, may_answer, scan, slot_taken, counted, queue_of_slot, joined_band}
use Rattle.lq_model.specs.Positions.{holds_lock}
use Rattle.lq_run_laws.proofs.Local as local
use Rattle.lq_run_laws.proofs.Local.{Local, Sends}
use Rattle.lq_run_laws.proofs.LocalSteps.{step-leads, if-cases, sends, and-true}
use Rattle.lq_run_core.specs.Waits.{carries, held_packets}
use Rattle.lq_run_core.specs.Measure.{first_look, second_look, has_any, waits_in, is_ahead, is_held, unless_ahead, way, seat_way, packet_pays}
use Rattle.lq_run_core.specs.Progress.{step_cost, start_cost, control_cost}
use Rattle.lq_run_core.proofs.Tests.{or-second, bit-below}

-- WHAT WAITS
-- nothing more is to be done where a packet lies ahead
ahead-none : (b : Bool) (n : ℕ) → b ≡ true → unless_ahead b n ≡ 0
ahead-none true n e = refl
ahead-none false n e = cc

pub ahead-less : (b b' : Bool) (n : ℕ) → (b ≡ true → b' ≡ true) → unless_ahead b' n ≤ unless_ahead b n
ahead-less true true n h = omega arith
ahead-less true false n h = absurd (let e = h refl in cc)
ahead-less false true n h = omega arith
ahead-less false false n h = omega arith

-- PACKETS IN BANDS

-- a packet that joins its band is one more at most
joined-count : (bands : List (List Packet)) (band : ℕ) (p : Packet)
    → sum_by (λ (b : List Packet). length b) (set bands band (get_or bands band [] ++ p ∷ [])) ≤ sum_by (λ (b : List Packet). length b) bands + 1
joined-count bands band p = go (cases_lt band (length bands))
  where
    go : (band < length bands) ⊎ (length bands ≤ band) → sum_by (λ (b : List Packet). length b) (set bands band (get_or bands band [] ++ p ∷ [])) ≤ sum_by (λ (b : List Packet). length b) bands + 1
    go (inl within) =
        omega (arith, sum_by-set (λ (b : List Packet). length b) bands band (get_or bands band [] ++ p ∷ []) [] within, length-append (get_or bands band []) (p ∷ []))
    go (inr past) = rw (set_past bands band (get_or bands band [] ++ p ∷ []) past) (omega arith)

-- one that is taken is one less
taken-count : (bands : List (List Packet)) (band : ℕ) (p : Packet) (rest : List Packet) → get_or bands band [] ≡ p ∷ rest
    → sum_by (λ (b : List Packet). length b) (set bands band rest) + 1 ≡ sum_by (λ (b : List Packet). length b) bands
taken-count bands band p rest is = go (cases_lt band (length bands))
  where
    long : length (get_or bands band []) ≡ length rest + 1
    long = ap length is ∙ omega arith

    go : (band < length bands) ⊎ (length bands ≤ band) → sum_by (λ (b : List Packet). length b) (set bands band rest) + 1 ≡ sum_by (λ (b : List Packet). length b) bands
    go (inl within) = omega (arith, sum_by-set (λ (b : List Packet). length b) bands band rest [] within, long)
    go (inr past) = absurd (let none : get_or bands band [] ≡ [] = get_or_past bands band [] past in cc)

-- ONE SEAT

-- the seat stands as the holder with nothing in hand
abbrev pub is_free_holder : Position → Bool
is_free_holder position = holds_lock position && not (carries position)

abbrev pub load : Option Packet → List (List Packet) → Seat → ℕ
load slot bands s = packet_pays * (held_packets slot bands + bit (carries s.position)) + seat_way slot bands s

-- what one seat's move leaves is nearer but for its cost, if a packet waits where it then holds the lock with nothing in hand
abbrev pub Falls : ℕ → Qdisc → Seat → Position → After → Type 0
Falls cost q s position a =
    (is_free_holder a.seat.position ≡ true → is_held a.qdisc.slot a.qdisc.bands ≡ true)
    → load a.qdisc.slot a.qdisc.bands a.seat < load q.slot q.bands (record s { position = position }) + cost

-- the positions of whose outcomes `Local` says enough
abbrev is_simple : Position → Bool
is_simple Idle = false
is_simple (Gate p direct) = false
is_simple (Xmit p direct) = false
is_simple (StoreXoff queue hung direct) = false
is_simple Deq = false
is_simple (Scan band second) = false
is_simple (Control holds) = false
is_simple _ = true

-- a run or dequeue begins with a packet ahead of it
begins-scan : (slot : Option Packet) (bands : List (List Packet)) → slot ≡ None → is_held slot bands ≡ true → is_ahead 0 bands ≡ true
begins-scan slot bands none h = or-second (is_some slot) (is_ahead 0 bands) (ap is_some none) h

simple-falls : {sole : Bool} {free : Packet → Type 0} {q : Qdisc} {s : Seat} {position : Position} {a : After}
    → Local sole free q s position a → is_simple position ≡ true → Falls 0 q s position a
simple-falls {q = q} (local.put_join p) e h = omega (arith, joined-count q.bands p.band p)
simple-falls {q = q} (local.put_join_word p run _) e h = omega (arith, joined-count q.bands p.band p, ahead-none _ first_look (h refl))
simple-falls {q = q} (local.put_join_bands p run none) e h = omega (arith, joined-count q.bands p.band p, ahead-none _ first_look (begins-scan q.slot (joined_band p q).bands none (h refl)))
simple-falls {q = q} (local.put_full_word p run _) e h = omega (arith, ahead-none _ first_look (h refl))
simple-falls {q = q} (local.put_full_bands p run none) e h = omega (arith, ahead-none _ first_look (begins-scan q.slot q.bands none (h refl)))
simple-falls {q = q} (local.try1_queued_word p run _ _) e h = omega (arith, ahead-none _ first_look (h refl))
simple-falls {q = q} (local.try1_queued_bands p run _ none) e h = omega (arith, ahead-none _ first_look (begins-scan q.slot q.bands none (h refl)))
simple-falls {q = q} (local.try1_interrupt_word run _ _) e h = omega (arith, ahead-none _ first_look (h refl))
simple-falls {q = q} (local.try1_interrupt_bands run _ none) e h = omega (arith, ahead-none _ first_look (begins-scan q.slot q.bands none (h refl)))
simple-falls {q = q} (local.try2_queued_word p run _ _) e h = omega (arith, ahead-none _ first_look (h refl))
simple-falls {q = q} (local.try2_queued_bands p run _ none) e h = omega (arith, ahead-none _ first_look (begins-scan q.slot q.bands none (h refl)))
simple-falls {q = q} (local.try2_interrupt_word run _ _) e h = omega (arith, ahead-none _ first_look (h refl))
simple-falls {q = q} (local.try2_interrupt_bands run _ none) e h = omega (arith, ahead-none _ first_look (begins-scan q.slot q.bands none (h refl)))
simple-falls {q = q} (local.post_word run _) e h = omega (arith, ahead-none _ first_look (h refl))
simple-falls {q = q} (local.post_bands run none) e h = omega (arith, ahead-none _ first_look (begins-scan q.slot q.bands none (h refl)))
simple-falls _ e h = grind arith

-- after a packet was sent, the holder has less before it than the packet paid
sent-way : (q : Qdisc) (direct : Bool) (d : Position) → Sends q direct d
    → (is_free_holder d ≡ true → is_held q.slot q.bands ≡ true) → way q.slot q.bands d + packet_pays * bit (carries d) < packet_pays
sent-way q _ _ local.sent_directly h = omega arith
sent-way q _ _ local.sent_quota h = omega arith
sent-way q _ _ (local.sent_on _ (local.at_stop_word _)) h = omega (arith, ahead-none _ first_look (h refl))
sent-way q _ _ (local.sent_on _ (local.at_bands none)) h = omega (arith, ahead-none _ first_look (begins-scan q.slot q.bands none (h refl)))

slot-falls : (slot : Option Packet) (q : Qdisc) (s : Seat) → q.slot ≡ slot → Falls 0 q s Deq (slot_taken slot q s)
slot-falls (Some p) q s e h = omega (arith, ap (λ (o : Option Packet). bit (is_some o)) e)
slot-falls None q s e h = omega (arith, ap (λ (o : Option Packet). unless_ahead (is_held o q.bands) first_look) e)

next-band : (bands : List (List Packet)) (more band : ℕ) → waits_in band bands ≡ false → nat_lt band 2 ≡ true
    → (2 - (band + 1)) + unless_ahead (is_ahead (band + 1) bands) more < (2 - band) + unless_ahead (is_ahead band bands) more
next-band bands more zero e lt = omega (arith, ap (λ (b : Bool). unless_ahead (b || is_ahead 1 bands) more) e)
next-band bands more (suc zero) e lt = omega (arith, ap (λ (b : Bool). unless_ahead (b || is_ahead 2 bands) more) e)
next-band bands more (suc (suc band)) e lt = absurd (let b = ltb-true (suc (suc band)) 2 lt in omega arith)

last-band : (bands : List (List Packet)) (band : ℕ) → waits_in band bands ≡ false → nat_lt band 2 ≡ false → is_ahead band bands ≡ false
last-band bands zero e lt = cc
last-band bands (suc zero) e lt = cc
last-band bands (suc (suc zero)) e lt = e
last-band bands (suc (suc (suc band))) e lt = refl

scan-falls : (items : List Packet) (band : ℕ) (second : Bool) (q : Qdisc) (s : Seat) → band_at q band ≡ items
    → Falls 0 q s (Scan band second) (scan items band second q s)
scan-falls (p ∷ rest) band second q s e = λ h. omega (arith, taken-count q.bands band p rest e)
scan-falls [] band second q s e =
    if-cases (λ d. Falls 0 q s (Scan band second) (goes_to q s d)) (nat_lt band 2) _ _
    (λ lt h. omega (arith, next-band q.bands (if second then second_look else first_look) band (ap has_any e) lt))
    (λ lt. last second (last-band q.bands band (ap has_any e) lt))
  where
    last : (second : Bool) → is_ahead band q.bands ≡ false → Falls 0 q s (Scan band second) (goes_to q s (if second then Unlock else Test))
    last true none h = omega (arith, ap (λ (b : Bool). unless_ahead b second_look) none)
    last false none h = omega (arith, ap (λ (b : Bool). unless_ahead b first_look) none)

-- a stop word that was stored isn't open
stored : (q : Qdisc) (queue : ℕ) (hung : Bool) → (hung && nat_lt (queue + 1) (length q.xoff)) ≡ true
    → is_queue_open (record q { xoff = set q.xoff queue (if hung then 2 else 1) }) queue ≡ true → ⊥
stored q queue false e opened = cc
stored q queue true e opened =
    let within = ltb-true (queue + 1) (length q.xoff) e in
    let at : get_or (set q.xoff queue 2) queue 0 ≡ 2 = get_or-set_same q.xoff queue 2 0 (omega arith) in
    let closed : (get_or (set q.xoff queue 2) queue 0 == 0) ≡ false = ap (λ (n : ℕ). n == 0) at in cc

-- a seat that is idle or in a call of control does no step of its own
pub idle-waits : (answer : Answer) (q : Qdisc) → may_answer Idle answer q ≡ true → ⊥
idle-waits Plain q e = cc
idle-waits FullSlot q e = cc
idle-waits Stop q e = cc
idle-waits Hang q e = cc
idle-waits Busy q e = cc

pub control-waits : (holds : Bool) (answer : Answer) (q : Qdisc) → may_answer (Control holds) answer q ≡ true → ⊥
control-waits holds Plain q e = cc
control-waits holds FullSlot q e = cc
control-waits holds Stop q e = cc
control-waits holds Hang q e = cc
control-waits holds Busy q e = cc

step-falls : (position : Position) (answer : Answer) (q : Qdisc) (s : Seat) → may_answer position answer q ≡ true → answer ≢ Busy
    → ((queue : ℕ) → is_queue_open q queue ≡ true) → ((queue : ℕ) → is_queue_open (step_at position answer q s).qdisc queue ≡ true)
    → Falls 0 q s position (step_at position answer q s)
step-falls Idle answer q s may ready opens after = absurd (idle-waits answer q may)
step-falls (Control holds) answer q s may ready opens after = absurd (control-waits holds answer q may)
step-falls (Gate p direct) answer q s may ready opens after =
    if-cases (λ d. Falls 0 q s (Gate p direct) (goes_to q s d)) (is_queue_open q p.queue) _ _ (λ e h. omega arith) (λ e. absurd (let o = opens p.queue in cc))
step-falls Deq answer q s may ready opens after =
    if-cases (Falls 0 q s Deq) (is_queue_open q (queue_of_slot q.slot)) _ _ (λ e. slot-falls q.slot q s refl) (λ e. absurd (let o = opens (queue_of_slot q.slot) in cc))
step-falls (Scan band second) answer q s may ready opens after = scan-falls (band_at q band) band second q s refl
step-falls (Xmit p direct) Plain q s may ready opens after = λ h. omega (arith, sent-way q direct _ (sends q (counted s) direct) h)
step-falls (Xmit p direct) FullSlot q s may ready opens after = cc
step-falls (Xmit p direct) Stop q s may ready opens after = λ h. omega arith
step-falls (Xmit p direct) Hang q s may ready opens after = λ h. omega arith
step-falls (Xmit p direct) Busy q s may ready opens after = absurd (ready refl)
step-falls (StoreXoff queue hung direct) answer q s may ready opens after =
    if-cases (λ d. Falls 0 q s (StoreXoff queue hung direct) (goes_to (record q { xoff = set q.xoff queue (if hung then 2 else 1) }) s d))
    (hung && nat_lt (queue + 1) (length q.xoff)) _ _ (λ e. absurd (stored q queue hung e (after queue)))
    (λ e h. omega (arith, sent-way q direct _ (sends q s direct) h))
step-falls position answer q s may ready opens after = simple-falls (step-leads true (λ p. Unit {0}) position answer q s may) refl

-- WHAT EACH MOVE COSTS

pub step-costs : (position : Position) (answer : Answer) (q : Qdisc) (s : Seat) → may_answer position answer q ≡ true
    → ((queue : ℕ) → is_queue_open q queue ≡ true) → ((queue : ℕ) → is_queue_open (step_at position answer q s).qdisc queue ≡ true)
    → Falls (step_cost answer) q s position (step_at position answer q s)
step-costs (Xmit p direct) Busy q s may opens after = λ h. omega (arith, bit-below (is_some q.slot))
step-costs _ Busy q s may opens after = cc
step-costs position Plain q s may opens after = step-falls position Plain q s may (λ e. absurd cc) opens after
step-costs position FullSlot q s may opens after = step-falls position FullSlot q s may (λ e. absurd cc) opens after
step-costs position Stop q s may opens after = step-falls position Stop q s may (λ e. absurd cc) opens after
step-costs position Hang q s may opens after = step-falls position Hang q s may (λ e. absurd cc) opens after

pub start-costs : (b : Beginning) (q : Qdisc) (s : Seat) → s.position ≡ Idle → may_begin b s ≡ true → Falls (start_cost b) q s s.position (record { qdisc = q; seat = begun b s })
start-costs (Transmits p) q s idle may h = omega arith
start-costs Interrupts q s idle may h = let parts = and-true (is_idle s.position) s.raised may in omega (arith, ap (λ (b : Bool). bit b) parts.1)
start-costs (Wakes queue) q s idle may h = omega arith
start-costs Controls q s idle may h = omega arith

-- bands cut to a length have no more packets
cut-count : (bands : List (List Packet)) (len : ℕ)
    → sum_by (λ (b : List Packet). length b) (map (λ (b : List Packet). take len b) bands) ≤ sum_by (λ (b : List Packet). length b) bands
cut-count [] len = omega arith
cut-count (b ∷ bands) len =
    omega (
      arith,
      sum_by-cons (λ (b : List Packet). length b) b bands,
      sum_by-cons (λ (b : List Packet). length b) (take len b) (map (λ (b : List Packet). take len b) bands),
      cut-count bands len,
      length-take len b,
    )

pub control-costs : {sole : Bool} {free : Packet → Type 0} {q : Qdisc} {s : Seat} {position : Position} {a : After}
    → Local sole free q s position a → is_control position ≡ true → Falls control_cost q s position a
control-costs {q = q} (local.purge_takes u p rest _ _ is) e h = omega (arith, taken-count q.bands u.band p rest is)
control-costs {q = q} (local.resizes len _) e h = omega (arith, cut-count q.bands len)
control-costs {q = q} {s = s} (local.opens queue _) e h = omega (arith, bit-below (s.raised || not q.sched))
control-costs _ e h = grind arith
