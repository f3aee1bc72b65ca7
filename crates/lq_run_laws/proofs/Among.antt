-- One seat between two lists of others: its moves, what a step of it leaves alone, and where its packets come from.
use Rattle.std.proofs.Common.{◌≡◌, ℕ, ◌+◌, ◌<◌, Bool, true, false, ◌⊎◌, inl, inr, List, [], ◌∷◌, ◌++◌, length, get_or, set, sum_by, Contains, refl, sym, ap, ap₂, ◌∙◌, subst, ⊎_elim, arith, Option, Some, None}
use Rattle.std.specs.Prelude.{if◌then◌else◌, ◌&&◌, nat_lt}
use Rattle.std.proofs.lemmas.Bool.{lt-ltb}
use Rattle.std.proofs.lemmas.List.Elements.{Contains-push_cases}
use Rattle.std.proofs.lemmas.List.Sums.{sum_by-cons, sum_by-append}
use Rattle.lq_model.specs.declared.machine.Answer.{Answer}
use Rattle.lq_model.specs.declared.machine.Answer.TheVariants.{Plain, FullSlot, Stop, Hang, Busy}
use Rattle.lq_model.specs.declared.machine.Beginning.{Beginning}
use Rattle.lq_model.specs.declared.machine.Blocked.TheVariants.{InHand, NoneTaken}
use Rattle.lq_model.specs.declared.machine.ControlStep.{ControlStep}
use Rattle.lq_model.specs.declared.machine.Packet.{Packet}
use Rattle.lq_model.specs.declared.machine.Position.{Position}
use Rattle.lq_model.specs.declared.machine.Position.TheVariants.{Idle, Deq, BlockedClear, Control}
use Rattle.lq_model.specs.declared.machine.Seat.{Seat}
use Rattle.lq_model.specs.Control.{control_at, holds_as_control, is_control, is_sole, may_control}
use Rattle.lq_model.specs.Positions.{holds_lock, in_hand, own_packet}
use Rattle.lq_model.specs.Kept.{OneHolder}
use Rattle.lq_model.specs.Quiet.{IsFree, Moves}
use Rattle.lq_model.specs.Quiet.Moves.{steps, begins, controls}
use Rattle.lq_model.specs.Machine.{Qdisc, Machine, band_at, bit, idle_seat, is_queue_open}
use Rattle.lq_model.specs.Steps.{After, begun, goes_to, is_idle, may_answer, may_begin, queue_of_slot, slot_taken, step_at, with_seat}
use Rattle.lq_run_laws.specs.Among.{among, left_among}
use Rattle.lq_run_laws.proofs.Bands.{set-holds, taken-holds, cut-holds}
use Rattle.lq_run_laws.proofs.Counts.{holder-local}
use Rattle.lq_run_laws.proofs.Local as local
use Rattle.lq_run_laws.proofs.Local.{Local}
use Rattle.lq_run_laws.proofs.LocalSteps.{step-leads}
use Rattle.lq_run_laws.proofs.OwnersDiffer.{had}

-- THE SEAT BETWEEN THE OTHERS

pub among-within : (before behind : List Seat) (s : Seat) → length before < length (before ++ s ∷ behind)
among-within [] behind s = omega arith
among-within (x ∷ before) behind s = let less = among-within before behind s in omega arith

pub among-at : (before behind : List Seat) (s : Seat) → get_or (before ++ s ∷ behind) (length before) idle_seat ≡ s
among-at [] behind s = refl
among-at (x ∷ before) behind s = among-at before behind s

among-set : (before behind : List Seat) (s t : Seat) → set (before ++ s ∷ behind) (length before) t ≡ before ++ t ∷ behind
among-set [] behind s t = refl
among-set (x ∷ before) behind s t = ap (λ (seats : List Seat). x ∷ seats) (among-set before behind s t)

module _ (before behind : List Seat) (q : Qdisc) (s : Seat) where
  abbrev old : Machine
  old = among before behind q s

  leaves : (a : After) → with_seat old (length before) a ≡ left_among before behind a
  leaves a = λ j. record { qdisc = a.qdisc; seats = among-set before behind s a.seat j }

  within : nat_lt (length before) (length (before ++ s ∷ behind)) ≡ true
  within = lt-ltb _ _ (among-within before behind s)

  pub steps-among : (answer : Answer) → may_answer s.position answer q ≡ true → Moves old (left_among before behind (step_at s.position answer q s))
  steps-among answer may =
      steps (length before) answer
      (ap₂ (λ (b : Bool) (t : Seat). if b && may_answer t.position answer q then Some (with_seat old (length before) (step_at t.position answer q t)) else None) within (among-at before behind s)
      ∙ (ap (λ (b : Bool). if b then Some (with_seat old (length before) (step_at s.position answer q s)) else None) may ∙ ap Some (leaves (step_at s.position answer q s))))

  pub begins-among : (b : Beginning) → may_begin b s ≡ true → IsFree b (length before) old → Moves old (among before behind q (begun b s))
  begins-among b may free =
      begins (length before) b free
      (ap₂ (λ (c : Bool) (t : Seat). if c && may_begin b t then Some (with_seat old (length before) (record { qdisc = q; seat = begun b t })) else None) within (among-at before behind s)
      ∙ (ap (λ (c : Bool). if c then Some (with_seat old (length before) (record { qdisc = q; seat = begun b s })) else None) may ∙ ap Some (leaves (record { qdisc = q; seat = begun b s }))))

  pub controls-among : (step : ControlStep) → is_control s.position ≡ true → may_control step (is_sole old) (holds_as_control s.position) q ≡ true
      → Moves old (left_among before behind (control_at step (holds_as_control s.position) q s))
  controls-among step control may =
      controls (length before) step
      (ap₂ (λ (b : Bool) (t : Seat). if b && is_control t.position && may_control step (is_sole old) (holds_as_control t.position) q then Some (with_seat old (length before) (control_at step (holds_as_control t.position) q t)) else None) within (among-at before behind s)
      ∙ (ap₂ (λ (b c : Bool). if b && c then Some (with_seat old (length before) (control_at step (holds_as_control s.position) q s)) else None) control may
      ∙ ap Some (leaves (control_at step (holds_as_control s.position) q s))))

-- WHAT A STEP LEAVES ALONE

phase-local : {sole : Bool} {free : Packet → Type 0} {q : Qdisc} {s : Seat} {before : Position} {a : After} → Local sole free q s before a → is_control before ≡ false → a.qdisc.phase ≡ q.phase
phase-local local.enter_interrupt c = refl
phase-local _ c = cc

purge-local : {sole : Bool} {free : Packet → Type 0} {q : Qdisc} {s : Seat} {before : Position} {a : After} → Local sole free q s before a → is_control before ≡ false → a.qdisc.purge ≡ q.purge
purge-local local.enter_interrupt c = refl
purge-local _ c = cc

control-local : {sole : Bool} {free : Packet → Type 0} {q : Qdisc} {s : Seat} {before : Position} {a : After} → Local sole free q s before a → is_control before ≡ false → is_idle before ≡ false → is_control a.seat.position ≡ false
control-local local.enter_interrupt c i = refl
control-local _ c i = cc

-- an idle seat and one in a call of control do no step
moves-itself : (position : Position) (answer : Answer) (q : Qdisc) → may_answer position answer q ≡ true → (is_control position ≡ false) × (is_idle position ≡ false)
moves-itself Idle Plain q e = absurd cc
moves-itself Idle FullSlot q e = absurd cc
moves-itself Idle Stop q e = absurd cc
moves-itself Idle Hang q e = absurd cc
moves-itself Idle Busy q e = absurd cc
moves-itself (Control holds) Plain q e = absurd cc
moves-itself (Control holds) FullSlot q e = absurd cc
moves-itself (Control holds) Stop q e = absurd cc
moves-itself (Control holds) Hang q e = absurd cc
moves-itself (Control holds) Busy q e = absurd cc
moves-itself _ answer q e = (refl, refl)

bit-same : (b c : Bool) → bit b ≡ bit c → b ≡ c
bit-same true true e = refl
bit-same true false e = absurd (omega arith)
bit-same false true e = absurd (omega arith)
bit-same false false e = refl

module _ (q : Qdisc) (s : Seat) (answer : Answer) (may : may_answer s.position answer q ≡ true) where
  leads : Local true (λ _. ⊥) q s s.position (step_at s.position answer q s)
  leads = step-leads true (λ _. ⊥) s.position answer q s may

  pub own-packet-stays : (p : Packet) → own_packet (step_at s.position answer q s).seat.position ≡ Some p → own_packet s.position ≡ Some p
  own-packet-stays p is = ⊎_elim (λ e. e) (λ e. absurd e) (had leads p is)

  pub control-stays-away : is_control (step_at s.position answer q s).seat.position ≡ false
  control-stays-away = let far = moves-itself s.position answer q may in control-local leads far.0 far.1

  pub phase-stays : (step_at s.position answer q s).qdisc.phase ≡ q.phase
  phase-stays = phase-local leads (moves-itself s.position answer q may).0

  pub purge-stays : (step_at s.position answer q s).qdisc.purge ≡ q.purge
  purge-stays = purge-local leads (moves-itself s.position answer q may).0

  pub lock-stays : (before behind : List Seat) → OneHolder (among before behind q s) → (step_at s.position answer q s).qdisc.locked ≡ q.locked
      → holds_lock (step_at s.position answer q s).seat.position ≡ holds_lock s.position
  lock-stays before behind one same =
      let f : Seat → ℕ = λ t. bit (holds_lock t.position) in
      let was : bit (holds_lock s.position) + (sum_by f before + sum_by f behind) ≡ bit q.locked = omega (arith, sum_by-append f before (s ∷ behind), sum_by-cons f s behind, one) in
      let now = holder-local (sum_by f before + sum_by f behind) leads was in
      let lock = ap bit same in bit-same _ _ (omega arith)

-- WHERE PACKETS COME FROM

abbrev InBands : Qdisc → Packet → Type 0
InBands q p = (band : ℕ) × Contains (band_at q band) p

is-deq : Position → Bool
is-deq Deq = true
is-deq _ = false

at-deq : (position : Position) → is-deq position ≡ true → position ≡ Deq
unfolding is-deq
at-deq Deq e = refl
at-deq _ e = absurd cc

first-of : (xs rest : List Packet) (p : Packet) → xs ≡ p ∷ rest → Contains xs p
first-of xs rest p e = subst (λ (ys : List Packet). Contains ys p) (sym e) (0, omega arith, refl)

hand-local : {q : Qdisc} {s : Seat} {before : Position} {a : After} → Local true (λ _. ⊥) q s before a → is-deq before ≡ false → (p : Packet) → in_hand a.seat.position ≡ Some p
    → (in_hand before ≡ Some p) ⊎ ((own_packet before ≡ Some p) ⊎ InBands q p)
unfolding is-deq
hand-local (local.transmits r f) i p e = absurd f
hand-local (local.recheck_clear r h1 h2) i p e = inr (inl e)
hand-local (local.gate_open r direct h) i p e = inl e
hand-local (local.gate_closed r direct) i p e = inl e
hand-local (local.blocked_clear (InHand r direct)) i p e = inl e
hand-local (local.blocked_clear (NoneTaken queue)) i p e = absurd cc
hand-local (local.blocked_open (InHand r direct)) i p e = inl e
hand-local (local.blocked_open (NoneTaken queue)) i p e = absurd cc
hand-local (local.blocked_closed (InHand r direct) closed) i p e = inl e
hand-local (local.blocked_closed (NoneTaken queue) closed) i p e = absurd cc
hand-local {q = q} (local.scan_takes band second r rest is) i p e = inr (inr (band, subst (λ (x : Packet). Contains (band_at q band) x) (let same : r ≡ p = cc in same) (first-of (band_at q band) rest r is)))
hand-local _ i p e = absurd cc

slot-local : {q : Qdisc} {s : Seat} {before : Position} {a : After} → Local true (λ _. ⊥) q s before a → is_control before ≡ false → (p : Packet) → a.qdisc.slot ≡ Some p → (q.slot ≡ Some p) ⊎ (in_hand before ≡ Some p)
slot-local (local.xmit_busy r direct) c p e = inr e
slot-local (local.miss_back r direct) c p e = inr e
slot-local (local.drain_back r direct) c p e = inr e
slot-local _ c p e = inl cc

joins-from : (q : Qdisc) (r : Packet) (band : ℕ) (p : Packet) → Contains (get_or (set q.bands r.band (band_at q r.band ++ r ∷ [])) band []) p → InBands q p ⊎ (Some r ≡ Some p)
joins-from q r band p held = ⊎_elim (λ old. inl (band, old))
    (λ (t : (band ≡ r.band) × Contains (band_at q r.band ++ r ∷ []) p). ⊎_elim (λ old. inl (r.band, old)) (λ (same : r ≡ p). inr (ap Some same)) (Contains-push_cases (band_at q r.band) r p t.1))
    (set-holds q.bands r.band band (band_at q r.band ++ r ∷ []) p held)

bands-local : {q : Qdisc} {s : Seat} {before : Position} {a : After} → Local true (λ _. ⊥) q s before a → (band : ℕ) (p : Packet) → Contains (get_or a.qdisc.bands band []) p → InBands q p ⊎ (own_packet before ≡ Some p)
bands-local {q = q} (local.put_join r) band p held = joins-from q r band p held
bands-local {q = q} (local.put_join_word r run h) band p held = joins-from q r band p held
bands-local {q = q} (local.put_join_bands r run h) band p held = joins-from q r band p held
bands-local {q = q} (local.scan_takes b second r rest is) band p held = inl (band, taken-holds q.bands b band r rest p is held)
bands-local {q = q} (local.purge_takes u r rest e f is) band p held = inl (band, taken-holds q.bands u.band band r rest p is held)
bands-local {q = q} (local.resizes len e) band p held = inl (band, cut-holds q.bands len band p held)
bands-local _ band p held = inl (band, held)

-- a dequeue that takes from the requeue slot
deq-from : (b : Bool) (o : Option Packet) (q : Qdisc) (s : Seat) (shut : Position) → in_hand shut ≡ None → (p : Packet) → in_hand (if b then slot_taken o q s else goes_to q s shut).seat.position ≡ Some p → o ≡ Some p
deq-from true (Some r) q s shut none p e = e
deq-from true None q s shut none p e = absurd cc
deq-from false o q s shut none p e = absurd (let c = sym none ∙ e in cc)

module _ (q : Qdisc) (s : Seat) (answer : Answer) (may : may_answer s.position answer q ≡ true) where
  pub hand-from : (p : Packet) → in_hand (step_at s.position answer q s).seat.position ≡ Some p
      → (in_hand s.position ≡ Some p) ⊎ ((own_packet s.position ≡ Some p) ⊎ ((q.slot ≡ Some p) ⊎ InBands q p))
  hand-from p e = go (is-deq s.position) refl
    where
      go : (b : Bool) → is-deq s.position ≡ b → (in_hand s.position ≡ Some p) ⊎ ((own_packet s.position ≡ Some p) ⊎ ((q.slot ≡ Some p) ⊎ InBands q p))
      go true i = inr (inr (inl (deq-from (is_queue_open q (queue_of_slot q.slot)) q.slot q s (BlockedClear (NoneTaken (queue_of_slot q.slot))) refl p (sym (ap (λ (x : Position). in_hand (step_at x answer q s).seat.position) (at-deq s.position i)) ∙ e))))
      go false i = elim (hand-local (step-leads true (λ _. ⊥) s.position answer q s may) i p e) [ inl old ↦ inl old | inr (inl own) ↦ inr (inl own) | inr (inr bands) ↦ inr (inr (inr bands)) ]

  pub slot-from : (p : Packet) → (step_at s.position answer q s).qdisc.slot ≡ Some p → (q.slot ≡ Some p) ⊎ (in_hand s.position ≡ Some p)
  slot-from p e = slot-local (step-leads true (λ _. ⊥) s.position answer q s may) (moves-itself s.position answer q may).0 p e

  pub bands-from : (band : ℕ) (p : Packet) → Contains (band_at (step_at s.position answer q s).qdisc band) p → InBands q p ⊎ (own_packet s.position ≡ Some p)
  bands-from band p held = bands-local (step-leads true (λ _. ⊥) s.position answer q s may) band p held
