-- A step of one seat on the words, as moves of the machine for which they stand.
use Rattle.std.proofs.Common.{◌≡◌, ℕ, zero, suc, ◌+◌, ◌<◌, ◌≤◌, Bool, true, false, List, [], ◌∷◌, ◌++◌, length, set, get_or, refl, sym, ap, ap₂, ◌∙◌, subst, arith, Some, None}
use Rattle.std.specs.Prelude.{if◌then◌else◌, ◌||◌, ◌&&◌}
use Rattle.std.proofs.lemmas.Bool.{lt-ltb}
use mathlib.Core.Option.{some}
use lib.ListN.{get_elem?}
use Rattle.lq_model.specs.declared.machine.Answer.{Answer}
use Rattle.lq_model.specs.declared.machine.Beginning.{Beginning}
use Rattle.lq_model.specs.declared.machine.ControlStep.{ControlStep}
use Rattle.lq_model.specs.declared.machine.Packet.{Packet}
use Rattle.lq_model.specs.declared.machine.Seat.{Seat}
use Rattle.lq_model.specs.Control.{control_at, holds_as_control, is_control, is_sole, may_control}
use Rattle.lq_model.specs.Machine.{Qdisc, Machine, idle_seat}
use Rattle.lq_model.specs.Quiet.{IsFree, Moves}
use Rattle.lq_model.specs.Quiet.Moves.{steps, begins, controls}
use Rattle.lq_model.specs.Steps.{After, begun, may_answer, may_begin, step_at, with_seat}
use Rattle.lq_run_laws.proofs.Among.{among-at, among-within}
use Rattle.std.specs.List.{list_any}
use Rattle.lq_model.specs.Kept.{OneHolder}
use Rattle.lq_model.specs.Positions.{holds_lock}
use Rattle.lq_run_laws.proofs.Frames.{any-split}
use Rattle.lq_run_core.specs.Measure.{ServesOpen, is_held, measure}
use Rattle.lq_run_core.specs.Waits.{carries}
use Rattle.lq_run_core.proofs.Nearer.{nearer}
use Rattle.lq_run_core.specs.Progress.{Course, Goes, IsAny, accepted_at, accepted_by, and_then, cost_of, control_cost, is_of_control, no_course, start_cost, step_cost}
use Rattle.lq_run_core.specs.Progress.Goes.{no_move, one_more_move}
use Rattle.lq_table.specs.Rule.{is_live, seats_of, machine_of}
use Rattle.lq_table.specs.Views.{View}
use Rattle.lq_table.proofs.Middle.{middle}
use Rattle.lq_table_laws.specs.Stepped.{Leads, counting, none_sent, of_control}
use Rattle.lq_table_laws.proofs.Determined.{SameWords}

-- MOVES OF A SEAT IN A LIST

-- one move that costs so much, and by which the device accepts these
abbrev pub one_move : ℕ → List Packet → Course
one_move cost accepted = record { moves = 1; cost = cost; accepted = accepted; with_control = false }

-- a move that comes to this
pub record Costs (m n : Machine) (c : Course) : Type 0 where
  pub move : Moves m n
  pub one : c.moves ≡ 1
  pub cost_is : cost_of move ≡ c.cost
  pub accepted_are : accepted_by move ≡ c.accepted
  pub control_is : is_of_control move ≡ c.with_control

-- one course after another
abbrev pub plus : Course → Course → Course
plus c d = record { moves = c.moves + d.moves; cost = c.cost + d.cost; accepted = c.accepted ++ d.accepted; with_control = c.with_control || d.with_control }

alone : (m n : Machine) (c : Course) (x : Costs m n c) → ◌≡◌ {A = Course} (and_then no_course x.move) c
alone m n c x = let cost : 0 + cost_of x.move ≡ c.cost = (let z = x.cost_is in omega arith) in
    λ j. record { moves = sym x.one j; cost = cost j; accepted = x.accepted_are j; with_control = x.control_is j }

behind_it : (m n : Machine) (c d : Course) (x : Costs m n d) → ◌≡◌ {A = Course} (and_then c x.move) (plus c d)
behind_it m n c d x = λ j. record { moves = c.moves + sym x.one j; cost = c.cost + x.cost_is j; accepted = c.accepted ++ x.accepted_are j; with_control = c.with_control || x.control_is j }

-- what the seat's move leaves
abbrev pub moved_to : List Seat → ℕ → After → Machine
moved_to seats i a = record { qdisc = a.qdisc; seats = set seats i a.seat }

module _ (q : Qdisc) (seats : List Seat) (i : ℕ) (t : Seat) (inside : i < length seats) (is : get_or seats i idle_seat ≡ t) where
  abbrev M : Machine
  M = record { qdisc = q; seats = seats }

  pub by_step : (answer : Answer) {accepted : List Packet} → accepted_at t.position answer ≡ accepted → may_answer t.position answer q ≡ true → Costs M (moved_to seats i (step_at t.position answer q t)) (one_move (step_cost answer) accepted)
  by_step answer accepts may = record {
    move = steps i answer
        (ap₂ (λ (b : Bool) (u : Seat). if b && may_answer u.position answer q then Some (with_seat M i (step_at u.position answer q u)) else None) (lt-ltb i (length seats) inside) is
        ∙ ap (λ (b : Bool). if b then Some (with_seat M i (step_at t.position answer q t)) else None) may);
    one = refl;
    cost_is = refl;
    accepted_are = ap (λ (u : Seat). accepted_at u.position answer) is ∙ accepts;
    control_is = refl;
  }

  pub by_start : (b : Beginning) → may_begin b t ≡ true → IsFree b i M → Costs M (moved_to seats i (record { qdisc = q; seat = begun b t })) (one_move (start_cost b) [])
  by_start b may free = record {
    move = begins i b free
        (ap₂ (λ (c : Bool) (u : Seat). if c && may_begin b u then Some (with_seat M i (record { qdisc = q; seat = begun b u })) else None) (lt-ltb i (length seats) inside) is
        ∙ ap (λ (c : Bool). if c then Some (with_seat M i (record { qdisc = q; seat = begun b t })) else None) may);
    one = refl;
    cost_is = refl;
    accepted_are = refl;
    control_is = refl;
  }

  pub by_control : (step : ControlStep) (holds : Bool) → is_control t.position ≡ true → holds_as_control t.position ≡ holds → may_control step (is_sole M) holds q ≡ true
      → Costs M (moved_to seats i (control_at step holds q t)) (of_control 1 control_cost)
  by_control step holds control as_control may = record {
    move = controls i step
        (ap₂ (λ (c : Bool) (u : Seat). if c && is_control u.position && may_control step (is_sole M) (holds_as_control u.position) q then Some (with_seat M i (control_at step (holds_as_control u.position) q u)) else None) (lt-ltb i (length seats) inside) is
        ∙ (ap₂ (λ (c d : Bool). if c && may_control step (is_sole M) d q then Some (with_seat M i (control_at step d q t)) else None) control as_control
        ∙ ap (λ (c : Bool). if c then Some (with_seat M i (control_at step holds q t)) else None) may));
    one = refl;
    cost_is = refl;
    accepted_are = refl;
    control_is = refl;
  }

pub set-twice : (seats : List Seat) (i : ℕ) (t u : Seat) → set (set seats i t) i u ≡ set seats i u
set-twice [] i t u = refl
set-twice (x ∷ xs) zero t u = refl
set-twice (x ∷ xs) (suc i) t u = ap (λ (seats : List Seat). x ∷ seats) (set-twice xs i t u)

-- WHAT THEY MAKE OF THE NUMBER

-- a seat that hasn't the run lock is another that hasn't it: what is served and which queues are open stays
pub still_serves : (q : Qdisc) (seats : List Seat) (i : ℕ) (s t : Seat) → i < length seats → get_or seats i idle_seat ≡ s → holds_lock s.position ≡ false → holds_lock t.position ≡ false
    → ServesOpen (record { qdisc = q; seats = seats }) → ServesOpen (record { qdisc = q; seats = set seats i t })
still_serves q seats i s t inside is free free' serves_now =
    let f : Seat → Bool = λ u. holds_lock u.position && carries u.position in let split = any-split f seats i inside in
    let none : (u : Seat) → holds_lock u.position ≡ false → f u ≡ false = λ u e. ap (λ (b : Bool). b && carries u.position) e in
    let same : list_any f (set seats i t) ≡ list_any f seats = split.after t ∙ (ap (λ (b : Bool). b || split.rest) (none t free' ∙ sym (ap f is ∙ none s free)) ∙ sym split.before) in record {
      serves = ap (λ (b : Bool). is_held q.slot q.bands || b) same ∙ serves_now.serves;
      queues_open = serves_now.queues_open;
    }

-- the number falls by a move, but for its cost, and one seat has the lock as before
pub falls : (m n : Machine) (c : Course) → Costs m n c → OneHolder m → ServesOpen m → ServesOpen n → OneHolder n × (c.moves + measure n ≤ measure m + c.cost)
falls m n c x one before after = let z = nearer m n one before x.move after in (z.0, let near = z.1 in let e = x.cost_is in let moves = x.one in omega arith)

-- THE MACHINE AFTER A STEP

-- all that a machine has but its counts
pub record Alike (p q : Qdisc) : Type 0 where
  pub words : SameWords p q
  pub bands : p.bands ≡ q.bands
  pub len : p.len ≡ q.len
  pub slot : p.slot ≡ q.slot
  pub phase : p.phase ≡ q.phase
  pub purge : p.purge ≡ q.purge

counted : (p q : Qdisc) → Alike p q → ◌≡◌ {A = Qdisc} (record p { sent = q.sent; full = q.full }) q
counted p q e = λ j. record {
  sched = e.words.sched j;
  deactivated = e.words.deactivated j;
  missed = e.words.missed j;
  draining = e.words.draining j;
  locked = e.words.locked j;
  xoff = e.words.xoff j;
  inside = e.words.inside j;
  bands = e.bands j;
  len = e.len j;
  slot = e.slot j;
  bypass = e.words.bypass j;
  sent = q.sent;
  full = q.full;
  phase = e.phase j;
  purge = e.purge j;
}

among-set : (before behind : List Seat) (s t : Seat) → set (before ++ s ∷ behind) (length before) t ≡ before ++ t ∷ behind
among-set [] behind s t = refl
among-set (x ∷ before) behind s t = ap (λ (seats : List Seat). x ∷ seats) (among-set before behind s t)

module _ (views : List View) (id : ℕ) (v w : View) (here : get_elem? views id ≡ some v) (live : is_live v ≡ true) (live' : is_live w ≡ true) where
  -- the place of the seat in the machine
  abbrev pub place : ℕ
  place = length (middle views id v here live).before

  pub there : get_or (seats_of views) place idle_seat ≡ v.place
  there = let m = middle views id v here live in ap (λ (seats : List Seat). get_or seats place idle_seat) m.was ∙ among-at m.before m.after v.place

  pub inside : place < length (seats_of views)
  inside = let m = middle views id v here live in subst (λ (seats : List Seat). place < length seats) (sym m.was) (among-within m.before m.after v.place)

  pub seats_set : seats_of (set views id w) ≡ set (seats_of views) place w.place
  seats_set = let m = middle views id v here live in m.is w live' ∙ sym (ap (λ (seats : List Seat). set seats place w.place) m.was ∙ among-set m.before m.after v.place w.place)

  -- the machine of the views after the step
  after_is : (p q : Qdisc) → Alike p q → (t : Seat) → w.place ≡ t → counting q.sent q.full (machine_of p (set views id w)) ≡ moved_to (seats_of views) place (record { qdisc = q; seat = t })
  after_is p q e t is = λ j. record { qdisc = counted p q e j; seats = (seats_set ∙ ap (set (seats_of views) place) is) j }

  -- it serves as that does
  after_serves : (p q : Qdisc) → Alike p q → (t : Seat) → w.place ≡ t → ServesOpen (machine_of p (set views id w)) → ServesOpen (moved_to (seats_of views) place (record { qdisc = q; seat = t }))
  after_serves p q e t is open_ = subst ServesOpen (after_is p q e t is) (record { serves = open_.serves; queues_open = open_.queues_open })

  after_number : (p q : Qdisc) (e : Alike p q) (t : Seat) (is : w.place ≡ t) → measure (machine_of p (set views id w)) ≡ measure (moved_to (seats_of views) place (record { qdisc = q; seat = t }))
  after_number p q e t is = ap measure (after_is p q e t is)

  -- one move
  pub leads_by : (q p : Qdisc) (a : After) (c : Course) → Costs (machine_of q views) (moved_to (seats_of views) place a) c → w.place ≡ a.seat → Alike p a.qdisc → OneHolder (machine_of q views) → Leads c (machine_of q views) (machine_of p (set views id w))
  leads_by q p a c x is e one = record {
    sent = a.qdisc.sent;
    full = a.qdisc.full;
    goes = subst (λ (d : Course). Goes IsAny (machine_of q views) d (counting a.qdisc.sent a.qdisc.full (machine_of p (set views id w)))) (alone _ _ c x)
        (subst (Goes IsAny (machine_of q views) (and_then no_course x.move)) (sym (after_is p a.qdisc e a.seat is)) (one_more_move no_course (machine_of q views) (moved_to (seats_of views) place a) (no_move tt) x.move tt));
    nearer = λ before after. let z = (falls _ _ c x one before (after_serves p a.qdisc e a.seat is after)).1 in let number = after_number p a.qdisc e a.seat is in omega arith;
  }

  -- two
  pub leads_twice : (q p : Qdisc) (a b : After) (c d : Course) → Costs (machine_of q views) (moved_to (seats_of views) place a) c → Costs (moved_to (seats_of views) place a) (moved_to (set (seats_of views) place a.seat) place b) d
      → w.place ≡ b.seat → Alike p b.qdisc → OneHolder (machine_of q views) → (ServesOpen (machine_of q views) → ServesOpen (moved_to (seats_of views) place a))
      → Leads (plus c d) (machine_of q views) (machine_of p (set views id w))
  leads_twice q p a b c d x y is e one between = record {
    sent = b.qdisc.sent;
    full = b.qdisc.full;
    goes = subst (λ (f : Course). Goes IsAny (machine_of q views) f (counting b.qdisc.sent b.qdisc.full (machine_of p (set views id w)))) (ap (λ (f : Course). and_then f y.move) (alone _ _ c x) ∙ behind_it _ _ c d y)
        (subst (Goes IsAny (machine_of q views) (and_then (and_then no_course x.move) y.move))
        (sym (after_is p b.qdisc e b.seat is ∙ (λ j. record { qdisc = b.qdisc; seats = sym (set-twice (seats_of views) place a.seat b.seat) j })))
        (one_more_move (and_then no_course x.move) (moved_to (seats_of views) place a) (moved_to (set (seats_of views) place a.seat) place b)
        (one_more_move no_course (machine_of q views) (moved_to (seats_of views) place a) (no_move tt) x.move tt) y.move tt));
    nearer = λ before after. let middle_ = between before in let first = falls _ _ c x one before middle_ in
        let last = subst ServesOpen (λ j. record { qdisc = b.qdisc; seats = sym (set-twice (seats_of views) place a.seat b.seat) j }) (after_serves p b.qdisc e b.seat is after) in
        let second = falls _ _ d y first.0 middle_ last in
        let number : measure (machine_of p (set views id w)) ≡ measure (moved_to (set (seats_of views) place a.seat) place b) = after_number p b.qdisc e b.seat is ∙ ap measure (λ j. record { qdisc = b.qdisc; seats = sym (set-twice (seats_of views) place a.seat b.seat) j }) in
        let i1 = first.1 in let i2 = second.1 in omega arith;
  }

  -- three
  pub leads_thrice : (q p : Qdisc) (a b d : After) (c c' c'' : Course) → Costs (machine_of q views) (moved_to (seats_of views) place a) c → Costs (moved_to (seats_of views) place a) (moved_to (set (seats_of views) place a.seat) place b) c'
      → Costs (moved_to (set (seats_of views) place a.seat) place b) (moved_to (set (set (seats_of views) place a.seat) place b.seat) place d) c''
      → w.place ≡ d.seat → Alike p d.qdisc → OneHolder (machine_of q views) → (ServesOpen (machine_of q views) → ServesOpen (moved_to (seats_of views) place a))
      → (ServesOpen (moved_to (seats_of views) place a) → ServesOpen (moved_to (set (seats_of views) place a.seat) place b)) → Leads (plus (plus c c') c'') (machine_of q views) (machine_of p (set views id w))
  leads_thrice q p a b d c c' c'' x y z is e one between between' = record {
    sent = d.qdisc.sent;
    full = d.qdisc.full;
    goes = subst (λ (f : Course). Goes IsAny (machine_of q views) f (counting d.qdisc.sent d.qdisc.full (machine_of p (set views id w))))
        (ap (λ (f : Course). and_then f z.move) (ap (λ (f : Course). and_then f y.move) (alone _ _ c x) ∙ behind_it _ _ c c' y) ∙ behind_it _ _ (plus c c') c'' z)
        (subst (Goes IsAny (machine_of q views) (and_then (and_then (and_then no_course x.move) y.move) z.move))
        (sym (after_is p d.qdisc e d.seat is ∙ (λ j. record { qdisc = d.qdisc; seats = sym (ap (λ (seats : List Seat). set seats place d.seat) (set-twice (seats_of views) place a.seat b.seat) ∙ set-twice (seats_of views) place b.seat d.seat) j })))
        (one_more_move (and_then (and_then no_course x.move) y.move) (moved_to (set (seats_of views) place a.seat) place b) (moved_to (set (set (seats_of views) place a.seat) place b.seat) place d)
        (one_more_move (and_then no_course x.move) (moved_to (seats_of views) place a) (moved_to (set (seats_of views) place a.seat) place b)
        (one_more_move no_course (machine_of q views) (moved_to (seats_of views) place a) (no_move tt) x.move tt) y.move tt) z.move tt));
    nearer = λ before after. let one_on = between before in let two_on = between' one_on in let first = falls _ _ c x one before one_on in let second = falls _ _ c' y first.0 one_on two_on in
        let last_is : ◌≡◌ {A = List Seat} (set (seats_of views) place d.seat) (set (set (set (seats_of views) place a.seat) place b.seat) place d.seat) =
        sym (ap (λ (seats : List Seat). set seats place d.seat) (set-twice (seats_of views) place a.seat b.seat) ∙ set-twice (seats_of views) place b.seat d.seat) in
        let third = falls _ _ c'' z second.0 two_on (subst ServesOpen (λ j. record { qdisc = d.qdisc; seats = last_is j }) (after_serves p d.qdisc e d.seat is after)) in
        let number : measure (machine_of p (set views id w)) ≡ measure (moved_to (set (set (seats_of views) place a.seat) place b.seat) place d) = after_number p d.qdisc e d.seat is ∙ ap measure (λ j. record { qdisc = d.qdisc; seats = last_is j }) in
        let i1 = first.1 in let i2 = second.1 in let i3 = third.1 in omega arith;
  }

  -- none
  pub leads_nowhere : (q p : Qdisc) → w.place ≡ v.place → Alike p q → Leads (none_sent 0 0) (machine_of q views) (machine_of p (set views id w))
  leads_nowhere q p is e = record {
    sent = q.sent;
    full = q.full;
    goes = subst (Goes IsAny (machine_of q views) no_course) (sym (after_is p q e v.place is ∙ (λ j. record { qdisc = q; seats = set_back j }))) (no_move tt);
    nearer = λ before after. let number = after_number p q e v.place is ∙ ap measure (λ j. record { qdisc = q; seats = set_back j }) in omega arith;
  }
    where
      set_back : set (seats_of views) place v.place ≡ seats_of views
      set_back = let m = middle views id v here live in ap (λ (seats : List Seat). set seats place v.place) m.was ∙ (among-set m.before m.after v.place v.place ∙ sym m.was)
