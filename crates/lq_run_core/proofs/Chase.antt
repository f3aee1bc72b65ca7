-- Two soft interrupts that come back to where they were.
use Rattle.std.proofs.Common.{◌≡◌, ℕ, suc, ◌+◌, Bool, true, false, refl, List, [], ◌∷◌, ◌++◌, length, Option, Some, None, subst, arith}
use Rattle.std.specs.Prelude.{replicate, ◌||◌}
use Rattle.lq_model.specs.declared.machine.Answer.TheVariants.{Plain, Stop}
use Rattle.lq_model.specs.declared.machine.Beginning.TheVariants.{Transmits, Interrupts}
use Rattle.lq_model.specs.Machine.{Machine, first_machine}
use Rattle.lq_model.specs.Steps.{step_of, call_begun}
use Rattle.lq_model.specs.Quiet.{Moves, Reaches}
use Rattle.lq_model.specs.Quiet.Moves.{steps, begins}
use Rattle.lq_run_core.specs.Measure.{serves}
use Rattle.lq_run_core.specs.Progress.{and_then, cost_of, is_of_control, no_course}
use Rattle.lq_run_core.specs.Progress.Goes.{no_move, one_more_move}
use Rattle.lq_run_core.specs.Mistakes.{numbered_packet}
use Rattle.lq_run_core.specs.Chase.{GoesFree, chase, stopped_chase}
use Rattle.lq_run_core.proofs.Reached.{Action, played}
use Rattle.lq_run_core.proofs.Reached.Action.{Does, Starts}

-- MOVES IN A LIST

pub data Near : Type 0 where
  Step : ℕ → Near
  Start : ℕ → Near

abbrev next : Near → Machine → Option Machine
next (Step i) m = step_of m i Plain
next (Start i) m = call_begun m i Interrupts

-- a machine that serves, or that doesn't, as is wanted
abbrev where_is : Bool → Bool → Machine → Option Machine
where_is true true m = Some m
where_is false false m = Some m
where_is _ _ m = None

abbrev checked : Bool → Option Machine → Option Machine
checked b (Some m) = where_is b (serves m) m
checked b None = None

abbrev goes-on : Bool → Near → Option Machine → Option Machine
goes-on b near (Some m) = checked b (next near m)
goes-on b near None = None

abbrev go-all : Bool → List Near → Option Machine → Option Machine
go-all b [] o = o
go-all b (near ∷ nears) o = go-all b nears (goes-on b near o)

-- served all the way, or never
abbrev Is : Bool → Machine → Type 0
Is b m = serves m ≡ b

next-moves : (near : Near) (m n : Machine) → next near m ≡ Some n → (move : Moves m n) × ((cost_of move ≡ 0) × (is_of_control move ≡ false))
next-moves (Step i) m n e = (steps i Plain e, (refl, refl))
next-moves (Start i) m n e = (begins i Interrupts tt e, (refl, refl))

where-is : (b : Bool) (m n : Machine) (c : Bool) → serves m ≡ c → where_is b c m ≡ Some n → (m ≡ n) × Is b m
where-is true m n true is e = (cc, is)
where-is false m n false is e = (cc, is)
where-is true m n false is e = absurd cc
where-is false m n true is e = absurd cc

-- one more of them
one-more : (b : Bool) (m k j : Machine) (before : ℕ) (near : Near) → GoesFree (Is b) m k before → next near k ≡ Some j → Is b j → GoesFree (Is b) m j (suc before)
one-more b m k j before near goes is served =
    let move = next-moves near k j is in
    record {
      course = and_then goes.course move.0;
      goes = one_more_move goes.course k j goes.goes move.0 served;
      moves = omega (arith, goes.moves);
      free = omega (arith, goes.free, move.1.0);
      own = no-either goes.course.with_control (is_of_control move.0) goes.own move.1.1;
    }
  where
    no-either : (x y : Bool) → x ≡ false → y ≡ false → (x || y) ≡ false
    no-either true y e f = cc
    no-either false y e f = f

all-go : (b : Bool) (m : Machine) (nears : List Near) (before : ℕ) (o : Option Machine) → ((n : Machine) → o ≡ Some n → GoesFree (Is b) m n before)
    → (n : Machine) → go-all b nears o ≡ Some n → GoesFree (Is b) m n (before + length nears)
all-go b m [] before o h n e = subst (GoesFree (Is b) m n) (omega arith) (h n e)
all-go b m (near ∷ nears) before o h n e =
    subst (GoesFree (Is b) m n) (omega arith) (all-go b m nears (suc before) (goes-on b near o) (more o h) n e)
  where
    there : (k : Machine) → GoesFree (Is b) m k before → (o : Option Machine) → next near k ≡ o → (n : Machine) → checked b o ≡ Some n → GoesFree (Is b) m n (suc before)
    there k goes (Some j) is n e =
        let found = where-is b j n (serves j) refl e in
        subst (λ (j : Machine). GoesFree (Is b) m j (suc before)) found.0 (one-more b m k j before near goes is found.1)
    there k goes None is n e = absurd cc

    more : (o : Option Machine) → ((n : Machine) → o ≡ Some n → GoesFree (Is b) m n before) → (n : Machine) → goes-on b near o ≡ Some n → GoesFree (Is b) m n (suc before)
    more (Some k) h n e = there k (h k refl) (next near k) refl n e
    more None h n e = absurd cc

none-yet : (b : Bool) (m : Machine) → Is b m → GoesFree (Is b) m m 0
none-yet b m is = record { course = no_course; goes = no_move is; moves = refl; free = refl; own = refl }

gone : (b : Bool) (m n : Machine) (nears : List Near) → serves m ≡ b → go-all b nears (Some m) ≡ Some n → GoesFree (Is b) m n (0 + length nears)
gone b m n nears is e = all-go b m nears 0 (Some m) (λ k same. subst (λ (k : Machine). GoesFree (Is b) m k 0) (let same : m ≡ k = cc in same) (none-yet b m is)) n e

-- THE CHASE

abbrev does : ℕ → ℕ → List Near
does i count = replicate count (Step i)

abbrev round : List Near
round = does 0 10 ++ (does 1 4 ++ (does 0 1 ++ (does 1 1 ++ (does 0 3 ++ (Start 0 ∷ (does 0 3 ++ (does 1 1 ++ (does 0 1 ++ (does 1 6 ++ (does 0 1 ++ (does 1 5 ++ (does 0 1 ++ (does 1 3 ++ (Start 1 ∷ []))))))))))))))

pub goes-round : GoesFree (λ m. serves m ≡ false) chase chase 42
goes-round = gone false chase chase round refl refl

abbrev acts : ℕ → ℕ → List Action
acts i count = replicate count (Does i Plain)

abbrev sends : ℕ → ℕ → List Action
sends i number = Starts i (Transmits (numbered_packet number i)) ∷ []

abbrev comes-to : List Action
comes-to =
    sends 0 0 ++ (acts 0 9 ++ (sends 1 1 ++ (acts 1 3 ++ (acts 0 8 ++ (acts 1 1 ++ (acts 0 1 ++ (acts 1 1 ++ (acts 0 3 ++ (Starts 0 Interrupts ∷ (acts 0 3 ++ (acts 1 1
    ++ (acts 0 1 ++ (acts 1 6 ++ (acts 0 1 ++ (acts 1 5 ++ (acts 0 1 ++ (acts 1 3 ++ (Starts 1 Interrupts ∷ []))))))))))))))))))

pub chase-reached : Reaches (first_machine 2 8 false 1) chase
chase-reached = played (first_machine 2 8 false 1) chase comes-to refl

-- BEHIND A STOPPED QUEUE

abbrev stopped-round : List Near
stopped-round = does 0 4 ++ (does 1 4 ++ (does 0 1 ++ (does 1 1 ++ (does 0 3 ++ (Start 0 ∷ (does 0 3 ++ (does 1 1 ++ (does 0 1 ++ (does 1 2 ++ (does 0 1 ++ (does 1 3 ++ (does 0 1 ++ (does 1 3 ++ (Start 1 ∷ []))))))))))))))

pub stopped-goes-round : GoesFree (λ m. serves m ≡ true) stopped_chase stopped_chase 30
stopped-goes-round = gone true stopped_chase stopped_chase stopped-round refl refl

abbrev comes-to-stop : List Action
comes-to-stop =
    sends 0 0 ++ (acts 0 7 ++ (Does 0 Stop ∷ (acts 0 1 ++ (sends 1 1 ++ (acts 1 3 ++ (acts 0 4 ++ (acts 1 1 ++ (acts 0 1 ++ (acts 1 1 ++ (acts 0 3 ++ (Starts 0 Interrupts ∷ (acts 0 3
    ++ (acts 1 1 ++ (acts 0 1 ++ (acts 1 2 ++ (acts 0 1 ++ (acts 1 3 ++ (acts 0 1 ++ (acts 1 3 ++ (Starts 1 Interrupts ∷ []))))))))))))))))))))

pub stopped-reached : Reaches (first_machine 2 8 false 1) stopped_chase
stopped-reached = played (first_machine 2 8 false 1) stopped_chase comes-to-stop refl
