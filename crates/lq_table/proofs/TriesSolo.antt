-- What a try of the run lock, and a look at it, leave of what a seat tells at run time, and of what a seat knows that has the table alone.
use Rattle.std.proofs.Common.{◌≡◌, Bool, true, false, refl}
use Rattle.std.proofs.lemmas.Bool.{false≢true}
use Rattle.std.specs.Prelude.{if◌then◌else◌}
use Rattle.lq_model.specs.declared.machine.Answer.TheVariants.{Plain}
use Rattle.lq_model.specs.declared.machine.Attempt.{Attempt}
use Rattle.lq_model.specs.declared.machine.Attempt.TheVariants.{Direct}
use Rattle.lq_model.specs.declared.machine.Position.{Position}
use Rattle.lq_model.specs.declared.machine.Position.TheVariants as at
use Rattle.lq_model.specs.declared.machine.Seat.{Seat}
use Rattle.lq_model.specs.Control.{is_control}
use Rattle.lq_model.specs.Machine.{Qdisc}
use Rattle.lq_model.specs.Steps.{step_at, goes_to, gives_up, lock_got}
use Rattle.lq_table.specs.Marks.{marks_of}
use Rattle.lq_table.specs.Views.{View, HolderPart}
use Rattle.lq_table.specs.Moves.{seen_by}
use Rattle.lq_table.specs.Locks.{seen_lock, try_lock_at, look_lock_view, locked_to}
use Rattle.lq_table.specs.Sees.{solo}

-- A STEP OF THE MACHINE THAT TRIES THE LOCK

got_raised : (a : Attempt) (q : Qdisc) (s : Seat) → (lock_got a q s).seat.raised ≡ s.raised
got_raised (Direct p) q s = refl
got_raised _ q s = refl

got_words : (a : Attempt) (q : Qdisc) (s : Seat) → (lock_got a q s).qdisc ≡ q
got_words (Direct p) q s = refl
got_words _ q s = refl

either_raised : (b : Bool) (a : Attempt) (q q' : Qdisc) (s : Seat) (y : Position)
    → (if b then goes_to q s y else lock_got a q' s).seat.raised ≡ s.raised
either_raised true a q q' s y = refl
either_raised false a q q' s y = got_raised a q' s

either_words : (b : Bool) (a : Attempt) (q : Qdisc) (s : Seat) (y : Position) → q.locked ≡ b
    → (if b then goes_to q s y else lock_got a (record q { locked = true }) s).qdisc ≡ record q { locked = true }
either_words true a q s y e = λ j. record q { locked = e j }
either_words false a q s y e = got_words a (record q { locked = true }) s

raised : (y : Position) → try_lock_at y ≡ true → (q : Qdisc) (s : Seat) → (step_at y Plain q s).seat.raised ≡ s.raised
raised (at.Try1 a) h q s = either_raised q.locked a q (record q { locked = true }) s (at.Miss a)
raised (at.Try2 a) h q s = either_raised q.locked a q (record q { locked = true }) s (gives_up a)
raised (at.Control holds) h q s = refl
raised _ h q s = absurd (false≢true h)

-- a call takes the lock in the machine, or it is taken already
words : (y : Position) → try_lock_at y ≡ true → (q : Qdisc) (s : Seat) → (is_control y ≡ true → q.locked ≡ true)
    → (step_at y Plain q s).qdisc ≡ record q { locked = true }
words (at.Try1 a) h q s held = either_words q.locked a q s (at.Miss a) refl
words (at.Try2 a) h q s held = either_words q.locked a q s (gives_up a) refl
words (at.Control holds) h q s held = λ j. record q { locked = held refl j }
words _ h q s held = absurd (false≢true h)

abbrev pub at_lock : Position → Qdisc → HolderPart → View → View
at_lock y q d v = record v {
  place = (step_at y Plain q v.place).seat;
  holder = d;
  whole = record v.whole { qdisc = (step_at y Plain v.whole.qdisc v.place).qdisc };
}

pub solo_at : (y : Position) → try_lock_at y ≡ true → (q : Qdisc) (d : HolderPart) (v : View)
    → (is_control y ≡ true → v.whole.qdisc.locked ≡ true) → solo (at_lock y q d v) ≡ locked_to true (solo v)
solo_at y h q d v held = let a = raised y h q v.place in let b = words y h v.whole.qdisc v.place held in λ j. record (solo v) {
  raised = a j;
  whole = record (solo v).whole { missed = (b j).missed; draining = (b j).draining; scheduled = (b j).sched; locked = (b j).locked };
}

pub marks_at : (y : Position) → try_lock_at y ≡ true → (q : Qdisc) (d : HolderPart) (v : View) → marks_of (at_lock y q d v) ≡ marks_of v
marks_at y h q d v = let a = raised y h q v.place in λ j. record (marks_of v) { raised = a j }

-- IT IS HELD

pub finds_solo : (v : View) → try_lock_at v.place.position ≡ true → v.whole.qdisc.locked ≡ true
    → solo (look_lock_view v) ≡ locked_to true (solo v)
finds_solo v h locked = solo_at v.place.position h (seen_lock (seen_by v) true) v.holder v (λ _. locked)

pub finds_marks : (v : View) → try_lock_at v.place.position ≡ true → marks_of (look_lock_view v) ≡ marks_of v
finds_marks v h = marks_at v.place.position h (seen_lock (seen_by v) true) v.holder v

-- THE STEPS
