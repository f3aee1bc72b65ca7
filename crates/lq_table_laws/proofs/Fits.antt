-- What a step of the words sees is what the machine's step sees: so it is that step.
use Rattle.std.proofs.Common.{◌≡◌, ◌-◌, Bool, true, false, [], refl, sym, ◌∙◌, None}
use Rattle.std.specs.Prelude.{if◌then◌else◌}
use Rattle.std.proofs.lemmas.Bool.{false≢true}
use Rattle.lq_model.specs.declared.machine.Answer.{Answer}
use Rattle.lq_model.specs.declared.machine.Answer.TheVariants.{Plain}
use Rattle.lq_model.specs.declared.machine.Blocked.TheVariants.{InHand, NoneTaken}
use Rattle.lq_model.specs.declared.machine.Packet.{Packet}
use Rattle.lq_model.specs.declared.machine.Position.{Position}
use Rattle.lq_model.specs.declared.machine.Position.TheVariants.{Again, BlockedClear, BlockedDrain, BlockedMiss, Check, ClearDraining, ClearMissed, Late, Leave, Miss, Post, Quota, Recheck, Sched, Soft, SoftClear, Tail, Test, Try2, Unlock, Xmit}
use Rattle.lq_model.specs.declared.machine.Seat.{Seat}
use Rattle.lq_model.specs.Machine.{Qdisc, is_non_empty}
use Rattle.lq_model.specs.Positions.{holds_lock, in_hand}
use Rattle.lq_model.specs.Steps.{After, call_ends, gives_up, goes_to, run_begins}
use Rattle.lq_run_core.specs.Progress.{accepted_at}
use Rattle.lq_table.specs.States.{clear_draining_at, clear_missed_at, clear_sched_at, miss_at, set_sched_at, set_draining_at, set_missed_at}
use Rattle.lq_table_laws.specs.Stepped.{looks_in_call}
use Rattle.lq_table.proofs.RecheckKept.{bits_only}
use Rattle.lq_table.proofs.Frames.{Fits}
use Rattle.lq_table.proofs.Shows.{Shows, begins_alike}

-- where nobody is at the device it accepts nothing
pub none_accepted : (at : Position → Bool) → ((p : Packet) (direct : Bool) → at (Xmit p direct) ≡ false) → (position : Position) (answer : Answer) → at position ≡ true → accepted_at position answer ≡ []
none_accepted at elsewhere (Xmit p direct) answer is = absurd (false≢true (sym (elsewhere p direct) ∙ is))
none_accepted at elsewhere _ answer is = refl

either_seat : (b : Bool) (x y x' y' : After) → x.seat ≡ x'.seat → y.seat ≡ y'.seat → (if b then x else y).seat ≡ (if b then x' else y').seat
either_seat true x y x' y' e e' = e
either_seat false x y x' y' e e' = e'

either_words : (b : Bool) (x y : After) (q : Qdisc) → (b ≡ true → x.qdisc ≡ q) → (b ≡ false → y.qdisc ≡ q) → (if b then x else y).qdisc ≡ q
either_words true x y q e e' = e refl
either_words false x y q e e' = e' refl

pub look_fits : (base q : Qdisc) (position : Position) (s : Seat) → (holds_lock position ≡ true → Shows q base) → looks_in_call position ≡ true → Fits q (bits_only base q) Plain position s q
look_fits base q Post s shows h = record {
  may = refl;
  seat = either_seat (is_non_empty q) (run_begins (bits_only base q) s) (goes_to (bits_only base q) s Unlock) (run_begins q s) (goes_to q s Unlock)
      (λ j. record { position = begins_alike q (bits_only base q) (record { queues = (shows refl).queues; slot = (shows refl).slot }) j; raised = s.raised; run = 0 }) refl;
  words = either_words (is_non_empty q) (run_begins q s) (goes_to q s Unlock) q (λ _. refl) (λ _. refl);
}
look_fits base q Test s shows h = record { may = refl; seat = refl; words = refl }
look_fits base q (Tail inside) s shows h = record { may = refl; seat = refl; words = refl }
look_fits base q Soft s shows h = record { may = refl; seat = refl; words = refl }
look_fits base q Late s shows h = record { may = refl; seat = refl; words = refl }
look_fits base q (Check p) s shows h = record { may = refl; seat = refl; words = refl }
look_fits base q (Recheck p) s shows h = record { may = refl; seat = refl; words = refl }
look_fits base q _ s shows h = absurd (false≢true h)

pub clear_missed_fits : (seen q : Qdisc) (position : Position) (s : Seat) → clear_missed_at position ≡ true → Fits q seen Plain position s (record q { missed = false })
clear_missed_fits seen q ClearMissed s h = record { may = refl; seat = refl; words = refl }
clear_missed_fits seen q (BlockedClear b) s h = record { may = refl; seat = refl; words = refl }
clear_missed_fits seen q _ s h = absurd (false≢true h)

pub clear_draining_fits : (seen q : Qdisc) (position : Position) (s : Seat) → clear_draining_at position ≡ true → Fits q seen Plain position s (record q { draining = false })
clear_draining_fits seen q ClearDraining s h = record { may = refl; seat = refl; words = refl }
clear_draining_fits seen q _ s h = absurd (false≢true h)

pub clear_sched_fits : (seen q : Qdisc) (position : Position) (s : Seat) → clear_sched_at position ≡ true → Fits q seen Plain position s (record q { sched = false })
clear_sched_fits seen q (SoftClear deactivated) s h = record { may = refl; seat = refl; words = refl }
clear_sched_fits seen q _ s h = absurd (false≢true h)

-- a holder with nothing in hand sets MISSED or DRAINING
pub set_missed_fits : (seen q : Qdisc) (position : Position) (s : Seat) → set_missed_at position ≡ true → in_hand position ≡ None → Fits q seen Plain position s (record q { missed = true })
set_missed_fits seen q Again s h bare = record { may = refl; seat = refl; words = refl }
set_missed_fits seen q Quota s h bare = record { may = refl; seat = refl; words = refl }
set_missed_fits seen q (BlockedMiss (NoneTaken queue)) s h bare = record { may = refl; seat = refl; words = refl }
set_missed_fits seen q (BlockedMiss (InHand p direct)) s h bare = absurd cc
set_missed_fits seen q _ s h bare = absurd (false≢true h)

pub set_draining_fits : (seen q : Qdisc) (position : Position) (s : Seat) → set_draining_at position ≡ true → in_hand position ≡ None → Fits q seen Plain position s (record q { draining = true })
set_draining_fits seen q (BlockedDrain (NoneTaken queue)) s h bare = record { may = refl; seat = refl; words = refl }
set_draining_fits seen q (BlockedDrain (InHand p direct)) s h bare = absurd cc
set_draining_fits seen q _ s h bare = absurd (false≢true h)

pub miss_fits : (seen q : Qdisc) → seen.missed ≡ q.missed → (position : Position) (s : Seat) → miss_at position ≡ true → Fits q seen Plain position s (record q { missed = true })
miss_fits seen q same (Miss attempt) s h = record {
  may = refl;
  seat = either_seat seen.missed (goes_to seen s (gives_up attempt)) (goes_to (record seen { missed = true }) s (Try2 attempt)) (goes_to q s (gives_up attempt)) (goes_to (record q { missed = true }) s (Try2 attempt)) refl refl
      ∙ (λ j. (if same j then goes_to q s (gives_up attempt) else goes_to (record q { missed = true }) s (Try2 attempt)).seat);
  words = either_words q.missed (goes_to q s (gives_up attempt)) (goes_to (record q { missed = true }) s (Try2 attempt)) (record q { missed = true }) (λ e j. record q { missed = e j }) (λ _. refl);
}
miss_fits seen q same _ s h = absurd (false≢true h)

pub schedule_fits : (seen q : Qdisc) → seen.sched ≡ q.sched → (position : Position) (s : Seat) → set_sched_at position ≡ true → Fits q seen Plain position s (record q { sched = true })
schedule_fits seen q same (Sched inside) s h = record {
  may = refl;
  seat = either_seat seen.sched (goes_to seen s (call_ends inside)) (raised seen) (goes_to q s (call_ends inside)) (raised q) refl refl ∙ (λ j. (if same j then goes_to q s (call_ends inside) else raised q).seat);
  words = either_words q.sched (goes_to q s (call_ends inside)) (raised q) (record q { sched = true }) (λ e j. record q { sched = e j }) (λ _. refl);
}
  where
    raised : Qdisc → After
    raised z = record { qdisc = record z { sched = true }; seat = record s { position = call_ends inside; raised = true } }
schedule_fits seen q same _ s h = absurd (false≢true h)

pub leave_fits : (seen q : Qdisc) (s : Seat) → Fits q seen Plain Leave s (record q { inside = q.inside - 1 })
leave_fits seen q s = record { may = refl; seat = refl; words = refl }

pub unlock_fits : (seen q : Qdisc) (s : Seat) → Fits q seen Plain Unlock s (record q { locked = false })
unlock_fits seen q s = record { may = refl; seat = refl; words = refl }
