-- After a packet its sender opens the queues of all stations so many times, and does soft interrupts after each.
use Rattle.std.proofs.Common.{◌≡◌, ℕ, zero, suc, ◌+◌, ◌-◌, ◌<◌, Bool, true, false, List, inl, inr, refl, subst, arith}
use Rattle.lq_model.specs.Alone.{RunningStation, opened_and_served, turn_ended}
use Rattle.lq_model.specs.Plan.{Plan}
use Rattle.lq_model.specs.declared.fate.Info.{Info}
use Rattle.lq_plan.specs.Openings.{opens_while_stopped}
use Rattle.lq_seat.specs.State.{SeatState, TableState}
use Rattle.lq_senders.specs.Senders.{AreRunAlone, KeepAll, SenderStands, OpenedAfter, OpenedTimes, AllOpened}
use Rattle.lq_senders.proofs.Turns.{keep-none, keep-on, keep-opened, sender-made, sender-opened, runs-idle, runs-idle-on, runs-opened, runs-rested}

-- the seats after openings that leave the stations of the run of one sender as so many do
pub record AreOpened (plan : Plan) (infos : List Info) (tables : List TableState) (times : ℕ) (old new : List SeatState) : Type 0 where
  pub stands : (sender count n : ℕ) → SenderStands plan infos sender count n tables old → SenderStands plan infos sender count n tables new
  pub keeps : KeepAll old new
  pub runs : (stations : List RunningStation) → AreRunAlone plan infos old stations → AreRunAlone plan infos new (opened_and_served infos times stations)

-- so many times, so far
pub record AreOpenedTimes (plan : Plan) (infos : List Info) (tables : List TableState) (times : ℕ) (old new : List SeatState) : Type 0 where
  pub leaves : AreOpened plan infos tables times old new
  pub opened : OpenedTimes (opens_while_stopped plan) times old new

-- all of them, or up to the first that opened none
pub record AreOpenedAfter (plan : Plan) (infos : List Info) (tables : List TableState) (times : ℕ) (old new : List SeatState) : Type 0 where
  pub leaves : AreOpened plan infos tables times old new
  pub opened : OpenedAfter (opens_while_stopped plan) times old new

pub not-opened : (plan : Plan) (infos : List Info) (tables : List TableState) (seats : List SeatState) → AreOpenedTimes plan infos tables 0 seats seats
not-opened plan infos tables seats = record {
  leaves = record {
    stands = λ sender count n standing. standing;
    keeps = keep-none seats;
    runs = λ stations runs. runs;
  };
  opened = refl;
}

leaves-once-more : (plan : Plan) (infos : List Info) (sender count n : ℕ) (tables : List TableState) (times : ℕ) (opened : Bool) (old now new : List SeatState)
    → SenderStands plan infos sender count n tables now → AllOpened opened now new
    → AreOpened plan infos tables times old now → AreOpened plan infos tables (times + 1) old new
leaves-once-more plan infos sender count n tables times opened old now new standing opening before = record {
  stands = λ sender count n standing. sender-opened plan infos sender count n tables now opening.woken new (before.stands sender count n standing) opening.wakes opening.drains;
  keeps = keep-on old now new before.keeps (keep-opened now opening.woken new opening.wakes opening.drains);
  runs = λ stations runs. let more : suc times ≡ times + 1 = omega arith in
      subst (λ k. AreRunAlone plan infos new (opened_and_served infos k stations)) more
      (runs-opened plan infos now opening.woken new (opened_and_served infos times stations) (sender-made plan infos sender count n tables now standing) opening.wakes opening.drains (before.runs stations runs));
}

pub opened-once-more : (plan : Plan) (infos : List Info) (sender count n : ℕ) (tables : List TableState) (times : ℕ) (opened : Bool) (old now new : List SeatState)
    → SenderStands plan infos sender count n tables now → AllOpened opened now new → (opens_while_stopped plan ≡ true → opened ≡ true)
    → AreOpenedTimes plan infos tables times old now → AreOpenedTimes plan infos tables (times + 1) old new
opened-once-more plan infos sender count n tables times opened old now new standing opening one before = record {
  leaves = leaves-once-more plan infos sender count n tables times opened old now new standing opening before.leaves;
  opened = let more : suc times ≡ times + 1 = omega arith in subst (λ k. OpenedTimes (opens_while_stopped plan) k old new) more (now, opened, before.opened, opening, one);
}

pub all-opened : (plan : Plan) (infos : List Info) (tables : List TableState) (times : ℕ) (old new : List SeatState)
    → AreOpenedTimes plan infos tables times old new → AreOpenedAfter plan infos tables times old new
all-opened plan infos tables times old new all = record { leaves = all.leaves; opened = inl all.opened }

-- the last opened none, so those that are left would change nothing
pub opened-enough : (plan : Plan) (infos : List Info) (sender count n : ℕ) (tables : List TableState) (made times : ℕ) (old now new : List SeatState)
    → made < times → opens_while_stopped plan ≡ true → SenderStands plan infos sender count n tables now → AllOpened false now new
    → AreOpenedTimes plan infos tables made old now → AreOpenedAfter plan infos tables times old new
opened-enough plan infos sender count n tables made times old now new fewer only standing opening before = record {
  leaves = record {
    stands = λ sender count n standing. sender-opened plan infos sender count n tables now opening.woken new (before.leaves.stands sender count n standing) opening.wakes opening.drains;
    keeps = keep-on old now new before.leaves.keeps (keep-opened now opening.woken new opening.wakes opening.drains);
    runs = λ stations runs. let all : (times - made) + made ≡ times = omega arith in
        subst (λ k. AreRunAlone plan infos new (opened_and_served infos k stations)) all
        (runs-idle plan infos sender count n tables now new (opened_and_served infos ((times - made) + made) stations) standing opening
        (runs-idle-on plan infos sender count n tables now new (times - made) made stations standing opening (before.leaves.runs stations runs)));
  };
  opened = inr (only, made, now, fewer, before.opened, opening);
}

-- this is what follows a packet, also where they aren't opened
pub turn-ended : (plan : Plan) (infos : List Info) (tables : List TableState) (sender count n times : ℕ) (old new : List SeatState)
    → SenderStands plan infos sender count n tables old → AreOpened plan infos tables times old new
    → (stations : List RunningStation) → AreRunAlone plan infos old stations → AreRunAlone plan infos new (turn_ended infos times stations)
turn-ended plan infos tables sender count n zero old new standing opened stations runs =
    runs-rested plan infos sender count n tables new stations (opened.stands sender count n standing) (opened.runs stations runs)
turn-ended plan infos tables sender count n (suc times) old new standing opened stations runs = opened.runs stations runs
