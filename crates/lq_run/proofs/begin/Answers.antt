use Rattle.std.proofs.Common.{ℕ, true, false, List, [], ◌∷◌, ◌++◌, Option, Some, refl, ap, ◌∙◌}
use Rattle.lq_device.specs.Station.{StationState}
use Rattle.lq_table.specs.Locks.{try_lock_at}
use Rattle.lq_table.specs.Rule.{shown}
use Rattle.lq_table.specs.Sees.{view}
use Rattle.lq_table.specs.States.{miss_at}
use Rattle.lq_table.specs.Step.{MoveStation}
use Rattle.lq_run.specs.Steps.{AtOnce, Begin, InTheEnd, MakesStepsOf, Missed, MissedBefore}
use Rattle.lq_run.proofs.Begins.{leads}
use Rattle.lq_table.proofs.StepsThen.{makes_then}
use Rattle.lq_run.proofs.Tried.{notes, seat_noted, seat_tried, tries}
use Rattle.lq_run.proofs.TryLemmas.{first_locked, missed_leads}
use Rattle.lq_run.proofs.begin.Goals as goal

pub note_missed-requires-clause-at : goal.note_missed-requires-clause-at
note_missed-requires-clause-at g c κs within =
    let at_ = c.requires.at in let h = (tries c.if-try_run_lock.ensures.makes).held refl in
    ap miss_at (first_locked at_.0 (view c.args.cpu.now) (view c.try_run_lock.new.cpu) at_.1 h.0).1

pub note_missed-requires-clause-seat : goal.note_missed-requires-clause-seat
note_missed-requires-clause-seat g c κs within = seat_tried c.args.shared.now c.requires.seat c.if-try_run_lock.ensures.makes

pub move_station-requires-clause-seat : goal.move_station-requires-clause-seat
move_station-requires-clause-seat g c κs within = seat_tried c.args.shared.now c.requires.seat c.if-try_run_lock.ensures.makes

pub try_run_lock-requires-2-clause-seat : goal.try_run_lock-requires-2-clause-seat
try_run_lock-requires-2-clause-seat g c κs within = seat_noted c.args.shared.now (seat_tried c.args.shared.now c.requires.seat c.if-try_run_lock.ensures.makes) c.if-note_missed.ensures.makes

pub try_run_lock-requires-2-clause-at : goal.try_run_lock-requires-2-clause-at
try_run_lock-requires-2-clause-at g c κs within =
    let at_ = c.requires.at in let m = view c.try_run_lock.new.cpu in let h = (tries c.if-try_run_lock.ensures.makes).held refl in
    ap try_lock_at (missed_leads at_.0 m (view c.note_missed.new.cpu) (first_locked at_.0 (view c.args.cpu.now) m at_.1 h.0).1 (notes c.if-note_missed.ensures.makes).knows)

pub move_station-requires-then-try_run_lock-2-clause-seat : goal.move_station-requires-then-try_run_lock-2-clause-seat
move_station-requires-then-try_run_lock-2-clause-seat g c κs within =
    let s = c.args.shared.now in seat_tried s (seat_noted s (seat_tried s c.requires.seat c.if-try_run_lock.ensures.makes) c.if-note_missed.ensures.makes) c.if-try_run_lock-2.ensures.makes

pub move_station-requires-then-try_run_lock-2-clause-holder : goal.move_station-requires-then-try_run_lock-2-clause-holder
move_station-requires-then-try_run_lock-2-clause-holder g c κs within =
    let h = (tries c.if-try_run_lock.ensures.makes).held refl in let d = (tries c.if-try_run_lock-2.ensures.makes).got refl in
    (Some (shown d.0), d.2 ∙ ap (λ (s : List (ℕ × Option StationState)). (0, Some (shown d.0)) ∷ s) ((notes c.if-note_missed.ensures.makes).has ∙ (h.1 ∙ c.requires.empty.0)))

pub returns-then-try_run_lock : goal.returns-then-try_run_lock
returns-then-try_run_lock g c =
    let t = c.if-try_run_lock.ensures.makes in let at_ = c.requires.at in
    let m : MakesStepsOf (Begin true) c.args.cpu.now c.move_station.new.cpu = (t.0 ++ MoveStation ∷ [], AtOnce t.1, makes_then t.2 c.move_station.ensures.makes) in let l = leads c.args.cpu.now c.move_station.new.cpu at_.0 at_.1 c.requires.empty m in
    record { makes = m; got = l.got; missed = l.missed }

pub returns-then-note_missed : goal.returns-then-note_missed
returns-then-note_missed g c =
    let t = c.if-try_run_lock.ensures.makes in let n = c.if-note_missed.ensures.makes in let at_ = c.requires.at in
    let m : MakesStepsOf (Begin false) c.args.cpu.now c.note_missed.new.cpu = (t.0 ++ n.0, MissedBefore t.1 n.1, makes_then t.2 n.2) in let l = leads c.args.cpu.now c.note_missed.new.cpu at_.0 at_.1 c.requires.empty m in
    record { makes = m; got = l.got; missed = l.missed }

pub returns-then-try_run_lock-2 : goal.returns-then-try_run_lock-2
returns-then-try_run_lock-2 g c =
    let t = c.if-try_run_lock.ensures.makes in let n = c.if-note_missed.ensures.makes in let u = c.if-try_run_lock-2.ensures.makes in let at_ = c.requires.at in
    let m : MakesStepsOf (Begin true) c.args.cpu.now c.move_station-then-try_run_lock-2.new.cpu = (t.0 ++ n.0 ++ u.0 ++ MoveStation ∷ [], InTheEnd t.1 n.1 u.1, makes_then (makes_then (makes_then t.2 n.2) u.2) c.move_station-then-try_run_lock-2.ensures.makes) in
    let l = leads c.args.cpu.now c.move_station-then-try_run_lock-2.new.cpu at_.0 at_.1 c.requires.empty m in
    record { makes = m; got = l.got; missed = l.missed }

pub returns : goal.returns
returns g c =
    let t = c.if-try_run_lock.ensures.makes in let n = c.if-note_missed.ensures.makes in let u = c.if-try_run_lock-2.ensures.makes in let at_ = c.requires.at in
    let m : MakesStepsOf (Begin false) c.args.cpu.now c.try_run_lock-2.new.cpu = (t.0 ++ n.0 ++ u.0, Missed t.1 n.1 u.1, makes_then (makes_then t.2 n.2) u.2) in
    let l = leads c.args.cpu.now c.try_run_lock-2.new.cpu at_.0 at_.1 c.requires.empty m in
    record { makes = m; got = l.got; missed = l.missed }
