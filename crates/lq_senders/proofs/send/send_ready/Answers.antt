use Rattle.std.proofs.Common.{◌++◌, ◌≤◌, List, length, sym, ap, ◌∙◌, subst, arith, map}
use Rattle.std.proofs.lemmas.List.{length-map}
use Rattle.lq_model.specs.Device.{DeviceState}
use Rattle.lq_seat.specs.State.{TableState}
use Rattle.lq_senders.specs.Ends.{AreOver, ClosedState, FatesRead, IsReadable, closed_state, home_device}
use Rattle.lq_senders.specs.Told.{TellEach, fates_told}
use Rattle.lq_table.specs.Ended.{EndedState, ended_state}
use Rattle.lq_table.specs.declared.ended.Closed.{Closed}
use Rattle.lq_senders.specs.Senders.{AreReadySenders}
use Rattle.lq_senders.specs.Setup.{AreSplitting, AreUnitsReady}
use Rattle.lq_senders.specs.Units.{by_unit}
use Rattle.lq_senders.specs.Woken.{opens_by}
use Rattle.lq_senders.proofs.HandsBack.{HasRun, IsGivenBack, at-home, boxes-given, closed-many, fates-given, stays-given}
use Rattle.lq_senders.proofs.Prepared.{are-over}
use Rattle.lq_senders.proofs.WordsTold.{tell-each, told-read}
use Rattle.lq_senders.proofs.Splits.{are-first, sender-stands, splitting-opened}
use Rattle.lq_senders.proofs.send.send_ready.Given as given
use Rattle.lq_senders.proofs.send.send_ready.Goals as goal
use Rattle.lq_senders.proofs.send.send_ready.Goals.{After-split_senders, After-runs_keep_boxes, After-hand_back}

-- THE RUN BEGINS

pub split_senders-requires-clause-splitting : goal.split_senders-requires-clause-splitting
split_senders-requires-clause-splitting g c κs within =
    let ready = c.requires.ready.1 in let plan = c.args.job.now.plan.now in let infos = c.args.job.now.infos.now in
    let stations = c.args.units.stations in let has_sender = c.stays_within_limits.ensures.has_sender in
    subst (λ (ts : List TableState). AreSplitting plan infos 1 ts stations.seats.items) (sym c.as_slice.ensures.value)
    (splitting-opened plan infos ready.devices stations.tables.items stations.seats.items has_sender ready.all ready.opened)

-- the seats and devices that the run begins with, over a bench that made them ready
over : (g : given.Over) (c : After-split_senders g) (before : List DeviceState)
    → AreUnitsReady g.D.TxDevice.state c.args.job.now.plan.now c.args.job.now.infos.now before c.args.units
    → AreOver c.args.job.now.plan.now c.args.job.now.infos.now before (length c.split_senders.new.others.items) c.split_senders.new.seats.items
    (map g.D.TxDevice.state c.args.units.spares.items)
over g c before ready =
    let stations = c.args.units.stations in let split = c.split_senders.ensures in
    are-over c.args.job.now.plan.now c.args.job.now.infos.now before stations.tables.items stations.seats.items
    (map g.D.TxDevice.state c.args.units.spares.items) ready c.split_senders.new.seats.items split.devices
    (length c.split_senders.new.others.items) split.one_each split.alone

pub run-spares-requires-clause-first : goal.run-spares-requires-clause-first
run-spares-requires-clause-first g c κs within =
    let plan = c.args.job.now.plan.now in let infos = c.args.job.now.infos.now in
    let tables = c.args.units.stations.tables.items in let seats = c.split_senders.new.seats.items in let split = c.split_senders.ensures in
    let now = subst (λ (ts : List TableState). AreSplitting plan infos plan.senders ts seats) c.as_slice.ensures.value split.splitting in
    let stands = sender-stands plan infos tables seats c.stays_within_limits.ensures.has_sender now in
    (stands, are-first plan infos (length c.split_senders.new.others.items) tables seats split.one_each now)

pub run-spares-requires-clause-devices : goal.run-spares-requires-clause-devices
run-spares-requires-clause-devices g c κs within =
    let over = over g (goal.at.run-spares-requires-clause-devices g c).After-split_senders c.requires.ready.0 c.requires.ready.1 in
    (over.units, over.stand)

pub run-spares-requires-clause-others : goal.run-spares-requires-clause-others
run-spares-requires-clause-others g c κs within =
    let plan = c.args.job.now.plan.now in let infos = c.args.job.now.infos.now in let others = c.split_senders.new.others.items in
    subst (λ (ts : List TableState). AreReadySenders plan infos ts others) c.as_slice.ensures.value c.split_senders.ensures.ready

-- THE RUN IS OVER

-- closed tables, each seen by its state
abbrev closed_states : (g : given.Over) → List (Closed g.row.D.Denot g.D.TxDevice) → List ClosedState
closed_states g = map closed_state

-- the laws of runs, at this one
has_run : (g : given.Over) (c : After-runs_keep_boxes g)
    → HasRun c.args.job.now.plan.now c.args.job.now.infos.now (opens_by c.args.job.now.openings.now c.args.job.now.infos.now)
    (λ before. AreUnitsReady g.D.TxDevice.state c.args.job.now.plan.now c.args.job.now.infos.now before c.args.units)
    (closed_states g c.run-spares.new.closed.items) (map g.D.TxDevice.state c.run-spares.result.items)
has_run g c =
    let plan = c.args.job.now.plan.now in let infos = c.args.job.now.infos.now in
    let opens = opens_by c.args.job.now.openings.now infos in
    let others = length c.split_senders.new.others.items in let start = c.split_senders.new.seats.items in
    let brought = map g.D.TxDevice.state c.args.units.spares.items in let closed = closed_states g c.run-spares.new.closed.items in
    let spares = map g.D.TxDevice.state c.run-spares.result.items in
    let sent = c.run-spares.ensures in let sendable = c.args.job.now.sendable in
    let split : After-split_senders g = c.before.before.before.before.before.before.before in let ready = c.requires.ready in
    record {
      one_a_station = closed-many plan infos opens others start brought closed spares sent;
      one_a_swap = let over = over g split ready.0 ready.1 in
          (c.runs_leave_devices.ensures plan infos opens ready.0 others start brought closed spares sent over).1;
      home = at-home plan infos opens others start brought closed spares sent;
      readable = c.runs_are_readable.ensures plan infos opens others start brought closed spares sent sendable;
      fates = λ before after fates ready read. c.runs_make_fates.ensures plan infos opens before after others start brought closed spares fates
          sent sendable (over g split before ready) read;
      ended = λ fates. c.runs_leave_stations.ensures plan infos opens others start brought closed spares fates sent;
      boxes = λ before after ready. c.runs_keep_boxes.ensures plan infos opens before after others start brought closed spares
          sent (over g split before ready);
    }

pub take_apart-requires-clause-home : goal.take_apart-requires-clause-home
take_apart-requires-clause-home g c κs within = (has_run g (goal.at.take_apart-requires-clause-home g c).After-runs_keep_boxes).home

pub take_apart-requires-clause-room : goal.take_apart-requires-clause-room
take_apart-requires-clause-room g c κs within =
    let many = (has_run g (goal.at.take_apart-requires-clause-room g c).After-runs_keep_boxes).one_a_station in
    let long = length-map c.run-spares.new.closed.items closed_state in let ok = c.run-spares.new.closed.ok.0 in
    let homes = c.requires.room.homes in let ended = c.requires.room.ended in (omega arith, omega arith)

pub hand_back-requires-clause-homes : goal.hand_back-requires-clause-homes
hand_back-requires-clause-homes g c κs within =
    let run = has_run g (goal.at.hand_back-requires-clause-homes g c).After-runs_keep_boxes in
    sym (length-map c.take_apart.new.homes.items g.D.TxDevice.state) ∙ (ap length c.take_apart.ensures.homes
    ∙ (length-map (closed_states g c.run-spares.new.closed.items) home_device ∙ run.one_a_station))

pub hand_back-requires-clause-spares : goal.hand_back-requires-clause-spares
hand_back-requires-clause-spares g c κs within =
    sym (length-map c.run-spares.result.items g.D.TxDevice.state)
    ∙ (has_run g (goal.at.hand_back-requires-clause-spares g c).After-runs_keep_boxes).one_a_swap

-- WHAT IS GIVEN BACK

-- what stays of the stations, as it is laid out
abbrev stays : (g : given.Over) → After-hand_back g → List EndedState
stays g c = map (ended_state {D = g.row.D.Denot} {g = g.D.TxDevice}) c.take_apart.new.ended.items

given_back : (g : given.Over) (c : After-hand_back g) → IsReadable c.args.job.now.infos.now (closed_states g c.run-spares.new.closed.items)
    → IsGivenBack c.args.job.now.plan.now c.args.job.now.infos.now
    (closed_states g c.run-spares.new.closed.items) (map g.D.TxDevice.state c.run-spares.result.items)
    (map g.D.TxDevice.state c.args.bench.now.items) (map g.D.TxDevice.state c.hand_back.new.bench.items)
    (fates_told c.args.job.now.infos.now (stays g c))
given_back g c readable =
    let plan = c.args.job.now.plan.now in let infos = c.args.job.now.infos.now in let closed = closed_states g c.run-spares.new.closed.items in
    let state = g.D.TxDevice.state in let rest = c.args.bench.now.items in let after = c.hand_back.new.bench.items in
    record {
      read = subst (λ (ended : List EndedState). FatesRead infos closed (length infos) (fates_told infos ended)) (sym c.take_apart.ensures.ended)
          (told-read infos closed readable);
      bench = c.hand_back.ensures.states
          ∙ ap (λ homes. by_unit plan homes (map state c.run-spares.result.items) ++ map state rest) c.take_apart.ensures.homes;
      many = let len = c.hand_back.ensures.len in let ok = c.hand_back.new.bench.ok.0 in let ok' = c.args.bench.now.ok.0 in
          omega (arith, length-map after state, length-map rest state);
    }

pub returns-clause-fates : goal.returns-clause-fates
returns-clause-fates g c = let run = has_run g (goal.at.returns-clause-fates g c).After-runs_keep_boxes in fates-given run (given_back g c run.readable)

pub returns-clause-ended : goal.returns-clause-ended
returns-clause-ended g c =
    let run = has_run g (goal.at.returns-clause-ended g c).After-runs_keep_boxes in stays-given run (given_back g c run.readable) (stays g c) c.take_apart.ensures.ended

pub returns-clause-told : goal.returns-clause-told
returns-clause-told g c =
    let run = has_run g (goal.at.returns-clause-told g c).After-runs_keep_boxes in
    let stations : length (closed_states g c.run-spares.new.closed.items) ≤ 8 = (let many = run.one_a_station in let few = c.stays_within_limits.ensures.stations in omega arith) in
    subst (TellEach c.args.job.now.infos.now) (sym c.take_apart.ensures.ended)
    (tell-each c.args.job.now.infos.now (closed_states g c.run-spares.new.closed.items) run.readable c.args.job.now.sendable.few stations)

pub returns-clause-boxes : goal.returns-clause-boxes
returns-clause-boxes g c before ready =
    let run = has_run g (goal.at.returns-clause-boxes g c).After-runs_keep_boxes in boxes-given run (given_back g c run.readable) before ready ready.units
