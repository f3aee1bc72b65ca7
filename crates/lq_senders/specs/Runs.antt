-- What the calls of a run say of its plan, its packets, its openings and its tables.
use Rattle.std.specs.Prelude.{ℕ, List, map}
use Rattle.lq_model.specs.Alone.{RunningStation, finished, with_events}
use Rattle.lq_model.specs.Device.{DeviceState}
use Rattle.lq_plan.specs.Openings.{opens_while_stopped}
use Rattle.lq_seat.specs.State.{SeatState}
use Rattle.lq_senders.specs.Ends.{HaveFatesAlone}
use Rattle.lq_senders.specs.Joins.{SenderJoined}
use Rattle.lq_senders.specs.Senders.{AllOwn, AreDoneSenders, AreReadySenders, AreRunAlone, EachSendsAll, IsDoneSender, IsReadySender, IsSending, SenderAtEnd, SenderStands, SendsAll, after_sending}
use Rattle.lq_senders.specs.Setup.{AreSplitting}
use Rattle.lq_senders.specs.Units.{DevicesStand, DoTell}
use Rattle.lq_senders.specs.Way.{numbers_from}
use Rattle.lq_senders.specs.declared.sender.Progress.{Progress}
use Rattle.lq_senders.specs.declared.sender.Run.{Run}
use Rattle.lq_senders.specs.declared.sender.Sender.{Sender}
use Rattle.lq_senders.specs.Woken.{opens_by}

module _ {D G : Type 0} where
  -- how often the stopped queues are opened after packet n
  abbrev pub opens_in : Run D G → ℕ → ℕ
  opens_in run n = opens_by run.job.openings.now run.job.infos.now n

  -- SEATS

  -- a sender's seats, where its packets below n were sent and the first so many events of the plan done
  abbrev pub SeatsStand : Run D G → ℕ → ℕ → ℕ → List SeatState → Type 0
  SeatsStand run sender count n seats = SenderStands run.job.plan.now run.job.infos.now sender count n run.tables.now seats

  -- they stood where so many events are done, and stand where so many are, at whichever packet
  abbrev pub SeatsGoOn : Run D G → ℕ → ℕ → ℕ → List SeatState → List SeatState → Type 0
  SeatsGoOn run sender before after old new = (n : ℕ) → SeatsStand run sender before n old → SeatsStand run sender after n new

  -- all of the plan's events were done, and all packets sent
  abbrev pub SeatsDone : Run D G → ℕ → List SeatState → Type 0
  SeatsDone run sender seats = SenderAtEnd run.job.plan.now run.job.infos.now sender run.tables.now seats

  -- the sender sent each of its packets, and then made the openings that the run has after it, before its next packet
  abbrev pub SeatsSendAll : Run D G → ℕ → List SeatState → List SeatState → Type 0
  SeatsSendAll run sender old new = SendsAll run.job.infos.now (opens_while_stopped run.job.plan.now) (opens_in run) sender old new

  -- those of the senders from `next` on are still to be split off the first sender's
  abbrev pub SeatsSplit : Run D G → ℕ → List SeatState → Type 0
  SeatsSplit run next seats = AreSplitting run.job.plan.now run.job.infos.now next run.tables.now seats

  -- so many senders are still to be joined into the first one
  abbrev pub SeatsJoined : Run D G → ℕ → List SeatState → Type 0
  SeatsJoined run out seats = SenderJoined run.job.plan.now run.job.infos.now out run.tables.now seats

  -- as the stations of the run of one sender they went from any to these
  abbrev pub SeatsRunAs : Run D G → (List RunningStation → List RunningStation) → List SeatState → List SeatState → Type 0
  SeatsRunAs run step old new = (stations : List RunningStation) → AreRunAlone run.job.plan.now run.job.infos.now old stations → AreRunAlone run.job.plan.now run.job.infos.now new (step stations)

  -- they end with the fates of the run of one sender
  abbrev pub SeatsEndAlone : Run D G → List SeatState → List SeatState → Type 0
  SeatsEndAlone run old new = (from : List RunningStation) → AreRunAlone run.job.plan.now run.job.infos.now old from → HaveFatesAlone new (map (finished run.job.infos.now) from)

  -- THE FIRST SENDER, WITH ITS DEVICES

  -- its stations have the devices that they have after so many events, and the others are its spare ones
  abbrev pub HasDevices : (D → DeviceState) → Run D G → List DeviceState → ℕ → Sender D → Type 0
  HasDevices state run units count sender = DevicesStand run.job.plan.now run.job.infos.now units count sender.seats.items (map state sender.spares.items)

  abbrev pub DevicesGoOn : (D → DeviceState) → Run D G → ℕ → ℕ → Sender D → Sender D → Type 0
  DevicesGoOn state run before after old new = (units : List DeviceState) → HasDevices state run units before old → HasDevices state run units after new

  -- where the devices that swaps bring tell, its seats are the stations of the run of one sender
  abbrev pub RunsAs : (D → DeviceState) → Run D G → ℕ → (List RunningStation → List RunningStation) → Sender D → Sender D → Type 0
  RunsAs state run count step old new = (units : List DeviceState) → HasDevices state run units count old → DoTell run.job.plan.now units → SeatsRunAs run step old.seats.items new.seats.items

  -- where all packets are its own, too, over the whole run
  abbrev pub SendsAllAlone : (D → DeviceState) → Run D G → Sender D → Sender D → Type 0
  SendsAllAlone state run old new = (units : List DeviceState) → HasDevices state run units 0 old → DoTell run.job.plan.now units → AllOwn run.job.infos.now
      → SeatsRunAs run (after_sending run.job.plan.now run.job.infos.now (opens_in run)) old.seats.items new.seats.items

  -- THE RUN OF ONE SENDER

  -- so many events of the plan, from this one on
  abbrev pub events_on : Run D G → ℕ → ℕ → List RunningStation → List RunningStation
  events_on run next count stations = with_events run.job.plan.now run.job.infos.now (numbers_from next count) stations

  -- A SENDER ON ITS WAY

  -- so far it is before packet n, from these seats and spare devices on
  abbrev pub ComesTo : (D → DeviceState) → Run D G → ℕ → ℕ → Progress → List SeatState → List DeviceState → Sender D → Type 0
  ComesTo state run owner n at start brought sender =
      IsSending run.job.plan.now run.job.infos.now (opens_in run) run.tables.now owner n at.sent at.next start brought sender.seats.items (map state sender.spares.items)

  -- THE OTHER SENDERS

  -- the sender at this place among theirs, before the run and after it
  abbrev pub SenderIsReady : Run D G → ℕ → Sender D → Type 0
  SenderIsReady run place sender = IsReadySender run.job.plan.now run.job.infos.now run.tables.now place sender.owner sender.seats.items

  abbrev pub SenderIsDone : Run D G → ℕ → Sender D → Type 0
  SenderIsDone run place sender = IsDoneSender run.job.plan.now run.job.infos.now run.tables.now place sender.owner sender.seats.items

  abbrev pub SendersAreReady : Run D G → List (Sender D) → Type 0
  SendersAreReady run others = AreReadySenders run.job.plan.now run.job.infos.now run.tables.now others

  abbrev pub SendersAreDone : Run D G → List (Sender D) → Type 0
  SendersAreDone run others = AreDoneSenders run.job.plan.now run.job.infos.now run.tables.now others

  abbrev pub SendersSendAll : Run D G → List (Sender D) → List (Sender D) → Type 0
  SendersSendAll run old new = EachSendsAll run.job.infos.now (opens_while_stopped run.job.plan.now) (opens_in run) old new
