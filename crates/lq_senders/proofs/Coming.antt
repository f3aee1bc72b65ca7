-- A sender comes to a packet of its own: the events before it, the packet, and the openings after it.
use Rattle.std.proofs.Common.{◌≡◌, ◌≢◌, ℕ, ◌+◌, ◌*◌, ◌<◌, ◌≤◌, List, length, Some, inl, inr, refl, sym, ap, ◌∙◌, subst, slice_get, arith}
use Rattle.std.specs.Prelude.{slice_index, slice_index_or, slice_set}
use Rattle.std.proofs.lemmas.Bool.{cases_order}
use Rattle.std.proofs.lemmas.Option.{slice_get_within}
use Rattle.lq_control.specs.Finish.{count_below}
use Rattle.lq_model.specs.Alone.{RunningStation, with_packet}
use Rattle.lq_model.specs.Device.{DeviceState}
use Rattle.lq_model.specs.Plan.{Plan, station_in}
use Rattle.lq_model.specs.declared.fate.Info.{Info}
use Rattle.lq_plan.specs.Packets.{IsInfoWithin}
use Rattle.lq_seat.specs.Calls.{MaySendNext, SendsPacket}
use Rattle.lq_seat.specs.State.{SeatState, Setup, TableState, times}
use Rattle.lq_senders.specs.Senders.{AreRunAlone, IsSendable, IsSending, KeepAll, SenderStands, SentPacket, StandsAt}
use Rattle.lq_senders.specs.Way.{IsSplitAt, StandAfter, StandBefore, StandEarlier}
use Rattle.lq_senders.proofs.Calls.{called-keep}
use Rattle.lq_senders.proofs.Devices.{devices-kept}
use Rattle.lq_senders.proofs.OpenedTimes.{AreOpenedAfter, turn-ended}
use Rattle.lq_senders.proofs.Seats.{all-at, keep-set, made-of, seat-at, seats-kept, sends-keep, table-at}
use Rattle.lq_senders.proofs.Sending.{sending-own}
use Rattle.lq_senders.proofs.Sent.{sender-sent, owner-is, rank-is, runs-sent, station-is}
use Rattle.lq_senders.proofs.Turns.{FirstEvents, keep-on, no-events-yet, seats-on}

-- THE EVENTS BEFORE THE PACKET

-- a sender that was at event `next` is at event e, before packet n
pub record EventsDone (plan : Plan) (infos : List Info) (tables : List TableState) (sender next n e : ℕ) (start : List SeatState) (brought : List DeviceState) (now : List SeatState) (spares : List DeviceState) : Type 0 where
  pub order : next ≤ e
  pub within : e ≤ length plan.events
  pub left : sender ≡ 0 → StandAfter plan e n
  pub first : FirstEvents plan infos tables next n e start brought now spares
  pub stands : SenderStands plan infos sender e n tables now
  pub others : sender ≢ 0 → now ≡ start

pub none-done : (plan : Plan) (infos : List Info) (tables : List TableState) (sender next n : ℕ) (seats : List SeatState) (spares : List DeviceState)
    → next ≤ length plan.events → (sender ≡ 0 → StandAfter plan next n) → SenderStands plan infos sender next n tables seats → EventsDone plan infos tables sender next n next seats spares seats spares
none-done plan infos tables sender next n seats spares within left standing = record {
  order = omega arith;
  within = within;
  left = left;
  first = no-events-yet plan infos tables next n seats spares;
  stands = standing;
  others = λ _. refl;
}

-- they are the first sender's
pub some-done : (plan : Plan) (infos : List Info) (tables : List TableState) (sender next n e : ℕ) (start : List SeatState) (brought : List DeviceState) (now : List SeatState) (spares : List DeviceState)
    → sender ≡ 0 → next ≤ e → e ≤ length plan.events → StandAfter plan e n → FirstEvents plan infos tables next n e start brought now spares → SenderStands plan infos sender next n tables start
    → EventsDone plan infos tables sender next n e start brought now spares
some-done plan infos tables sender next n e start brought now spares zero_th order within left first standing = record {
  order = order;
  within = within;
  left = λ _. left;
  first = first;
  stands = subst (λ (s : ℕ). SenderStands plan infos s e n tables now) (sym zero_th)
      (first.stands n (subst (λ (s : ℕ). SenderStands plan infos s next n tables start) zero_th standing));
  others = λ other. absurd (other zero_th);
}

-- the earlier events stood before a lower packet
pub all-before : (plan : Plan) (infos : List Info) (tables : List TableState) (sender next n e : ℕ) (start : List SeatState) (brought : List DeviceState) (now : List SeatState) (spares : List DeviceState)
    → StandEarlier plan next n → EventsDone plan infos tables sender next n e start brought now spares → StandBefore plan e n
all-before plan infos tables sender next n e start brought now spares earlier events k event below there = elim (cases_order k next) [
  | inl same ↦ events.first.done k event (omega arith) below there
  | inr (inl less) ↦ (let lt = earlier k event less there in omega arith)
  | inr (inr more) ↦ events.first.done k event (omega arith) below there
]

-- THE PACKET

-- a sender, before which so many events were done, sent packet n
pub record PacketSent (plan : Plan) (infos : List Info) (tables : List TableState) (sender count n : ℕ) (old new : List SeatState) : Type 0 where
  pub stands : SenderStands plan infos sender count (n + 1) tables new
  pub keeps : KeepAll old new
  pub packet : SentPacket infos n old new
  pub runs : (stations : List RunningStation) → AreRunAlone plan infos old stations → AreRunAlone plan infos new (with_packet plan infos n stations)

-- the sender's seat at its packet's station, before the packet is sent and once it is
pub record SeatOfPacket (plan : Plan) (infos : List Info) (tables : List TableState) (sender count n : ℕ) (seats : List SeatState) (info : Info) (t : TableState) (c : SeatState) : Type 0 where
  pub stands : StandsAt plan infos sender count n info.station t c
  pub next : MaySendNext n c
  pub sent : (c' : SeatState) → (sender ≡ 0 → IsSplitAt plan count n) → SendsPacket n c c' → PacketSent plan infos tables sender count n seats (slice_set seats info.station c')

module _ (plan : Plan) (infos : List Info) (sendable : IsSendable plan infos) (tables : List TableState) (sender count n : ℕ) (seats : List SeatState) (standing : SenderStands plan infos sender count n tables seats)
    (info : Info) (there : slice_get infos n ≡ Some info) (own : info.owner ≡ sender) (t : TableState) (is-t : t ≡ slice_index_or tables info.station t) (c : SeatState) (is-c : c ≡ slice_index_or seats info.station c) where
  within : info.station < length plan.stations
  within = (all-at (IsInfoWithin plan) infos n info sendable.within there).station

  at-t : slice_get tables info.station ≡ Some t
  at-t = table-at plan infos sender count n tables seats standing info.station t within is-t

  at-c : slice_get seats info.station ≡ Some c
  at-c = seat-at plan infos sender count n tables seats standing info.station c within is-c

  here : StandsAt plan infos sender count n info.station t c
  here = standing.each info.station t c at-t at-c

  may-send : MaySendNext n c
  may-send =
      let owner = owner-is infos n info there ∙ own in
      let rank = ap (λ (o : ℕ). 2 * count_below infos o info.station n) (sym own) ∙ ap (λ (r : ℕ). 2 * r) (sym (rank-is infos n info sendable.ranks there)) in
      subst (λ (k : Setup). MaySendNext n (record c { made = k })) (sym (made-of plan infos info.station t here.table c here.seat)) (record {
        within = slice_get_within infos n info there;
        station = station-is infos n info there;
        own = subst (λ (o : ℕ). 0 < times o c.owners) (sym owner) here.stands.owner;
        turn = ap (λ (o : ℕ). slice_index c.turns o) owner ∙ (here.stands.turn ∙ rank);
      })

  packet-sent : (c' : SeatState) → (sender ≡ 0 → IsSplitAt plan count n) → SendsPacket n c c' → PacketSent plan infos tables sender count n seats (slice_set seats info.station c')
  packet-sent c' split sends = record {
    stands = sender-sent plan infos sender count n tables seats info t c c' sendable.ranks there own at-t at-c split sends standing;
    keeps = keep-set seats info.station c c' at-c (sends-keep n c c' sends);
    packet = let at : info.station ≡ station_in infos n = sym (station-is infos n info there) in record {
      before = c;
      after = c';
      there = subst (λ (j : ℕ). slice_get seats j ≡ Some c) at at-c;
      sends = sends;
      laid = ap (λ (j : ℕ). slice_set seats j c') at;
    };
    runs = λ stations runs. runs-sent plan infos sender count n tables seats stations info t c c' there at-t at-c sends standing runs;
  }

  pub seat-of-packet : SeatOfPacket plan infos tables sender count n seats info t c
  seat-of-packet = record { stands = here; next = may-send; sent = packet-sent }

-- ALL OF IT

-- the events before packet n were done, the packet sent, and the queues opened as often as they are after it
pub sending-on : (plan : Plan) (infos : List Info) (opens : ℕ → ℕ) (tables : List TableState) (sender n k next e : ℕ) (start : List SeatState) (brought : List DeviceState) (old : List SeatState) (were : List DeviceState)
    (ready : List SeatState) (spares : List DeviceState) (sent new : List SeatState) (info : Info) → slice_get infos n ≡ Some info → info.owner ≡ sender
    → EventsDone plan infos tables sender next n e old were ready spares → PacketSent plan infos tables sender e n ready sent → AreOpenedAfter plan infos tables (opens n) sent new
    → IsSending plan infos opens tables sender n k next start brought old were → IsSending plan infos opens tables sender (n + 1) (k + 1) e start brought new spares
sending-on plan infos opens tables sender n k next e start brought old were ready spares sent new info there own events packet opened was =
    let keeps = keep-on ready sent new packet.keeps opened.leaves.keeps in
    sending-own plan infos opens tables sender n k next e start brought old were new spares events.order events.within
    (all-before plan infos tables sender next n e old were ready spares was.earlier events) events.left
    (opened.leaves.stands sender e (n + 1) packet.stands)
    (seats-on old ready new (called-keep old ready events.first.calls) (seats-kept ready new keeps)) info there own
    (record { ready = ready; sent = sent; events = (events.first.calls, events.others); packet = packet.packet; opened = opened.opened })
    (λ units stand. devices-kept plan infos units e ready new spares keeps (events.first.devices units stand))
    (λ units stand tell stations runs. turn-ended plan infos tables sender e (n + 1) (opens n) sent new packet.stands opened.leaves _ (packet.runs _ (events.first.runs units stand tell stations runs)))
    was
