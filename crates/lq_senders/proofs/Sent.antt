-- A packet of a sender was sent, or passed the sender by.
use Rattle.std.proofs.Common.{◌≡◌, ◌≢◌, ℕ, ◌+◌, ◌*◌, ◌&&◌, ◌==◌, Bool, true, false, List, ◌⊎◌, inl, inr, length, Some, refl, sym, ap, ◌∙◌, subst, slice_get, arith, eq-eqb, get_or-set_same, length-set}
use Rattle.std.specs.Prelude.{slice_set, slice_index}
use Rattle.std.specs.Option.{option_map_or}
use Rattle.std.proofs.lemmas.Bool.{ne_eqb}
use Rattle.std.proofs.lemmas.List.Sums.{count_by_more_yes, count_by_more_no}
use Rattle.std.proofs.lemmas.Option.{get_or_from_slice_get, same_Some, slice_get_within}
use Rattle.lq_account_laws.specs.Progress.{start_of}
use Rattle.lq_control.specs.Finish.{AreRanks, count_below, is_packet_of}
use Rattle.lq_model.specs.Alone.{RunningStation, bypass_of, brought_in, changed_where, served, with_packet}
use Rattle.lq_model.specs.Plan.{Plan, owner_in, rank_in, station_in}
use Rattle.lq_model.specs.declared.fate.Info.{Info}
use Rattle.lq_qdisc.specs.Alone.{Does}
use Rattle.lq_seat.specs.Calls.{SendsPacket}
use Rattle.lq_seat.specs.State.{SeatState, Setup, TableState, solo_of}
use Rattle.lq_senders.specs.Senders.{StandsInRun, StandsAt, SenderStands, AreRunAlone}
use Rattle.lq_senders.specs.Way.{IsSplitAt}
use Rattle.lq_senders.proofs.Seats.{each-set, here-kept, made-of, own-step, owner-kept, runs-set, seat-kept, sends-keep}
use Rattle.lq_senders.proofs.Ways.{way-packet}

-- COUNTS

pub owner-is : (infos : List Info) (n : ℕ) (info : Info) → slice_get infos n ≡ Some info → owner_in infos n ≡ info.owner
owner-is infos n info there = ap (λ o. option_map_or (λ (i : Info). i.owner) o 0) there

pub station-is : (infos : List Info) (n : ℕ) (info : Info) → slice_get infos n ≡ Some info → station_in infos n ≡ info.station
station-is infos n info there = ap (λ o. option_map_or (λ (i : Info). i.station) o 0) there

both-true : (a b : Bool) → a ≡ true → b ≡ true → (a && b) ≡ true
both-true true true x y = refl
both-true false b x y = absurd cc
both-true true false x y = absurd cc

one-false : (a b : Bool) → (a ≡ false) ⊎ (b ≡ false) → (a && b) ≡ false
one-false false b h = refl
one-false true false h = refl
one-false true true (inl h) = absurd cc
one-false true true (inr h) = absurd cc

pub count-own : (infos : List Info) (n : ℕ) (info : Info) (sender station : ℕ) → slice_get infos n ≡ Some info → info.owner ≡ sender → info.station ≡ station
    → count_below infos sender station (n + 1) ≡ count_below infos sender station n + 1
count-own infos n info sender station there owner at = count_by_more_yes (is_packet_of sender station) infos n info (slice_get_within infos n info there)
    (ap (is_packet_of sender station) (get_or_from_slice_get infos n info info there)
    ∙ both-true (info.owner == sender) (info.station == station) (eq-eqb info.owner sender owner) (eq-eqb info.station station at))

pub count-other : (infos : List Info) (n : ℕ) (info : Info) (sender station : ℕ) → slice_get infos n ≡ Some info → (info.owner ≢ sender) ⊎ (info.station ≢ station)
    → count_below infos sender station (n + 1) ≡ count_below infos sender station n
count-other infos n info sender station there other = count_by_more_no (is_packet_of sender station) infos n info (slice_get_within infos n info there)
    (ap (is_packet_of sender station) (get_or_from_slice_get infos n info info there)
    ∙ one-false (info.owner == sender) (info.station == station) (elim other [ inl o ↦ inl (ne_eqb info.owner sender o) | inr s ↦ inr (ne_eqb info.station station s) ]))

-- ONE SEAT

pub stands-past : (plan : Plan) (infos : List Info) (sender station count n : ℕ) (info : Info) (v : SeatState) → slice_get infos n ≡ Some info → (info.owner ≢ sender) ⊎ (info.station ≢ station)
    → StandsInRun plan infos sender station count n v → StandsInRun plan infos sender station count (n + 1) v
stands-past plan infos sender station count n info v there other stands = record {
  is_sender = stands.is_sender;
  owner = stands.owner;
  wide = stands.wide;
  turn = stands.turn ∙ ap (λ k. 2 * k) (sym (count-other infos n info sender station there other));
  raised = stands.raised;
  way = stands.way;
}

-- a packet's rank counts its owner's lower packets of its station
pub rank-is : (infos : List Info) (n : ℕ) (info : Info) → AreRanks infos → slice_get infos n ≡ Some info → rank_in infos n ≡ count_below infos info.owner info.station n
rank-is infos n info ranks there = ap (λ o. option_map_or (λ (i : Info). i.rank) o 0) there ∙ ranks n info there

pub stands-sent : (plan : Plan) (infos : List Info) (sender station count n : ℕ) (info : Info) (v w : SeatState) → v.made.infos ≡ infos → AreRanks infos → slice_get infos n ≡ Some info
    → info.owner ≡ sender → info.station ≡ station → (sender ≡ 0 → IsSplitAt plan count n)
    → SendsPacket n v w → StandsInRun plan infos sender station count n v → StandsInRun plan infos sender station count (n + 1) w
stands-sent plan infos sender station count n info v w same ranks there owner at split sends stands = record {
  is_sender = stands.is_sender;
  owner = owner-kept sender v w (seat-kept v w (sends-keep n v w sends)) stands.owner;
  wide = ap length turns ∙ (length-set v.turns sender (2 * rank + 2) ∙ stands.wide);
  turn = ap (λ l. slice_index l sender) turns ∙ (get_or-set_same v.turns sender (2 * rank + 2) 0 (let wide = stands.wide in let is = stands.is_sender in omega arith)
      ∙ (let more = count-own infos n info sender station there owner at in omega arith));
  raised = ap (λ (s : SeatState). s.raised) sends.is;
  way = λ z. let way = stands.way z in (ap (λ (s : SeatState). s.first) sends.is ∙ way.0, way-packet plan station count n v.trail w.trail way.1 (split z) (sends.came way.0 (owner-of ∙ z)));
}
  where
    rank : ℕ
    rank = count_below infos sender station n

    owner-of : owner_in v.made.infos n ≡ sender
    owner-of = ap (λ (is : List Info). owner_in is n) same ∙ (owner-is infos n info there ∙ owner)

    rank-of : rank_in v.made.infos n ≡ rank
    rank-of = ap (λ (is : List Info). rank_in is n) same ∙ (rank-is infos n info ranks there ∙ (ap (λ o. count_below infos o info.station n) owner ∙ ap (λ s. count_below infos sender s n) at))

    turns : w.turns ≡ slice_set v.turns sender (2 * rank + 2)
    turns = ap (λ (s : SeatState). s.turns) sends.is ∙ (ap (λ (i : ℕ). slice_set v.turns i (2 * rank_in v.made.infos n + 2)) owner-of ∙ ap (λ (r : ℕ). slice_set v.turns sender (2 * r + 2)) rank-of)

-- ALL SEATS

pub sender-past : (plan : Plan) (infos : List Info) (sender count n : ℕ) (tables : List TableState) (seats : List SeatState) (info : Info) → slice_get infos n ≡ Some info → info.owner ≢ sender
    → SenderStands plan infos sender count n tables seats → SenderStands plan infos sender count (n + 1) tables seats
sender-past plan infos sender count n tables seats info there other standing = record {
  long = standing.long;
  all = standing.all;
  each = λ j t c at at'. let was = standing.each j t c at at' in
      record { table = was.table; seat = was.seat; stands = stands-past plan infos sender j count n info c there (inl other) was.stands };
}

pub sender-sent : (plan : Plan) (infos : List Info) (sender count n : ℕ) (tables : List TableState) (seats : List SeatState) (info : Info) (t : TableState) (c c' : SeatState) → AreRanks infos → slice_get infos n ≡ Some info
    → info.owner ≡ sender → slice_get tables info.station ≡ Some t → slice_get seats info.station ≡ Some c → (sender ≡ 0 → IsSplitAt plan count n)
    → SendsPacket n c c'
    → SenderStands plan infos sender count n tables seats → SenderStands plan infos sender count (n + 1) tables (slice_set seats info.station c')
sender-sent plan infos sender count n tables seats info t c c' ranks there owner at-t at-c split sends standing = record {
  long = length-set seats info.station c' ∙ standing.long;
  all = standing.all;
  each = stands;
}
  where
    was : StandsAt plan infos sender count n info.station t c
    was = standing.each info.station t c at-t at-c

    stands : (j : ℕ) (u : TableState) (d : SeatState) → slice_get tables j ≡ Some u → slice_get (slice_set seats info.station c') j ≡ Some d → StandsAt plan infos sender count (n + 1) j u d
    stands j u d at at' = each-set (λ (j : ℕ) (x : SeatState). (u : TableState) → slice_get tables j ≡ Some u → StandsAt plan infos sender count (n + 1) j u x) seats info.station c' (slice_get_within seats info.station c at-c)
        (λ u at. subst (λ (z : TableState). StandsAt plan infos sender count (n + 1) info.station z c') (same_Some t u (sym at-t ∙ at)) (record {
          table = was.table;
          seat = here-kept t c c' (seat-kept c c' (sends-keep n c c' sends)) was.seat;
          stands = stands-sent plan infos sender info.station count n info c c' (ap (λ (k : Setup). k.infos) (made-of plan infos info.station t was.table c was.seat)) ranks there owner refl split sends was.stands;
        }))
        (λ j x other at u at'. let was = standing.each j u x at' at in record { table = was.table; seat = was.seat; stands = stands-past plan infos sender j count n info x there (inr (λ same. other (sym same))) was.stands })
        j d at' u at

pub runs-sent : (plan : Plan) (infos : List Info) (sender count n : ℕ) (tables : List TableState) (seats : List SeatState) (stations : List RunningStation) (info : Info) (t : TableState) (c c' : SeatState) → slice_get infos n ≡ Some info
    → slice_get tables info.station ≡ Some t → slice_get seats info.station ≡ Some c → SendsPacket n c c'
    → SenderStands plan infos sender count n tables seats → AreRunAlone plan infos seats stations → AreRunAlone plan infos (slice_set seats info.station c') (with_packet plan infos n stations)
runs-sent plan infos sender count n tables seats stations info t c c' there at-t at-c sends standing runs =
    let own : Does infos (start_of plan info.station) (λ s. served infos (brought_in infos (bypass_of plan info.station) n s)) (solo_of c) (solo_of c') =
    let was = standing.each info.station t c at-t at-c in
    own-step plan infos info.station (λ k s. served k.infos (brought_in k.infos k.bypass n s)) c c' (made-of plan infos info.station t was.table c was.seat) sends.alone in
    subst (λ (k : ℕ). AreRunAlone plan infos (slice_set seats info.station c') (changed_where (λ i. i == k) (λ s. served infos (brought_in infos (bypass_of plan k) n s)) stations)) (sym (station-is infos n info there))
    (runs-set plan infos seats stations info.station c c' (λ s. served infos (brought_in infos (bypass_of plan info.station) n s)) at-c own runs)
