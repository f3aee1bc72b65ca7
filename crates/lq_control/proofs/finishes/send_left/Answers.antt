use Rattle.std.proofs.Common.{rules, ◌≡◌, ◌<◌, ◌≤◌, ◌+◌, ◌*◌, ℕ, true, List, [], refl, length, get_or}
use Rattle.std.proofs.Common.{slice_index, slice_get, Option, Some, sym, ap, ◌∙◌, subst, arith}
use Rattle.std.specs.Prelude.{is_some, slice_set}
use Rattle.std.specs.Option.{option_map_or}
use Rattle.std.proofs.lemmas.Option.{slice_get-get_or}
use Rattle.lq_model.specs.Plan.{owner_in, rank_in, station_in}
use Rattle.lq_model.specs.declared.fate.Info.{Info}
use Rattle.lq_table.specs.Views.{View, Setup}
use Rattle.lq_table.specs.Rule.{times}
use Rattle.lq_table.specs.Sees.{view, known, setup}
use Rattle.lq_qdisc.specs.Steps.{TransmitsBy}
use Rattle.lq_control.specs.Finish.{count_below, AreFor, AreTurnsFrom}
use Rattle.lq_qdisc.specs.Seats.{IsTurnOf}
use Rattle.lq_qdisc.specs.Sends.{came_as, trail_with}
use Rattle.lq_qdisc.specs.StepLists.{QueueXmit}
use Rattle.lq_ring.proofs.StepsThen.{makes_none}
use Rattle.lq_control.specs.EndSteps.{IsElsewhere, Transmit}
use Rattle.lq_control.specs.Steps.{Drain}
use Rattle.lq_control.proofs.StepLemmas.{and_then, coming}
use Rattle.lq_control.proofs.EndStepLemmas.{sends_left, sends_none}
use Rattle.lq_control.proofs.FinishLemmas.{in_turn, not_left, turns_elsewhere, turns_past, turns_sent}
use Rattle.lq_control.proofs.FinishLemmas.{sent_by, sent_none, sent_same, sent_then}
use Rattle.lq_control.proofs.finishes.send_left.Given as given
use Rattle.lq_control.proofs.finishes.send_left.Goals as goal

abbrev info_at : List Info → ℕ → Info
info_at infos n = get_or infos n (record { owner = 0; station = 0; band = 0; queue = 0; rank = 0 })

-- What the entry of packet n says in a station that was made for its packets: the packet's station, owner and rank; its owner is
-- a sender whose packets the seat has; and its rank is the number of lower packets of its owner and station.
record IsEntry (k : Setup) (n : ℕ) (v : View) (info : Info) : Type 0 where
  here : slice_get k.infos n ≡ Some info
  station : station_in k.infos n ≡ info.station
  owner : owner_in k.infos n ≡ info.owner
  rank : rank_in k.infos n ≡ info.rank
  sender : info.owner < k.senders
  owned : 0 < times info.owner v.share.owners
  ranked : info.rank ≡ count_below k.infos info.owner info.station n

entry : {k : Setup} {n : ℕ} {v : View} {infos : List Info}
    → infos ≡ k.infos → n < length k.infos → AreFor k v → IsEntry k n v (info_at infos n)
entry {k} {n} {v} {infos} read within made =
    let info = info_at infos n in
    let here : slice_get k.infos n ≡ Some info =
    ap (λ (xs : List Info). slice_get xs n) (sym read)
    ∙ slice_get-get_or infos n (record { owner = 0; station = 0; band = 0; queue = 0; rank = 0 })
    (subst (λ (xs : List Info). n < length xs) (sym read) within) in
    let owner : owner_in k.infos n ≡ info.owner = ap (λ (o : Option Info). option_map_or (λ (i : Info). i.owner) o 0) here in
    let sender : info.owner < k.senders = subst (λ (o : ℕ). o < k.senders) owner (made.infos.owners n within) in record {
      here = here;
      station = ap (λ (o : Option Info). option_map_or (λ (i : Info). i.station) o 0) here;
      owner = owner;
      rank = ap (λ (o : Option Info). option_map_or (λ (i : Info). i.rank) o 0) here;
      sender = sender;
      owned = made.owners info.owner sender;
      ranked = made.ranks n info here;
    }

-- where it is of another station
pub returns-then-info-number : goal.returns-then-info-number
returns-then-info-number g c = record {
  kept = search rules;
  at = search rules;
  raised = search rules;
  turns =
      let e = entry c.infos.ensures c.requires.packet c.requires.may.made in
      turns_elsewhere (setup c.args.shared.now) c.args.n _ e.here (view c.args.cpu.now).turns
      (λ is. c.if-info-number.true (is ∙ sym c.number.ensures)) c.requires.may.turns;
  sent = let v = view c.args.cpu.now in sent_same (setup c.args.shared.now) v v refl;
  done = search rules;
  makes =
      let e = entry c.infos.ensures c.requires.packet c.requires.may.made in
      ([], IsElsewhere (λ is. c.if-info-number.true (sym e.station ∙ is ∙ sym c.number.ensures)), makes_none c.args.cpu.now);
}

-- where it is of this station
pub load_turn-requires-clause-owner : goal.load_turn-requires-clause-owner
load_turn-requires-clause-owner g c _ _ = (entry c.infos.ensures c.requires.packet c.requires.may.made).sender

pub transmit-sending-requires-clause-packet : goal.transmit-sending-requires-clause-packet
transmit-sending-requires-clause-packet g c _ _ =
    let n = c.args.n in let made = c.requires.may.made.infos in let e = entry c.infos.ensures c.requires.packet c.requires.may.made in
    let own = e.station ∙ (c.if-info-number.false ∙ c.number.ensures) in
    ((c.requires.packet, made.queues_are n c.requires.packet own), own, made.bands n c.requires.packet)

pub transmit-sending-requires-clause-owner : goal.transmit-sending-requires-clause-owner
transmit-sending-requires-clause-owner g c _ _ =
    let owner = owner_in (setup c.args.shared.now).infos c.args.n in let sender = c.requires.may.made.infos.owners c.args.n c.requires.packet in
    (subst (λ (x : View). 0 < times owner x.share.owners) (sym c.load_turn.ensures.makes.knows) (c.requires.may.made.owners owner sender), sender)

-- What is known where it was left: its turn is due, so it was transmitted in turn.
module _ (g : given.Over) (c : goal.After-drain g) where
  abbrev k : Setup
  k = setup c.args.shared.now

  abbrev info : Info
  info = info_at c.infos.result.now c.args.n

  abbrev before : View
  before = view c.args.cpu.now

  is : IsEntry k c.args.n before info
  is = entry c.infos.ensures c.requires.packet c.requires.may.made

  own : info.station ≡ k.station
  own = c.if-info-number.false ∙ c.number.ensures

  left : slice_index before.turns info.owner ≤ 2 * info.rank
  left = let word = c.load_turn.ensures.makes.told.0 is.owned in let test = c.if-load_turn-info.true in omega arith

  due : slice_index before.turns info.owner ≡ 2 * info.rank
  due = in_turn k c.args.n info is.here own is.ranked is.sender before.turns c.requires.may.turns left

  turn_is : IsTurnOf c.args.shared.now c.args.n c.load_turn.new.cpu
  turn_is =
      let same = c.load_turn.ensures.makes.knows in let twice = ap (λ (r : ℕ). 2 * r) is.rank in
      (λ j. slice_index (same j).turns (is.owner j)) ∙ (due ∙ sym twice)

  sent : TransmitsBy k c.args.n c.transmit-sending.result (known c.load_turn.new.cpu) (known c.transmit-sending.new.cpu)
  sent = c.transmit-sending.ensures.in_turn turn_is

  sent_word : (view c.transmit-sending.new.cpu).turns ≡ slice_set before.turns info.owner (2 * info.rank + 2)
  sent_word = sent.turns ∙ (λ j. slice_set (c.load_turn.ensures.makes.knows j).turns (is.owner j) (2 * is.rank j + 2))

pub returns-then-load_turn-info : goal.returns-then-load_turn-info
returns-then-load_turn-info g c = record {
  kept = search rules;
  at = search rules;
  raised = search rules;
  turns =
      let e = is g c in
      turns_sent (k g c) c.args.n _ e.here (own g c) e.ranked e.sender (before g c).turns (view c.drain.new.cpu).turns c.requires.may.turns
      (due g c) (c.drain.ensures.served.kept.turns ∙ sent_word g c);
  sent =
      let s = k g c in let v0 = before g c in let v1 = view c.load_turn.new.cpu in let v2 = view c.transmit-sending.new.cpu in
      let v3 = view c.drain.new.cpu in let same = c.load_turn.ensures.makes.knows in let served = c.drain.ensures.served in
      let about = ap (λ (x : View). x.share.about) same ∙ c.requires.seat.2 in
      let by = sent_by s c.args.n c.transmit-sending.result v1 v2 about (sent g c).trail c.transmit-sending.ensures.fates in
      sent_then s v0 v1 v3 (sent_same s v0 v1 same) (sent_then s v1 v2 v3 by (sent_none s v2 v3 served.trail served.fates));
  done = λ done. let e = is g c in let low = left g c in
      let past = not_left (k g c) c.args.n (info g c) e.here (own g c) e.ranked e.sender (before g c).turns done in
      absurd (omega arith);
  makes =
      let e = is g c in let loaded = c.load_turn.ensures in let answer = c.transmit-sending.result in let s = sent g c in
      let send = coming (λ v w. (is_some (came_as (k g c).infos c.args.n answer) ≡ true) × (w.turns ≡ slice_set v.turns (owner_in (k g c).infos c.args.n) (2 * rank_in (k g c).infos c.args.n + 2)) × (w.trail ≡ trail_with (came_as (k g c).infos c.args.n answer) v))
      (QueueXmit (k g c) c.args.n answer) (c.transmit-sending.ensures.makes (turn_is g c)) (s.came, s.turns, s.trail) in
      sends_left (k g c) c.args.n c.load_turn.result _ e.here (own g c) answer (let test = c.if-load_turn-info.true in let r = e.rank in omega arith) loaded.makes
      (and_then (Transmit (k g c) c.args.n answer) (Drain (k g c)) send c.drain.ensures.makes);
}

-- where it was transmitted before
pub returns-else-load_turn-info : goal.returns-else-load_turn-info
returns-else-load_turn-info g c = record {
  kept = search rules;
  at = search rules;
  raised = search rules;
  turns =
      let s = setup c.args.shared.now in let v = view c.args.cpu.now in let n = c.args.n in
      let e = entry c.infos.ensures c.requires.packet c.requires.may.made in let word = c.load_turn.ensures.makes.told.0 e.owned in
      subst (λ (x : View). AreTurnsFrom s (n + 1) x.turns) (sym c.load_turn.ensures.makes.knows)
      (turns_past s n _ e.here (c.if-info-number.false ∙ c.number.ensures) e.ranked e.sender v.turns c.requires.may.turns
      (let test = c.if-load_turn-info.false in omega arith));
  sent =
      sent_same (setup c.args.shared.now) (view c.args.cpu.now) (view c.load_turn.new.cpu) c.load_turn.ensures.makes.knows;
  done = search rules;
  makes =
      let e = entry c.infos.ensures c.requires.packet c.requires.may.made in
      sends_none (setup c.args.shared.now) c.args.n c.load_turn.result _ e.here (c.if-info-number.false ∙ c.number.ensures)
      (let test = c.if-load_turn-info.false in let r = e.rank in omega arith) c.load_turn.ensures.makes;
}
