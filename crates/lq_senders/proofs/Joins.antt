-- Seats of several senders become one.
use Rattle.std.proofs.Common.{◌≡◌, ◌≢◌, ℕ, suc, ◌+◌, ◌*◌, ◌<◌, ◌≤◌, List, [], ◌∷◌, ◌++◌, ◌⊎◌, inl, inr, length, Some, refl, sym, ap, ◌∙◌, subst, slice_get, arith, length-set}
use Rattle.std.specs.Prelude.{slice_set, slice_index}
use Rattle.std.proofs.lemmas.Option.{same_Some, slice_get_within}
use Rattle.std.proofs.lemmas.Bool.{cases_order}
use Rattle.std.proofs.lemmas.List.{get_or-set_same, get_or-set_other}
use Rattle.lq_account_laws.proofs.Lists.{get-push-old, get-push-new}
use Rattle.lq_band_laws.proofs.Times.{times_append}
use Rattle.lq_control.specs.Finish.{count_all, count_below}
use Rattle.lq_model.specs.Plan.{Plan}
use Rattle.lq_model.specs.declared.fate.Info.{Info}
use Rattle.lq_seat.specs.Calls.{IsBeside, Joins, with_turns}
use Rattle.lq_seat.specs.State.{SeatState, TableState, times}
use Rattle.lq_senders.specs.Joins.{AreFirst, IsOtherDone, IsTakenIn, Joined, JoinedAt, JoinsDown, SenderJoined}
use Rattle.lq_senders.specs.Senders.{IsDoneSender, KeepSeats, SenderAtEnd, StandsInRun}
use Rattle.lq_senders.specs.Units.{SameDevices}
use Rattle.lq_senders.proofs.Lists.{take-all}
use Rattle.lq_senders.proofs.Seats.{each-set}
use Rattle.lq_senders.proofs.Turns.{some-there}

-- ONE SEAT

-- after its last packet a sender has sent all of its own
all-counted : (infos : List Info) (owner station : ℕ) → count_below infos owner station (length infos) ≡ count_all infos owner station
all-counted infos owner station = ap (λ l. count_all l owner station) (take-all infos)

done-all : (plan : Plan) (infos : List Info) (owner station count : ℕ) (v : SeatState) → StandsInRun plan infos owner station count (length infos) v → slice_index v.turns owner ≡ 2 * count_all infos owner station
done-all plan infos owner station count v stands = stands.turn ∙ ap (λ k. 2 * k) (all-counted infos owner station)

-- the owner that is taken in now, or one that was before
taken-cases : (plan : Plan) (place owner : ℕ) → IsTakenIn plan place owner → (owner ≡ place + 1) ⊎ IsTakenIn plan (place + 1) owner
taken-cases plan place owner (below, inl none) = inr (below, inl none)
taken-cases plan place owner (below, inr above) = elim (cases_order owner (place + 1)) [
  | inl same ↦ inl same
  | inr (inl less) ↦ absurd (omega arith)
  | inr (inr more) ↦ inr (below, inr (omega arith))
]

not-same : (plan : Plan) (place owner : ℕ) → IsTakenIn plan (place + 1) owner → owner ≢ place + 1
not-same plan place owner (below, inl none) same = absurd (omega arith)
not-same plan place owner (below, inr above) same = absurd (omega arith)

module _ (plan : Plan) (infos : List Info) (station place : ℕ) (v w : SeatState) (was : Joined plan infos station (place + 1) v) (other : StandsInRun plan infos (place + 1) station (length plan.events) (length infos) w)
    (one : w.shares ≡ 1) (owned : w.owners ≡ (place + 1) ∷ []) where
  turns-are : with_turns w.owners w.turns v.turns ≡ slice_set v.turns (place + 1) (slice_index w.turns (place + 1))
  turns-are = ap (λ (os : List ℕ). with_turns os w.turns v.turns) owned

  turn-at : (owner : ℕ) → IsTakenIn plan place owner → slice_index (slice_set v.turns (place + 1) (slice_index w.turns (place + 1))) owner ≡ 2 * count_all infos owner station
  turn-at owner taken = elim (taken-cases plan place owner taken) [
    | inl same ↦
        subst (λ (o : ℕ). slice_index (slice_set v.turns (place + 1) (slice_index w.turns (place + 1))) o ≡ 2 * count_all infos o station) (sym same)
        (get_or-set_same v.turns (place + 1) (slice_index w.turns (place + 1)) 0 (let wide = was.wide in let below = other.is_sender in omega arith) ∙ done-all plan infos (place + 1) station (length plan.events) w other)
    | inr before ↦ get_or-set_other v.turns (place + 1) owner (slice_index w.turns (place + 1)) 0 (not-same plan place owner before) ∙ was.done owner before
  ]

  owned-by : (owner : ℕ) → IsTakenIn plan place owner → 0 < times owner (v.owners ++ w.owners)
  owned-by owner taken = elim (taken-cases plan place owner taken) [
    | inl same ↦ (let both = times_append owner v.owners w.owners in let own = other.owner in
        let here : 0 < times owner w.owners = subst (λ (o : ℕ). 0 < times o w.owners) (sym same) own in omega arith)
    | inr before ↦ (let both = times_append owner v.owners w.owners in let own = was.owners owner before in omega arith)
  ]

  joined-one : (x : SeatState) → Joins v w x → Joined plan infos station place x
  joined-one x joins = subst (Joined plan infos station place) (sym joins) (record {
    shares = let a = was.shares in let b = one in omega arith;
    told = refl;
    first = was.first;
    raised = was.raised;
    wide = ap length turns-are ∙ (length-set v.turns (place + 1) (slice_index w.turns (place + 1)) ∙ was.wide);
    owners = owned-by;
    done = λ owner taken. ap (λ (ts : List ℕ). slice_index ts owner) turns-are ∙ turn-at owner taken;
    way = was.way;
  })

-- ALL SEATS

pub joins-start : (plan : Plan) (infos : List Info) (place owner : ℕ) (tables : List TableState) (seats others : List SeatState) → SenderJoined plan infos (place + 1) tables seats → IsDoneSender plan infos tables place owner others
    → (count : ℕ) → length others ≡ count → JoinsDown plan infos place count tables seats others
joins-start plan infos place owner tables seats others first done count so_many = record {
  long = first.long;
  all = first.all;
  left = so_many;
  below = let same = done.stands.long in omega arith;
  joined = λ j t c above at at'. absurd (let same = done.stands.long in let within = slice_get_within tables j t at in omega arith);
  ahead = λ j t c below at at'. first.each j t c at at';
  others = λ j t c at at'.
      let own = done.stands.each j t c at at' in let one = done.others j c at' in
      subst (λ (o : ℕ). IsOtherDone plan infos o j t c) done.owner_is (record { seat = own.seat; stands = own.stands; shares = one.0; owners = one.1; first = one.2 });
}

pub joins-end : (plan : Plan) (infos : List Info) (place : ℕ) (tables : List TableState) (seats others : List SeatState) → JoinsDown plan infos place 0 tables seats others → SenderJoined plan infos place tables seats
joins-end plan infos place tables seats others down = record { long = down.long; all = down.all; each = λ j t c at at'. down.joined j t c (omega arith) at at' }

-- it may be joined into the first sender's
pub beside : (plan : Plan) (infos : List Info) (place n : ℕ) (t : TableState) (d c : SeatState) → JoinedAt plan infos (place + 1) n t d → IsOtherDone plan infos (place + 1) n t c → IsBeside d c
beside plan infos place n t d c first other = record {
  table = other.seat.table ∙ sym first.seat.table;
  made = other.seat.made ∙ sym first.seat.made;
  first = other.first;
  raised = other.stands.raised;
}

-- the seat that is taken in next
pub other-next : (plan : Plan) (infos : List Info) (place n : ℕ) (tables : List TableState) (now all rest : List SeatState) (t : TableState) (c : SeatState) → all ≡ rest ++ c ∷ [] → length rest ≡ n
    → slice_get tables n ≡ Some t → JoinsDown plan infos place (suc n) tables now all → IsOtherDone plan infos (place + 1) n t c
other-next plan infos place n tables now all rest t c is so_many at-t down =
    down.others n t c at-t (ap (λ l. slice_get l n) is ∙ (ap (slice_get (rest ++ c ∷ [])) (sym so_many) ∙ get-push-new rest c))

pub join-one : (plan : Plan) (infos : List Info) (place n : ℕ) (tables : List TableState) (now all rest : List SeatState) (t : TableState) (d c d' : SeatState) → all ≡ rest ++ c ∷ [] → length rest ≡ n
    → slice_get tables n ≡ Some t → slice_get now n ≡ Some d → Joins d c d'
    → JoinsDown plan infos place (suc n) tables now all → JoinsDown plan infos place n tables (slice_set now n d') rest
join-one plan infos place n tables now all rest t d c d' is so_many at-t at-d joins down = record {
  long = length-set now n d' ∙ down.long;
  all = down.all;
  left = so_many;
  below = let below = down.below in omega arith;
  joined = λ j u x above at at'. each-set (λ (j : ℕ) (x : SeatState). n ≤ j → (u : TableState) → slice_get tables j ≡ Some u → JoinedAt plan infos place j u x) now n d' (slice_get_within now n d at-d)
      (λ above u at. subst (λ (z : TableState). JoinedAt plan infos place n z d') (same_Some t u (sym at-t ∙ at)) here)
      (λ j x other at' above u at. down.joined j u x (omega arith) at at')
      j x at' above u at;
  ahead = λ j u x below at at'. each-set (λ (j : ℕ) (x : SeatState). j < n → (u : TableState) → slice_get tables j ≡ Some u → JoinedAt plan infos (place + 1) j u x) now n d' (slice_get_within now n d at-d)
      (λ below u at. absurd (omega arith))
      (λ j x other at' below u at. down.ahead j u x (omega arith) at at')
      j x at' below u at;
  others = λ j u x at at'. down.others j u x at (ap (λ l. slice_get l j) is ∙ get-push-old rest (c ∷ []) x j at');
}
  where
    here : JoinedAt plan infos place n t d'
    here = let was = down.ahead n t d (omega arith) at-t at-d in let other = other-next plan infos place n tables now all rest t c is so_many at-t down in
        record {
          table = was.table;
          seat = record { table = ap (λ (s : SeatState). s.table) joins ∙ was.seat.table; made = ap (λ (s : SeatState). s.made) joins ∙ was.seat.made };
          joined = joined-one plan infos n place d c was.joined other.stands other.shares other.owners d' joins;
        }

-- the first sender's seats after its last packet
pub joined-first : (plan : Plan) (infos : List Info) (out : ℕ) (tables : List TableState) (seats : List SeatState) → out + 1 ≡ plan.senders → SenderAtEnd plan infos 0 tables seats → AreFirst out seats → SenderJoined plan infos out tables seats
joined-first plan infos out tables seats senders standing first = record {
  long = standing.long;
  all = standing.all;
  each = λ j t c at at'.
      let own = standing.each j t c at at' in let way = own.stands.way refl in let shares = first j c at' in
      let zero_th : (owner : ℕ) → IsTakenIn plan out owner → owner ≡ 0 = λ owner taken. only-first owner taken in record {
        table = own.table;
        seat = own.seat;
        joined = record {
          shares = shares.0;
          told = shares.1;
          first = way.0;
          raised = own.stands.raised;
          wide = own.stands.wide;
          owners = λ owner taken. subst (λ (o : ℕ). 0 < times o c.owners) (sym (zero_th owner taken)) own.stands.owner;
          done = λ owner taken. subst (λ (o : ℕ). slice_index c.turns o ≡ 2 * count_all infos o j) (sym (zero_th owner taken)) (done-all plan infos 0 j (length plan.events) c own.stands);
          way = way.1;
        };
      };
}
  where
    only-first : (owner : ℕ) → IsTakenIn plan out owner → owner ≡ 0
    only-first owner (below, inl none) = none
    only-first owner (below, inr above) = absurd (omega arith)

pub first-keep : (out : ℕ) (old new : List SeatState) → KeepSeats old new → AreFirst out old → AreFirst out new
first-keep out old new keeps first j c at =
    let was = some-there old new j c (sym keeps.long) at in let own = keeps.each j was.0 c was.1 at in let before = first j was.0 was.1 in
    (ap (λ (s : SeatState). s.shares + out) own ∙ before.0, ap (λ (s : SeatState). s.told) own ∙ before.1)

-- THE DEVICES

pub same-devices : (seats : List SeatState) → SameDevices seats seats
same-devices seats = record {
  long = refl;
  each = λ j c c' at at'. let same : c ≡ c' = same_Some c c' (sym at ∙ at') in (ap (λ (x : SeatState). x.origin) (sym same), ap (λ (x : SeatState). x.gone) (sym same));
}

pub devices-on : (a b c : List SeatState) → SameDevices a b → SameDevices b c → SameDevices a c
devices-on a b c one two = record {
  long = two.long ∙ one.long;
  each = λ j x z at at'. let y = some-there b a j x one.long at in let first = one.each j x y.0 at y.1 in let second = two.each j y.0 z y.1 at' in (second.0 ∙ first.0, second.1 ∙ first.1);
}

-- one seat, which is the first sender's, took in another
pub devices-joined : (n : ℕ) (start now : List SeatState) (d c d' : SeatState) → slice_get now n ≡ Some d → Joins d c d'
    → SameDevices start now → SameDevices start (slice_set now n d')
devices-joined n start now d c d' at-d joins same = record {
  long = length-set now n d' ∙ same.long;
  each = λ j x y at at'. each-set (λ (j : ℕ) (y : SeatState). (x : SeatState) → slice_get start j ≡ Some x → (y.origin ≡ x.origin) × (y.gone ≡ x.gone)) now n d' (slice_get_within now n d at-d)
      (λ x at. let was = same.each n x d at at-d in (ap (λ (s : SeatState). s.origin) joins ∙ was.0, ap (λ (s : SeatState). s.gone) joins ∙ was.1))
      (λ j y other at' x at. same.each j x y at at')
      j y at' x at;
}
