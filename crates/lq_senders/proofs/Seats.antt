-- A sender's seats, where one or all of them did something.
use Rattle.std.proofs.Common.{◌≡◌, ◌≢◌, ℕ, zero, suc, ◌+◌, ◌<◌, ◌==◌, Bool, true, false, cond, List, [], ◌∷◌, length, Some, refl, sym, ap, ◌∙◌, subst, slice_get, map, arith, eq-eqb}
use Rattle.std.specs.Prelude.{slice_set, slice_index, slice_index_or, All}
use Rattle.std.specs.Option.{option_map, option_map_or}
use Rattle.std.proofs.lemmas.Bool.{ne_eqb}
use Rattle.std.proofs.lemmas.List.{length-set}
use Rattle.std.proofs.lemmas.Option.{same_Some, slice_get_read, slice_get_within, slice_get-map, get_or_from_slice_get}
use mathlib.Core.Logic.{dite}
use native.Mathlib.Decide.{ℕ_discrete}
use Rattle.lq_account_laws.specs.Progress.{start_of}
use Rattle.lq_model.specs.Alone.{RunningStation, changed, changed_where, served, with_event}
use Rattle.lq_model.specs.Device.{DeviceState}
use Rattle.lq_model.proofs.Reach.{at-own-swap, swap-apart}
use Rattle.lq_model.specs.Plan.{Plan, is_at, is_swap}
use Rattle.lq_model.specs.declared.fate.Info.{Info}
use Rattle.lq_model.specs.declared.device.Params.{Params}
use Rattle.lq_model.specs.declared.plan.EventKind.{EventKind}
use Rattle.lq_model.specs.declared.plan.EventKind.TheVariants.{Swap}
use Rattle.lq_model.specs.declared.plan.EventPlan.{EventPlan}
use Rattle.lq_plan.specs.Limits.{is_out_of_order}
use Rattle.lq_qdisc.specs.Alone.{Does, IsAlone, running}
use Rattle.lq_account_laws.specs.Controls.{with_control}
use Rattle.lq_seat.specs.Calls.{DoesAlone, DoesEvent, DoesSwap, Drains, SendsPacket}
use Rattle.lq_seat.specs.State.{SeatState, TableState, IsTableOf, setup_of, IsHere, solo_of, Setup, first_account, times}
use Rattle.lq_senders.specs.Seats.{Keeps, KeepsSeat}
use Rattle.lq_senders.specs.Senders.{IsWoken, StandsInRun, StandsAt, SenderStands, KeepAll, KeepSeats, AreRunAlone}
use Rattle.lq_senders.specs.Way.{IsOnWay}
use Rattle.lq_senders.proofs.Orders.{may-do-next}
use Rattle.lq_senders.proofs.Ways.{way-event, way-elsewhere}

-- LISTS

pub set-here : {X : Type 0} (xs : List X) (i : ℕ) (x : X) → i < length xs → slice_get (slice_set xs i x) i ≡ Some x
set-here [] i x within = absurd (omega arith)
set-here (y ∷ ys) zero x within = refl
set-here (y ∷ ys) (suc i) x within = set-here ys i x (omega arith)

pub set-apart : {X : Type 0} (xs : List X) (i k : ℕ) (x : X) → k ≢ i → slice_get (slice_set xs i x) k ≡ slice_get xs k
set-apart [] i k x other = refl
set-apart (y ∷ ys) zero zero x other = absurd (other refl)
set-apart (y ∷ ys) zero (suc k) x other = refl
set-apart (y ∷ ys) (suc i) zero x other = refl
set-apart (y ∷ ys) (suc i) (suc k) x other = set-apart ys i k x (λ e. other (ap suc e))

-- what holds of each element of a list in which one was set
pub each-set : {X : Type 0} (P : ℕ → X → Type 0) (xs : List X) (i : ℕ) (new : X) → i < length xs → P i new
    → ((j : ℕ) (x : X) → j ≢ i → slice_get xs j ≡ Some x → P j x) → (j : ℕ) (x : X) → slice_get (slice_set xs i new) j ≡ Some x → P j x
each-set P xs i new within here others j x there = dite (ℕ_discrete j i)
    (λ same. let is : new ≡ x = same_Some new x (sym (set-here xs i new within) ∙ (ap (slice_get (slice_set xs i new)) (sym same) ∙ there)) in
    subst (λ k. P k x) (sym same) (subst (P i) is here))
    (λ other. others j x other (sym (set-apart xs i j new other) ∙ there))

pub where-here : {X : Type 0} (test : ℕ → Bool) (i : ℕ) (f : X → X) (xs : List X) (x : X) → test i ≡ true → slice_get xs i ≡ Some x → slice_get (changed_where test f xs) i ≡ Some (f x)
where-here test i f [] x passes there = absurd cc
where-here test zero f (y ∷ ys) x passes there = ap (λ b. Some (cond b (f y) y)) passes ∙ ap (λ z. Some (f z)) (same_Some y x there)
where-here test (suc i) f (y ∷ ys) x passes there = where-here (λ k. test (suc k)) i f ys x passes there

pub where-apart : {X : Type 0} (test : ℕ → Bool) (i : ℕ) (f : X → X) (xs : List X) → test i ≡ false → slice_get (changed_where test f xs) i ≡ slice_get xs i
where-apart test i f [] fails = refl
where-apart test zero f (y ∷ ys) fails = ap (λ b. Some (cond b (f y) y)) fails
where-apart test (suc i) f (y ∷ ys) fails = where-apart (λ k. test (suc k)) i f ys fails

-- the run's step of an event
pub with-event : (plan : Plan) (infos : List Info) (e : ℕ) (event : EventPlan) (stations : List RunningStation) → slice_get plan.events e ≡ Some event
    → with_event plan infos e stations ≡ changed_where (λ k. is_at k event) (λ s. served infos (changed plan e event.kind s)) stations
with-event plan infos e event stations there =
    ap (λ o. option_map_or (λ (x : EventPlan). changed_where (λ k. is_at k x) (λ s. served infos (changed plan e x.kind s)) stations) o stations) there

pub read-at : {X : Type 0} (xs : List X) (i : ℕ) (x : X) → i < length xs → x ≡ slice_index_or xs i x → slice_get xs i ≡ Some x
read-at xs i x within is = slice_get_read xs (length xs) i x refl within is

pub mapped-at : {X Y : Type 0} (f : X → Y) (xs : List X) (i : ℕ) (x : X) → slice_get xs i ≡ Some x → slice_get (map f xs) i ≡ Some (f x)
mapped-at f xs i x there = slice_get-map f xs i ∙ ap (option_map f) there

pub all-at : {X : Type 0} (P : X → Type 0) (xs : List X) (i : ℕ) (x : X) → All P xs → slice_get xs i ≡ Some x → P x
all-at P xs i x all there = subst P (get_or_from_slice_get xs i x x there) (all i x (slice_get_within xs i x there))

-- THE TABLE

-- a table's seats know what the plan asks it to be made of
pub made-of : (plan : Plan) (infos : List Info) (j : ℕ) (t : TableState) → IsTableOf plan infos j t → (v : SeatState) → IsHere t v → v.made ≡ setup_of plan infos j
made-of plan infos j t table v here = here.made ∙ table.setup_is

-- a step of a seat alone is one of the plan's station
pub own-step : (plan : Plan) (infos : List Info) (j : ℕ) (step : Setup → RunningStation → RunningStation) (v w : SeatState) → v.made ≡ setup_of plan infos j → DoesAlone (step v.made) v w
    → Does infos (start_of plan j) (step (setup_of plan infos j)) (solo_of v) (solo_of w)
own-step plan infos j step v w made does = subst (λ (k : Setup). Does k.infos (first_account k) (step k) (solo_of v) (solo_of w)) made does

-- ONE SEAT

pub keeps-itself : (v : SeatState) → Keeps v v
keeps-itself v = refl

pub keeps-on : (a b c : SeatState) → Keeps a b → Keeps b c → Keeps a c
keeps-on a b c one two = two ∙ ap (λ (s : SeatState). record s { raised = c.raised; turns = c.turns; trail = c.trail; whole = c.whole; steps = c.steps }) one

pub seat-kept : (v w : SeatState) → Keeps v w → KeepsSeat v w
seat-kept v w keeps = subst (KeepsSeat v) (sym keeps) refl

pub seat-on : (a b c : SeatState) → KeepsSeat a b → KeepsSeat b c → KeepsSeat a c
seat-on a b c one two = two ∙ ap (λ (s : SeatState). record s { raised = c.raised; turns = c.turns; trail = c.trail; origin = c.origin; gone = c.gone; whole = c.whole; steps = c.steps }) one

pub here-kept : (t : TableState) (v w : SeatState) → KeepsSeat v w → IsHere t v → IsHere t w
here-kept t v w keeps here = record { table = ap (λ (s : SeatState). s.table) keeps ∙ here.table; made = ap (λ (s : SeatState). s.made) keeps ∙ here.made }

-- what the calls keep
pub sends-keep : (n : ℕ) (v w : SeatState) → SendsPacket n v w → Keeps v w
sends-keep n v w sends = subst (Keeps v) (sym sends.is) refl

pub wakes-keep : (v w : SeatState) → IsWoken v w → Keeps v w
wakes-keep v w wakes = subst (Keeps v) (sym wakes.1.is) refl

pub drains-keep : (v w : SeatState) → Drains v w → Keeps v w
drains-keep v w drains = subst (Keeps v) (sym drains.is) refl

pub event-keeps : (plan : Plan) (e : ℕ) (kind : EventKind) (v w : SeatState) → DoesEvent plan e kind v w → Keeps v w
event-keeps plan e kind v w does = subst (Keeps v) (sym does.is) refl

pub owner-kept : (sender : ℕ) (v w : SeatState) → KeepsSeat v w → 0 < times sender v.owners → 0 < times sender w.owners
owner-kept sender v w keeps has = subst (λ (owners : List ℕ). 0 < times sender owners) (sym (ap (λ (s : SeatState). s.owners) keeps)) has

-- what an event leaves of its station's seat
pub record EventChanges (plan : Plan) (e : ℕ) (kind : EventKind) (v w : SeatState) : Type 0 where
  pub keeps : KeepsSeat v w
  pub raised : w.raised ≡ false
  pub turns : w.turns ≡ v.turns
  pub trail : w.trail ≡ with_control plan e kind v.trail

pub event-changes : (plan : Plan) (e : ℕ) (kind : EventKind) (v w : SeatState) → DoesEvent plan e kind v w → EventChanges plan e kind v w
event-changes plan e kind v w does = record {
  keeps = subst (KeepsSeat v) (sym does.is) refl;
  raised = ap (λ (s : SeatState). s.raised) does.is;
  turns = ap (λ (s : SeatState). s.turns) does.is;
  trail = ap (λ (s : SeatState). s.trail) does.is;
}

pub swap-changes : (plan : Plan) (e : ℕ) (kind : EventKind) (params : Params) (came went : DeviceState) (v w : SeatState) → kind ≡ Swap params → DoesSwap plan e params came went v w → EventChanges plan e kind v w
swap-changes plan e kind params came went v w is does = subst (λ k. EventChanges plan e k v w) (sym is) (record {
  keeps = subst (KeepsSeat v) (sym does.is) refl;
  raised = ap (λ (s : SeatState). s.raised) does.is;
  turns = ap (λ (s : SeatState). s.turns) does.is;
  trail = ap (λ (s : SeatState). s.trail) does.is;
})

pub stands-event : (plan : Plan) (infos : List Info) (e n station : ℕ) (event : EventPlan) (v w : SeatState) → slice_get plan.events e ≡ Some event → is_at station event ≡ true → station < 8
    → is_out_of_order plan.events ≡ false → EventChanges plan e event.kind v w → StandsInRun plan infos 0 station e n v → StandsInRun plan infos 0 station (suc e) n w
stands-event plan infos e n station event v w there at few order does stands = record {
  is_sender = stands.is_sender;
  owner = owner-kept 0 v w does.keeps stands.owner;
  wide = ap length does.turns ∙ stands.wide;
  turn = ap (λ l. slice_index l 0) does.turns ∙ stands.turn;
  raised = does.raised;
  way = λ z. let way = stands.way refl in (
    ap (λ (s : SeatState). s.first) does.keeps ∙ way.0,
    subst (IsOnWay plan station (suc e)) (sym does.trail)
        (way-event plan station e event there at v.trail way.1 event.kind refl (may-do-next plan station e event v.trail order there few at way.1.down)),
  );
}

pub stands-elsewhere : (plan : Plan) (infos : List Info) (e n station : ℕ) (event : EventPlan) (v : SeatState) → slice_get plan.events e ≡ Some event → is_at station event ≡ false
    → StandsInRun plan infos 0 station e n v → StandsInRun plan infos 0 station (suc e) n v
stands-elsewhere plan infos e n station event v there other stands = record {
  is_sender = stands.is_sender;
  owner = stands.owner;
  wide = stands.wide;
  turn = stands.turn;
  raised = stands.raised;
  way = λ z. let way = stands.way refl in (way.0, way-elsewhere plan station e event there v.trail other way.1);
}

-- ALL SEATS

pub keep-set : (seats : List SeatState) (i : ℕ) (c c' : SeatState) → slice_get seats i ≡ Some c → Keeps c c' → KeepAll seats (slice_set seats i c')
keep-set seats i c c' there keeps = record {
  long = length-set seats i c';
  each = λ j d d' at at'. each-set (λ (j : ℕ) (x : SeatState). (d : SeatState) → slice_get seats j ≡ Some d → Keeps d x) seats i c' (slice_get_within seats i c there)
      (λ d at. subst (λ (z : SeatState). Keeps z c') (same_Some c d (sym there ∙ at)) keeps)
      (λ j x other at d at'. subst (λ (z : SeatState). Keeps d z) (same_Some d x (sym at' ∙ at)) (keeps-itself d))
      j d' at' d at;
}

pub seats-kept : (old new : List SeatState) → KeepAll old new → KeepSeats old new
seats-kept old new keeps = record { long = keeps.long; each = λ j c c' at at'. seat-kept c c' (keeps.each j c c' at at') }

pub runs-set : (plan : Plan) (infos : List Info) (seats : List SeatState) (stations : List RunningStation) (i : ℕ) (c c' : SeatState) (step : RunningStation → RunningStation) → slice_get seats i ≡ Some c
    → Does infos (start_of plan i) step (solo_of c) (solo_of c') → AreRunAlone plan infos seats stations → AreRunAlone plan infos (slice_set seats i c') (changed_where (λ k. k == i) step stations)
runs-set plan infos seats stations i c c' step there does runs =
    each-set (λ (j : ℕ) (x : SeatState). IsAlone infos (start_of plan j) (solo_of x) × (slice_get (changed_where (λ k. k == i) step stations) j ≡ Some (running (start_of plan j) (solo_of x)))) seats i c' (slice_get_within seats i c there)
    (let was = runs i c there in let now = does was.0 in (now.0, where-here (λ k. k == i) i step stations _ (eq-eqb i i refl) was.1 ∙ ap Some (sym now.1)))
    (λ j x other at. let was = runs j x at in (was.0, where-apart (λ k. k == i) j step stations (ne_eqb j i other) ∙ was.1))

pub table-at : (plan : Plan) (infos : List Info) (sender count n : ℕ) (tables : List TableState) (seats : List SeatState) → SenderStands plan infos sender count n tables seats
    → (station : ℕ) (t : TableState) → station < length plan.stations → t ≡ slice_index_or tables station t → slice_get tables station ≡ Some t
table-at plan infos sender count n tables seats standing station t within is = let all = standing.all in read-at tables station t (omega arith) is

pub seat-at : (plan : Plan) (infos : List Info) (sender count n : ℕ) (tables : List TableState) (seats : List SeatState) → SenderStands plan infos sender count n tables seats
    → (station : ℕ) (c : SeatState) → station < length plan.stations → c ≡ slice_index_or seats station c → slice_get seats station ≡ Some c
seat-at plan infos sender count n tables seats standing station c within is = let all = standing.all in let long = standing.long in read-at seats station c (omega arith) is

-- how a seat stands that was read from the standing
pub stands-at : (plan : Plan) (infos : List Info) (sender count n : ℕ) (tables : List TableState) (seats : List SeatState) → SenderStands plan infos sender count n tables seats
    → (station : ℕ) (t : TableState) (c : SeatState) → station < length plan.stations → t ≡ slice_index_or tables station t → c ≡ slice_index_or seats station c → StandsAt plan infos sender count n station t c
stands-at plan infos sender count n tables seats standing station t c within is-t is-c =
    standing.each station t c (table-at plan infos sender count n tables seats standing station t within is-t) (seat-at plan infos sender count n tables seats standing station c within is-c)

-- a swap of the plan, at its one station
pub sender-event : (plan : Plan) (infos : List Info) (e n : ℕ) (tables : List TableState) (seats : List SeatState) (event : EventPlan) (t : TableState) (c c' : SeatState)
    → slice_get plan.events e ≡ Some event → is_swap event ≡ true → event.station < 8 → is_out_of_order plan.events ≡ false
    → slice_get tables event.station ≡ Some t → slice_get seats event.station ≡ Some c → EventChanges plan e event.kind c c'
    → SenderStands plan infos 0 e n tables seats → SenderStands plan infos 0 (e + 1) n tables (slice_set seats event.station c')
sender-event plan infos e n tables seats event t c c' there swap few order at-t at-c does standing = record {
  long = length-set seats event.station c' ∙ standing.long;
  all = standing.all;
  each = λ j u d at at'. subst (λ (k : ℕ). StandsAt plan infos 0 k n j u d) more (stands j u d at at');
}
  where
    more : suc e ≡ e + 1
    more = omega arith

    stands : (j : ℕ) (u : TableState) (d : SeatState) → slice_get tables j ≡ Some u → slice_get (slice_set seats event.station c') j ≡ Some d → StandsAt plan infos 0 (suc e) n j u d
    stands j u d at at' = each-set (λ (j : ℕ) (x : SeatState). (u : TableState) → slice_get tables j ≡ Some u → StandsAt plan infos 0 (suc e) n j u x) seats event.station c' (slice_get_within seats event.station c at-c)
        (λ u at. let was = standing.each event.station t c at-t at-c in subst (λ (z : TableState). StandsAt plan infos 0 (suc e) n event.station z c') (same_Some t u (sym at-t ∙ at)) (record {
          table = was.table;
          seat = here-kept t c c' does.keeps was.seat;
          stands = stands-event plan infos e n event.station event c c' there (at-own-swap event swap) few order does was.stands;
        }))
        (λ j x other at u at'. let was = standing.each j u x at' at in record { table = was.table; seat = was.seat; stands = stands-elsewhere plan infos e n j event x there (swap-apart j event swap other) was.stands })
        j d at' u at

pub runs-event : (plan : Plan) (infos : List Info) (e n : ℕ) (tables : List TableState) (seats : List SeatState) (stations : List RunningStation) (event : EventPlan) (t : TableState) (c c' : SeatState)
    → slice_get plan.events e ≡ Some event → is_swap event ≡ true → slice_get tables event.station ≡ Some t → slice_get seats event.station ≡ Some c
    → DoesAlone (λ s. served c.made.infos (changed plan e event.kind s)) c c'
    → SenderStands plan infos 0 e n tables seats → AreRunAlone plan infos seats stations → AreRunAlone plan infos (slice_set seats event.station c') (with_event plan infos e stations)
runs-event plan infos e n tables seats stations event t c c' there swap at-t at-c does standing runs =
    let step : RunningStation → RunningStation = λ s. served infos (changed plan e event.kind s) in
    let own : Does infos (start_of plan event.station) step (solo_of c) (solo_of c') =
    let was = standing.each event.station t c at-t at-c in
    own-step plan infos event.station (λ k s. served k.infos (changed plan e event.kind s)) c c' (made-of plan infos event.station t was.table c was.seat) does in
    subst (AreRunAlone plan infos (slice_set seats event.station c')) (sym (with-event plan infos e event stations there))
    (each-set (λ (j : ℕ) (x : SeatState). IsAlone infos (start_of plan j) (solo_of x) × (slice_get (changed_where (λ k. is_at k event) step stations) j ≡ Some (running (start_of plan j) (solo_of x))))
    seats event.station c' (slice_get_within seats event.station c at-c)
    (let was = runs event.station c at-c in let now = own was.0 in (now.0, where-here (λ k. is_at k event) event.station step stations _ (at-own-swap event swap) was.1 ∙ ap Some (sym now.1)))
    (λ j x other at. let was = runs j x at in (was.0, where-apart (λ k. is_at k event) j step stations (swap-apart j event swap other) ∙ was.1)))
