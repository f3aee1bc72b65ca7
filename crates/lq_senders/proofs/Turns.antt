-- What a sender does after a packet: wakes and soft interrupts at all its seats.
use Rattle.std.proofs.Common.{◌≡◌, ℕ, zero, suc, ◌+◌, ◌<◌, ◌≤◌, ◌-◌, false, List, [], ◌∷◌, ◌++◌, inl, inr, length, Some, refl, sym, ap, ◌∙◌, subst, slice_get, map, get_or, arith}
use Rattle.std.specs.Prelude.{slice_index}
use Rattle.std.proofs.lemmas.Option.{same_Some, slice_get_within, slice_get-get_or}
use Rattle.lq_account_laws.specs.Progress.{start_of}
use Rattle.lq_model.specs.Alone.{RunningStation, opened, opened_and_served, served, with_event, with_events}
use Rattle.lq_model.specs.Device.{DeviceState}
use Rattle.lq_model.specs.Plan.{Plan}
use Rattle.lq_model.specs.declared.fate.Info.{Info}
use Rattle.lq_model.specs.declared.plan.EventPlan.{EventPlan}
use Rattle.lq_qdisc.proofs.AloneRests.{rests_served}
use Rattle.lq_qdisc.specs.Alone.{Does, IsAlone, running}
use Rattle.lq_seat.specs.Calls.{DoesAlone, Drains, WakesQueues}
use Rattle.lq_seat.specs.State.{SeatState, Setup, TableState, setup_of, solo_of}
use Rattle.lq_table.specs.Sees.{Solo}
use Rattle.lq_senders.specs.Seats.{Keeps}
use Rattle.lq_senders.specs.Senders.{AllDid, AreOthers, IsWoken, AllOpened, AreSeats, KeepAll, KeepSeats, SenderStands, AreRunAlone, StandsInRun}
use Rattle.lq_senders.specs.Units.{DevicesStand, DoTell}
use Rattle.lq_senders.specs.Way.{IsOnWay, numbers_from}
use Rattle.lq_senders.specs.Woken.{PlanCalls}
use Rattle.lq_senders.proofs.Calls.{calls-on, none-called}
use Rattle.lq_senders.proofs.Seats.{drains-keep, here-kept, keeps-itself, keeps-on, made-of, mapped-at, own-step, owner-kept, seat-kept, seat-on, wakes-keep}
use Rattle.lq_senders.proofs.Ways.{below-or-at}

pub event-there : {X : Type 0} (xs : List X) (j : ℕ) → j < length xs → (x : X) × (slice_get xs j ≡ Some x)
event-there [] j within = absurd (omega arith)
event-there (x ∷ xs) zero within = (x, refl)
event-there (x ∷ xs) (suc j) within = event-there xs j (omega arith)

-- another list of the same length has an element there, too
pub there-too : {X Y : Type 0} (xs : List X) (ys : List Y) (j : ℕ) (x : X) (y : Y) → length xs ≡ length ys → slice_get ys j ≡ Some y → (z : X) × (slice_get xs j ≡ Some z)
there-too xs ys j x y same there = (get_or xs j x, slice_get-get_or xs j x (let within = slice_get_within ys j y there in omega arith))

pub some-there : {X Y : Type 0} (xs : List X) (ys : List Y) (j : ℕ) (y : Y) → length xs ≡ length ys → slice_get ys j ≡ Some y → (z : X) × (slice_get xs j ≡ Some z)
some-there [] [] j y same there = absurd cc
some-there [] (z ∷ ys) j y same there = absurd (omega arith)
some-there (x ∷ xs) ys j y same there = there-too (x ∷ xs) ys j x y same there

-- a seat at which nothing that its sender knows has changed
pub stands-still : (plan : Plan) (infos : List Info) (sender station count n : ℕ) (v w : SeatState) → Keeps v w → w.turns ≡ v.turns → w.trail ≡ v.trail → w.raised ≡ false
    → StandsInRun plan infos sender station count n v → StandsInRun plan infos sender station count n w
stands-still plan infos sender station count n v w keeps turns trail raised stands = record {
  is_sender = stands.is_sender;
  owner = owner-kept sender v w (seat-kept v w keeps) stands.owner;
  wide = ap length turns ∙ stands.wide;
  turn = ap (λ l. slice_index l sender) turns ∙ stands.turn;
  raised = raised;
  way = λ z. let way = stands.way z in (ap (λ (s : SeatState). s.first) keeps ∙ way.0, subst (IsOnWay plan station count) (sym trail) way.1);
}

pub keep-none : (seats : List SeatState) → KeepAll seats seats
keep-none seats = record {
  long = refl;
  each = λ j c c' at at'. subst (λ (x : SeatState). Keeps c x) (same_Some c c' (sym at ∙ at')) (keeps-itself c);
}

pub keep-on : (a b c : List SeatState) → KeepAll a b → KeepAll b c → KeepAll a c
keep-on a b c one two = record {
  long = two.long ∙ one.long;
  each = λ j x z at at'. let y = some-there b a j x one.long at in
      keeps-on x y.0 z (one.each j x y.0 at y.1) (two.each j y.0 z y.1 at');
}

pub sender-seats : (plan : Plan) (infos : List Info) (sender count n : ℕ) (tables : List TableState) (seats : List SeatState) → SenderStands plan infos sender count n tables seats → AreSeats tables seats
sender-seats plan infos sender count n tables seats standing = record { long = standing.long; each = λ j t c at at'. (standing.each j t c at at').seat }

pub seats-still : (tables : List TableState) (old new : List SeatState) → AreSeats tables old → KeepAll old new → AreSeats tables new
seats-still tables old new seats keeps = record {
  long = keeps.long ∙ seats.long;
  each = λ j t c at at'. let was = some-there old new j c (sym keeps.long) at' in here-kept t was.0 c (seat-kept was.0 c (keeps.each j was.0 c was.1 at')) (seats.each j t was.0 at was.1);
}

pub keep-did : (R : SeatState → SeatState → Type 0) → ((v w : SeatState) → R v w → Keeps v w) → (old new : List SeatState) → AllDid R old new → KeepAll old new
keep-did R keeps old new did = record { long = did.long; each = λ j c c' at at'. keeps c c' (did.each j c c' at at') }

pub seats-woken : (tables : List TableState) (old new : List SeatState) → AreSeats tables old → AllDid IsWoken old new → AreSeats tables new
seats-woken tables old new seats woken = seats-still tables old new seats (keep-did IsWoken wakes-keep old new woken)

pub keep-drained : (old new : List SeatState) → AllDid Drains old new → KeepAll old new
keep-drained old new drained = keep-did Drains drains-keep old new drained

pub keep-opened : (old mid new : List SeatState) → AllDid IsWoken old mid → AllDid Drains mid new → KeepAll old new
keep-opened old mid new woken drained = keep-on old mid new (keep-did IsWoken wakes-keep old mid woken) (keep-drained mid new drained)

-- the standing stands as before
pub sender-opened : (plan : Plan) (infos : List Info) (sender count n : ℕ) (tables : List TableState) (old mid new : List SeatState) → SenderStands plan infos sender count n tables old
    → AllDid IsWoken old mid → AllDid Drains mid new → SenderStands plan infos sender count n tables new
sender-opened plan infos sender count n tables old mid new standing woken did = record {
  long = did.long ∙ (woken.long ∙ standing.long);
  all = standing.all;
  each = λ j t c at at'.
      let half = some-there mid new j c (sym did.long) at' in let was = some-there old mid j half.0 (sym woken.long) half.1 in
      let one = woken.each j was.0 half.0 was.1 half.1 in let two = did.each j half.0 c half.1 at' in let before = standing.each j t was.0 at was.1 in
      let keeps = keeps-on was.0 half.0 c (wakes-keep was.0 half.0 one) (drains-keep half.0 c two) in
      record {
        table = before.table;
        seat = here-kept t was.0 c (seat-kept was.0 c keeps) before.seat;
        stands = stands-still plan infos sender j count n was.0 c keeps (ap (λ (s : SeatState). s.turns) two.is ∙ ap (λ (s : SeatState). s.turns) one.1.is)
            (ap (λ (s : SeatState). s.trail) two.is ∙ ap (λ (s : SeatState). s.trail) one.1.is) (ap (λ (s : SeatState). s.raised) two.is) before.stands;
      };
}

-- THE RUN OF ONE SENDER

-- what the plan asks the seats' tables to be made of
pub sender-made : (plan : Plan) (infos : List Info) (sender count n : ℕ) (tables : List TableState) (seats : List SeatState) → SenderStands plan infos sender count n tables seats
    → (j : ℕ) (c : SeatState) → slice_get seats j ≡ Some c → c.made ≡ setup_of plan infos j
sender-made plan infos sender count n tables seats standing j c at = let t = some-there tables seats j c (sym standing.long) at in let own = standing.each j t.0 c t.1 at in made-of plan infos j t.0 own.table c own.seat

-- where each seat did a step of the run of one sender, the stations did
pub all-step : (plan : Plan) (infos : List Info) (step : Setup → RunningStation → RunningStation) (own : RunningStation → RunningStation) (R : SeatState → SeatState → Type 0)
    → ((j : ℕ) → step (setup_of plan infos j) ≡ own) → ((v w : SeatState) → R v w → DoesAlone (step v.made) v w)
    → (old new : List SeatState) (stations : List RunningStation) → ((j : ℕ) (c : SeatState) → slice_get old j ≡ Some c → c.made ≡ setup_of plan infos j)
    → AllDid R old new → AreRunAlone plan infos old stations → AreRunAlone plan infos new (map own stations)
all-step plan infos step own R is does old new stations made did runs j c at =
    let was = some-there old new j c (sym did.long) at in
    let before = runs j was.0 was.1 in
    let after : Does infos (start_of plan j) own (solo_of was.0) (solo_of c) =
    subst (λ (f : RunningStation → RunningStation). Does infos (start_of plan j) f (solo_of was.0) (solo_of c)) (is j)
    (own-step plan infos j step was.0 c (made j was.0 was.1) (does was.0 c (did.each j was.0 c was.1 at))) in
    let now = after before.0 in
    (now.0, mapped-at own stations j _ before.1 ∙ ap Some (sym now.1))

pub runs-drained : (plan : Plan) (infos : List Info) (old new : List SeatState) (stations : List RunningStation)
    → ((j : ℕ) (c : SeatState) → slice_get old j ≡ Some c → c.made ≡ setup_of plan infos j)
    → AllDid Drains old new → AreRunAlone plan infos old stations → AreRunAlone plan infos new (map (served infos) stations)
runs-drained plan infos old new stations made did runs =
    all-step plan infos (λ k. served k.infos) (served infos) Drains (λ j. refl) (λ v w drains. drains.alone) old new stations made did runs

-- no seat of a standing is raised, so its stations are as serving would leave them
pub runs-rested : (plan : Plan) (infos : List Info) (sender count n : ℕ) (tables : List TableState) (seats : List SeatState) (stations : List RunningStation)
    → SenderStands plan infos sender count n tables seats → AreRunAlone plan infos seats stations → AreRunAlone plan infos seats (map (served infos) stations)
runs-rested plan infos sender count n tables seats stations standing runs j c at =
    let t = some-there tables seats j c (sym standing.long) at in
    let low = (standing.each j t.0 c t.1 at).stands.raised in let was = runs j c at in
    (was.0, mapped-at (served infos) stations j _ was.1 ∙ ap Some (rests_served infos (start_of plan j) (solo_of c) was.0 low))

pub runs-opened : (plan : Plan) (infos : List Info) (old mid new : List SeatState) (stations : List RunningStation)
    → ((j : ℕ) (c : SeatState) → slice_get old j ≡ Some c → c.made ≡ setup_of plan infos j)
    → AllDid IsWoken old mid → AllDid Drains mid new → AreRunAlone plan infos old stations → AreRunAlone plan infos new (map (served infos) (map opened stations))
runs-opened plan infos old mid new stations made woken did runs =
    runs-drained plan infos mid new (map opened stations)
    (λ j c at. let was = some-there old mid j c (sym woken.long) at in ap (λ (s : SeatState). s.made) (woken.each j was.0 c was.1 at).1.is ∙ made j was.0 was.1) did
    (all-step plan infos (λ k. opened) opened IsWoken (λ j. refl) (λ v w wakes. wakes.1.alone) old mid stations made woken runs)

-- AN OPENING THAT OPENS NO QUEUE

-- seats of the same stations as others
runs-other : (plan : Plan) (infos : List Info) (old new : List SeatState) (a b : List RunningStation) → length new ≡ length old
    → AreRunAlone plan infos old a → AreRunAlone plan infos old b → AreRunAlone plan infos new b → AreRunAlone plan infos new a
runs-other plan infos old new a b long is-a is-b now j c at =
    let was = some-there old new j c (sym long) at in ((now j c at).0, (is-a j was.0 was.1).1 ∙ (sym (is-b j was.0 was.1).1 ∙ (now j c at).1))

runs-unopened : (plan : Plan) (infos : List Info) (old new : List SeatState) (stations : List RunningStation) → AllDid (WakesQueues false) old new
    → AreRunAlone plan infos old stations → AreRunAlone plan infos new stations
runs-unopened plan infos old new stations did runs j c at =
    let was = some-there old new j c (sym did.long) at in
    let same = ap (λ (s : SeatState). solo_of s) ((did.each j was.0 c was.1 at).none refl) in
    subst (λ (s : Solo). IsAlone infos (start_of plan j) s × (slice_get stations j ≡ Some (running (start_of plan j) s))) (sym same) (runs j was.0 was.1)

-- it leaves the stations of the run of one sender as they were
pub runs-idle : (plan : Plan) (infos : List Info) (sender count n : ℕ) (tables : List TableState) (old new : List SeatState) (stations : List RunningStation)
    → SenderStands plan infos sender count n tables old → AllOpened false old new → AreRunAlone plan infos old stations → AreRunAlone plan infos new stations
runs-idle plan infos sender count n tables old new stations standing opening runs =
    let woken = runs-unopened plan infos old opening.woken stations opening.was runs in
    runs-other plan infos opening.woken new stations (map (served infos) stations) opening.drains.long woken
    (λ j c at.
    let was = some-there old opening.woken j c (sym opening.was.long) at in
    let t = some-there tables old j was.0 (sym standing.long) was.1 in
    let low = ap (λ (s : SeatState). s.raised) ((opening.was.each j was.0 c was.1 at).none refl) ∙ (standing.each j t.0 was.0 t.1 was.1).stands.raised in
    let now = woken j c at in (now.0, mapped-at (served infos) stations j _ now.1 ∙ ap Some (rests_served infos (start_of plan j) (solo_of c) now.0 low)))
    (runs-drained plan infos opening.woken new stations
    (λ j c at. let was = some-there old opening.woken j c (sym opening.was.long) at in
    ap (λ (s : SeatState). s.made) ((opening.was.each j was.0 c was.1 at).none refl) ∙ sender-made plan infos sender count n tables old standing j was.0 was.1)
    opening.drains woken)

-- and so would all that follow
pub runs-idle-on : (plan : Plan) (infos : List Info) (sender count n : ℕ) (tables : List TableState) (old new : List SeatState) (more times : ℕ) (stations : List RunningStation)
    → SenderStands plan infos sender count n tables old → AllOpened false old new
    → AreRunAlone plan infos old (opened_and_served infos times stations) → AreRunAlone plan infos old (opened_and_served infos (more + times) stations)
runs-idle-on plan infos sender count n tables old new zero times stations standing opening runs =
    let none : times ≡ 0 + times = omega arith in subst (λ (k : ℕ). AreRunAlone plan infos old (opened_and_served infos k stations)) none runs
runs-idle-on plan infos sender count n tables old new (suc more) times stations standing opening runs =
    let before = opened_and_served infos (more + times) stations in
    let was = runs-idle-on plan infos sender count n tables old new more times stations standing opening runs in
    let long = keep-opened old opening.woken new opening.wakes opening.drains in
    let one : suc (more + times) ≡ suc more + times = omega arith in
    subst (λ (k : ℕ). AreRunAlone plan infos old (opened_and_served infos k stations)) one
    (runs-other plan infos new old (map (served infos) (map opened before)) before (sym long.long)
    (runs-opened plan infos old opening.woken new before (sender-made plan infos sender count n tables old standing) opening.wakes opening.drains was)
    (runs-idle plan infos sender count n tables old new before standing opening was) was)

-- EVENTS ONE BY ONE

pub numbers-more : (first count : ℕ) → numbers_from first (suc count) ≡ numbers_from first count ++ (first + count) ∷ []
numbers-more first zero = let same : first ≡ first + 0 = omega arith in ap (λ n. n ∷ []) same
numbers-more first (suc count) = let same : (first + 1) + count ≡ first + suc count = omega arith in
    ap (λ l. first ∷ l) (numbers-more (first + 1) count ∙ ap (λ n. numbers_from (first + 1) count ++ n ∷ []) same)

pub with-events-more : (plan : Plan) (infos : List Info) (events : List ℕ) (event : ℕ) (stations : List RunningStation)
    → with_events plan infos (events ++ event ∷ []) stations ≡ with_event plan infos event (with_events plan infos events stations)
with-events-more plan infos [] event stations = refl
with-events-more plan infos (e ∷ events) event stations = with-events-more plan infos events event (with_event plan infos e stations)

pub with-events-next : (plan : Plan) (infos : List Info) (first e : ℕ) (stations : List RunningStation) → first ≤ e
    → with_event plan infos e (with_events plan infos (numbers_from first (e - first)) stations) ≡ with_events plan infos (numbers_from first ((e + 1) - first)) stations
with-events-next plan infos first e stations le =
    let more : (e + 1) - first ≡ suc (e - first) = omega arith in let there : first + (e - first) ≡ e = omega arith in
    sym (ap (λ c. with_events plan infos (numbers_from first c) stations) more
    ∙ (ap (λ l. with_events plan infos l stations) (numbers-more first (e - first) ∙ ap (λ n. numbers_from first (e - first) ++ n ∷ []) there)
    ∙ with-events-more plan infos (numbers_from first (e - first)) e stations))

pub seats-on : (a b c : List SeatState) → KeepSeats a b → KeepSeats b c → KeepSeats a c
seats-on a b c one two = record {
  long = two.long ∙ one.long;
  each = λ j x z at at'. let y = some-there b a j x one.long at in
      seat-on x y.0 z (one.each j x y.0 at y.1) (two.each j y.0 z y.1 at');
}

pub called-on : (a b c : List SeatState) → AllDid PlanCalls a b → AllDid PlanCalls b c → AllDid PlanCalls a c
called-on a b c one two = record {
  long = two.long ∙ one.long;
  each = λ j x z at at'. let y = some-there b a j x one.long at in
      calls-on x y.0 z (one.each j x y.0 at y.1) (two.each j y.0 z y.1 at');
}

-- the events from `next` on to `e` were done, each of which stands before packet n
pub record FirstEvents (plan : Plan) (infos : List Info) (tables : List TableState) (next n e : ℕ) (start : List SeatState) (brought : List DeviceState) (now : List SeatState) (spares : List DeviceState) : Type 0 where
  pub done : (k : ℕ) (event : EventPlan) → next ≤ k → k < e → slice_get plan.events k ≡ Some event → event.before ≤ n
  pub stands : (m : ℕ) → SenderStands plan infos 0 next m tables start → SenderStands plan infos 0 e m tables now
  pub calls : AllDid PlanCalls start now
  pub devices : (units : List DeviceState) → DevicesStand plan infos units next start brought → DevicesStand plan infos units e now spares
  pub runs : (units : List DeviceState) → DevicesStand plan infos units next start brought → DoTell plan units
      → (stations : List RunningStation) → AreRunAlone plan infos start stations → AreRunAlone plan infos now (with_events plan infos (numbers_from next (e - next)) stations)

pub no-events-yet : (plan : Plan) (infos : List Info) (tables : List TableState) (next n : ℕ) (seats : List SeatState) (spares : List DeviceState) → FirstEvents plan infos tables next n next seats spares seats spares
no-events-yet plan infos tables next n seats spares = record {
  done = λ k event above below. absurd (omega arith);
  stands = λ m standing. standing;
  calls = none-called seats;
  devices = λ units stand. stand;
  runs = λ units stand tell stations runs. let none : next - next ≡ 0 = omega arith in subst (λ c. AreRunAlone plan infos seats (with_events plan infos (numbers_from next c) stations)) (sym none) runs;
}

pub one-event-more : (plan : Plan) (infos : List Info) (tables : List TableState) (next n e : ℕ) (event : EventPlan) (start : List SeatState) (brought : List DeviceState) (now : List SeatState) (spares : List DeviceState) (new : List SeatState) (left : List DeviceState)
    → next ≤ e → slice_get plan.events e ≡ Some event → event.before ≤ n
    → ((m : ℕ) → SenderStands plan infos 0 e m tables now → SenderStands plan infos 0 (e + 1) m tables new) → AllDid PlanCalls now new
    → ((units : List DeviceState) → DevicesStand plan infos units e now spares → DevicesStand plan infos units (e + 1) new left)
    → ((units : List DeviceState) → DevicesStand plan infos units e now spares → DoTell plan units → (stations : List RunningStation) → AreRunAlone plan infos now stations → AreRunAlone plan infos new (with_event plan infos e stations))
    → FirstEvents plan infos tables next n e start brought now spares → FirstEvents plan infos tables next n (e + 1) start brought new left
one-event-more plan infos tables next n e event start brought now spares new left le there before stands calls devices runs first = record {
  done = λ k late above below at. elim (below-or-at k e (let b : k < e + 1 = below in omega arith)) [
    | inl less ↦ first.done k late above less at
    | inr same ↦ subst (λ (x : EventPlan). x.before ≤ n) (same_Some event late (sym there ∙ (ap (slice_get plan.events) (sym same) ∙ at))) before
  ];
  stands = λ m standing. stands m (first.stands m standing);
  calls = called-on start now new first.calls calls;
  devices = λ units stand. devices units (first.devices units stand);
  runs = λ units stand tell stations was. subst (AreRunAlone plan infos new) (with-events-next plan infos next e stations le)
      (runs units (first.devices units stand) tell (with_events plan infos (numbers_from next (e - next)) stations) (first.runs units stand tell stations was));
}

pub others-keep : (owner : ℕ) (old new : List SeatState) → KeepSeats old new → AreOthers owner old → AreOthers owner new
others-keep owner old new keeps others j c at = let was = some-there old new j c (sym keeps.long) at in
    let own = keeps.each j was.0 c was.1 at in let before = others j was.0 was.1 in
    (ap (λ (s : SeatState). s.shares) own ∙ before.0, ap (λ (s : SeatState). s.owners) own ∙ before.1, ap (λ (s : SeatState). s.first) own ∙ before.2)
