-- An event of the plan, done at each of its stations in turn.
use Rattle.std.proofs.Common.{◌≡◌, ℕ, suc, ◌+◌, ◌<◌, ◌≤◌, true, false, inl, inr, List, length, Some, refl, sym, ap, ◌∙◌, subst, slice_get, arith}
use Rattle.std.proofs.lemmas.Option.{slice_get_within}
use Rattle.lq_account_laws.specs.Progress.{start_of}
use Rattle.lq_model.specs.Alone.{RunningStation, changed, changed_where, served, with_event}
use Rattle.lq_model.specs.Plan.{Plan, is_at}
use Rattle.lq_model.specs.declared.fate.Info.{Info}
use Rattle.lq_model.specs.declared.plan.EventPlan.{EventPlan}
use Rattle.lq_plan.specs.Limits.{IsEventWithin, IsKindWithin, is_out_of_order}
use Rattle.lq_qdisc.specs.Alone.{Does, IsAlone, running}
use Rattle.lq_seat.specs.Calls.{MayChange}
use Rattle.lq_seat.specs.State.{SeatState, Setup, TableState, solo_of}
use Rattle.lq_senders.specs.Seats.{Keeps}
use Rattle.lq_senders.specs.Senders.{AllDid, DoesEventAt, KeepAll, SenderStands, AreRunAlone, StandsInRun, StandsAt}
use Rattle.lq_senders.specs.Woken.{PlanCalls, not_called}
use Rattle.lq_senders.proofs.Calls.{event-call}
use Rattle.lq_senders.proofs.Orders.{may-do-next}
use Rattle.lq_senders.proofs.Seats.{event-changes, event-keeps, here-kept, keeps-itself, made-of, own-step, seat-kept, stands-elsewhere, stands-event, where-apart, where-here, with-event}
use Rattle.lq_senders.proofs.Turns.{event-there, some-there}

module _ (plan : Plan) (infos : List Info) (e : ℕ) (event : EventPlan) (there : slice_get plan.events e ≡ Some event) (order : is_out_of_order plan.events ≡ false) (few : length plan.stations ≤ 8) where
  -- a seat of the standing may do it, where it is an event of its station
  pub may-do-at : (n j : ℕ) (t : TableState) (c : SeatState) → j < length plan.stations → IsEventWithin plan.stations event → StandsAt plan infos 0 e n j t c
      → is_at j event ≡ true → MayChange event.kind c
  may-do-at n j t c below within stands at = record {
    first = (stands.stands.way refl).0;
    within = subst (λ (k : Setup). IsKindWithin k.max_len event.kind) (sym (made-of plan infos j t stands.table c stands.seat)) (within.kind j at);
    may = may-do-next plan j e event c.trail order there (omega arith) at (stands.stands.way refl).1.down;
  }

  -- the number of a seat's station
  number-at : (n j : ℕ) (t : TableState) (c : SeatState) → StandsAt plan infos 0 e n j t c → c.made.station ≡ j
  number-at n j t c stands = ap (λ (k : Setup). k.station) (made-of plan infos j t stands.table c stands.seat)

  module _ (tables : List TableState) (old new : List SeatState) (all : AllDid (DoesEventAt e event) old new) where
    one-stands : (n j : ℕ) (v w : SeatState) → v.made.station ≡ j → j < 8 → DoesEventAt e event v w → StandsInRun plan infos 0 j e n v → StandsInRun plan infos 0 j (suc e) n w
    one-stands n j v w number below (inl (at, does)) stands =
        stands-event plan infos e n j event v w there (ap (λ k. is_at k event) (sym number) ∙ at) below order (event-changes plan e event.kind v w (does plan)) stands
    one-stands n j v w number below (inr (other, same)) stands =
        subst (StandsInRun plan infos 0 j (suc e) n) (sym same) (stands-elsewhere plan infos e n j event v there (ap (λ k. is_at k event) (sym number) ∙ other) stands)

    one-keeps : (v w : SeatState) → DoesEventAt e event v w → Keeps v w
    one-keeps v w (inl (at, does)) = event-keeps plan e event.kind v w (does plan)
    one-keeps v w (inr (other, same)) = subst (Keeps v) (sym same) (keeps-itself v)

    pub all-stand : (n : ℕ) → SenderStands plan infos 0 e n tables old → SenderStands plan infos 0 (e + 1) n tables new
    all-stand n standing = record {
      long = all.long ∙ standing.long;
      all = standing.all;
      each = λ j t c at-t at-c.
          let more : suc e ≡ e + 1 = omega arith in
          let was = some-there old new j c (sym all.long) at-c in let stands = standing.each j t was.0 at-t was.1 in let did = all.each j was.0 c was.1 at-c in
          let below = slice_get_within tables j t at-t in let whole = standing.all in
          subst (λ (k : ℕ). StandsAt plan infos 0 k n j t c) more (record {
            table = stands.table;
            seat = here-kept t was.0 c (seat-kept was.0 c (one-keeps was.0 c did)) stands.seat;
            stands = one-stands n j was.0 c (number-at n j t was.0 stands) (omega arith) did stands.stands;
          });
    }

    pub all-keep : KeepAll old new
    all-keep = record { long = all.long; each = λ j c c' at at'. one-keeps c c' (all.each j c c' at at') }

    one-called : (v w : SeatState) → DoesEventAt e event v w → PlanCalls v w
    one-called v w (inl (at, does)) = event-call plan e event.kind v w (does plan)
    one-called v w (inr (other, same)) = subst (PlanCalls v) (sym same) not_called

    pub all-called : AllDid PlanCalls old new
    all-called = record { long = all.long; each = λ j c c' at at'. one-called c c' (all.each j c c' at at') }

    one-runs : (n j : ℕ) (t : TableState) (c c' : SeatState) (stations : List RunningStation) → StandsAt plan infos 0 e n j t c → DoesEventAt e event c c'
        → IsAlone infos (start_of plan j) (solo_of c) × (slice_get stations j ≡ Some (running (start_of plan j) (solo_of c)))
        → IsAlone infos (start_of plan j) (solo_of c') × (slice_get (changed_where (λ k. is_at k event) (λ s. served infos (changed plan e event.kind s)) stations) j ≡ Some (running (start_of plan j) (solo_of c')))
    one-runs n j t c c' stations stands (inl (at, does)) was =
        let step : RunningStation → RunningStation = λ s. served infos (changed plan e event.kind s) in
        let own : Does infos (start_of plan j) step (solo_of c) (solo_of c') =
        own-step plan infos j (λ k s. served k.infos (changed plan e event.kind s)) c c' (made-of plan infos j t stands.table c stands.seat) (does plan).alone in
        let now = own was.0 in
        (now.0, where-here (λ k. is_at k event) j step stations _ (ap (λ k. is_at k event) (sym (number-at n j t c stands)) ∙ at) was.1 ∙ ap Some (sym now.1))
    one-runs n j t c c' stations stands (inr (other, same)) was =
        let step : RunningStation → RunningStation = λ s. served infos (changed plan e event.kind s) in
        subst (λ (w : SeatState). IsAlone infos (start_of plan j) (solo_of w) × (slice_get (changed_where (λ k. is_at k event) step stations) j ≡ Some (running (start_of plan j) (solo_of w)))) (sym same)
        (was.0, where-apart (λ k. is_at k event) j step stations (ap (λ k. is_at k event) (sym (number-at n j t c stands)) ∙ other) ∙ was.1)

    pub all-run : (n : ℕ) (stations : List RunningStation) → SenderStands plan infos 0 e n tables old → AreRunAlone plan infos old stations → AreRunAlone plan infos new (with_event plan infos e stations)
    all-run n stations standing runs = subst (AreRunAlone plan infos new) (sym (with-event plan infos e event stations there)) (λ j c' at'.
        let was = some-there old new j c' (sym all.long) at' in
        let within = slice_get_within old j was.0 was.1 in let long = standing.long in let t = event-there tables j (omega arith) in
        one-runs n j t.0 was.0 c' stations (standing.each j t.0 was.0 t.1 was.1) (all.each j was.0 c' was.1 at') (runs j was.0 was.1))
