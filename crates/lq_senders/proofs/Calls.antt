-- A sender's calls at a seat, one after the other, and what they leave.
use Rattle.std.proofs.Common.{◌≡◌, ℕ, List, Some, refl, sym, ◌∙◌, subst, slice_get, length-set}
use Rattle.std.specs.Prelude.{slice_set}
use Rattle.std.proofs.lemmas.Option.{same_Some, slice_get_within}
use Rattle.lq_model.specs.Device.{DeviceState}
use Rattle.lq_model.specs.Plan.{Plan}
use Rattle.lq_model.specs.declared.device.Params.{Params}
use Rattle.lq_model.specs.declared.plan.EventKind.{EventKind}
use Rattle.lq_seat.specs.Calls.{DoesEvent, DoesSwap}
use Rattle.lq_seat.specs.State.{SeatState}
use Rattle.lq_senders.specs.Senders.{AllDid, KeepSeats}
use Rattle.lq_senders.specs.Seats.{KeepsSeat}
use Rattle.lq_senders.specs.Woken.{PlanCall, PlanCalls, event_done, swapped, not_called, one_more}
use Rattle.lq_senders.proofs.Seats.{each-set, event-keeps, keeps-itself, seat-kept, seat-on}

-- ONE SEAT

pub calls-on : (a b c : SeatState) → PlanCalls a b → PlanCalls b c → PlanCalls a c
calls-on a b c one not_called = one
calls-on a b c one (one_more now new two call) = one_more now new (calls-on a b now one two) call

pub event-call : (plan : Plan) (e : ℕ) (kind : EventKind) (v w : SeatState) → DoesEvent plan e kind v w → PlanCalls v w
event-call plan e kind v w does = one_more v w not_called (event_done plan e kind does)

pub swap-call : (plan : Plan) (e : ℕ) (params : Params) (came went : DeviceState) (v w : SeatState) → DoesSwap plan e params came went v w → PlanCalls v w
swap-call plan e params came went v w does = one_more v w not_called (swapped plan e params came went does)

-- what each leaves of the seat
call-keeps : (v w : SeatState) → PlanCall v w → KeepsSeat v w
call-keeps v w (event_done plan e kind does) = seat-kept v w (event-keeps plan e kind v w does)
call-keeps v w (swapped plan e params came went does) = subst (KeepsSeat v) (sym does.is) refl

calls-keep : (v w : SeatState) → PlanCalls v w → KeepsSeat v w
calls-keep v w not_called = seat-kept v v (keeps-itself v)
calls-keep v w (one_more now new calls call) = seat-on v now new (calls-keep v now calls) (call-keeps now new call)

-- ALL SEATS

pub none-called : (seats : List SeatState) → AllDid PlanCalls seats seats
none-called seats = record {
  long = refl;
  each = λ j c c' at at'. subst (λ (x : SeatState). PlanCalls c x) (same_Some c c' (sym at ∙ at')) not_called;
}

pub called-keep : (old new : List SeatState) → AllDid PlanCalls old new → KeepSeats old new
called-keep old new did = record { long = did.long; each = λ j c c' at at'. calls-keep c c' (did.each j c c' at at') }

-- a call at one of them
pub called-set : (seats : List SeatState) (i : ℕ) (c c' : SeatState) → slice_get seats i ≡ Some c → PlanCalls c c' → AllDid PlanCalls seats (slice_set seats i c')
called-set seats i c c' there calls = record {
  long = length-set seats i c';
  each = λ j d d' at at'. each-set (λ (j : ℕ) (x : SeatState). (d : SeatState) → slice_get seats j ≡ Some d → PlanCalls d x) seats i c' (slice_get_within seats i c there)
      (λ d at. subst (λ (z : SeatState). PlanCalls z c') (same_Some c d (sym there ∙ at)) calls)
      (λ j x other at d at'. subst (λ (z : SeatState). PlanCalls d z) (same_Some d x (sym at' ∙ at)) not_called)
      j d' at' d at;
}
