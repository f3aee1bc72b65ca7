-- The first seat after a call, and the units that its swaps brought.
use Rattle.std.proofs.Common.{◌≡◌, ◌<◌, ◌≤◌, ◌+◌, ℕ, zero, suc, List, length, slice_index_or, Contains, refl, sym, ap, ◌∷◌, ◌∙◌, subst, arith, Bool, if◌then◌else◌, ◌==◌}
use Rattle.lq_model.specs.declared.machine.Phase.{Phase}
use Rattle.lq_model.specs.Account.{Event, Up, Swap, Purge, Down}
use Rattle.lq_model.specs.declared.fate.Cause.{Cause}
use Rattle.lq_model.specs.declared.machine.Phase.TheVariants.{Active}
use Rattle.lq_model.specs.declared.machine.Position.TheVariants.{Idle}
use Rattle.lq_model.specs.Machine.{Qdisc}
use Rattle.lq_table.specs.Views.{FirstPart, SharePart, View, State}
use Rattle.lq_table.specs.Moves.{at_rest}
use Rattle.lq_table.specs.Seats.{learn_view, join_view}
use Rattle.lq_table.specs.Rule.{units_of, station_count}
use Rattle.lq_model.specs.declared.fate.Info.{Info}
use Rattle.std.proofs.lemmas.List.Sums.{count_by-le-length}
use Rattle.lq_table.specs.Sees.{view, position, IsSeatOf, IsSameSeat, IsElseSame, IsIdle}
use Rattle.lq_table.specs.declared.shared.Cpu.{Cpu}
use Rattle.lq_table.specs.declared.shared.Shared.{Shared}
use Rattle.lq_qdisc.specs.Sends.{IsReadyToSend}
use Rattle.lq_control.specs.Control.{IsAfterUnits, IsIn, IsKeptByControl}
use Rattle.lq_test_below.specs.Seats.{IsDone, IsFirst, units_from_first}

below_at : (k i : ℕ) (u : ℕ) → i < length (units_from_first k) → slice_index_or (units_from_first k) i u < k + 1
below_at zero i u h = let k : i < 0 = h in (omega arith)
below_at (suc k) zero u h = (omega arith)
below_at (suc k) (suc i) u h = let long : length (units_from_first (suc k)) ≡ suc (length (units_from_first k)) = refl in let e : slice_index_or (units_from_first k) i u < k + 1 = below_at k i u (omega arith) in (omega arith)

-- the next unit is above each that was brought
pub counted_after : (station k : ℕ) (trail : List Event) → station ≡ 0 → units_of trail ≡ units_from_first k → IsAfterUnits station trail (k + 1)
counted_after station k trail s e = record {
  first = (omega arith);
  later = λ u c. let d = subst (λ (us : List ℕ). Contains us u) e c in subst (λ (x : ℕ). x < k + 1) d.2 (below_at k d.0 u d.1);
}

-- a seat that is done may be joined
pub idle_done : {D : Type 0} (t : Shared D) (c : Cpu D) → IsDone t c → IsIdle c
idle_done t c d = let r = d.between.ready in (ap at_rest d.between.at, d.not_raised, r.1, r.2, r.0.0)

-- a join leaves the first seat as it was
pub first_joined : {D : Type 0} (p : Phase) (us : List ℕ) (t : Shared D) (b a o : Cpu D) (q : Qdisc) (g : State) → IsFirst p us t b → IsSeatOf t a → IsElseSame b a → view a ≡ learn_view q g (join_view (view b) (view o)) → IsFirst p us t a
first_joined p us t b a o q g f seat same e = let r = f.between.ready in let control : (view a).control ≡ (view b).control = ap (λ (v : View). v.control) e ∙ ap (λ (x : Bool). if x then (view b).control else (view o).control) f.first in record {
  between = record {
    seat = seat;
    at = ap (λ (v : View). v.place.position) e ∙ f.between.at;
    ready = ((same.3 ∙ r.0.0, same.1 ∙ r.0.1), ap (λ (v : View). v.packets) e ∙ r.1, ap (λ (v : View). v.locks) e ∙ r.2, ap (λ (v : View). v.holder.resizing) e ∙ r.3);
  };
  first = ap (λ (x : FirstPart). x.first) control ∙ f.first;
  phase_is = (ap (λ (x : FirstPart). x.phase) control ∙ f.phase_is.0, ap (λ (x : FirstPart). x.purge) control ∙ f.phase_is.1);
  brought = ap (λ (v : View). units_of v.trail) e ∙ (ap (λ (x : Bool). units_of (if x then (view b).trail else (view o).trail)) f.first ∙ f.brought);
}

-- a swap brings the next unit, and leaves the first seat as it was but for that
pub first_swapped : {D : Type 0} (t : Shared D) (b a : Cpu D) (k unit n event : ℕ) (cause : Cause) → IsFirst Active (units_from_first k) t b → IsSameSeat b a → IsKeptByControl (view b) (view a) → position a ≡ Idle → IsReadyToSend a → IsIn Active (view a)
    → (view a).trail ≡ Up ∷ Swap unit ∷ Purge cause ∷ Down event ∷ (view b).trail → unit ≡ k + 1 → n ≡ k + 1 → IsFirst Active (units_from_first n) t a
first_swapped t b a k unit n event cause f same kept at ready phase trail next more = let seat = f.between.seat in
    let unit_is : unit ≡ suc k = omega arith in let n_is : n ≡ suc k = omega arith in record {
      between = record { seat = (same.0 ∙ seat.0, subst (λ (s : SharePart). 0 < s.shares) (sym kept.share) seat.1, ap (λ (s : SharePart). s.about) kept.share ∙ seat.2); at = at; ready = ready };
      first = kept.first ∙ f.first;
      phase_is = phase;
      brought = ap units_of trail ∙ ((λ j. unit_is j ∷ f.brought j) ∙ ap units_from_first (sym n_is));
    }

-- a station has at most all packets
pub count_few : (infos : List Info) (station : ℕ) → station_count infos station ≤ length infos
count_few infos station = count_by-le-length (λ info. info.station == station) infos
