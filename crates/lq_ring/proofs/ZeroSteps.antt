-- What the steps leave that empty the slots of a batch.
use Rattle.std.proofs.Common.{◌≡◌, ℕ, zero, suc, ◌+◌, ◌-◌, ◌<◌, ◌≤◌, ◌⊎◌, true, false, List, [], ◌∷◌, ◌++◌, option_map, sym, ap, ◌∙◌, ⊎_elim, arith}
use Rattle.std.specs.Prelude.{if◌then◌else◌}
use Rattle.std.proofs.lemmas.Bool.{cases_Bool}
use Rattle.std.proofs.lemmas.Bool.Decides.{nat_tests}
use Rattle.lq_device.specs.Station.{StationState, with_ends}
use Rattle.lq_model.specs.Band.{batch}
use Rattle.lq_band_laws.specs.Three.{at}
use Rattle.lq_band_laws.specs.Ring.{Ends, all_empty, is_emptying}
use Rattle.lq_table.specs.Made.{Made, ◌⊳◌}
use Rattle.lq_table.specs.Producers.{store_slot_log}
use Rattle.lq_table.specs.Step.{SetEnds, Standing, Step, ZeroSlot, step_leaves, steps_leave}
use Rattle.lq_table.specs.Views.{Setup, View}
use Rattle.lq_ring.specs.StepLists.{discard_steps, zero_steps}
use Rattle.lq_ring.specs.Take.{emptied_count, emptied_times, having_ends}
use Rattle.lq_ring.proofs.StepsThen.{leave_then}
use Rattle.lq_ring.proofs.TakeSteps.{emptying_having, ends_left, having_same, times_all}

-- one slot more, the lowest
pub zero_next : (b head n : ℕ) → zero_steps b head n ++ ZeroSlot b (head - 1 - n) ∷ [] ≡ zero_steps b head (suc n)
zero_next b head zero = ap (λ (i : ℕ). ZeroSlot b i ∷ []) (let q : head - 1 - 0 ≡ head - 1 = omega arith in q)
zero_next b head (suc n) =
    let q : head - 1 - suc n ≡ head - 1 - 1 - n = omega arith in
    (λ j. ZeroSlot b (head - 1) ∷ (zero_steps b (head - 1) n ++ ZeroSlot b (q j) ∷ [])) ∙ ap (λ (xs : List Step). ZeroSlot b (head - 1) ∷ xs) (zero_next b (head - 1) n)

-- the log, where so many slots below head are emptied, the highest first
abbrev pub zeroed : Setup → ℕ → ℕ → ℕ → List Made → List Made
zeroed k band head zero steps = steps
zeroed k band head (suc n) steps = zeroed k band head n steps ⊳ store_slot_log k band (head - 1 - n) 0

-- the ends, where so many slots are emptied of rings of this size
abbrev emptied_view : ℕ → ℕ → View → View
emptied_view b n v = let size = v.holder.size in having_ends b (emptied_times size n (at b v.holder.ends)) (emptied_times size n (at b v.whole.state.ends)) v

abbrev emptied : ℕ → ℕ → ℕ → Standing → Standing
emptied b head n s = record s { view = emptied_view b n s.view; steps = zeroed s.view.share.about b head n s.steps }

pub zero_leaves : (b head n : ℕ) (s : Standing) → steps_leave (zero_steps b head n) s ≡ emptied b head n s
zero_leaves b head zero s = λ j. record s { view = sym (having_same b s.view) j }
zero_leaves b head (suc n) s =
    let size = s.view.holder.size in let last = ZeroSlot b (head - 1 - n) in
    ap (λ (xs : List Step). steps_leave xs s) (sym (zero_next b head n))
    ∙ (leave_then (zero_steps b head n) (last ∷ []) s
    ∙ (ap (step_leaves last) (zero_leaves b head n s)
    ∙ (λ j. record (emptied b head (suc n) s) { view = emptying_having b (emptied_times size n (at b s.view.holder.ends)) (emptied_times size n (at b s.view.whole.state.ends)) s.view j })))

abbrev pub discarded : ℕ → ℕ → Ends → Ends → Ends → Standing → Standing
discarded b size c d e s = record s {
  view = having_ends b e (emptied_times size (emptied_count size c) d) s.view;
  station = option_map (λ (st : StationState). with_ends st b e.head e.tail) s.station;
  steps = zeroed s.view.share.about b c.head (emptied_count size c) s.steps;
}

-- the ends just after the packet at the head was taken
module _ (b size : ℕ) (c : Ends) (s : Standing) (here : at b s.view.holder.ends ≡ c) (same : s.view.holder.size ≡ size) (edge : c.edge ≡ c.head) (some : c.tail < c.head) where
  abbrev d : Ends
  d = at b s.view.whole.state.ends

  busy_leaves : is_emptying size c ≡ true → steps_leave (zero_steps b c.head (c.head - c.tail) ++ SetEnds b (all_empty size c).head (all_empty size c).tail ∷ []) s ≡ discarded b size c d (ends_left size c) s
  busy_leaves busy =
      let n = c.head - c.tail in let e = all_empty size c in let sets = SetEnds b e.head e.tail in
      let count : emptied_count size c ≡ n = λ j. if busy j then n else 0 in
      let left : ends_left size c ≡ e = λ j. if busy j then e else c in
      let all : emptied_times size n c ≡ ends_left size c = ap (λ (m : ℕ). emptied_times size m c) (sym count) ∙ times_all size c edge some in
      leave_then (zero_steps b c.head n) (sets ∷ []) s
      ∙ (ap (step_leaves sets) (zero_leaves b c.head n s)
      ∙ (λ j. record s {
        view = having_ends b ((ap (λ (z : ℕ × Ends). emptied_times z.0 n z.1) (λ i. (same i, here i)) ∙ all) j) (emptied_times (same j) (sym count j) d) s.view;
        station = option_map (λ (st : StationState). with_ends st b (sym left j).head (sym left j).tail) s.station;
        steps = zeroed s.view.share.about b c.head (sym count j) s.steps;
      }))

  calm_leaves : is_emptying size c ≡ false → steps_leave (SetEnds b c.head c.tail ∷ []) s ≡ discarded b size c d (ends_left size c) s
  calm_leaves calm =
      let count : emptied_count size c ≡ 0 = λ j. if calm j then c.head - c.tail else 0 in
      let left : ends_left size c ≡ c = λ j. if calm j then all_empty size c else c in
      λ j. record s {
        view = (sym (having_same b s.view) ∙ (λ i. having_ends b ((here ∙ sym left) i) (emptied_times size (sym count i) d) s.view)) j;
        station = option_map (λ (st : StationState). with_ends st b (sym left j).head (sym left j).tail) s.station;
        steps = zeroed s.view.share.about b c.head (sym count j) s.steps;
      }

  pub discard_leaves : steps_leave (discard_steps b size c) s ≡ discarded b size c d (ends_left size c) s
  discard_leaves =
      let first = zero_steps b c.head (c.head - c.tail) ++ SetEnds b (all_empty size c).head (all_empty size c).tail ∷ [] in let second = SetEnds b c.head c.tail ∷ [] in
      ⊎_elim
      (λ (busy : is_emptying size c ≡ true). (λ j. steps_leave (if busy j then first else second) s) ∙ busy_leaves busy)
      (λ (calm : is_emptying size c ≡ false). (λ j. steps_leave (if calm j then first else second) s) ∙ calm_leaves calm)
      (cases_Bool (is_emptying size c))

pub emptying_if : (size : ℕ) (c : Ends) → (c.tail + batch size ≤ c.head) ⊎ (c.head ≡ size) → is_emptying size c ≡ true
emptying_if size c h = grind (arith, nat_tests)
