-- A step that a call made, as a value, from what its operation tells.
use Rattle.std.proofs.Common.{◌≡◌, ℕ, ◌+◌, ◌∷◌, Bool, true, false, List, [], Option, refl, sym, ◌∙◌}
use Rattle.std.specs.Prelude.{if◌then◌else◌}
use Rattle.lq_device.specs.Station.{StationState}
use Rattle.lq_table.specs.Keyed.{keyed_setup}
use Rattle.lq_table.specs.Moves.{Sat}
use Rattle.lq_table.specs.Places.{fates_offset, slot_word}
use Rattle.lq_table.specs.Sees.{IsSameSeat, IsSeatOf, slot, steps, view}
use Rattle.lq_table.specs.Step.{MakesSteps, Step, step_leaves, standing, step_tells}
use Rattle.lq_table.specs.Views.{View}
use Rattle.lq_table.specs.declared.shared.Cpu.{Cpu}
use Rattle.lq_table.specs.declared.shared.Shared.{Shared}

-- it is told what it knows then in two cases
pub decided : (b : Bool) (m' : Sat) (v w : View) (s : List (ℕ × Option StationState)) → (b ≡ true → m' ≡ (v, s)) → (b ≡ false → m' ≡ (w, s)) → m' ≡ (if b then v else w, s)
decided true m' v w s f g = f refl
decided false m' v w s f g = g refl

module _ {D : Type 0} where
  -- the seat makes a step that leaves it the station and the indices
  pub makes_one : (x : Step) (b a : Cpu D) → IsSameSeat b a → a.station ≡ (step_leaves x (standing b)).station → a.indices ≡ (step_leaves x (standing b)).indices
      → ◌≡◌ {A = Sat} (view a, slot a) ((step_leaves x (standing b)).view, (step_leaves x (standing b)).slot) → steps a ≡ (step_leaves x (standing b)).steps → step_tells x (standing b) → MakesSteps (x ∷ []) b a
  makes_one x b a same station indices to noted told = record { seat = same; knows = λ j. (to j).0; has = λ j. (to j).1; carries = station; places = indices; made = noted; told = (told, tt) }

  module _ (t : Shared D) (c : Cpu D) (seat : IsSeatOf t c) where
    -- a word by the setup that the seat knows: of a slot,
    pub slot_of_seat : (b i h w : ℕ) → w ≡ slot_word (keyed_setup t.table.kit.shared.key) b i → i ≡ h → w ≡ slot_word (view c).share.about b h
    slot_of_seat b i h w e is = let k = keyed_setup t.table.kit.shared.key in e ∙ ((λ j. slot_word (record k { senders = t.same.1 j; max_len = t.same.2 j }) b i) ∙ (λ j. slot_word (sym seat.2 j) b (is j)))

    -- and of a fate
    pub fate_of_seat : (n w : ℕ) → w ≡ fates_offset (keyed_setup t.table.kit.shared.key) + n → w ≡ fates_offset (view c).share.about + n
    fate_of_seat n w e = let k = keyed_setup t.table.kit.shared.key in e ∙ ((λ j. fates_offset (record k { senders = t.same.1 j; max_len = t.same.2 j }) + n) ∙ (λ j. fates_offset (sym seat.2 j) + n))
