-- The stop words and the account's stop values under a step.
use Rattle.std.proofs.Common.{◌≡◌, ℕ, zero, suc, ◌+◌, ◌<◌, Bool, true, false, true≢false, List, [], ◌∷◌, map, length, set, get_or, get_or-set_same, get_or-set_other, refl, sym, ap, ◌∙◌, subst, arith, Option, Some, None}
use Rattle.std.specs.Prelude.{if◌then◌else◌, nat_lt, slice_index}
use Rattle.std.proofs.lemmas.List.{length-set}
use Rattle.std.proofs.lemmas.Bool.{lt-ltb}
use mathlib.Core.Logic.{dite}
use mathlib.Core.Option.{some}
use native.Mathlib.Decide.{ℕ_discrete, dec_lt}
use lib.ListN.{get_elem?}
use Rattle.lq_model.specs.declared.machine.Phase.{Phase}
use Rattle.lq_model.specs.declared.machine.Phase.TheVariants.{Purged}
use Rattle.lq_model.specs.Control.{is_quiet}
use Rattle.lq_model.specs.Positions.{may_be_inside}
use Rattle.lq_model.specs.Kept.{IsInductive}
use Rattle.lq_model.specs.Machine.{Qdisc}
use Rattle.lq_model.specs.declared.machine.Seat.{Seat}
use Rattle.lq_table.specs.Views.{View}
use Rattle.lq_table.specs.Rule.{machine_of, is_live, AreStops}
use Rattle.lq_table.specs.Controls.{shut_after}
use Rattle.lq_run_laws.proofs.Among.{among-at as here}
use Rattle.lq_table.proofs.Middle.{middle}
use Rattle.lq_table.proofs.Frames.{opened}

module _ (phase : Phase) (locked : Bool) (xoff stops : List ℕ) where
  pub agree : (o : Option ℕ) → o ≡ None → AreStops o phase locked xoff stops → xoff ≡ stops
  agree None e h = h
  agree (Some n) e h = absurd cc

  pub none_agree : (o : Option ℕ) → o ≡ None → xoff ≡ stops → AreStops o phase locked xoff stops
  none_agree None e h = h
  none_agree (Some n) e h = absurd cc

  pub free_none : (o : Option ℕ) → locked ≡ false → AreStops o phase locked xoff stops → o ≡ None
  free_none None free h = refl
  free_none (Some n) free h = absurd (true≢false (sym h.held ∙ free))

  pub other_none : (o : Option ℕ) → (phase ≡ Purged → ⊥) → AreStops o phase locked xoff stops → o ≡ None
  other_none None other h = refl
  other_none (Some n) other h = absurd (other h.purged)

  -- the machine goes on
  pub stops_moved : (o : Option ℕ) (phase' : Phase) (locked' : Bool) (xoff' : List ℕ) → (phase ≡ Purged → phase' ≡ Purged) → (locked ≡ true → locked' ≡ true) → xoff' ≡ xoff → AreStops o phase locked xoff stops → AreStops o phase' locked' xoff' stops
  stops_moved None phase' locked' xoff' p l x h = x ∙ h
  stops_moved (Some n) phase' locked' xoff' p l x h = record {
    purged = p h.purged;
    held = l h.held;
    some_stored = h.some_stored;
    within = subst (λ (ls : List ℕ). n < length ls) (sym x) h.within;
    opened = λ c below. ap (λ (ls : List ℕ). slice_index ls c) x ∙ h.opened c below;
    all_open = h.all_open ∙ ap (map (λ _. 0)) (sym x);
  }

-- beside a seat that is in a call no swap is half done
pub call_none : (views : List View) (id : ℕ) (v : View) (at_id : get_elem? views id ≡ some v) (live : is_live v ≡ true) (q : Qdisc) → IsInductive (machine_of q views) → may_be_inside v.place.position ≡ false
    → (o : Option ℕ) (stops : List ℕ) → AreStops o q.phase q.locked q.xoff stops → o ≡ None
call_none views id v at_id live q h busy o stops are = let m = middle views id v at_id live in let ok = opened views id v at_id live q h in
    other_none q.phase q.locked q.xoff stops o (λ purged. true≢false (sym (ok.kept.quiet_inside (ap is_quiet purged) (length m.before)) ∙ (ap (λ (s : Seat). may_be_inside s.position) (here m.before m.after v.place) ∙ busy))) are

-- THE STORES OF A SWAP

pub map_set : (xs : List ℕ) (i : ℕ) → map {B = ℕ} (λ (_ : ℕ). 0) (set xs i 0) ≡ map {B = ℕ} (λ (_ : ℕ). 0) xs
map_set [] i = refl
map_set (x ∷ xs) zero = refl
map_set (x ∷ xs) (suc i) = ap (λ (ls : List ℕ). 0 ∷ ls) (map_set xs i)

all_zero_is : (xs : List ℕ) → ((c : ℕ) → c < length xs → slice_index xs c ≡ 0) → xs ≡ map {B = ℕ} (λ _. 0) xs
all_zero_is [] h = refl
all_zero_is (x ∷ xs) h = (λ j. h 0 (omega arith) j ∷ all_zero_is xs (λ c l. h (suc c) (omega arith)) j)

pub no_two : (xs : List ℕ) (c : ℕ) → slice_index (map {B = ℕ} (λ (_ : ℕ). 0) xs) c ≡ 2 → ⊥
no_two [] c e = absurd (omega arith)
no_two (x ∷ xs) zero e = absurd (omega arith)
no_two (x ∷ xs) (suc c) e = no_two xs c e

-- after the store of this queue's word
pub after_open : (xs stops : List ℕ) (queue n : ℕ) (phase : Phase) (locked : Bool) → phase ≡ Purged → locked ≡ true → n ≡ length xs → queue < n → ((c : ℕ) → c < queue → slice_index xs c ≡ 0) → stops ≡ map (λ _. 0) xs
    → AreStops (shut_after queue n) phase locked (set xs queue 0) stops
after_open xs stops queue n phase locked purged held long below opened_ all_open = by (nat_lt (queue + 1) n) refl
  where
    zeros : (c : ℕ) → c < queue + 1 → slice_index (set xs queue 0) c ≡ 0
    zeros c l = dite (ℕ_discrete c queue) (λ same. ap (λ (z : ℕ). get_or (set xs queue 0) z 0) same ∙ get_or-set_same xs queue 0 0 (omega (arith, long, below))) (λ other. get_or-set_other xs queue c 0 0 other ∙ opened_ c (omega (arith, l, other)))

    open_all : stops ≡ map (λ _. 0) (set xs queue 0)
    open_all = all_open ∙ sym (map_set xs queue)

    by : (b : Bool) → nat_lt (queue + 1) n ≡ b → AreStops (if b then Some (queue + 1) else None) phase locked (set xs queue 0) stops
    by true e = record {
      purged = purged;
      held = held;
      some_stored = omega arith;
      within = (let l = length-set xs queue 0 in let h = Rattle.std.proofs.lemmas.Bool.ltb-true (queue + 1) n e in omega arith);
      opened = zeros;
      all_open = open_all;
    }
    by false e = all_zero_is (set xs queue 0) (λ c l. zeros c (dite (dec_lt (queue + 1) n) (λ more. absurd (true≢false (sym (lt-ltb (queue + 1) n more) ∙ e))) (λ no_. let z = length-set xs queue 0 in omega arith))) ∙ sym open_all
