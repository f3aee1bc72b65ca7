-- The settled fates stand in their fate words.
use Rattle.std.proofs.Common.{get_or, ◌≡◌, ◌≢◌, ◌⊎◌, inl, inr, ⊎_elim, zero, suc, length, ◌<◌, ℕ, List, ◌∷◌, set, sym, ap, ◌∙◌, subst, arith, Contains, slice_index, get_or-set_same, get_or-set_other}
use mathlib.Core.Logic.{dite}
use mathlib.Core.Option.{some}
use native.Mathlib.Decide.{ℕ_discrete}
use lib.ListN.{get_elem?}
use Rattle.lq_model.specs.Words.{word_of, HasWord, IsWordOf}
use Rattle.lq_model.specs.declared.fate.Fate.{Fate}
use Rattle.lq_model.specs.declared.fate.Fate.TheVariants as fate
use Rattle.lq_model.specs.declared.fate.Cause.TheVariants as cause
use Rattle.lq_band_laws.proofs.Seats.{each_step, each_same}
use Rattle.lq_table.specs.Views.{View}
use Rattle.lq_table.specs.Rule.{Settled}

module _ (views : List View) (id : ℕ) (v w : View) (here : get_elem? views id ≡ some v) (words : List ℕ) where
  -- a step that stores no fate
  pub settled_same : Settled words views → w.settled ≡ v.settled → Settled words (set views id w)
  settled_same x e = record {
    stand = each_same (λ u. (n : ℕ) (f : Fate) → Contains u.settled (n, f) → slice_index words n ≡ word_of f) views id w x.stand
        (λ n f has. x.stand id v here n f (subst (λ (fs : List (ℕ × Fate)). Contains fs (n, f)) e has));
    written = x.written;
  }

pub word_positive : (f : Fate) → word_of f ≢ 0
word_positive (fate.Sent unit serial) e = omega arith
word_positive (fate.Full seen) e = omega arith
word_positive (fate.Shrunk event) e = omega arith
word_positive (fate.Purged (cause.Event event)) e = omega arith
word_positive (fate.Purged (cause.Hung unit)) e = omega arith
word_positive (fate.Refused event) e = omega arith

-- an element of a list with one more is that one or one of the others
pub in_front : {X : Type 0} (x : X) (xs : List X) (y : X) → Contains (x ∷ xs) y → (x ≡ y) ⊎ Contains xs y
in_front x xs y (zero, l, e) = inl e
in_front x xs y (suc i, l, e) = inr (i, omega arith, e)

module _ (views : List View) (id : ℕ) (v w : View) (here : get_elem? views id ≡ some v) (words : List ℕ) where
  -- the fate f of the packet n is stored, whose word was 0
  pub settled_stored : (n : ℕ) (f : Fate) → HasWord f → slice_index words n ≡ 0 → n < length words → Settled words views → w.settled ≡ (n, f) ∷ v.settled → Settled (set words n (word_of f)) (set views id w)
  settled_stored n f has_word free inside x e = record {
    stand = each_step (λ u. (m : ℕ) (g : Fate) → Contains u.settled (m, g) → slice_index words m ≡ word_of g) (λ u. (m : ℕ) (g : Fate) → Contains u.settled (m, g) → slice_index (set words n (word_of f)) m ≡ word_of g) views id w x.stand
        (λ m g has. ⊎_elim (λ (same : (n, f) ≡ (m, g)). subst (λ (z : ℕ × Fate). slice_index (set words n (word_of f)) z.0 ≡ word_of z.1) same now) (λ old. keep m g (x.stand id v here m g old))
        (in_front (n, f) v.settled (m, g) (subst (λ (fs : List (ℕ × Fate)). Contains fs (m, g)) e has)))
        (λ j u _ _ y m g has. keep m g (y m g has));
    written = λ m. dite (ℕ_discrete m n) (λ same. inr (f, record { has_word = has_word; word_is = ap (λ (z : ℕ). get_or (set words n (word_of f)) z 0) same ∙ now }))
        (λ other. subst (λ (z : ℕ). (z ≡ 0) ⊎ ((g : Fate) × IsWordOf g z)) (sym (get_or-set_other words n m (word_of f) 0 other)) (x.written m));
  }
    where
      now : slice_index (set words n (word_of f)) n ≡ word_of f
      now = get_or-set_same words n (word_of f) 0 inside

      keep : (m : ℕ) (g : Fate) → slice_index words m ≡ word_of g → slice_index (set words n (word_of f)) m ≡ word_of g
      keep m g is = dite (ℕ_discrete m n) (λ same. absurd (word_positive g (sym is ∙ (ap (slice_index words) same ∙ free)))) (λ other. get_or-set_other words n m (word_of f) 0 other ∙ is)
