-- What `load_state` makes of what a seat knows that has the table alone.
use Rattle.std.proofs.Common.{◌≡◌, ℕ, true, refl}
use Rattle.std.proofs.lemmas.Bool.{false≢true}
use Rattle.lq_model.specs.declared.machine.Position.{Position}
use Rattle.lq_model.specs.declared.machine.Position.TheVariants as at
use Rattle.lq_model.specs.Machine.{is_non_empty}
use Rattle.lq_model.specs.Steps.{run_begins, goes_to}
use Rattle.lq_table.specs.Views.{View}
use Rattle.lq_table.specs.Moves.{seen_by}
use Rattle.lq_table.specs.States.{seen_state, load_state_at, load_state_view}
use Rattle.lq_table.specs.Sees.{solo}
use Rattle.lq_table.proofs.SoloSteps.{Leaves, either_raised, either_words, solo_step}

load_leaves : (y : Position) → load_state_at y ≡ true → Leaves y (λ q. q)
load_leaves at.Post h = record {
  raised = λ seen s. either_raised (is_non_empty seen) (run_begins seen s) (goes_to seen s at.Unlock) s.raised refl refl;
  words = λ q s. either_words (is_non_empty q) (run_begins q s) (goes_to q s at.Unlock) q (λ _. refl) (λ _. refl);
}
load_leaves at.Test h = record { raised = λ seen s. refl; words = λ q s. refl }
load_leaves (at.Tail inside) h = record { raised = λ seen s. refl; words = λ q s. refl }
load_leaves at.Soft h = record { raised = λ seen s. refl; words = λ q s. refl }
load_leaves at.Late h = record { raised = λ seen s. refl; words = λ q s. refl }
load_leaves (at.Control holds) h = record { raised = λ seen s. refl; words = λ q s. refl }
load_leaves _ h = absurd (false≢true h)

pub looks_solo : (n : ℕ) (v : View) → load_state_at v.place.position ≡ true → solo (load_state_view n v) ≡ solo v
looks_solo n v h = solo_step v (seen_state (seen_by v) v.share.about.bypass n) (λ q. q) (load_leaves v.place.position h)
