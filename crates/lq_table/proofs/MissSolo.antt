-- What `miss`, and a look that finds MISSED set, make of what a seat knows that has the table alone.
use Rattle.std.proofs.Common.{◌≡◌, Bool, true, refl}
use Rattle.std.proofs.lemmas.Bool.{false≢true}
use Rattle.lq_model.specs.declared.machine.Position.{Position}
use Rattle.lq_model.specs.declared.machine.Position.TheVariants as at
use Rattle.lq_model.specs.Steps.{goes_to, gives_up}
use Rattle.lq_table.specs.Views.{View}
use Rattle.lq_table.specs.Moves.{seen_by}
use Rattle.lq_table.specs.States.{miss_at, miss_view, missed_to}
use Rattle.lq_table.specs.Sees.{solo}
use Rattle.lq_table.proofs.SoloSteps.{Leaves, either_raised, either_words, solo_step}

miss_leaves : (y : Position) → miss_at y ≡ true → Leaves y (λ q. record q { missed = true })
miss_leaves (at.Miss attempt) h = record {
  raised = λ seen s. either_raised seen.missed (goes_to seen s (gives_up attempt)) (goes_to (record seen { missed = true }) s (at.Try2 attempt)) s.raised refl refl;
  words = λ q s. either_words q.missed (goes_to q s (gives_up attempt)) (goes_to (record q { missed = true }) s (at.Try2 attempt)) (record q { missed = true }) (λ e j. record q { missed = e j }) (λ _. refl);
}
miss_leaves _ h = absurd (false≢true h)

pub misses_solo : (was : Bool) (v : View) → miss_at v.place.position ≡ true → solo (miss_view was v) ≡ missed_to true (solo v)
misses_solo was v h = solo_step v (record (seen_by v) { missed = was }) (λ q. record q { missed = true }) (miss_leaves v.place.position h)
