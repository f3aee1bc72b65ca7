-- What a wake leaves, and a look whether the bands are to be served.
use Rattle.std.proofs.Common.{◌≡◌, ℕ, zero, suc, ap, Bool, true, false, refl, ◌∙◌}
use Rattle.lq_table.specs.Views.{View, Setup, Known}
use Rattle.lq_table.specs.Moves.{is_set, pass_view}
use Rattle.lq_table.specs.States.{load_state_view, set_sched_view}
use Rattle.lq_table.specs.Stops.{wake_view}
use Rattle.lq_qdisc.specs.Sends.{WakesBelow}
use Rattle.lq_qdisc.proofs.ViewLemmas.{below_view}
use Rattle.lq_qdisc.proofs.ViewRelations.{IsDue, WakesAt, WakesFirst}

-- what a wake leaves as it was
pub wake_keeps : {X : Type 0} (part : View → X) (queue : ℕ) (old new : View) → ((was : Bool) → part (set_sched_view was (wake_view queue old)) ≡ part old) → (opened : Bool) → WakesAt queue opened old new → part new ≡ part old
wake_keeps part queue old new kept true w = ap part w.1 ∙ kept w.0
wake_keeps part queue old new kept false w = ap part w.0

none_first : (queues : ℕ) (old new : View) → WakesFirst queues false old new → new ≡ old
none_first zero old new w = w.1
none_first (suc queue) old new (mid, false, false, below, here, is) = here.0 ∙ none_first queue old mid below
none_first (suc queue) old new (mid, false, true, below, wakes, is) = absurd cc
none_first (suc queue) old new (mid, true, here, below, wakes, is) = absurd cc

-- where none was opened, a seat knows what it knew
pub none_opened : (k : Setup) (count : ℕ) (old new : Known) → WakesBelow k count false old new → new.view ≡ old.view
none_opened k count old new w = none_first count old.view new.view (below_view k count false old new w)

-- what no load of the state and no clearing of SCHED changes is as it was where a soft interrupt has looked whether it is due
pub due_keeps : {X : Type 0} (part : View → X) (due : Bool) (old new : View) → ((first : ℕ) (v : View) → part (pass_view (load_state_view first v)) ≡ part v)
    → ((first second : ℕ) (v : View) → part (load_state_view second (pass_view (load_state_view first v))) ≡ part v) → IsDue due old new → part new ≡ part old
due_keeps part due old new once twice d = keeps (is_set 2 d.first) refl where
  keeps : (on : Bool) → is_set 2 d.first ≡ on → part new ≡ part old
  keeps false off = ap part (d.active off).1 ∙ once d.first old
  keeps true on = let x = d.deactivated on in ap part x.2 ∙ twice d.first x.0 old
