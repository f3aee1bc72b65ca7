-- What `try_lock` makes of what a seat knows that has the table alone.
use Rattle.std.proofs.Common.{◌≡◌, ℕ, zero, suc, Bool, true, false, refl, ap, ◌∙◌, arith, Option}
use Rattle.std.proofs.lemmas.Bool.{false≢true}
use Rattle.std.specs.Prelude.{if◌then◌else◌}
use Rattle.lq_device.specs.Station.{StationState}
use Rattle.lq_model.specs.declared.machine.Position.{Position}
use Rattle.lq_model.specs.declared.machine.Position.TheVariants as at
use Rattle.lq_model.specs.Control.{is_control}
use Rattle.lq_table.specs.Marks.{marks_of}
use Rattle.lq_table.specs.Views.{View, HolderPart}
use Rattle.lq_table.specs.Rule.{holders}
use Rattle.lq_table.specs.Moves.{Sat, seen_by}
use Rattle.lq_table.specs.Locks.{seen_lock, try_lock_at, try_lock_view, try_lock_view_in_call, try_lock_view_in_control, locked_to}
use Rattle.lq_table.specs.Sees.{IsAccounts, account_of, solo}
use Rattle.atomic_table.specs.Table.{Step}
use Rattle.lq_table.proofs.TriesSolo.{at_lock, finds_marks, marks_at, solo_at}
use Rattle.lq_table.proofs.shared.Shared.try_lock.Invariants.{try_lock_told}

abbrev got_at : Position → HolderPart → View → View
got_at y d v = if is_control y then try_lock_view_in_control d v else at_lock y (seen_lock (seen_by (record v { holder = d })) false) d v

pub gets_solo : (y : Position) → try_lock_at y ≡ true → (d : HolderPart) (v : View) → solo (got_at y d v) ≡ locked_to true (solo v)
gets_solo (at.Try1 a) h d v = solo_at (at.Try1 a) h (seen_lock (seen_by (record v { holder = d })) false) d v (λ e. absurd (false≢true e))
gets_solo (at.Try2 a) h d v = solo_at (at.Try2 a) h (seen_lock (seen_by (record v { holder = d })) false) d v (λ e. absurd (false≢true e))
gets_solo (at.Control holds) h d v = refl
gets_solo _ h d v = absurd (false≢true h)

gets_marks : (y : Position) → try_lock_at y ≡ true → (d : HolderPart) (v : View) → marks_of (got_at y d v) ≡ marks_of v
gets_marks (at.Try1 a) h d v = marks_at (at.Try1 a) h (seen_lock (seen_by (record v { holder = d })) false) d v
gets_marks (at.Try2 a) h d v = marks_at (at.Try2 a) h (seen_lock (seen_by (record v { holder = d })) false) d v
gets_marks (at.Control holds) h d v = refl
gets_marks _ h d v = absurd (false≢true h)

pub gets_accounts : (d : HolderPart) (v : View) → d ≡ holders v.whole.state (account_of v) d.size → IsAccounts (try_lock_view d v)
gets_accounts d v e = by (is_control v.place.position)
  where
    by : (b : Bool) → IsAccounts (if b then try_lock_view_in_control d v else try_lock_view_in_call d v)
    by true = e
    by false = e

pub try_marks : (s : Step (Option StationState)) (found : ℕ) (m m' : Sat) → try_lock_at m.0.place.position ≡ true
    → try_lock_told s m found m' → marks_of m'.0 ≡ marks_of m.0
try_marks s zero m m' h t = let d = t.0 refl in ap (λ (z : Sat). marks_of z.0) d.1 ∙ gets_marks m.0.place.position h d.0 m.0
try_marks s (suc n) m m' h t = ap (λ (z : Sat). marks_of z.0) (t.1 (omega arith)) ∙ finds_marks m.0 h
