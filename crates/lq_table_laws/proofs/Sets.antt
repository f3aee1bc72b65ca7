-- A set of MISSED or DRAINING by the holder, with a packet in hand or without.
use Rattle.std.proofs.Common.{◌≡◌, ℕ, true, List, set, get_or, refl, ap, ◌∙◌, Option, None}
use Rattle.std.specs.Prelude.{bit_or, if◌then◌else◌, is_some}
use Rattle.std.proofs.lemmas.Bool.{false≢true}
use mathlib.Core.Option.{some}
use mathlib.Core.Option as maybe
use lib.ListN.{get_elem?}
use Rattle.lq_device.specs.Station.{StationState}
use Rattle.lq_model.specs.declared.machine.Blocked.TheVariants.{InHand, NoneTaken}
use Rattle.lq_model.specs.declared.machine.Position.{Position}
use Rattle.lq_model.specs.declared.machine.Position.TheVariants.{Again, BlockedDrain, BlockedMiss, Quota}
use Rattle.lq_model.specs.Positions.{in_hand}
use Rattle.lq_table.specs.Places.{state_place}
use Rattle.lq_table.specs.Views.{Setup, View}
use Rattle.lq_table.specs.Rule.{is_live, machine_of, Rule}
use Rattle.lq_table.specs.States.{backing, set_draining_at, set_missed_at, set_bit_view}
use Rattle.lq_table.specs.Moves.{pass_view}
use Rattle.lq_table.proofs.SetBitKept.{by_drain, by_miss}
use Rattle.lq_table_laws.specs.Stands.{Table}
use Rattle.lq_table_laws.specs.Stepped.{Leads, none_sent}
use Rattle.lq_table_laws.proofs.Calls.{sets_draining_move, sets_missed_move}
use Rattle.lq_table_laws.proofs.Devices.{backs_move}

module _ (k : Setup) (s : Table) (r : Rule k s) (x id : ℕ) (v w : View) (homes : List (maybe.Option (Option StationState))) (here : get_elem? s.views id ≡ some v) (live : is_live v ≡ true) (same : homes ≡ s.homes)
    (r' : Rule k (record { words = set s.words state_place x; homes = homes; views = set s.views id w })) (is : w ≡ set_bit_view v) where
  abbrev Goal : Type 0
  Goal = Leads (none_sent 1 0) (machine_of r.qdisc s.views) (machine_of r'.qdisc (set s.views id w))

  bare_is : in_hand v.place.position ≡ None → w ≡ pass_view v
  bare_is e = is ∙ (λ j. if is_some (e j) then backing v else pass_view v)

  pub sets_missed_all : x ≡ bit_or (get_or s.words state_place 0) 4 → set_missed_at v.place.position ≡ true → Goal
  sets_missed_all word at = by v.place.position refl at
    where
      bare : (y : Position) → v.place.position ≡ y → in_hand y ≡ None → Goal
      bare y e empty = sets_missed_move k s r x id v homes here live same w r' (bare_is (ap in_hand e ∙ empty)) word at (ap in_hand e ∙ empty)

      by : (y : Position) → v.place.position ≡ y → set_missed_at y ≡ true → Goal
      by Again e h = bare Again e refl
      by Quota e h = bare Quota e refl
      by (BlockedMiss (NoneTaken queue)) e h = bare (BlockedMiss (NoneTaken queue)) e refl
      by (BlockedMiss (InHand p direct)) e h = backs_move k s r x id v w homes here live same _ _ _ by_miss r' p direct refl (λ z. refl) (is ∙ (λ j. if is_some (ap in_hand e j) then backing v else pass_view v)) word e
      by _ e h = absurd (false≢true h)

  pub sets_draining_all : x ≡ bit_or (get_or s.words state_place 0) 8 → set_draining_at v.place.position ≡ true → Goal
  sets_draining_all word at = by v.place.position refl at
    where
      by : (y : Position) → v.place.position ≡ y → set_draining_at y ≡ true → Goal
      by (BlockedDrain (NoneTaken queue)) e h = sets_draining_move k s r x id v homes here live same w r' (bare_is (ap in_hand e)) word at (ap in_hand e)
      by (BlockedDrain (InHand p direct)) e h = backs_move k s r x id v w homes here live same _ _ _ by_drain r' p direct refl (λ z. refl) (is ∙ (λ j. if is_some (ap in_hand e j) then backing v else pass_view v)) word e
      by _ e h = absurd (false≢true h)
