-- What several steps need of a seat that has the table alone.
use Rattle.std.proofs.Common.{◌≡◌, ℕ, ◌<◌, ap, ◌∙◌, Option, None}
use lib.ListN.{get_elem?}
use Rattle.atomic_table.specs.Table as table
use Rattle.lq_device.specs.Station.{StationState}
use Rattle.lq_band_laws.specs.Three.{at}
use mathlib.Core.Option.{some}
use Rattle.lq_model.specs.declared.machine.Position.TheVariants.{Idle}
use Rattle.lq_table.specs.Views.{View, Setup, State}
use Rattle.lq_table.specs.Rule.{account, Rule}
use Rattle.lq_table.specs.Moves.{Sat, at_rest}
use Rattle.lq_table.specs.States.{SeesState}
use Rattle.lq_table.specs.Sees.{IsSole}
use Rattle.lq_table.proofs.SoleFacts.{knows_state}
use Rattle.lq_table.proofs.AllAtRest.{unlocked}
use Rattle.lq_table.proofs.Ends.{rests}
use Rattle.lq_table.proofs.StopsKept.{free_none}

module _ (k : Setup) (slots id : ℕ) (m : Sat) where
  abbrev pub sees : ℕ → Type 0
  sees x = IsSole m.0 → SeesState m.0 x

  -- no other seat holds the run lock, so no swap of the device is half done
  pub none_shut : m.0.place.position ≡ Idle → 0 < m.0.share.shares → (s : table.State (Option StationState) View) → Rule k s → get_elem? s.views id ≡ some m.0 → IsSole m.0 → m.0.whole.state.shut ≡ None
  none_shut at some_share s r here sole = ap (λ (g : State). g.shut) (knows_state k s r id m.0 here some_share sole)
      ∙ free_none r.qdisc.phase r.qdisc.locked r.qdisc.xoff (account k r.state).stops r.state.shut (unlocked k s r (rests k s r id m.0 here sole.0 (ap at_rest at))) r.parts.station.stops
