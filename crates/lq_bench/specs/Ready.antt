-- Where a seat stands between two rounds.
use Rattle.std.specs.Prelude.{◌≡◌, ◌<◌, true, None, [], ◌∷◌}
use Rattle.lq_model.specs.declared.machine.Position.TheVariants.{Idle}
use Rattle.lq_model.specs.declared.machine.Phase.TheVariants.{Active}
use Rattle.lq_band_laws.specs.Ring.{unlocked}
use Rattle.lq_band_laws.specs.Three.{all_three}
use Rattle.lq_table.specs.Views.{no_packets}
use Rattle.lq_table.specs.Sees.{view, position, slot, IsSeatOf}
use Rattle.lq_table.specs.declared.shared.Cpu.{Cpu}
use Rattle.lq_table.specs.declared.shared.Shared.{Shared}

module _ {D : Type 0} where
  -- in no call, with no producer lock and no resize half done
  abbrev pub IsReady : Shared D → Cpu D → Type 0
  IsReady t c = IsSeatOf t c × (position c ≡ Idle) × ((view c).locks ≡ all_three unlocked) × ((view c).holder.resizing ≡ None) × (0 < t.senders) × (0 < t.queues)

  -- and the first, with no call of control half done
  abbrev pub IsFirstReady : Shared D → Cpu D → Type 0
  IsFirstReady t c = IsReady t c × ((view c).control.first ≡ true) × ((view c).control.phase ≡ Active) × ((view c).control.purge ≡ None) × (slot c ≡ []) × (c.station ≡ None)

  -- it has the table alone, and the owners 0 to 3
  abbrev pub IsWhole : Cpu D → Type 0
  IsWhole c = ((view c).share.shares ≡ 1024) × ((view c).share.owners ≡ 3 ∷ 2 ∷ 1 ∷ 0 ∷ []) × ((view c).packets ≡ no_packets)
