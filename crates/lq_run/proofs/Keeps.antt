-- What the run lock's steps leave as it was.
use Rattle.std.proofs.Common.{◌≡◌, ap}
use Rattle.lq_table.specs.Sees.{view, IsSameSeat}
use Rattle.lq_table.specs.Views.{View}
use Rattle.lq_table.specs.declared.shared.Cpu.{Cpu}
use Rattle.lq_run.proofs.Tried.{still}

module _ {D : Type 0} where
  abbrev pub IsElseKept : Cpu D → Cpu D → Type 0
  IsElseKept b a = IsSameSeat b a × ((view a).share ≡ (view b).share) × ((view a).packets ≡ (view b).packets) × ((view a).locks ≡ (view b).locks) × ((view a).control ≡ (view b).control) × ((view a).whole.told ≡ (view b).whole.told)
      × (a.indices ≡ b.indices) × ((view a).turns ≡ (view b).turns) × ((view a).settled ≡ (view b).settled) × ((view a).trail ≡ (view b).trail)

  -- nor did an event come
  abbrev pub IsEventless : Cpu D → Cpu D → Type 0
  IsEventless b a = (view a).whole.state ≡ (view b).whole.state

  pub kept_still : (b a : Cpu D) → IsSameSeat b a → a.indices ≡ b.indices → still (view a) ≡ still (view b) → IsElseKept b a × IsEventless b a
  kept_still b a seat indices e = (
    (
      seat,
      ap (λ (z : View). z.share) e,
      ap (λ (z : View). z.packets) e,
      ap (λ (z : View). z.locks) e,
      ap (λ (z : View). z.control) e,
      ap (λ (z : View). z.whole.told) e,
      indices,
      ap (λ (z : View). z.turns) e,
      ap (λ (z : View). z.settled) e,
      ap (λ (z : View). z.trail) e,
    ),
    ap (λ (z : View). z.whole.state) e,
  )
