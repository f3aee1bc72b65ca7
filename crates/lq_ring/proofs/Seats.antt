-- A seat stays one of its table.
use Rattle.std.proofs.Common.{◌≡◌, ◌<◌, sym, ap, ◌∙◌, subst}
use Rattle.lq_table.specs.Views.{SharePart}
use Rattle.lq_table.specs.Sees.{view, IsSeatOf, IsSameSeat}
use Rattle.lq_table.specs.declared.shared.Cpu.{Cpu}
use Rattle.lq_table.specs.declared.shared.Shared.{Shared}

pub seat_on : {D : Type 0} (t : Shared D) (c c' : Cpu D) → IsSeatOf t c → IsSameSeat c c' → (view c').share ≡ (view c).share → IsSeatOf t c'
seat_on t c c' seat same share = (same.0 ∙ seat.0, subst (λ (s : SharePart). 0 < s.shares) (sym share) seat.1, ap (λ (s : SharePart). s.about) share ∙ seat.2)
