-- What the calls of control ask of a seat, and what they leave of it.
use Rattle.std.specs.Prelude.{◌≡◌, ◌<◌, ℕ, true, IfSome, length, Option, Some, None}
use Rattle.lq_model.specs.Machine.{is_closed}
use Rattle.lq_model.specs.declared.fate.Cause.{Cause}
use Rattle.lq_model.specs.declared.machine.Phase.{Phase}
use Rattle.lq_model.specs.declared.machine.Position.{Position}
use Rattle.lq_model.specs.declared.machine.Position.TheVariants.{Control}
use Rattle.lq_table.specs.Rule.{shown}
use Rattle.lq_table.specs.Sees.{view, position}
use Rattle.lq_table.specs.declared.shared.Cpu.{Cpu}
use Rattle.lq_table.specs.declared.shared.Shared.{Shared}
use Rattle.lq_qdisc.specs.Sends.{IsReadyToSend}
use Rattle.lq_control.specs.Control.{IsIn, OwesPurged}

module _ {D : Type 0} where
  -- the first seat at this position, with nothing in hand
  abbrev pub IsFirstReadyAt : Position → Cpu D → Type 0
  IsFirstReadyAt at c = (position c ≡ at) × ((view c).control.first ≡ true) × IsReadyToSend c

  -- a seat at this position, with nothing in hand, that knows the station as in this phase
  abbrev pub IsReadyAt : Position → Phase → Cpu D → Type 0
  IsReadyAt at phase c = (position c ≡ at) × IsReadyToSend c × IsIn phase (view c)

-- PURGES

module _ {D : Type 0} where
  -- the requeue slot of the station that it carries is to be purged by this cause
  abbrev pub HasSlotToPurge : Shared D → Cause → Cpu D → Type 0
  HasSlotToPurge t cause c = (s : Option ℕ) × (c.station ≡ Some (shown (record (view c).holder { slot = s }))) × OwesPurged cause s (view c) × ((view c).holder.slot ≡ None) × IfSome s (λ n. n < length t.infos.now)

  -- the run lock of a deactivated station may be released: no purge and no swap is half done
  abbrev pub MayRelease : Cpu D → Type 0
  MayRelease c = (position c ≡ Control true) × (is_closed (view c).control.phase ≡ true) × ((view c).control.purge ≡ None) × ((view c).holder.shut ≡ None)
