-- What stays of a station when its table is closed and its device handed out.
use Rattle.std.specs.Prelude.{ℕ, List, take, drop}
use Rattle.std.specs.Mem.Slots.{slots_items}
use Rattle.lq_device.specs.declared.device.TxDevice.{Ghosts}
use Rattle.lq_model.specs.declared.plan.StationPlan.{StationPlan}
use Rattle.lq_table.specs.declared.ended.Ended.{Ended}
use Rattle.lq_table.specs.declared.ended.FateWords.{FateWords}

-- the number of a closed station, the plan that it was opened with, and the fate words of its packets
pub record EndedState : Type 0 where
  pub number : ℕ
  pub plan : StationPlan
  pub packets : ℕ
  pub words : List ℕ

module _ {D : Type 0} {g : Ghosts D} where
  -- the words in which the fates of its packets stand
  abbrev pub ended_fates : Ended D g → List ℕ
  ended_fates e = take e.packets (drop e.fates_from (slots_items e.table.words))

  abbrev pub ended_state : Ended D g → EndedState
  ended_state e = record { number = e.number; plan = e.plan; packets = e.packets; words = ended_fates e }

-- the same of words that were lent
abbrev pub lent_fates : FateWords → List ℕ
lent_fates w = take w.packets (drop w.from (slots_items w.words.now))
