-- A seat at a table that has a word.
use Rattle.std.specs.Prelude.{◌≡◌, ◌<◌}
use Rattle.atomic_table.specs.declared.shared.Shared.{Shared}
use Rattle.lq_bench.specs.declared.words.AnyTable.{AnyTable}
use Rattle.lq_bench.specs.declared.words.Stepper.{Stepper}

pub record IsStepperAt (table : Shared (Unit {0}) (Unit {0}) (Unit {0}) AnyTable) (stepper : Stepper) : Type 0 where
  pub same : stepper.seat.table_id ≡ table.table_id
  pub some : 0 < table.table_id.words
