-- The names of the files that a command opens and creates.
use Rattle.std.specs.Prelude.{ℕ, List, Option, Some, None}
use Rattle.lq_files.specs.Command.{CommandWords, OfGen, OfRun, OfTap, OfTrace}
use Rattle.lq_files.specs.Accepted.{max_units}
use Rattle.lq_files.specs.RunFiles.{fates_name, MayWrite}
use Rattle.lq_files.specs.TapFiles.{read_name}

-- A command may open the files that it reads, and create those that it makes. Words that are no command name none.
abbrev pub MayDo : (List ℕ → Type 0) → (List ℕ → Type 0) → Option CommandWords → Type 0
MayDo may_open may_create None = Unit {0}
MayDo may_open may_create (Some (OfRun words)) = may_open words.plan × may_open words.capture × MayWrite may_create words.out max_units
MayDo may_open may_create (Some (OfGen words)) = may_create words.out
MayDo may_open may_create (Some (OfTrace file)) = may_open file
MayDo may_open may_create (Some (OfTap words)) = may_open words.capture × may_create (read_name words.out) × may_create (fates_name words.out)
