-- Hosts on which every name may be opened and created.
use Rattle.std.proofs.Common.{ℕ, List, Option, Some, None}
use Rattle.lq_host.specs.Host.{any_name}
use Rattle.lq_files.specs.Command.{CommandWords, OfGen, OfRun, OfTap, OfTrace}
use Rattle.lq_files.specs.Groups.{group_capture_name}
use Rattle.lq_files.specs.RunFiles.{capture_name, fates_name, times_name}
use Rattle.lq_files.specs.TapFiles.{read_name}
use Rattle.lq_top.specs.Names.{MayDo}

may_all : {may_open may_create : List ℕ → Type 0} → ((name : List ℕ) → may_open name) → ((name : List ℕ) → may_create name) → (command : Option CommandWords) → MayDo may_open may_create command
may_all opens creates None = _
may_all opens creates (Some (OfRun words)) = (
  opens words.plan,
  opens words.capture,
  record { units = λ unit below. creates (capture_name words.out unit); groups = λ j below. creates (group_capture_name words.out j); fates = creates (fates_name words.out); times = creates (times_name words.out) },
)
may_all opens creates (Some (OfGen words)) = creates words.out
may_all opens creates (Some (OfTrace file)) = opens file
may_all opens creates (Some (OfTap words)) = (opens words.capture, creates (read_name words.out), creates (fates_name words.out))

pub may_any : (command : Option CommandWords) → MayDo any_name any_name command
may_any command = may_all {may_open = any_name} {may_create = any_name} (λ name. _) (λ name. _) command
