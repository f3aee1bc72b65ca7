-- The headline: what a run that is done leaves, told by one list of fates in which packet n has the n-th.
use Rattle.std.specs.Prelude.{◌≡◌, ◌⊎◌, ℕ, List, [], ◌∷◌}
use Rattle.lq_model.specs.Device.{DeviceState}
use Rattle.lq_model.specs.Openings.{openings}
use Rattle.lq_model.specs.Plan.{infos_of}
use Rattle.lq_model.specs.declared.fate.Fate.{Fate}
use Rattle.lq_host.specs.Host.{HostState}
use Rattle.lq_pcapng.specs.File.{packets_of_file}
use Rattle.lq_senders.specs.Fates.{AreEnded, AreFatesOf}
use Rattle.lq_table.specs.Ended.{EndedState}
use Rattle.lq_files.specs.Groups.{AreOfGroup, sent_by_group}
use Rattle.lq_files.specs.Written.{OutputHasPrefix, output_only, written}
use Rattle.lq_files.specs.RunFiles.{Run, texts_of}

-- THE HEADLINE

-- these are the fates of a run; `before` and `after` are the devices of the bench, before the call and after it
pub record AreFatesIn (run : Run) (fates : List Fate) (before after : List DeviceState) : Type 0 where
  pub of_run : AreFatesOf run.plan (infos_of run.plan (packets_of_file run.capture)) (openings run.plan (packets_of_file run.capture)) fates before after
  -- what stands in the capture of each group is what its children sent
  pub groups : (j : ℕ) → AreOfGroup run.plan fates j (sent_by_group run.plan fates j)

-- and this is what stays of its stations
abbrev pub AreEndedIn : Run → List Fate → List EndedState → Type 0
AreEndedIn run fates ended = AreEnded run.plan (infos_of run.plan (packets_of_file run.capture)) fates ended

-- A run that is done: some list of fates tells all of it. Each packet of the capture has exactly one of them, the devices
-- accepted what they say was sent, the stations ended with them, and the files and the counts are written of them; all else is as
-- it was.
abbrev pub HasRun : Run → HostState → HostState → List DeviceState → List DeviceState → List EndedState → Type 0
HasRun run old new before after ended = (fates : List Fate) × AreFatesIn run fates before after × AreEndedIn run fates ended × (new ≡ written (texts_of run fates) old)

-- GENERATED RUNS

-- A generated run that is done: as a run, but that its one file is the generated capture, which has this text.
abbrev pub HasGenerated : List ℕ → Run → HostState → HostState → List DeviceState → List DeviceState → List EndedState → Type 0
HasGenerated text run old new before after ended =
    (fates : List Fate) × AreFatesIn run fates before after × AreEndedIn run fates ended
    × (new ≡ written (record (texts_of run fates) { files = record { name = run.out; text = text } ∷ [] }) old)

-- the part of it after the file: what is written is the counts of the fates alone
abbrev pub HasCounted : Run → HostState → HostState → List DeviceState → List DeviceState → List EndedState → Type 0
HasCounted run old new before after ended =
    (fates : List Fate) × AreFatesIn run fates before after × AreEndedIn run fates ended × (new ≡ written (output_only (texts_of run fates).output) old)

-- where it is stopped, nothing was written, or a prefix of the counts of one list of fates
abbrev pub AreCountsCut : Run → HostState → HostState → List DeviceState → List DeviceState → Type 0
AreCountsCut run old new before after =
    (new ≡ old) ⊎ ((fates : List Fate) × AreFatesIn run fates before after × OutputHasPrefix (texts_of run fates).output old new)
