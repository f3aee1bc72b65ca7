-- What a tap that is done leaves, told by one list of fates in which packet n has the n-th.
use Rattle.std.specs.Prelude.{◌≡◌, ◌⊎◌, ℕ, List}
use Rattle.lq_host.specs.Host.{HostState}
use Rattle.lq_pcapng.specs.File.{packets_of_file}
use Rattle.lq_pcapng.specs.declared.file.CaptureFile.{CaptureFile}
use Rattle.lq_fates.specs.Tap.{IsTapRun}
use Rattle.lq_fates.specs.declared.tap_fate.TapFate.{TapFate}
use Rattle.lq_files.specs.Command.{TapWords}
use Rattle.lq_files.specs.Written.{IsCut, written}
use Rattle.lq_files.specs.TapFiles.{tap_texts_of}

-- these are the fates of the capture's packets, and the packets that were read
abbrev pub AreTapFatesIn : TapWords → CaptureFile → List TapFate → List ℕ → Type 0
AreTapFatesIn words capture fates read = IsTapRun (packets_of_file capture).count words.senders words.len fates read

-- A tap that is done: some list of fates tells all of it. Each packet of the capture has exactly one of them, and the
-- files and the counts are written of them; all else is as it was.
abbrev pub HasTapped : TapWords → CaptureFile → HostState → HostState → Type 0
HasTapped words capture old new =
    (fates : List TapFate) × (read : List ℕ) × AreTapFatesIn words capture fates read × (new ≡ written (tap_texts_of words.out capture fates read) old)

-- where it is stopped, nothing was written, or a part of what one list of fates tells
abbrev pub HasCutTap : TapWords → CaptureFile → HostState → HostState → Type 0
HasCutTap words capture old new =
    (new ≡ old) ⊎ ((fates : List TapFate) × (read : List ℕ) × AreTapFatesIn words capture fates read × IsCut (tap_texts_of words.out capture fates read) old new)
