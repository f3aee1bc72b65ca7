-- What is written of a tap: its files and its line.
use Rattle.std.specs.Prelude.{ℕ, List, [], ◌∷◌, ◌++◌, codes}
use Rattle.lq_pcapng.specs.File.{text_of}
use Rattle.lq_pcapng.specs.declared.file.CaptureFile.{CaptureFile}
use Rattle.lq_fates.specs.TapTexts.{tap_fates_text, tap_counts_line}
use Rattle.lq_fates.specs.declared.tap_fate.TapFate.{TapFate}
use Rattle.lq_files.specs.RunFiles.{fates_name}
use Rattle.lq_files.specs.Written.{Texts}

-- OUT.pcap
abbrev pub read_name : List ℕ → List ℕ
read_name out = out ++ codes ".pcap"

-- what is written: a file of the packets that were read, in order, in the format of the capture; one with each packet's fate; and then
-- their counts to standard output
abbrev pub tap_texts_of : List ℕ → CaptureFile → List TapFate → List ℕ → Texts
tap_texts_of out capture fates read = record {
  files = record { name = read_name out; text = text_of capture read } ∷ record { name = fates_name out; text = tap_fates_text fates } ∷ [];
  output = tap_counts_line fates;
}
