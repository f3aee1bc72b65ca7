-- What is written of a run: its files and its lines.
use Rattle.std.specs.Prelude.{ℕ, ◌<◌, ◌==◌, if◌then◌else◌, List, [], ◌∷◌, ◌++◌, map, length, codes, Option, None}
use Rattle.std.specs.Fmt.{decimal}
use Rattle.std.specs.Option.{option_map_or}
use Rattle.lq_model.specs.Capture.{Packets}
use Rattle.lq_model.specs.Numbers.{first_numbers}
use Rattle.lq_model.specs.Plan.{Plan, card_of, infos_of, unit_count}
use Rattle.lq_model.specs.Sent.{sent_of}
use Rattle.lq_model.specs.Texts.{counts_text, fates_text, times_text}
use Rattle.lq_model.specs.Wire.{flights_of_card}
use Rattle.lq_model.specs.declared.fate.Fate.{Fate}
use Rattle.lq_model.specs.declared.fate.Info.{Info}
use Rattle.lq_model.specs.declared.plan.Card.{Card}
use Rattle.lq_pcapng.specs.File.{packets_of_file, text_of}
use Rattle.lq_pcapng.specs.declared.file.CaptureFile.{CaptureFile}
use Rattle.lq_plan.specs.Limits.{max_stations}
use Rattle.lq_files.specs.Groups.{group_capture_name, group_files, mq_lines}
use Rattle.lq_files.specs.Written.{FileText, Texts}

-- RUNS

-- a run: the name that its files begin with, its plan and its capture
pub record Run : Type 0 where
  pub out : List ℕ
  pub plan : Plan
  pub capture : CaptureFile

abbrev pub run_of : List ℕ → Plan → CaptureFile → Run
run_of out plan capture = record { out = out; plan = plan; capture = capture }

-- TEXTS

-- OUT.UNIT.pcap
abbrev pub capture_name : List ℕ → ℕ → List ℕ
capture_name out unit = out ++ (codes "." ++ (decimal unit ++ codes ".pcap"))

abbrev pub fates_name : List ℕ → List ℕ
fates_name out = out ++ codes ".fates"

-- a file for each of the first so many units: the capture of the packets that it sent, in order of serial, in the format of the
-- capture that is run
abbrev pub unit_files : List ℕ → CaptureFile → List Fate → ℕ → List FileText
unit_files out capture fates units =
    map (λ unit. record { name = capture_name out unit; text = text_of capture (sent_of fates unit) }) (first_numbers units)

-- OUT.times
abbrev pub times_name : List ℕ → List ℕ
times_name out = out ++ codes ".times"

-- the card whose times are told: that of a plan with one sender, since they are those of the run of one
abbrev pub card_told : Plan → Option Card
card_told plan = if plan.senders == 1 then card_of plan else None

-- where a card's times are told, a file of them: when each packet that was sent was accepted, and when its frame ended
abbrev pub times_files : List ℕ → Plan → Packets → List Info → List FileText
times_files out plan packets infos =
    option_map_or (λ card. record { name = times_name out; text = times_text card (flights_of_card card plan packets infos) } ∷ []) (card_told plan) []

-- the counts of the fates, and a line for each multi-queue root
abbrev pub counts_output : Plan → List Info → List Fate → List ℕ
counts_output plan infos fates = counts_text fates infos (length plan.stations) (unit_count plan) ++ mq_lines plan fates

-- what is written: a file for each unit, one for each multi-queue root, one with each packet's fate and one with the times of a card, and
-- then the counts to standard output
abbrev pub texts_of : Run → List Fate → Texts
texts_of run fates = record {
  files = unit_files run.out run.capture fates (unit_count run.plan)
      ++ (group_files run.out run.capture run.plan fates ++ record { name = fates_name run.out; text = fates_text fates }
      ∷ times_files run.out run.plan (packets_of_file run.capture) (infos_of run.plan (packets_of_file run.capture)));
  output = counts_output run.plan (infos_of run.plan (packets_of_file run.capture)) fates;
}

-- NAMES

-- the files of so many units, those of the multi-queue roots that a plan may have, that of the fates and that of times may be created
pub record MayWrite (may_create : List ℕ → Type 0) (out : List ℕ) (count : ℕ) : Type 0 where
  pub units : (unit : ℕ) → unit < count → may_create (capture_name out unit)
  pub groups : (j : ℕ) → j < max_stations → may_create (group_capture_name out j)
  pub fates : may_create (fates_name out)
  pub times : may_create (times_name out)
