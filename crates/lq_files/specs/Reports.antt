-- What the code hands on of a run and of a tap, as the definitions of what is written have it.
use Rattle.std.specs.Prelude.{ℕ, List}
use Rattle.lq_model.specs.declared.fate.Fate.{Fate}
use Rattle.lq_files.specs.Groups.{group_files}
use Rattle.lq_files.specs.RunFiles.{Run, run_of, texts_of, unit_files}
use Rattle.lq_files.specs.TapFiles.{tap_texts_of}
use Rattle.lq_files.specs.Written.{FileText, Texts}
use Rattle.lq_files.specs.declared.report.RunInputs.{RunInputs}
use Rattle.lq_files.specs.declared.report.TapReport.{TapReport}

abbrev pub run_of_inputs : RunInputs → Run
run_of_inputs run = run_of run.out.now run.plan.now run.capture.now

-- THE FILES OF A RUN with these fates

abbrev pub unit_files_of : RunInputs → List Fate → ℕ → List FileText
unit_files_of run fates units = unit_files run.out.now run.capture.now fates units

abbrev pub group_files_of : RunInputs → List Fate → List FileText
group_files_of run fates = group_files run.out.now run.capture.now run.plan.now fates

abbrev pub run_texts : RunInputs → List Fate → Texts
run_texts run fates = texts_of (run_of_inputs run) fates

-- THE FILES OF A TAP

abbrev pub tap_texts : TapReport → Texts
tap_texts report = tap_texts_of report.out.now report.capture.now report.fates.now report.read.now
