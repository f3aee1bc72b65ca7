-- Refusals: their statuses and their lines.
use Rattle.std.specs.Prelude.{ℕ, List, [], ◌∷◌, ◌++◌, codes}
use Rattle.std.specs.Fmt.{decimal}
use Rattle.lq_model.specs.declared.capture.CaptureReason.{CaptureReason}
use Rattle.lq_model.specs.declared.capture.CaptureReason.TheVariants as capture
use Rattle.lq_model.specs.declared.plan.PlanReason.{PlanReason}
use Rattle.lq_model.specs.declared.plan.PlanReason.TheVariants as plan
use Rattle.lq_run_core.specs.declared.trace_run.TraceReason.{TraceReason}
use Rattle.lq_run_core.specs.declared.trace_run.TraceReason.TheVariants as trace
use Rattle.lq_files.specs.declared.refusal.Refusal.{Refusal}
use Rattle.lq_files.specs.declared.refusal.Refusal.TheVariants.{Usage, Plan, Bench, Capture, Trace}
use Rattle.lq_files.specs.declared.answer.Status.{Status}
use Rattle.lq_files.specs.declared.answer.Status.TheVariants as status

-- REASONS: NUMBER NAME

abbrev pub plan_reason_text : PlanReason → List ℕ
plan_reason_text plan.NotToml = codes "1 NotToml"
plan_reason_text plan.UnknownKey = codes "2 UnknownKey"
plan_reason_text plan.Missing = codes "3 Missing"
plan_reason_text plan.Kind = codes "4 Kind"
plan_reason_text plan.Range = codes "5 Range"
plan_reason_text plan.EventOrder = codes "6 EventOrder"
plan_reason_text plan.TooLong = codes "8 TooLong"
plan_reason_text plan.TwoLimits = codes "9 TwoLimits"
plan_reason_text plan.OneLink = codes "10 OneLink"

abbrev pub capture_reason_text : CaptureReason → List ℕ
capture_reason_text capture.ShortHeader = codes "1 ShortHeader"
capture_reason_text capture.Magic = codes "2 Magic"
capture_reason_text capture.Version = codes "3 Version"
capture_reason_text capture.CutRecordHeader = codes "4 CutRecordHeader"
capture_reason_text capture.LongRecord = codes "5 LongRecord"
capture_reason_text capture.CutData = codes "6 CutData"
capture_reason_text capture.TooMany = codes "7 TooMany"
capture_reason_text capture.TooLong = codes "9 TooLong"
capture_reason_text capture.CutBlock = codes "10 CutBlock"
capture_reason_text capture.BlockLength = codes "11 BlockLength"
capture_reason_text capture.ByteOrder = codes "12 ByteOrder"
capture_reason_text capture.NoInterface = codes "13 NoInterface"
capture_reason_text capture.BlockBody = codes "14 BlockBody"
capture_reason_text capture.SecondSection = codes "15 SecondSection"
capture_reason_text capture.TimeBack = codes "16 TimeBack"

abbrev pub trace_reason_text : TraceReason → List ℕ
trace_reason_text trace.Syntax = codes "1 Syntax"
trace_reason_text trace.NoSeat = codes "2 NoSeat"
trace_reason_text trace.SeatWaits = codes "3 SeatWaits"
trace_reason_text trace.TooLong = codes "5 TooLong"

-- LINES

-- the line on standard output that tells a refusal
abbrev pub refusal_line : Refusal → List ℕ
refusal_line Usage =
    codes "usage: lqtx run PLAN CAPTURE OUT | lqtx gen NUMBER COUNT OUT | lqtx trace FILE | lqtx tap SENDERS LEN BATCH CAPTURE OUT" ++ 10 ∷ []
refusal_line (Plan reason) = codes "plan refused: " ++ (plan_reason_text reason ++ 10 ∷ [])
refusal_line (Bench need have) = codes "bench refused: needs " ++ (decimal need ++ (codes " units, has " ++ (decimal have ++ 10 ∷ [])))
refusal_line (Capture reason place) =
    codes "capture refused: " ++ (capture_reason_text reason ++ (codes " at " ++ (decimal place ++ 10 ∷ [])))
refusal_line (Trace reason line) =
    codes "trace refused: " ++ (trace_reason_text reason ++ (codes " at line " ++ (decimal line ++ 10 ∷ [])))

-- STATUSES

abbrev pub status_of : Refusal → Status
status_of Usage = status.Usage
status_of (Plan reason) = status.Plan reason
status_of (Bench need have) = status.Bench need have
status_of (Capture reason place) = status.Capture reason place
status_of (Trace reason line) = status.Trace reason line
