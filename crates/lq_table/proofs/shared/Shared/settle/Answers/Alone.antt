-- What `settle` makes of what a seat knows that has the table alone.
use Rattle.std.proofs.Common.{◌≡◌, ℕ, Bool, refl, ap, ◌∙◌}
use Rattle.lq_model.specs.Account.{Send}
use Rattle.lq_model.specs.declared.machine.Answer.{Answer}
use Rattle.lq_model.specs.declared.machine.Answer.TheVariants.{Plain}
use Rattle.lq_model.specs.declared.machine.Answer.TheVariants as answer
use Rattle.lq_device.specs.Station.{StationState}
use Rattle.lq_model.specs.declared.fate.Fate.{Fate}
use Rattle.lq_model.specs.declared.fate.Fate.TheVariants as fate
use Rattle.lq_table.specs.Fates.{MaySettle, settle_view, settle_view_sent, machine_answer, settle_alone}
use Rattle.lq_model.specs.declared.machine.Position.{Position}
use Rattle.lq_model.specs.declared.machine.Position.TheVariants as at
use Rattle.lq_model.specs.declared.machine.Packet.{Packet}
use Rattle.lq_model.specs.Steps.{step_at}
use Rattle.lq_table.specs.Views.{View}
use Rattle.lq_table.specs.Moves.{seen_by}
use Rattle.lq_table.specs.Sees.{Solo, solo, heard, device_to}

-- the device answered
abbrev at_device : View → StationState → Position → Answer → Solo
at_device v st y answer = record (device_to st.device (heard Send (solo v))) {
  raised = (step_at y answer (seen_by v) v.place).seat.raised;
  whole = record (device_to st.device (heard Send (solo v))).whole {
    missed = (step_at y answer v.whole.qdisc v.place).qdisc.missed;
    draining = (step_at y answer v.whole.qdisc v.place).qdisc.draining;
    scheduled = (step_at y answer v.whole.qdisc v.place).qdisc.sched;
    locked = (step_at y answer v.whole.qdisc v.place).qdisc.locked;
  };
}

pub settles_solo : (v : View) (st : StationState) (p : Packet) (direct : Bool) → v.place.position ≡ at.Xmit p direct → solo (settle_view_sent st v) ≡ device_to st.device (heard Send (solo v))
settles_solo v st p direct is = ap (λ (y : Position). at_device v st y (machine_answer st.last)) is ∙ by (machine_answer st.last)
  where
    by : (answer : Answer) → at_device v st (at.Xmit p direct) answer ≡ device_to st.device (heard Send (solo v))
    by answer.Plain = refl
    by answer.FullSlot = refl
    by answer.Stop = refl
    by answer.Hang = refl
    by answer.Busy = refl

pub fates_solo : (v : View) (st : StationState) (b n : ℕ) (f : Fate) → MaySettle b n f st v → solo (settle_view st b n f v) ≡ settle_alone st f (solo v)
fates_solo v st b n (fate.Sent unit serial) may = settles_solo v st may.packet may.direct may.position
fates_solo v st b n (fate.Full seen) may = refl
fates_solo v st b n (fate.Refused event) may = refl
fates_solo v st b n (fate.Purged cause) may = refl
fates_solo v st b n (fate.Shrunk event) may = refl
