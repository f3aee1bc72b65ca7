use Rattle.std.proofs.Common.{◌+◌, ◌∙◌, ℕ, List, length, map, sym, ap, subst}
use Rattle.lq_seat.specs.State.{TableState}
use Rattle.lq_senders.specs.Ends.{AllMayClose}
use Rattle.lq_senders.specs.Joins.{AreFirst}
use Rattle.lq_senders.specs.Woken.{opens_by}
use Rattle.lq_senders.specs.Senders.{AreReadySenders, SenderStands, after_sending}
use Rattle.lq_senders.proofs.Devices.{devices-same}
use Rattle.lq_senders.proofs.Joins.{first-keep}
use Rattle.lq_senders.proofs.all_senders.run.Goals as goal

pub all_send-first-requires-clause-first : goal.all_send-first-requires-clause-first
all_send-first-requires-clause-first g c κs within =
    subst (λ (ts : List TableState). SenderStands c.args.job.now.plan.now c.args.job.now.infos.now 0 0 0 ts c.args.senders.first.seats.items) (sym c.as_slice.ensures.value) c.requires.first.0

pub all_send-first-requires-clause-others : goal.all_send-first-requires-clause-others
all_send-first-requires-clause-others g c κs within =
    subst (λ (ts : List TableState). AreReadySenders c.args.job.now.plan.now c.args.job.now.infos.now ts c.args.senders.others.items) (sym c.as_slice.ensures.value) c.requires.others

pub end_run-requires-clause-first : goal.end_run-requires-clause-first
end_run-requires-clause-first g c κs within = (
  c.all_send-first.ensures.first,
  subst (λ k. AreFirst k c.all_send-first.result.0.seats.items) (sym c.all_send-first.ensures.long)
      (first-keep (length c.args.senders.others.items) c.args.senders.first.seats.items c.all_send-first.result.0.seats.items c.all_send-first.ensures.keeps c.requires.first.1),
)

pub end_run-requires-clause-senders : goal.end_run-requires-clause-senders
end_run-requires-clause-senders g c κs within = ap (λ (k : ℕ). k + 1) c.all_send-first.ensures.long ∙ c.requires.senders

pub close_all-requires-clause-may : goal.close_all-requires-clause-may
close_all-requires-clause-may g c κs within =
    subst (λ (l : List TableState). AllMayClose c.args.job.now.plan.now c.args.job.now.infos.now l c.end_run.new.seats.items) c.as_slice.ensures.value c.end_run.ensures.may

pub returns : goal.returns
returns g c =
    let plan = c.args.job.now.plan.now in let infos = c.args.job.now.infos.now in let D = g.D.TxDevice.state in
    let sent = c.all_send-first.ensures in let ended = c.end_run.ensures in let seats = c.end_run.new.seats.items in record {
      limits = c.stays_within_limits.ensures;
      long = c.requires.first.0.long ∙ c.requires.first.0.all;
      seats = seats;
      one_each = ended.may.long ∙ ended.may.all;
      closed_are = c.close_all.ensures;
      devices = λ units stand. devices-same plan infos units (length plan.events) c.all_send-first.result.0.seats.items seats (map D c.all_send-first.result.0.spares.items) ended.devices (sent.devices units stand);
      alone = λ none own units stand tell from begins. ended.alone (sent.long ∙ none) (after_sending plan infos (opens_by c.args.job.now.openings.now infos) from) (sent.runs units stand tell own from begins);
    }
