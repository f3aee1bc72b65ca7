use Rattle.std.proofs.Common.{◌<◌, ◌∙◌, length, subst, sym, inl, inr, arith}
use Rattle.std.proofs.lemmas.Option.{slice_get_cases}
use Rattle.lq_pcapng.specs.File.{packets_of_file}
use Rattle.lq_files.proofs.TextLemmas.{length-infos_of}
use Rattle.lq_top.proofs.laws.each_packet_has_one_fate.Goals as goal

pub returns-clause-one_each : goal.returns-clause-one_each
returns-clause-one_each c = λ run fates before after are. are.of_run.settled.one_each ∙ length-infos_of run.plan (packets_of_file run.capture)

pub returns-clause-there : goal.returns-clause-there
returns-clause-there c = λ run fates before after n are lt. (
    let count = are.of_run.settled.one_each ∙ length-infos_of run.plan (packets_of_file run.capture) in
    let within : n < length fates = subst (λ len. n < len) (sym count) lt in
    elim (slice_get_cases fates n).1 [ inl there ↦ (there.0, there.2) | inr past ↦ absurd (omega arith) ]
    )
