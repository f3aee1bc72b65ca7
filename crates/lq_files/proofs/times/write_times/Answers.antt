use Rattle.std.proofs.Common.{sym, ◌∙◌}
use Rattle.lq_files.proofs.TimesLemmas.{told-fits}
use Rattle.lq_files.proofs.times.write_times.Goals as goal

pub write_times_of-requires-clause-fits : goal.write_times_of-requires-clause-fits
write_times_of-requires-clause-fits g c =
    told-fits c.args.run.now.plan.now c.args.infos.now c.in-Some.card c.stays_within_limits.ensures c.requires.within (sym c.card_told.ensures ∙ c.in-Some.is)
