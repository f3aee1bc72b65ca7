-- The fates that are read off stations that have ended.
use Rattle.std.specs.Prelude.{List}
use Rattle.lq_model.specs.declared.fate.Fate.{Fate}
use Rattle.lq_senders.specs.Told.{fates_in, words_lent}
use Rattle.lq_senders.specs.declared.read.RunFates.{RunFates}

abbrev pub fates_of : RunFates → List Fate
fates_of run = fates_in run.infos.now (words_lent run.words)
