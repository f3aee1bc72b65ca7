use Rattle.lq_files.specs.Command.{command_of_words, bytes_of_words}
use Rattle.lq_test_fixture.proofs.NameLemmas.{may_any}
use Rattle.lq_test_fixture.proofs.call_on.Goals as goal

pub lqtx-requires-clause-may : goal.lqtx-requires-clause-may
lqtx-requires-clause-may g c κs within = may_any (command_of_words (bytes_of_words c.args.words.now))
