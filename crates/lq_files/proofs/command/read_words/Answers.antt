use Rattle.std.proofs.Common.{◌∙◌, sym}
use Rattle.lq_files.proofs.CommandLemmas.{not_plain_words}
use Rattle.lq_files.proofs.command.read_words.Goals as goal

pub returns-else-are_plain : goal.returns-else-are_plain
returns-else-are_plain c = not_plain_words c.args.words.now (sym c.are_plain.ensures ∙ c.if-are_plain.false)
