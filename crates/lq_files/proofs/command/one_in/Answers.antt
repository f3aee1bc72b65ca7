use Rattle.std.proofs.Common.{refl, Some, None, codes}
use Rattle.clap.specs.Words.{found_of}
use Rattle.lq_files.proofs.ParseLemmas.{text_read}
use Rattle.lq_files.proofs.command.one_in.Goals as goal

pub returns-in-Some : goal.returns-in-Some
returns-in-Some c =
    rw (text_read (found_of c.args.form.now) (codes "FIRST") c.get_str.result (Some c.in-Some.file) c.get_str.ensures c.in-Some.is) c.command_of_one.ensures

pub returns-in-None : goal.returns-in-None
returns-in-None c = rw (text_read (found_of c.args.form.now) (codes "FIRST") c.get_str.result None c.get_str.ensures c.in-None.is) refl
