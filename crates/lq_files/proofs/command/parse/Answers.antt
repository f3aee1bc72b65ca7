use Rattle.std.proofs.Common.{◌∙◌, sym, ap}
use Rattle.std.specs.Prelude.{option_and_then}
use Rattle.clap.specs.Words.{fault_of, is_simple, is_simple_and_free, subcommand_of, takes}
use Rattle.lq_files.specs.Command.{bytes_of_words}
use Rattle.lq_files.specs.Forms.{command_in}
use Rattle.lq_files.proofs.CommandLemmas.{matched, plain_words, unmatched}
use Rattle.lq_files.proofs.command.parse.Goals as goal

pub returns-in-Ok-try_get_matches_from : goal.returns-in-Ok-try_get_matches_from
returns-in-Ok-try_get_matches_from c =
    let words = bytes_of_words c.args.words.now in
    let app = c.in-Ok.ensures.app in
    let parsed = c.in-Ok-try_get_matches_from.ensures in
    c.command_matched.ensures
    ∙ ap (option_and_then command_in) (parsed.matches (ap is_simple app)).1
    ∙ ap (λ a. option_and_then command_in (subcommand_of a words)) app
    ∙ matched words (plain_words c.args.words.now c.requires.plain) (sym (ap (λ a. fault_of a words) app) ∙ parsed.kinds (ap is_simple_and_free app))

pub returns : goal.returns
returns c =
    let words = bytes_of_words c.args.words.now in
    let app = c.in-Ok.ensures.app in
    unmatched words (plain_words c.args.words.now c.requires.plain)
    (λ taken. c.in_default-kind.not-OutOfMemory (c.kind.ensures ∙ c.in-Err.ensures.passes (ap (λ a. takes a words) app ∙ taken)))
