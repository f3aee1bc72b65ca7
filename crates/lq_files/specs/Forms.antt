-- The command table as clap reads it.
use Rattle.std.specs.Prelude.{true, if◌then◌else◌, List, [], ◌∷◌, Option, option_and_then, codes}
use Rattle.std.specs.Str.{bytes_eq}
use Rattle.clap.specs.Words.{App, Row, Rule, first_of, new_app, new_rule, with_rule, with_subcommand}
use Rattle.clap.specs.Walk.{Text}
use Rattle.lq_files.specs.Command.{CommandWords, command_with}

-- an operand that a form can't do without
abbrev pub operand_rule : Text → Rule
operand_rule name = record (new_rule name) { required = true }

-- the form of a verb with one operand, with three, with five
abbrev pub form_of_one : Text → App
form_of_one verb = with_rule (new_app verb) (operand_rule (codes "FIRST"))

abbrev pub form_of_three : Text → App
form_of_three verb = with_rule (with_rule (form_of_one verb) (operand_rule (codes "SECOND"))) (operand_rule (codes "THIRD"))

abbrev pub form_of_five : Text → App
form_of_five verb = with_rule (with_rule (form_of_three verb) (operand_rule (codes "FOURTH"))) (operand_rule (codes "FIFTH"))

-- a program that does nothing without one of its forms, and has no help or version of clap's own
abbrev pub bare_app : App
bare_app = record (new_app (codes "lqtx")) {
  top = record (new_app (codes "lqtx")).top {
    no_binary_name = true;
    disable_help_flag = true;
    disable_help_subcommand = true;
    disable_version_flag = true;
    subcommand_required = true;
  };
}

-- the command table
abbrev pub table_app : App
table_app =
    with_subcommand (with_subcommand (with_subcommand (with_subcommand bare_app (form_of_three (codes "run")).top) (form_of_three (codes "gen")).top) (form_of_one (codes "trace")).top)
    (form_of_five (codes "tap")).top

-- the command of a verb and the operands in what its form was matched with
abbrev pub one_in : Text → List Row → Option CommandWords
one_in verb rows = option_and_then (λ file. command_with verb (file ∷ [])) (first_of (codes "FIRST") rows)

abbrev pub three_in : Text → List Row → Option CommandWords
three_in verb rows =
    option_and_then (λ first. option_and_then (λ second. option_and_then (λ third. command_with verb (first ∷ second ∷ third ∷ []))
    (first_of (codes "THIRD") rows)) (first_of (codes "SECOND") rows)) (first_of (codes "FIRST") rows)

abbrev pub five_in : Text → List Row → Option CommandWords
five_in verb rows =
    option_and_then (λ first. option_and_then (λ second. option_and_then (λ third. option_and_then (λ fourth. option_and_then (λ fifth. command_with verb (first ∷ second ∷ third ∷ fourth ∷ fifth ∷ []))
    (first_of (codes "FIFTH") rows)) (first_of (codes "FOURTH") rows)) (first_of (codes "THIRD") rows)) (first_of (codes "SECOND") rows)) (first_of (codes "FIRST") rows)

-- the command in what was matched, by the name of its form
abbrev pub command_in : Text × List Row → Option CommandWords
command_in matched =
    if bytes_eq matched.0 (codes "trace") then one_in matched.0 matched.1
    else if bytes_eq matched.0 (codes "tap") then five_in matched.0 matched.1
    else three_in matched.0 matched.1
