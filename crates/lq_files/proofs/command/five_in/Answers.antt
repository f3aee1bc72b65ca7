use Rattle.std.proofs.Common.{refl, ◌∙◌, ap, sym, Some, None, codes, option_map}
use Rattle.clap.specs.Words.{found_of}
use Rattle.lq_files.specs.Command.{command_words}
use Rattle.lq_files.proofs.ParseLemmas.{text_read}
use Rattle.lq_files.proofs.command.five_in.Goals as goal

pub returns-in_err-first : goal.returns-in_err-first
returns-in_err-first c =
    let found = found_of c.args.form.now in
    let first = text_read found (codes "FIRST") c.get_str.result None c.get_str.ensures c.in_err-first.was in
    rw (first) (ap (option_map command_words) c.from_residual.ensures)

pub returns-in_err-second : goal.returns-in_err-second
returns-in_err-second c =
    let found = found_of c.args.form.now in
    let first = text_read found (codes "FIRST") c.get_str.result (Some c.in_ok-first.first) c.get_str.ensures c.in_ok-first.was in
    let second = text_read found (codes "SECOND") c.get_str-2.result None c.get_str-2.ensures c.in_err-second.was in
    rw (first, second) (ap (option_map command_words) c.from_residual-in_err-second.ensures)

pub returns-in_err-third : goal.returns-in_err-third
returns-in_err-third c =
    let found = found_of c.args.form.now in
    let first = text_read found (codes "FIRST") c.get_str.result (Some c.in_ok-first.first) c.get_str.ensures c.in_ok-first.was in
    let second = text_read found (codes "SECOND") c.get_str-2.result (Some c.in_ok-second.second) c.get_str-2.ensures c.in_ok-second.was in
    let third = text_read found (codes "THIRD") c.get_str-3.result None c.get_str-3.ensures c.in_err-third.was in
    rw (first, second, third) (ap (option_map command_words) c.from_residual-in_err-third.ensures)

pub returns-in_err-fourth : goal.returns-in_err-fourth
returns-in_err-fourth c =
    let found = found_of c.args.form.now in
    let first = text_read found (codes "FIRST") c.get_str.result (Some c.in_ok-first.first) c.get_str.ensures c.in_ok-first.was in
    let second = text_read found (codes "SECOND") c.get_str-2.result (Some c.in_ok-second.second) c.get_str-2.ensures c.in_ok-second.was in
    let third = text_read found (codes "THIRD") c.get_str-3.result (Some c.in_ok-third.third) c.get_str-3.ensures c.in_ok-third.was in
    let fourth = text_read found (codes "FOURTH") c.get_str-4.result None c.get_str-4.ensures c.in_err-fourth.was in
    rw (first, second, third, fourth) (ap (option_map command_words) c.from_residual-in_err-fourth.ensures)

pub returns-in_err-fifth : goal.returns-in_err-fifth
returns-in_err-fifth c =
    let found = found_of c.args.form.now in
    let first = text_read found (codes "FIRST") c.get_str.result (Some c.in_ok-first.first) c.get_str.ensures c.in_ok-first.was in
    let second = text_read found (codes "SECOND") c.get_str-2.result (Some c.in_ok-second.second) c.get_str-2.ensures c.in_ok-second.was in
    let third = text_read found (codes "THIRD") c.get_str-3.result (Some c.in_ok-third.third) c.get_str-3.ensures c.in_ok-third.was in
    let fourth = text_read found (codes "FOURTH") c.get_str-4.result (Some c.in_ok-fourth.fourth) c.get_str-4.ensures c.in_ok-fourth.was in
    let fifth = text_read found (codes "FIFTH") c.get_str-5.result None c.get_str-5.ensures c.in_err-fifth.was in
    rw (first, second, third, fourth, fifth) (ap (option_map command_words) c.from_residual-in_err-fifth.ensures)

pub returns-then-eq : goal.returns-then-eq
returns-then-eq c =
    let found = found_of c.args.form.now in
    let first = text_read found (codes "FIRST") c.get_str.result (Some c.in_ok-first.first) c.get_str.ensures c.in_ok-first.was in
    let second = text_read found (codes "SECOND") c.get_str-2.result (Some c.in_ok-second.second) c.get_str-2.ensures c.in_ok-second.was in
    let third = text_read found (codes "THIRD") c.get_str-3.result (Some c.in_ok-third.third) c.get_str-3.ensures c.in_ok-third.was in
    let fourth = text_read found (codes "FOURTH") c.get_str-4.result (Some c.in_ok-fourth.fourth) c.get_str-4.ensures c.in_ok-fourth.was in
    let fifth = text_read found (codes "FIFTH") c.get_str-5.result (Some c.in_ok-fifth.fifth) c.get_str-5.ensures c.in_ok-fifth.was in
    rw (first, second, third, fourth, fifth, sym c.eq.ensures ∙ c.if-eq.true) c.read_tap.ensures

pub returns-else-eq : goal.returns-else-eq
returns-else-eq c =
    let found = found_of c.args.form.now in
    let first = text_read found (codes "FIRST") c.get_str.result (Some c.in_ok-first.first) c.get_str.ensures c.in_ok-first.was in
    let second = text_read found (codes "SECOND") c.get_str-2.result (Some c.in_ok-second.second) c.get_str-2.ensures c.in_ok-second.was in
    let third = text_read found (codes "THIRD") c.get_str-3.result (Some c.in_ok-third.third) c.get_str-3.ensures c.in_ok-third.was in
    let fourth = text_read found (codes "FOURTH") c.get_str-4.result (Some c.in_ok-fourth.fourth) c.get_str-4.ensures c.in_ok-fourth.was in
    let fifth = text_read found (codes "FIFTH") c.get_str-5.result (Some c.in_ok-fifth.fifth) c.get_str-5.ensures c.in_ok-fifth.was in
    rw (first, second, third, fourth, fifth, sym c.eq.ensures ∙ c.if-eq.false) refl
