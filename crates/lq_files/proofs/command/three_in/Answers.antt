use Rattle.std.proofs.Common.{refl, Some, None, codes}
use Rattle.clap.specs.Words.{found_of}
use Rattle.lq_files.proofs.ParseLemmas.{text_read}
use Rattle.lq_files.proofs.command.three_in.Goals.{in_default-via-in-Some+in-Some+in_default, in_default-via-in-Some+in_default, in_default-via-in_default}
use Rattle.lq_files.proofs.command.three_in.Goals as goal

pub returns-in-Some-Some-Some : goal.returns-in-Some-Some-Some
returns-in-Some-Some-Some c =
    let found = found_of c.args.form.now in
    let is = c.in-Some-Some-Some in
    let first = text_read found (codes "FIRST") c.get_str-first.result (Some is.first) c.get_str-first.ensures is.is-0 in
    let second = text_read found (codes "SECOND") c.get_str-second.result (Some is.second) c.get_str-second.ensures is.is-1 in
    let third = text_read found (codes "THIRD") c.get_str-third.result (Some is.third) c.get_str-third.ensures is.is-2 in
    rw (first, second, third) c.command_of_three.ensures

pub returns-in_default : goal.returns-in_default
returns-in_default c =
    let found = found_of c.args.form.now in
    let first = text_read found (codes "FIRST") c.get_str-first.result in
    let second = text_read found (codes "SECOND") c.get_str-second.result in
    let third = text_read found (codes "THIRD") c.get_str-third.result in
    elim c.in_default.branch [
      | in_default-via-in-Some+in-Some+in_default w ↦
          let is = w.in_default in
          rw (first (Some is.field-0-0) c.get_str-first.ensures is.is-0, second (Some is.field-0-1) c.get_str-second.ensures is.is-1, third None c.get_str-third.ensures is.is-2) refl
      | in_default-via-in-Some+in_default w ↦
          let is = w.in_default in
          rw (first (Some is.field-0-0) c.get_str-first.ensures is.is-0, second None c.get_str-second.ensures is.is-1) refl
      | in_default-via-in_default w ↦ rw (first None c.get_str-first.ensures w.in_default.is-0) refl
    ]
