use Rattle.std.proofs.Common.{◌∙◌, ap, sym}
use Rattle.lq_run_core.specs.Schedule.{is_number}
use Rattle.lq_files.proofs.NumberLemmas.{number_not_read}
use Rattle.lq_files.proofs.command.number_within.Goals as goal

pub returns-in_default-clause-number : goal.returns-in_default-clause-number
returns-in_default-clause-number c =
    let is = ap is_number (sym c.as_bytes.ensures.value) ∙ sym c.is_number.ensures ∙ c.if-not-is_number.false in
    number_not_read c.args.word.now c.args.least c.args.most c.parse.result c.in_default.field-0 c.parse.ensures.value.0 is c.in_default.is c.ranges.most.fits
