use Rattle.std.proofs.Common.{sym, ap, ◌∙◌}
use Rattle.lq_pcapng.specs.Pcapng.{padded}
use Rattle.lq_pcapng.proofs.OptionWalk.{next_at, whole_answer_at_cut, whole_answer_at_end, whole_answer_at_other, whole_answer_behind, whole_goes_on_at}
use Rattle.lq_pcapng.specs.declared.options.NextOption.TheVariants.{End}
use Rattle.lq_pcapng.proofs.options.are_whole.Goals as goal

pub returns-in-End : goal.returns-in-End
returns-in-End c =
    whole_answer_at_end c.args.little_endian c.args.options.now c.loop-place.place c.loop-place.invariant (next_at c.args.little_endian c.args.options.now c.loop-place.place End c.in-End.ensures)

pub returns-in-Cut : goal.returns-in-Cut
returns-in-Cut c = whole_answer_at_cut c.args.little_endian c.args.options.now c.loop-place.place c.loop-place.invariant c.loop-place-test.true c.in-Cut.ensures

pub returns-then-not-has_its_length : goal.returns-then-not-has_its_length
returns-then-not-has_its_length c =
    whole_answer_at_other c.args.little_endian c.args.options.now c.loop-place.place c.in-Whole.code c.in-Whole.len c.loop-place.invariant c.loop-place-test.true c.in-Whole.ensures
    (sym c.has_its_length.ensures ∙ c.if-not-has_its_length.true)

pub loop-place-preserved : goal.loop-place-preserved
loop-place-preserved c =
    whole_goes_on_at c.args.little_endian c.args.options.now c.loop-place.place c.in-Whole.code c.in-Whole.len c.padded.result c.loop-place.invariant c.loop-place-test.true c.in-Whole.ensures
    (sym c.has_its_length.ensures ∙ c.if-not-has_its_length.false) (c.padded.ensures ∙ ap padded c.from.ensures)

pub returns : goal.returns
returns c = whole_answer_behind c.args.little_endian c.args.options.now c.loop-place.place c.loop-place.invariant c.loop-place-test.false
