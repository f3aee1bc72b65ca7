use Rattle.std.proofs.Common.{ap, subst, ◌∙◌, inl, inr}
use Rattle.lq_pcapng.specs.Pcapng.{padded}
use Rattle.lq_pcapng.specs.Reading.{IsNextOption}
use Rattle.lq_pcapng.specs.declared.options.NextOption.TheVariants.{End}
use Rattle.lq_pcapng.proofs.OptionWalk.{answer_here, goes_on_at, next_at, none_answer_at_cut, none_answer_at_end, none_answer_behind, other_code, other_length, rest_at}
use Rattle.lq_pcapng.proofs.options.option_in.Goals as goal
use Rattle.lq_pcapng.proofs.options.option_in.Goals.{else-code-wanted-via-then-code-wanted+else-len-wanted_len, else-code-wanted-via-else-code-wanted}

pub returns-in-End : goal.returns-in-End
returns-in-End c =
    let o = c.args.little_endian in
    let options = c.args.options.now in
    let place = c.loop-place.place in
    record {
      value = elim c.in-End.is [
        | inl is ↦ none_answer_at_end o c.args.wanted c.args.wanted_len options place c.loop-place.invariant (next_at o options place End (subst (IsNextOption o (rest_at options place)) is c.next_option.ensures))
        | inr is ↦ none_answer_at_cut o c.args.wanted c.args.wanted_len options place c.loop-place.invariant (subst (IsNextOption o (rest_at options place)) is c.next_option.ensures)
      ];
      len = tt;
    }

pub returns-then-len-wanted_len-clause-value : goal.returns-then-len-wanted_len-clause-value
returns-then-len-wanted_len-clause-value c =
    answer_here c.args.little_endian c.args.wanted c.args.wanted_len c.args.options.now c.loop-place.place c.in-Whole.code c.in-Whole.len c.loop-place.invariant c.loop-place-test.true c.in-Whole.ensures
    c.if-code-wanted.true c.if-len-wanted_len.true

pub loop-place-preserved : goal.loop-place-preserved
loop-place-preserved c =
    goes_on_at c.args.little_endian c.args.wanted c.args.wanted_len c.args.options.now c.loop-place.place c.in-Whole.code c.in-Whole.len c.padded.result c.loop-place.invariant c.loop-place-test.true
    c.in-Whole.ensures
    (elim c.else-code-wanted.branch [
      | else-code-wanted-via-then-code-wanted+else-len-wanted_len w ↦ other_length c.in-Whole.code c.in-Whole.len c.args.wanted c.args.wanted_len w.if-len-wanted_len.false
      | else-code-wanted-via-else-code-wanted w ↦ other_code c.in-Whole.code c.in-Whole.len c.args.wanted c.args.wanted_len w.if-code-wanted.false
    ])
    (c.padded.ensures ∙ ap padded c.from.ensures)

pub returns-clause-value : goal.returns-clause-value
returns-clause-value c =
    none_answer_behind c.args.little_endian c.args.wanted c.args.wanted_len c.args.options.now c.loop-place.place c.loop-place.invariant c.loop-place-test.false
