use Rattle.std.proofs.Common.{◌∙◌, ap, ◌∷◌, []}
use Rattle.lq_headline.proofs.quiet_table_holds_no_packet.Goals as goal

pub returns-clause-held : goal.returns-clause-held
returns-clause-held c = λ k s rule quiet.
    let found = c.quiet_words_hold_nothing.ensures k s rule quiet in
    record {
      no_run = found.1.lock;
      no_call = found.1.inside;
      station = found.1.station;
      there = found.0.homes ∙ ap (λ home. home ∷ []) found.1.home;
      none_requeued = found.1.slot_empty;
      none_in_bands = found.1.slots_empty;
    }

pub returns-clause-fates : goal.returns-clause-fates
returns-clause-fates c = λ k s rule quiet own.
    let found = c.quiet_words_hold_nothing.ensures k s rule quiet in
    (found.1.emptied own).decided

pub returns-clause-machine : goal.returns-clause-machine
returns-clause-machine c = c.reached_and_quiet_holds_nothing.ensures.quiet
