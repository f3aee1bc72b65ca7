use Rattle.lq_headline.proofs.SmallReplays.{no_packet_is_lost, no_fate_is_made_up, no_packet_is_sent_twice, no_packet_is_sent_by_two, no_dropped_packet_is_sent}
use Rattle.lq_headline.proofs.examples.what_no_headline_has.Goals as goal

pub returns-clause-lost : goal.returns-clause-lost
returns-clause-lost c = no_packet_is_lost

pub returns-clause-made_up : goal.returns-clause-made_up
returns-clause-made_up c = no_fate_is_made_up

pub returns-clause-twice : goal.returns-clause-twice
returns-clause-twice c = no_packet_is_sent_twice

pub returns-clause-by_two : goal.returns-clause-by_two
returns-clause-by_two c = no_packet_is_sent_by_two

pub returns-clause-dropped : goal.returns-clause-dropped
returns-clause-dropped c = no_dropped_packet_is_sent
