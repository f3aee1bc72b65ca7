use Rattle.lq_headline.proofs.SmallReplays.{capture_has, fates_have, counts_have}
use Rattle.lq_headline.proofs.examples.texts_of_four_packets.Goals as goal

pub returns-clause-capture : goal.returns-clause-capture
returns-clause-capture c = capture_has

pub returns-clause-fates : goal.returns-clause-fates
returns-clause-fates c = fates_have

pub returns-clause-counts : goal.returns-clause-counts
returns-clause-counts c = counts_have
