use Rattle.lq_headline.proofs.SmallReplays.{without_first, without_second, without_third, without_fourth}
use Rattle.lq_headline.proofs.examples.none_of_the_four_follows.Goals as goal

pub returns-clause-first : goal.returns-clause-first
returns-clause-first c = without_first

pub returns-clause-second : goal.returns-clause-second
returns-clause-second c = without_second

pub returns-clause-third : goal.returns-clause-third
returns-clause-third c = without_third

pub returns-clause-fourth : goal.returns-clause-fourth
returns-clause-fourth c = without_fourth
