-- The lemmas on purges.
pub mod Purge
pub mod Served
-- what each call of control keeps
pub mod Keeps
pub mod Sole
pub mod FinishLemmas
pub mod FinishSteps
pub mod Alone
-- the end of a station of the run of one sender
pub mod Rounds
pub mod EndingLemmas
pub mod StepLemmas
pub mod EndStepLemmas
-- what a look at the words leaves and tells
pub mod Looks
-- what the calls' relations come to
pub mod CallLaws
pub mod EndLaws
