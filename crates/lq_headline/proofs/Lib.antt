-- a capture file, taken apart
pub mod Apart
-- the files that were handed over once all were written
pub mod Files
-- the names of the outputs
pub mod Names
-- the texts of the fates and of the counts
pub mod Texts
-- of one sender and one band
pub mod Orders
-- what a call that answered Done decided
pub mod Decided
-- the headline of a run
pub mod Replays
-- what the page's words come to
pub mod SmallReplays
