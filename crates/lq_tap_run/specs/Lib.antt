-- what a sender has put
pub mod Lanes
-- what the reader has read
pub mod Reads
-- how it reads: the rounds of its seat
pub mod Rounds
-- which fates are known
pub mod Marks
-- the seats of a run
pub mod Runs
