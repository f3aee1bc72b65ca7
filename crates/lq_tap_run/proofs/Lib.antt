-- how often packets stand in lists, counted
pub mod Counting
-- what a sender brings
pub mod Bringing
-- what the reader reads
pub mod Reading
-- its rounds
pub mod Rounding
-- the fates, one by one
pub mod Marking
-- the seats, split and joined
pub mod Seating
-- the fates of a run
pub mod Deciding
