-- counts of fates
pub mod Counts
-- the packets that each unit sent
pub mod Sent
-- the fates of a tap's packets, and what they may be
pub mod Tap
-- the lines that tell them
pub mod TapTexts
