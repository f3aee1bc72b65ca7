-- what a try of the run lock and a set of MISSED come to
pub mod Tried
-- what the calls leave as it was
pub mod Keeps
-- where a try of the run lock leads
pub mod TryLemmas
-- what a begin comes to
pub mod Begins
-- and an end
pub mod Ends
