-- what a sender's calls leave of a seat as it was
pub mod Seats
-- which unit a station has, and where the devices of the others are
pub mod Units
-- how far the first sender is with the plan's events at a station
pub mod Way
-- how often a sender opens the stopped queues, and its calls for the plan's events
pub mod Woken
-- a sender's seats, one at each station
pub mod Senders
-- the other senders' seats are joined into the first sender's
pub mod Joins
-- what the fates of a run are, what its devices did, and what stays of its stations
pub mod Fates
-- the fates that the words of stations tell
pub mod Told
-- those that are read off stations that have ended
pub mod RunFates
-- what a run leaves at its end
pub mod Ends
-- what a run begins with
pub mod Setup
-- what the calls of a run say of its plan, its packets and its tables
pub mod Runs
