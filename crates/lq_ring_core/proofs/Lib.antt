-- lists
pub mod Lists
-- places round the ring
pub mod Places
-- the entries of a run of slots
pub mod Entries
-- which slots are in use, after each change
pub mod Uses
-- what each call makes of the slots and the ends
pub mod Steps
-- the ring is a band of a station
pub mod BandLaws
