-- a ring as its callers see it, and what each call makes of it
pub mod Ring
-- the ring is a band of a station
pub mod Bands
-- which entries the slots hold
pub mod Slots
-- the view of a `Ring`
pub mod View
