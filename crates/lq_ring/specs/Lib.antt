-- what a put makes of what a seat knows
pub mod Put
-- what a take makes of what the holder knows
pub mod Take
-- what a resize makes of the bands
pub mod Work
-- what a live resize makes of what control knows
pub mod Resized
-- the fates that a call stores one after another
pub mod Fates
-- what a purge makes of a band
pub mod Purged
-- its calls, each with the lists of steps that it may make
pub mod StepLists
-- what its calls ask of a seat, and what they leave of it
pub mod Seats
