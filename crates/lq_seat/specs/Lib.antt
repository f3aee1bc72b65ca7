-- what a caller knows of a station's table and of a seat there
pub mod State
-- what holds of a seat between two calls
pub mod Rests
-- the steps of its calls
pub mod Steps
-- what the calls make of a seat
pub mod Calls
-- the end of a station
pub mod Ends
